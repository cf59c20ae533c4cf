use Rattle.mvo_script.proofs.line.Telling.{text_tells}
use Rattle.mvo_script.proofs.line.laws.laws_of_lines.Goals as goal

pub returns : goal.returns
returns c = record { one_line = text_tells }
