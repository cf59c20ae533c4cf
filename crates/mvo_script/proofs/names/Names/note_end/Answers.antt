use Rattle.std.proofs.Common.{arith}
use Rattle.std.proofs.lemmas.Map.Text.{text_keys}
use Rattle.mvo_script.proofs.names.Names.note_end.Goals as goal

pub returns-in-Some-place : goal.returns-in-Some-place
returns-in-Some-place c = λ q. grind (arith, text_keys)

pub returns-in_default-place : goal.returns-in_default-place
returns-in_default-place c = λ q. grind (arith, text_keys)
