use Rattle.std.proofs.Common.{lit≤, rules}
use Rattle.mvo_script.proofs.line.Numerals.{read_text}
use Rattle.mvo_script.proofs.line.words.place_of.Goals as goal

pub returns-else-has_plus_or_zero-clause-text : goal.returns-else-has_plus_or_zero-clause-text
returns-else-has_plus_or_zero-clause-text c = read_text 64 _ _ (lit≤ tt) (search rules)
