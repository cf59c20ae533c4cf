use Rattle.std.proofs.Common.{refl}
use Rattle.mvo_rules_tests.proofs.tale.Loops.{behind_empty}
use Rattle.mvo_rules_tests.proofs.tale.checked.is_behind.Goals as goal

pub returns-then-are_empty : goal.returns-then-are_empty
returns-then-are_empty c = λ _. behind_empty c.args.tale.now c.args.place c.requires (c.if-are_empty.ensures refl)
