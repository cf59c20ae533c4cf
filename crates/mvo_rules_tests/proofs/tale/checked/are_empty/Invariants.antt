use Rattle.std.proofs.Common.{◌≡◌, true, take}
use Rattle.std.specs.List.{AllByRecursion}
use Rattle.mvo_tale.specs.Slots.{is_empty}
use Rattle.mvo_rules_tests.proofs.tale.checked.are_empty.Given as goal

abbrev pub invariant-loop-place : goal.invariant-loop-place
invariant-loop-place l = AllByRecursion (λ x. is_empty x ≡ true) (take l.place l.tale)
