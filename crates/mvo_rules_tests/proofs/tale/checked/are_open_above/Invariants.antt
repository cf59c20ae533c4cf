use Rattle.std.proofs.Common.{◌<◌, take}
use Rattle.std.specs.List.{AllByRecursion}
use Rattle.mvo_tale.specs.Slots.{open_ends}
use Rattle.mvo_rules_tests.proofs.tale.checked.are_open_above.Given as goal

abbrev pub invariant-loop-place : goal.invariant-loop-place
invariant-loop-place l = AllByRecursion (λ end. l.mark.0 < end) (open_ends (take l.place l.tale))
