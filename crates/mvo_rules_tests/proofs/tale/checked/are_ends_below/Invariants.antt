use Rattle.std.proofs.Common.{◌<◌, take}
use Rattle.std.specs.List.{AllByRecursion}
use Rattle.mvo_tale.specs.Slots.{ends}
use Rattle.mvo_rules_tests.proofs.tale.checked.are_ends_below.Given as goal

abbrev pub invariant-loop-place : goal.invariant-loop-place
invariant-loop-place l = AllByRecursion (λ end. end < l.bound.0) (ends (take l.place l.tale))
