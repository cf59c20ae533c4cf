use Rattle.std.proofs.Common.{take}
use Rattle.std.specs.List.{AllByRecursion}
use Rattle.mvo_theory.specs.Told.{history_told}
use Rattle.mvo_theory.specs.Limits.{IsInLimits}
use Rattle.mvo_rules_tests.proofs.tale.entries.are_in_limits.Given as goal

abbrev pub invariant-loop-told : goal.invariant-loop-told
invariant-loop-told l = AllByRecursion (λ t. IsInLimits t.0) (history_told (take l.told-index l.operations))
