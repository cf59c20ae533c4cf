use Rattle.std.proofs.Common.{◌≡◌, drop}
use Rattle.std.specs.Prelude.{◌↔◌}
use Rattle.mvo_theory.specs.Told.{history_told}
use Rattle.mvo_core.proofs.equal.same_operations.Given as goal

abbrev pub invariant-loop-told : goal.invariant-loop-told
invariant-loop-told l = (history_told (drop l.told-index l.one) ≡ history_told l.rest) ↔ (history_told l.one ≡ history_told l.two)
