use Rattle.std.proofs.Common.{◌≡◌, drop}
use Rattle.std.specs.Prelude.{◌↔◌}
use Rattle.mvo_core.proofs.equal.same_rows.Given as goal

abbrev pub invariant-loop-row : goal.invariant-loop-row
invariant-loop-row l = (drop l.row-index l.one ≡ l.rest) ↔ (l.one ≡ l.two)
