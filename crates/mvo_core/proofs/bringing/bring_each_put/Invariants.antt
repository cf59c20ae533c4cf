use Rattle.std.proofs.Common.{take}
use Rattle.mvo_representation.specs.Order.{is_put_by}
use Rattle.mvo_core.specs.Fronts.{AreInFront}
use Rattle.mvo_core.proofs.bringing.bring_each_put.Given as goal

abbrev pub invariant-loop-place : goal.invariant-loop-place
invariant-loop-place l = AreInFront (is_put_by l.tx.0) l.fn.versions l.versions (take l.place l.writes.words)
