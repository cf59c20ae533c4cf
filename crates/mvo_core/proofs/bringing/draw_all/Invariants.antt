use Rattle.std.proofs.Common.{take}
use Rattle.mvo_txn.specs.Txns.{state_of}
use Rattle.mvo_core.specs.Fronts.{comes_at_draw, AreInFront}
use Rattle.mvo_core.proofs.Awaiting.{IsAwaitedTo}
use Rattle.mvo_core.proofs.bringing.draw_all.Given as goal

abbrev pub invariant-loop-place : goal.invariant-loop-place
invariant-loop-place l = record {
  fronts : AreInFront (comes_at_draw (state_of l.table) l.tx.0) l.fn.versions l.versions (take l.place l.writes.words);
  waits : IsAwaitedTo l.fn.waiting l.waiting l.end l.writes.words l.place;
}
