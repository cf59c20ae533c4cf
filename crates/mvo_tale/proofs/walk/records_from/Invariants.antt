use Rattle.mvo_tale.proofs.Grouping.{IsWalked}
use Rattle.mvo_tale.proofs.walk.records_from.Given as goal

abbrev pub invariant-loop-place : goal.invariant-loop-place
invariant-loop-place l = IsWalked l.tale l.prev.0 l.low_water.0 l.place l.next l.gathered
