use Rattle.mvo_hash.specs.Slots.{IsNowhereIn}
use Rattle.mvo_hash.proofs.probe.ending.Given as goal

abbrev pub invariant-loop-i : goal.invariant-loop-i
invariant-loop-i l = IsNowhereIn l.slots l.from l.i l.key
