use Rattle.mvo_hash.proofs.Probes.{AreHeld}
use Rattle.mvo_hash.proofs.probe.first_free.Given as goal

abbrev pub invariant-loop-i : goal.invariant-loop-i
invariant-loop-i l = AreHeld l.slots 0 l.i
