use Rattle.mvo_hash.proofs.Probes.{AreHeld}
use Rattle.mvo_hash.proofs.probe.free.Given as goal

abbrev pub invariant-loop-i : goal.invariant-loop-i
invariant-loop-i l = AreHeld l.slots l.home l.i
