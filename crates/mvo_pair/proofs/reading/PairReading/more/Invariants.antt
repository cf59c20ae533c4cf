use Rattle.mvo_pair.proofs.Comes.{AreRead}
use Rattle.mvo_pair.proofs.reading.PairReading.more.Given as goal

abbrev pub invariant-loop : goal.invariant-loop
invariant-loop l = AreRead l.self l.from l.bytes l.rest l.live.items l.counter l.so_far
