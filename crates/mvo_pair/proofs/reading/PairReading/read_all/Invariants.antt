use Rattle.std.proofs.Common.{◌+◌, ◌-◌, ◌≤◌, length}
use Rattle.mvo_pair.specs.Coming.{at_start}
use Rattle.mvo_pair.proofs.Comes.{HasCome}
use Rattle.mvo_pair.proofs.reading.PairReading.read_all.Given as goal

abbrev pub invariant-slices : goal.invariant-slices
invariant-slices l = record {
  come : HasCome l.self at_start l.data_bytes l.live.items l.so_far;
  place : l.so_far.place ≤ 8 + length l.data_bytes;
}

abbrev pub decreases-slices : goal.decreases-slices
decreases-slices l = l.self.pair.records - l.so_far.count
