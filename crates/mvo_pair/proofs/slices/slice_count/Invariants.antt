use Rattle.std.proofs.Common.{◌≡◌, ◌+◌, ◌≤◌, length}
use Rattle.mvo_pair.specs.Slices.{fitting}
use Rattle.mvo_pair.specs.declared.slices.TheConstants.{SLICE_LEN}
use Rattle.mvo_pair.proofs.slices.slice_count.Given as goal

abbrev pub invariant-loop-rest : goal.invariant-loop-rest
invariant-loop-rest l = record {
  fits : l.count + fitting l.room l.rest ≡ fitting SLICE_LEN l.entries;
  few : l.count + length l.rest ≡ length l.entries;
  room : l.room ≤ SLICE_LEN;
}

abbrev pub decreases-loop-rest : goal.decreases-loop-rest
decreases-loop-rest l = length l.rest
