use Rattle.std.proofs.Common.{◌≡◌, length}
use Rattle.mvo_store.specs.Checkpoint.{gained_in}
use Rattle.mvo_store.proofs.checkpoint.planning.gained_len.Given as goal

abbrev pub invariant-loop-rest : goal.invariant-loop-rest
invariant-loop-rest l = length (gained_in l.rest l.data_file) ≡ length (gained_in l.deltas l.data_file)

abbrev pub decreases-loop-rest : goal.decreases-loop-rest
decreases-loop-rest l = length l.rest
