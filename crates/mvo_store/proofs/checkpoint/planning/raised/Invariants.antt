use Rattle.std.proofs.Common.{◌≡◌, take}
use Rattle.std.specs.Prelude.{map}
use Rattle.mvo_recovery.specs.Checkpoint.{raise}
use Rattle.mvo_store.specs.Checkpoint.{gained}
use Rattle.mvo_store.specs.Planning.{HaveCounts}
use Rattle.mvo_store.proofs.checkpoint.planning.raised.Given as goal

abbrev pub invariant-loop-pair : goal.invariant-loop-pair
invariant-loop-pair l = (l.out.items ≡ map (raise (gained l.deltas)) (take l.pair-index l.pairs)) × HaveCounts l.deltas (take l.pair-index l.pairs)
