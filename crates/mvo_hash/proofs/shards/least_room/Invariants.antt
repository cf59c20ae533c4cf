use Rattle.std.proofs.Common.{◌≡◌, take}
use Rattle.mvo_hash.specs.Shards.{least_from}
use Rattle.mvo_hash.proofs.shards.least_room.Given as goal

abbrev pub invariant-loop-shard : goal.invariant-loop-shard
invariant-loop-shard l = l.least ≡ least_from l.initial.least (take l.shard-index l.shards)
