use Rattle.std.proofs.Common.{take}
use Rattle.mvo_hash.specs.Shards.{AreMoved}
use Rattle.mvo_hash.proofs.shards.moved.Given as goal

abbrev pub invariant-loop-shard : goal.invariant-loop-shard
invariant-loop-shard l = AreMoved (take l.shard-index l.shards) l.keys l.larger.items
