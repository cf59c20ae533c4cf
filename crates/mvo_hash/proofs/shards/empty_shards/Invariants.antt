use Rattle.std.proofs.Common.{◌≡◌, replicate}
use Rattle.mvo_hash.specs.Table.{no_keys}
use Rattle.mvo_hash.proofs.shards.empty_shards.Given as goal

abbrev pub invariant-loop : goal.invariant-loop
invariant-loop l = l.shards.items ≡ replicate l.counter (no_keys l.seeds 0)
