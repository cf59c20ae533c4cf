use Rattle.std.proofs.Common.{◌∙◌, arith}
use Rattle.mvo_hash.proofs.Changes.{changing}
use Rattle.mvo_hash.proofs.HeadsPut.{put_shared, put_ok, put_before, put_room, put_again, put_absent, put_full, none_held, none_roomy, on_err_is}
use Rattle.mvo_hash.proofs.heads.Heads.put.Goals as goal

pub returns-in_err-make_shards-clause-absent : goal.returns-in_err-make_shards-clause-absent
returns-in_err-make_shards-clause-absent c =
    on_err_is c.from_residual.result (none_held c.self.inside.seeds c.self.inside.shards.items c.args.self.now c.args.key c.in_err-make_shards.ensures.none c.self.view_is)

pub returns-in_err-make_shards-clause-full : goal.returns-in_err-make_shards-clause-full
returns-in_err-make_shards-clause-full c =
    on_err_is c.from_residual.result (none_roomy c.self.inside.seeds c.self.inside.shards.items c.args.self.now c.in_err-make_shards.ensures.none c.self.view_is)

pub invariant_of-self-2 : goal.invariant_of-self-2
invariant_of-self-2 c = put_shared c.self.inside.seeds c.make_shards.new.shards.items c.args.key c.shard_of.result c.index_mut.result.now c.put_by_hash.new.self (changing c.self.inside.seeds c.make_shards.new.shards.items c.args.key c.hash-hash.result c.shard_of.result c.index_mut.result.now c.put_by_hash.new.self c.make_shards.ensures.sharded c.hash-hash.ensures c.shard_of.ensures.at (omega (arith, c.in_ok-make_shards.ensures.made, c.shard_of.ensures.within)) c.index_mut.ensures.value c.put_by_hash.ensures.seeds) c.args.self.now (c.make_shards.ensures.same ∙ c.self.view_is) _ c.put_by_hash.result c.args.number c.put_by_hash.ensures.ok c.put_by_hash.ensures.err

pub returns-clause-ok : goal.returns-clause-ok
returns-clause-ok c = put_ok c.self.inside.seeds c.make_shards.new.shards.items c.args.key c.shard_of.result c.index_mut.result.now c.put_by_hash.new.self (changing c.self.inside.seeds c.make_shards.new.shards.items c.args.key c.hash-hash.result c.shard_of.result c.index_mut.result.now c.put_by_hash.new.self c.make_shards.ensures.sharded c.hash-hash.ensures c.shard_of.ensures.at (omega (arith, c.in_ok-make_shards.ensures.made, c.shard_of.ensures.within)) c.index_mut.ensures.value c.put_by_hash.ensures.seeds) c.args.self.now (c.make_shards.ensures.same ∙ c.self.view_is) _ c.put_by_hash.result c.args.number c.put_by_hash.ensures.ok

pub returns-clause-before : goal.returns-clause-before
returns-clause-before c = put_before c.self.inside.seeds c.make_shards.new.shards.items c.args.key c.shard_of.result c.index_mut.result.now c.put_by_hash.new.self (changing c.self.inside.seeds c.make_shards.new.shards.items c.args.key c.hash-hash.result c.shard_of.result c.index_mut.result.now c.put_by_hash.new.self c.make_shards.ensures.sharded c.hash-hash.ensures c.shard_of.ensures.at (omega (arith, c.in_ok-make_shards.ensures.made, c.shard_of.ensures.within)) c.index_mut.ensures.value c.put_by_hash.ensures.seeds) c.args.self.now (c.make_shards.ensures.same ∙ c.self.view_is) _ c.put_by_hash.result c.put_by_hash.ensures.before

pub returns-clause-room : goal.returns-clause-room
returns-clause-room c = put_room c.self.inside.seeds c.make_shards.new.shards.items c.args.key c.shard_of.result c.index_mut.result.now c.put_by_hash.new.self (changing c.self.inside.seeds c.make_shards.new.shards.items c.args.key c.hash-hash.result c.shard_of.result c.index_mut.result.now c.put_by_hash.new.self c.make_shards.ensures.sharded c.hash-hash.ensures c.shard_of.ensures.at (omega (arith, c.in_ok-make_shards.ensures.made, c.shard_of.ensures.within)) c.index_mut.ensures.value c.put_by_hash.ensures.seeds) c.args.self.now (c.make_shards.ensures.same ∙ c.self.view_is) _ c.put_by_hash.result c.put_by_hash.ensures.room

pub returns-clause-again : goal.returns-clause-again
returns-clause-again c = put_again c.self.inside.seeds c.make_shards.new.shards.items c.args.key c.shard_of.result c.index_mut.result.now c.put_by_hash.new.self (changing c.self.inside.seeds c.make_shards.new.shards.items c.args.key c.hash-hash.result c.shard_of.result c.index_mut.result.now c.put_by_hash.new.self c.make_shards.ensures.sharded c.hash-hash.ensures c.shard_of.ensures.at (omega (arith, c.in_ok-make_shards.ensures.made, c.shard_of.ensures.within)) c.index_mut.ensures.value c.put_by_hash.ensures.seeds) c.args.self.now (c.make_shards.ensures.same ∙ c.self.view_is) _ c.put_by_hash.result c.put_by_hash.ensures.again

pub returns-clause-absent : goal.returns-clause-absent
returns-clause-absent c = put_absent c.self.inside.seeds c.make_shards.new.shards.items c.args.key c.shard_of.result c.index_mut.result.now c.put_by_hash.new.self (changing c.self.inside.seeds c.make_shards.new.shards.items c.args.key c.hash-hash.result c.shard_of.result c.index_mut.result.now c.put_by_hash.new.self c.make_shards.ensures.sharded c.hash-hash.ensures c.shard_of.ensures.at (omega (arith, c.in_ok-make_shards.ensures.made, c.shard_of.ensures.within)) c.index_mut.ensures.value c.put_by_hash.ensures.seeds) c.args.self.now (c.make_shards.ensures.same ∙ c.self.view_is) _ c.put_by_hash.result c.put_by_hash.ensures.absent

pub returns-clause-full : goal.returns-clause-full
returns-clause-full c = put_full c.self.inside.seeds c.make_shards.new.shards.items c.args.key c.shard_of.result c.index_mut.result.now c.put_by_hash.new.self (changing c.self.inside.seeds c.make_shards.new.shards.items c.args.key c.hash-hash.result c.shard_of.result c.index_mut.result.now c.put_by_hash.new.self c.make_shards.ensures.sharded c.hash-hash.ensures c.shard_of.ensures.at (omega (arith, c.in_ok-make_shards.ensures.made, c.shard_of.ensures.within)) c.index_mut.ensures.value c.put_by_hash.ensures.seeds) c.args.self.now (c.make_shards.ensures.same ∙ c.self.view_is) _ c.put_by_hash.result c.put_by_hash.ensures.full
