use Rattle.std.proofs.Common.{◌≡◌, set, sym, ap, ◌∙◌, subst, arith}
use Rattle.std.specs.Option.{OnSome, IfNone}
use Rattle.std.specs.FinMap.{get, insert}
use Rattle.mvo_hash.specs.Table.{Table}
use Rattle.mvo_hash.specs.Shards.{shard_of_key, joined}
use Rattle.mvo_hash.proofs.Changes.{changing, held_before, room_same, set_shared, set_joined, set_away}
use Rattle.mvo_hash.proofs.Shared.{own_place, get_past}
use Rattle.mvo_hash.proofs.heads.Heads.set.Goals as goal

pub returns-then-at-len-clause-before : goal.returns-then-at-len-clause-before
returns-then-at-len-clause-before c =
    let seeds = c.self.inside.seeds in
    let ts = c.self.inside.shards.items in
    let own : shard_of_key seeds c.args.key ≡ c.shard_of-at.result = own_place seeds c.args.key c.hash-hash.result c.shard_of-at.result c.hash-hash.ensures c.shard_of-at.ensures.at in
    sym (get_past seeds ts c.self.invariant c.args.key c.shard_of-at.result own (omega (arith, c.if-at-len.true, c.len.ensures, c.self.inside.shards.ok)))
    ∙ ap (λ (t : Table). get t.numbers c.args.key) c.self.view_is

pub invariant_of-self : goal.invariant_of-self
invariant_of-self c = set_shared c.self.inside.seeds c.self.inside.shards.items c.args.key c.shard_of-at.result c.index_mut.result.now c.set_by_hash.new.self (changing c.self.inside.seeds c.self.inside.shards.items c.args.key c.hash-hash.result c.shard_of-at.result c.index_mut.result.now c.set_by_hash.new.self c.self.invariant c.hash-hash.ensures c.shard_of-at.ensures.at (omega (arith, c.if-at-len.false, c.len.ensures, c.self.inside.shards.ok)) c.index_mut.ensures.value c.set_by_hash.ensures.seeds) c.set_by_hash.result c.args.number c.set_by_hash.ensures.set c.set_by_hash.ensures.absent

pub returns-clause-before : goal.returns-clause-before
returns-clause-before c = c.set_by_hash.ensures.before ∙ held_before c.self.inside.seeds c.self.inside.shards.items c.args.key c.shard_of-at.result c.index_mut.result.now c.set_by_hash.new.self (changing c.self.inside.seeds c.self.inside.shards.items c.args.key c.hash-hash.result c.shard_of-at.result c.index_mut.result.now c.set_by_hash.new.self c.self.invariant c.hash-hash.ensures c.shard_of-at.ensures.at (omega (arith, c.if-at-len.false, c.len.ensures, c.self.inside.shards.ok)) c.index_mut.ensures.value c.set_by_hash.ensures.seeds) ∙ ap (λ (t : Table). get t.numbers c.args.key) c.self.view_is

pub returns-clause-set : goal.returns-clause-set
returns-clause-set c =
    subst (λ (t : Table). OnSome c.set_by_hash.result (joined (set c.self.inside.shards.items c.shard_of-at.result c.set_by_hash.new.self) ≡ insert t.numbers c.args.key c.args.number)) c.self.view_is
    (set_joined c.self.inside.seeds c.self.inside.shards.items c.args.key c.shard_of-at.result c.index_mut.result.now c.set_by_hash.new.self (changing c.self.inside.seeds c.self.inside.shards.items c.args.key c.hash-hash.result c.shard_of-at.result c.index_mut.result.now c.set_by_hash.new.self c.self.invariant c.hash-hash.ensures c.shard_of-at.ensures.at (omega (arith, c.if-at-len.false, c.len.ensures, c.self.inside.shards.ok)) c.index_mut.ensures.value c.set_by_hash.ensures.seeds) c.set_by_hash.result c.args.number c.set_by_hash.ensures.set)

pub returns-clause-absent : goal.returns-clause-absent
returns-clause-absent c =
    subst (λ (t : Table). IfNone c.set_by_hash.result (joined (set c.self.inside.shards.items c.shard_of-at.result c.set_by_hash.new.self) ≡ t.numbers)) c.self.view_is
    (set_away c.self.inside.seeds c.self.inside.shards.items c.args.key c.shard_of-at.result c.index_mut.result.now c.set_by_hash.new.self (changing c.self.inside.seeds c.self.inside.shards.items c.args.key c.hash-hash.result c.shard_of-at.result c.index_mut.result.now c.set_by_hash.new.self c.self.invariant c.hash-hash.ensures c.shard_of-at.ensures.at (omega (arith, c.if-at-len.false, c.len.ensures, c.self.inside.shards.ok)) c.index_mut.ensures.value c.set_by_hash.ensures.seeds) c.set_by_hash.result c.set_by_hash.ensures.absent)

pub returns-clause-room : goal.returns-clause-room
returns-clause-room c = room_same c.self.inside.seeds c.self.inside.shards.items c.args.key c.shard_of-at.result c.index_mut.result.now c.set_by_hash.new.self (changing c.self.inside.seeds c.self.inside.shards.items c.args.key c.hash-hash.result c.shard_of-at.result c.index_mut.result.now c.set_by_hash.new.self c.self.invariant c.hash-hash.ensures c.shard_of-at.ensures.at (omega (arith, c.if-at-len.false, c.len.ensures, c.self.inside.shards.ok)) c.index_mut.ensures.value c.set_by_hash.ensures.seeds) c.set_by_hash.ensures.room ∙ ap (λ (t : Table). t.room) c.self.view_is
