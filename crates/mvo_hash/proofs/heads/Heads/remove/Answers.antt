use Rattle.std.proofs.Common.{◌≡◌, sym, ap, ◌∙◌, arith}
use Rattle.std.specs.FinMap.{get, remove}
use Rattle.mvo_hash.specs.Table.{Table}
use Rattle.mvo_hash.specs.Shards.{shard_of_key}
use Rattle.mvo_hash.proofs.Changes.{changing, held_before, room_same, remove_shared, remove_joined}
use Rattle.mvo_hash.proofs.Finds.{remove_absent}
use Rattle.mvo_hash.proofs.Shared.{own_place, get_past}
use Rattle.mvo_hash.proofs.heads.Heads.remove.Goals as goal

pub returns-then-at-len-clause-before : goal.returns-then-at-len-clause-before
returns-then-at-len-clause-before c =
    let seeds = c.self.inside.seeds in
    let ts = c.self.inside.shards.items in
    let own : shard_of_key seeds c.args.key ≡ c.shard_of-at.result = own_place seeds c.args.key c.hash-hash.result c.shard_of-at.result c.hash-hash.ensures c.shard_of-at.ensures.at in
    sym (get_past seeds ts c.self.invariant c.args.key c.shard_of-at.result own (omega (arith, c.if-at-len.true, c.len.ensures, c.self.inside.shards.ok)))
    ∙ ap (λ (t : Table). get t.numbers c.args.key) c.self.view_is

pub returns-then-at-len-clause-gone : goal.returns-then-at-len-clause-gone
returns-then-at-len-clause-gone c =
    let seeds = c.self.inside.seeds in
    let ts = c.self.inside.shards.items in
    let own : shard_of_key seeds c.args.key ≡ c.shard_of-at.result = own_place seeds c.args.key c.hash-hash.result c.shard_of-at.result c.hash-hash.ensures c.shard_of-at.ensures.at in
    remove_absent c.args.self.now.numbers c.args.key (ap (λ (t : Table). get t.numbers c.args.key) (sym c.self.view_is)
    ∙ get_past seeds ts c.self.invariant c.args.key c.shard_of-at.result own (omega (arith, c.if-at-len.true, c.len.ensures, c.self.inside.shards.ok)))

pub invariant_of-self : goal.invariant_of-self
invariant_of-self c = remove_shared c.self.inside.seeds c.self.inside.shards.items c.args.key c.shard_of-at.result c.index_mut.result.now c.remove_by_hash.new.self (changing c.self.inside.seeds c.self.inside.shards.items c.args.key c.hash-hash.result c.shard_of-at.result c.index_mut.result.now c.remove_by_hash.new.self c.self.invariant c.hash-hash.ensures c.shard_of-at.ensures.at (omega (arith, c.if-at-len.false, c.len.ensures, c.self.inside.shards.ok)) c.index_mut.ensures.value c.remove_by_hash.ensures.seeds) c.remove_by_hash.ensures.gone

pub returns-clause-before : goal.returns-clause-before
returns-clause-before c = c.remove_by_hash.ensures.before ∙ held_before c.self.inside.seeds c.self.inside.shards.items c.args.key c.shard_of-at.result c.index_mut.result.now c.remove_by_hash.new.self (changing c.self.inside.seeds c.self.inside.shards.items c.args.key c.hash-hash.result c.shard_of-at.result c.index_mut.result.now c.remove_by_hash.new.self c.self.invariant c.hash-hash.ensures c.shard_of-at.ensures.at (omega (arith, c.if-at-len.false, c.len.ensures, c.self.inside.shards.ok)) c.index_mut.ensures.value c.remove_by_hash.ensures.seeds) ∙ ap (λ (t : Table). get t.numbers c.args.key) c.self.view_is

pub returns-clause-gone : goal.returns-clause-gone
returns-clause-gone c =
    remove_joined c.self.inside.seeds c.self.inside.shards.items c.args.key c.shard_of-at.result c.index_mut.result.now c.remove_by_hash.new.self (changing c.self.inside.seeds c.self.inside.shards.items c.args.key c.hash-hash.result c.shard_of-at.result c.index_mut.result.now c.remove_by_hash.new.self c.self.invariant c.hash-hash.ensures c.shard_of-at.ensures.at (omega (arith, c.if-at-len.false, c.len.ensures, c.self.inside.shards.ok)) c.index_mut.ensures.value c.remove_by_hash.ensures.seeds) c.remove_by_hash.ensures.gone
    ∙ ap (λ (t : Table). remove t.numbers c.args.key) c.self.view_is

pub returns-clause-room : goal.returns-clause-room
returns-clause-room c = room_same c.self.inside.seeds c.self.inside.shards.items c.args.key c.shard_of-at.result c.index_mut.result.now c.remove_by_hash.new.self (changing c.self.inside.seeds c.self.inside.shards.items c.args.key c.hash-hash.result c.shard_of-at.result c.index_mut.result.now c.remove_by_hash.new.self c.self.invariant c.hash-hash.ensures c.shard_of-at.ensures.at (omega (arith, c.if-at-len.false, c.len.ensures, c.self.inside.shards.ok)) c.index_mut.ensures.value c.remove_by_hash.ensures.seeds) c.remove_by_hash.ensures.room ∙ ap (λ (t : Table). t.room) c.self.view_is
