use Rattle.std.proofs.Common.{◌≡◌, ◌<◌, length, sym, ap, ◌∙◌, arith}
use Rattle.std.specs.FinMap.{get}
use Rattle.mvo_hash.specs.Table.{Table}
use Rattle.mvo_hash.specs.Shards.{shard_of_key}
use Rattle.mvo_hash.proofs.Shared.{own_place, table_read, get_past, get_own}
use Rattle.mvo_hash.proofs.heads.Heads.get.Goals as goal

pub returns-then-at-len : goal.returns-then-at-len
returns-then-at-len c =
    let seeds = c.self.inside.seeds in
    let ts = c.self.inside.shards.items in
    let own : shard_of_key seeds c.args.key ≡ c.shard_of-at.result = own_place seeds c.args.key c.hash-hash.result c.shard_of-at.result c.hash-hash.ensures c.shard_of-at.ensures.at in
    sym (get_past seeds ts c.self.invariant c.args.key c.shard_of-at.result own (omega (arith, c.if-at-len.true, c.len.ensures, c.self.inside.shards.ok)))
    ∙ ap (λ (t : Table). get t.numbers c.args.key) c.self.view_is

pub returns : goal.returns
returns c =
    let seeds = c.self.inside.seeds in
    let ts = c.self.inside.shards.items in
    let at = c.shard_of-at.result in
    let within : at < length ts = omega (arith, c.if-at-len.false, c.len.ensures, c.self.inside.shards.ok) in
    let own : shard_of_key seeds c.args.key ≡ at = own_place seeds c.args.key c.hash-hash.result at c.hash-hash.ensures c.shard_of-at.ensures.at in
    c.get_by_hash.ensures
    ∙ ap (λ (t : Table). get t.numbers c.args.key) (table_read ts at c.index.result.now within c.index.ensures)
    ∙ get_own seeds ts c.self.invariant c.args.key at own
    ∙ ap (λ (t : Table). get t.numbers c.args.key) c.self.view_is
