use Rattle.std.proofs.Common.{◌≡◌, ◌++◌, ◌∷◌, [], List, take, sym, ap, ◌∙◌, subst}
use Rattle.std.proofs.lemmas.List.{take_more}
use Rattle.mvo_hash.specs.Table.{Table}
use Rattle.mvo_hash.specs.Shards.{no_table, table, AreMoved}
use Rattle.mvo_hash.proofs.Shared.{table_read, moved_more}
use Rattle.mvo_hash.proofs.shards.moved.Goals as goal

pub loop-shard-preserved : goal.loop-shard-preserved
loop-shard-preserved c =
    let ts = c.args.shards.now in
    let i = c.loop-shard.shard-index in
    let read : c.shard-item.result ≡ table ts i = table_read ts i c.shard-item.result c.loop-shard-test.true c.shard-item.is in
    subst (λ (old : List Table). AreMoved old c.args.keys c.push.new.self.items) (sym (take_more ts i no_table c.loop-shard-test.true))
    (subst (λ (new : List Table). AreMoved (take i ts ++ table ts i ∷ []) c.args.keys new) (sym c.in_ok-push.ensures.items)
    (moved_more (take i ts) c.args.keys c.loop-shard.larger.items (table ts i) c.in_ok-moved.field-0 c.loop-shard.invariant
    (c.in_ok-moved.ensures.numbers ∙ ap (λ (t : Table). t.numbers) read)
    (c.in_ok-moved.ensures.seeds ∙ ap (λ (t : Table). t.seeds) read)
    c.in_ok-moved.ensures.room))
