use Rattle.std.proofs.Common.{◌≡◌, min, take, sym, ap, ◌∙◌}
use Rattle.std.proofs.lemmas.List.{take_more}
use Rattle.mvo_hash.specs.Table.{Table}
use Rattle.mvo_hash.specs.Shards.{no_table, table, least_from}
use Rattle.mvo_hash.proofs.Rooms.{least_push}
use Rattle.mvo_hash.proofs.Shared.{table_read}
use Rattle.mvo_hash.proofs.shards.least_room.Goals as goal

pub loop-shard-preserved : goal.loop-shard-preserved
loop-shard-preserved c =
    let ts = c.args.shards.now in
    let i = c.loop-shard.shard-index in
    let read : c.shard-item.result ≡ table ts i = table_read ts i c.shard-item.result c.loop-shard-test.true c.shard-item.is in
    c.min-least.ensures
    ∙ ap (λ n. min n c.room.result) c.loop-shard.invariant
    ∙ ap (min (least_from c.room-least.result (take i ts))) (c.room.ensures ∙ ap (λ (t : Table). t.room) read)
    ∙ sym (least_push c.room-least.result (take i ts) (table ts i))
    ∙ ap (least_from c.room-least.result) (sym (take_more ts i no_table c.loop-shard-test.true))
