use Rattle.mvo_core.specs.Keeping.{IsWritten, HasWrittenAsMuch, HasMadeRoom}
use Rattle.mvo_txn.specs.Txns.{table_after_write}
use Rattle.mvo_core.proofs.Written.{on_ok, on_err, written}
use Rattle.mvo_core.proofs.depending.make_room.Goals as goal

pub returns-clause-ok : goal.returns-clause-ok
returns-clause-ok c =
    let node = c.in-Some.node.now in
    on_ok (HasMadeRoom node.own c.make_room.new.self)
    (IsWritten c.args.table.now (table_after_write c.args.table.now c.args.tx.id.0 (record node { own = c.make_room.new.self })) c.args.tx.id.0 HasMadeRoom)
    c.make_room.result c.make_room.ensures.ok
    (λ made. written c.args.table.now c.args.tx.id.0 node c.make_room.new.self HasMadeRoom c.in-Some.ensures.value made)

pub returns-clause-err : goal.returns-clause-err
returns-clause-err c =
    let node = c.in-Some.node.now in
    on_err (HasWrittenAsMuch node.own c.make_room.new.self)
    (IsWritten c.args.table.now (table_after_write c.args.table.now c.args.tx.id.0 (record node { own = c.make_room.new.self })) c.args.tx.id.0 HasWrittenAsMuch)
    c.make_room.result c.make_room.ensures.err
    (λ same. written c.args.table.now c.args.tx.id.0 node c.make_room.new.self HasWrittenAsMuch c.in-Some.ensures.value same)
