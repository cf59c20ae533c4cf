use Rattle.std.proofs.Common.{arith}
use Rattle.mvo_txn.proofs.Tables.{sound_none}
use Rattle.mvo_txn.proofs.table.TxnTable.new.Goals as goal

pub invariant_of-result : goal.invariant_of-result
invariant_of-result g c =
    sound_none c.args.mark.0 c.in_ok-new.field-0 c.in_ok-begins.begins c.in_ok-open_ends.open_ends c.requires c.in_ok-new.ensures
    c.in_ok-begins.ensures.kind c.in_ok-begins.ensures.marks (omega (arith, c.in_ok-begins.ensures.room)) c.in_ok-open_ends.ensures.kind c.in_ok-open_ends.ensures.marks (omega (arith, c.in_ok-open_ends.ensures.room))
