use Rattle.std.proofs.Common.{subst}
use Rattle.mvo_txn.specs.Txns.{IsOldestBegin}
use Rattle.mvo_txn.proofs.Firsts.{oldest_some, oldest_none}
use Rattle.mvo_txn.proofs.table.TxnTable.oldest_begin.Goals as goal

pub returns-in-Some : goal.returns-in-Some
returns-in-Some g c =
    subst (λ t. IsOldestBegin t c.in-Some.begin) c.self.view_is
    (oldest_some c.self.inside.clock c.self.inside.seats c.self.inside.begins c.in-Some.begin c.self.invariant.begins_are c.in-Some.ensures)

pub returns-in-None : goal.returns-in-None
returns-in-None g c =
    subst (λ t. IsOldestBegin t c.self.inside.clock) c.self.view_is
    (oldest_none c.self.inside.clock c.self.inside.seats c.self.inside.begins c.self.invariant.begins_are c.in-None.ensures)
