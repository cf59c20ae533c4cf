use Rattle.std.proofs.Common.{Some, None, sym, subst}
use Rattle.mvo_txn.specs.Next.{IsNextIn, IsNextBegin}
use Rattle.mvo_txn.proofs.Firsts.{next_some, next_none}
use Rattle.mvo_txn.proofs.table.TxnTable.next_begin.Goals as goal

pub returns-in-Some : goal.returns-in-Some
returns-in-Some g c =
    subst (λ t. IsNextBegin t c.args.from.0 (Some (record { 0 = c.in-Some.begin }))) c.self.view_is
    (next_some c.self.inside.clock c.self.inside.seats c.self.inside.begins c.args.from.0 c.in-Some.begin c.self.invariant.begins_are c.in-Some.ensures)

pub returns-in-None : goal.returns-in-None
returns-in-None g c =
    subst (λ t. IsNextBegin t c.args.from.0 None) c.self.view_is
    (next_none c.self.inside.clock c.self.inside.seats c.self.inside.begins c.args.from.0 c.self.invariant.begins_are c.in-None.ensures)
