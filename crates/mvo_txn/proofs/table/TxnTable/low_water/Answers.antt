use Rattle.std.proofs.Common.{◌-◌, subst}
use Rattle.mvo_txn.specs.Txns.{IsLowWater}
use Rattle.mvo_txn.proofs.Firsts.{low_some}
use Rattle.mvo_txn.proofs.table.TxnTable.low_water.Goals as goal

pub returns-in-Some : goal.returns-in-Some
returns-in-Some g c =
    subst (λ t. IsLowWater t (c.in-Some.end - 1)) c.self.view_is
    (low_some c.self.inside.clock c.self.inside.seats c.self.inside.open_ends c.in-Some.end c.self.invariant.open_ends_are c.in-Some.ensures).1
