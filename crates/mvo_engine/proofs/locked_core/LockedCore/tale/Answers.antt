use Rattle.std.proofs.Common.{subst}
use Rattle.mvo_txn.specs.Txns.{state_of}
use Rattle.mvo_core.specs.Data.{CoreData}
use Rattle.mvo_core.specs.WholeAnswers.{InEachWhole}
use Rattle.mvo_core.specs.WholeTales.{IsWholeTaleOf}
use Rattle.mvo_engine.proofs.locked_core.LockedCore.tale.Goals as goal

pub returns-clause-stored : goal.returns-clause-stored
returns-clause-stored g c =
    let core : CoreData = c.self.inside.core in
    rw (← c.self.view_is) (subst (λ tale. InEachWhole core (λ w. IsWholeTaleOf w (state_of core.table) core.versions.slots tale)) c.tale.ensures.tale c.tale.ensures.whole)
