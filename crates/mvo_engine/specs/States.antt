-- What contracts see of the values under the locks, and of a session.
use Rattle.std.specs.Prelude.{ℕ, List, Option}
use Rattle.mvo_group.specs.Data.{GroupData}
use Rattle.mvo_model.specs.History.{History}
use Rattle.mvo_core.specs.Data.{CoreData}
use Rattle.mvo_core.specs.Receipts.{Receipt}
use Rattle.mvo_store.specs.StoreData.{StoreData}

-- the groups that were sent so far, and up to where the closed mark was raised for them
pub record SendsState : Type 0 where
  pub sent : List GroupData
  pub raised : ℕ

-- the core, where it closes its groups, and how many sessions were made
pub record CoreState : Type 0 where
  pub core : CoreData
  pub sends : SendsState
  pub made : ℕ

-- the store, the groups that were received so far, and the mark that was published last
pub record StoreState (D : Type 0) : Type 0 where
  pub store : StoreData D
  pub received : List GroupData
  pub published : ℕ

-- the transaction that it has begun and not ended with what its calls were answered, its receipts,
-- how far it has seen commits to be durable, and up to where it has let go of receipts
pub record SessionState : Type 0 where
  pub tx : Option ℕ
  pub told : History
  pub receipts : List Receipt
  pub durable : ℕ
  pub forgotten : ℕ
