-- What a look at a transaction that is to be settled tells.
use Rattle.std.specs.Prelude.{◌≡◌, Bool, true, false, [], None, Some}
use Rattle.mvo_types.specs.declared.ids.TxId.{TxId}
use Rattle.mvo_txn.specs.Txns.{Txns}
use Rattle.mvo_deps.specs.declared.node.Node.{Node}
use Rattle.mvo_deps.specs.Nodes.{data_of}
use Rattle.mvo_deps.specs.Waiting.{HasNoneOpen, IsLeastOpen}
use Rattle.mvo_core.specs.declared.kept_transaction.KeptTransaction.{KeptTransaction}
use Rattle.mvo_core.specs.declared.readiness.Readiness.{Readiness}
use Rattle.mvo_core.specs.declared.readiness.Readiness.TheVariants.{Refused, NotValidated, WaitsFor, ReadyReader, Ready}
use Rattle.mvo_core.specs.Causes.{why_not_preparing, is_read_only}
use Rattle.mvo_core.specs.Data.{own_of}
use Rattle.mvo_core.specs.Own.{is_own_valid}

-- it may be called as a Preparing one, and all of its entries are checked or not
pub record IsCalled (table : Txns (Node KeptTransaction)) (t : TxId) (valid : Bool) : Type 0 where
  pub none : why_not_preparing table t.0 ≡ None
  pub valid_is : is_own_valid (own_of table t.0) ≡ valid

-- it is read-only, and waits for none
pub record IsReadyReader (table : Txns (Node KeptTransaction)) (t : TxId) : Type 0 where
  pub called : IsCalled table t true
  pub free : HasNoneOpen table (data_of table t).on
  pub reads : is_read_only (own_of table t.0) ≡ true

-- each answer says that no earlier one was due, and false that nobody depends on it
abbrev pub IsReadiness : Txns (Node KeptTransaction) → TxId → Readiness → Type 0
IsReadiness table t (Refused r) = why_not_preparing table t.0 ≡ Some r
IsReadiness table t NotValidated = IsCalled table t false
IsReadiness table t (WaitsFor other) =
    IsCalled table t true × IsLeastOpen table (data_of table t).on other
IsReadiness table t ReadyReader = IsReadyReader table t
IsReadiness table t (Ready has) = IsCalled table t true × HasNoneOpen table (data_of table t).on
    × (has ≡ false → (data_of table t).dependents ≡ [])
    × (is_read_only (own_of table t.0) ≡ false)
