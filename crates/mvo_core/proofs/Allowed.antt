-- Who may be called as an Active one may be aborted.
use Rattle.std.proofs.Common.{◌≡◌, ℕ, None, sym, subst}
use Rattle.mvo_txn.specs.Txns.{Txns, state_of, IsUnended}
use Rattle.mvo_deps.specs.declared.node.Node.{Node}
use Rattle.mvo_core.specs.declared.kept_transaction.KeptTransaction.{KeptTransaction}
use Rattle.mvo_core.specs.Causes.{why_not_active}
use Rattle.mvo_core.proofs.CausesTold.{stands_active}

-- one that may be called as an Active one may be aborted
pub unended_if_active : (table : Txns (Node KeptTransaction)) (t : ℕ) → why_not_active table t ≡ None → IsUnended (state_of table t)
unended_if_active table t none = subst IsUnended (sym (stands_active table t none)) tt
