-- What is written of one transaction, and what it does to the table.
use Rattle.std.proofs.Common.{◌≡◌, ℕ, Some, sym, ap, subst}
use Rattle.std.specs.Prelude.{Result, Ok, Err, OnOk, OnErr, IfSome}
use Rattle.std.specs.Option.{option_map}
use Rattle.mvo_txn.specs.Txns.{Txns, kept_of, table_after_write}
use Rattle.mvo_deps.specs.declared.node.Node.{Node}
use Rattle.mvo_core.specs.declared.kept_transaction.KeptTransaction.{KeptTransaction}
use Rattle.mvo_core.specs.Data.{own_of}
use Rattle.mvo_core.specs.Keeping.{with_own_at, IsWritten}

pub on_ok : {T E : Type 0} (A B : Type 0) (r : Result T E) → OnOk r A → (A → B) → OnOk r B
on_ok A B (Ok x) h f = f h
on_ok A B (Err e) h f = tt

pub on_err : {T E : Type 0} (A B : Type 0) (r : Result T E) → OnErr r A → (A → B) → OnErr r B
on_err A B (Ok x) h f = tt
on_err A B (Err e) h f = f h

pub always_ok : {T E : Type 0} (A : Type 0) (r : Result T E) → A → OnOk r A
always_ok A (Ok x) h = h
always_ok A (Err e) h = tt

-- what is kept of it becomes this
pub written : (table : Txns (Node KeptTransaction)) (t : ℕ) (node : Node KeptTransaction) (after : KeptTransaction) (change : KeptTransaction → KeptTransaction → Type 0)
    → Some node ≡ kept_of table t → change node.own after
    → IsWritten table (table_after_write table t (record node { own = after })) t change
written table t node after change kept h = record {
  before = node.own;
  after = after;
  was = ap (option_map (λ n. n.own)) (sym kept);
  is = ap (λ o. with_own_at o table t after) kept;
  changed = h;
}

-- what is required of it holds of what was kept
pub required : (table : Txns (Node KeptTransaction)) (t : ℕ) (node : Node KeptTransaction) (P : KeptTransaction → Type 0)
    → Some node ≡ kept_of table t → IfSome (own_of table t) P → P node.own
required table t node P kept h = subst (λ o. IfSome (option_map (λ n. n.own) o) P) (sym kept) h
