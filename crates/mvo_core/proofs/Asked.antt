-- What follows where the table tells no cause of a refusal.
use Rattle.std.proofs.Common.{◌≡◌, ℕ, Bool, true, false, Option, None, Some, refl, sym, ap, ◌∙◌, subst}
use Rattle.std.specs.Prelude.{IsSome, IfSome}
use Rattle.std.specs.Option.{option_map, is_some}
use Rattle.std.specs.FinMap.{get}
use Rattle.std.proofs.lemmas.Bool.{false≢true}
use Rattle.mvo_types.specs.declared.ids.TxId.{TxId}
use Rattle.mvo_types.specs.declared.row.RowKey.{RowKey}
use Rattle.mvo_types.specs.declared.refusal.Refusal.{Refusal}
use Rattle.mvo_types.specs.declared.refusal.Refusal.TheVariants.{NoSuchTransaction, Ended}
use Rattle.mvo_types.specs.RowData.{RowData}
use Rattle.mvo_model.specs.History.{History}
use Rattle.mvo_types.specs.declared.entry.Entry.{Entry}
use Rattle.mvo_types.specs.Causes.{when, or_next}
use Rattle.mvo_theory.specs.Causes.{is_failure}
use Rattle.mvo_txn.specs.declared.table_seat.TableSeat.{TableSeat}
use Rattle.mvo_txn.specs.declared.state.TxState.{TxState}
use Rattle.mvo_txn.specs.declared.state.TxState.TheVariants.{Active, Preparing, Committed, Aborted}
use Rattle.mvo_txn.specs.Txns.{Txns, state_of, IsUnended}
use Rattle.mvo_deps.specs.declared.node.Node.{Node}
use Rattle.mvo_deps.specs.Graph.{IsUnfinished}
use Rattle.mvo_core.specs.declared.kept_transaction.TransactionKind.{TransactionKind}
use Rattle.mvo_core.specs.declared.kept_transaction.KeptTransaction.{KeptTransaction}
use Rattle.mvo_core.specs.Causes.{flag_of, unless_active_as, why_not_active, why_not_look, why_not_put, why_not_remove, is_read_only, kind_kept}
use Rattle.mvo_core.specs.Data.{own_of}
use Rattle.mvo_core.proofs.CausesTold.{stands_active, some_none}

-- where no cause of a list stands, none of the first one, and none of the rest
pub first_none : (a b : Option Refusal) → or_next a b ≡ None → a ≡ None
first_none None b e = refl
first_none (Some r) b e = absurd (some_none r e)

pub rest_none : (a b : Option Refusal) → or_next a b ≡ None → b ≡ None
rest_none None b e = e
rest_none (Some r) b e = absurd (some_none r e)

pub when_none : (b : Bool) (r : Refusal) → when b r ≡ None → b ≡ false
when_none false r e = refl
when_none true r e = absurd (some_none r e)

-- ---- who is asked
no_state : (x : TxState) → ◌≡◌ {A = Option TxState} None (Some x) → ⊥
no_state x q = cc

module _ (table : Txns (Node KeptTransaction)) (t : ℕ) where
  there_at : (o : Option (TableSeat (Node KeptTransaction))) → option_map (λ s. s.state) o ≡ Some Active → IsSome (option_map (λ n. n.own) (option_map (λ s. s.kept) o))
  there_at None e = absurd (no_state Active e)
  there_at (Some s) e = refl

  -- something is kept of it
  pub own_if_active : why_not_active table t ≡ None → IsSome (own_of table t)
  own_if_active none = there_at (get table.seats t) (stands_active table t none)

  seat_at : (o : Option (TableSeat (Node KeptTransaction))) → IsSome (option_map (λ n. n.own) (option_map (λ s. s.kept) o)) → is_some o ≡ true
  seat_at None e = e
  seat_at (Some s) e = refl

  pub unfinished_if_own : IsSome (own_of table t) → IsUnfinished table (record { 0 = t })
  unfinished_if_own there = seat_at (get table.seats t) there

-- what is so of the one that is kept
pub if_own : (o : Option KeptTransaction) (own : KeptTransaction) (P : KeptTransaction → Type 0) → o ≡ Some own → P own → IfSome o P
if_own o own P e p = subst (λ x. IfSome x P) (sym e) p

-- ---- who is refused by a failure
some_same : (r q : Refusal) → ◌≡◌ {A = Option Refusal} (Some r) (Some q) → r ≡ q
some_same r q e = cc

not_failed : (r q : Refusal) → is_failure r ≡ false → ◌≡◌ {A = Option Refusal} (Some r) (Some q) → is_failure q ≡ true → ⊥
not_failed r q n e f = false≢true (sym n ∙ ap is_failure (some_same r q e) ∙ f)

failed_at : (o : Option TxState) (k : TransactionKind) (flag : Option TxId) (rest : Option Refusal) (r : Refusal) → or_next (unless_active_as o k flag) rest ≡ Some r → is_failure r ≡ true → IsUnended o
failed_at None k flag rest r e f = not_failed NoSuchTransaction r refl e f
failed_at (Some Active) k flag rest r e f = tt
failed_at (Some (Preparing n)) k flag rest r e f = tt
failed_at (Some (Committed n)) k flag rest r e f = not_failed Ended r refl e f
failed_at (Some Aborted) k flag rest r e f = not_failed Ended r refl e f

-- it is Active or Preparing, whatever causes come behind those of every call of an Active one
module _ (table : Txns (Node KeptTransaction)) (ts : History) (t : ℕ) where
  pub active_if_looked : (of : ℕ) (e : Entry) → why_not_look table ts t of e ≡ None → why_not_active table t ≡ None
  active_if_looked of e none = first_none _ _ none

  pub may_look_failing : (of : ℕ) (e : Entry) (r : Refusal) → why_not_look table ts t of e ≡ Some r → is_failure r ≡ true → IsUnended (state_of table t)
  may_look_failing of e r why f = failed_at (state_of table t) (kind_kept (own_of table t)) (flag_of table t) _ r why f

  pub may_put_failing : (row : RowData) (r : Refusal) → why_not_put table ts t row ≡ Some r → is_failure r ≡ true → IsUnended (state_of table t)
  may_put_failing row r why f = failed_at (state_of table t) (kind_kept (own_of table t)) (flag_of table t) _ r why f

  pub may_remove_failing : (k : RowKey) (r : Refusal) → why_not_remove table ts t k ≡ Some r → is_failure r ≡ true → IsUnended (state_of table t)
  may_remove_failing k r why f = failed_at (state_of table t) (kind_kept (own_of table t)) (flag_of table t) _ r why f

  pub active_if_put : (row : RowData) → why_not_put table ts t row ≡ None → why_not_active table t ≡ None
  active_if_put row none = first_none _ _ none

  pub active_if_removed : (k : RowKey) → why_not_remove table ts t k ≡ None → why_not_active table t ≡ None
  active_if_removed k none = first_none _ _ none
