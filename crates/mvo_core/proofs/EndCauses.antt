-- Why an end of a transaction is refused: the table's causes are the theory's.
use Rattle.std.proofs.Common.{◌≡◌, ℕ, ◌++◌, not, List, [], ◌∷◌, Option, None, Some, refl, sym, ap, ◌∙◌, subst}
use Rattle.mvo_types.specs.declared.limits.TheConstants.{MAX_STAMP}
use Rattle.mvo_types.specs.declared.ids.TxId.{TxId}
use Rattle.mvo_types.specs.declared.ids.Stamp.{Stamp}
use Rattle.mvo_types.specs.declared.refusal.Refusal.{Refusal}
use Rattle.mvo_types.specs.declared.refusal.Refusal.TheVariants.{NoSuchTransaction, Ended, NotPreparing, NotValidated, ClockSpent}
use Rattle.mvo_types.specs.Keys.{Map}
use Rattle.mvo_model.specs.Trace.{Step}
use Rattle.mvo_theory.specs.State.{State, preparing_of}
use Rattle.mvo_types.specs.Causes.{when, or_next, first_cause}
use Rattle.mvo_theory.specs.Causes.{unless_active, unless_preparing, next_differs, was_valid, why_not_precommit, why_not_validate, why_not_settle}
use Rattle.mvo_txn.specs.declared.state.TxState.{TxState}
use Rattle.mvo_txn.specs.declared.state.TxState.TheVariants.{Active, Preparing, Committed, Aborted}
use Rattle.std.specs.Prelude.{nat_le}
use Rattle.mvo_readonly.specs.Whole.{stage_of}
use Rattle.mvo_txn.specs.Txns.{state_of}
use Rattle.mvo_core.specs.declared.kept_transaction.TransactionKind.TheVariants.{Other}
use Rattle.mvo_core.specs.Readers.{Readers}
use Rattle.mvo_core.specs.Data.{CoreData}
use Rattle.mvo_core.specs.Standing.{StandsAmong}
use Rattle.mvo_core.specs.Causes.{unless_preparing_as, why_not_active, why_not_preparing, flag_of}
use Rattle.mvo_core.proofs.CausesTold.{not_active_is, not_preparing_is, or_next_deep, or_none, some_none, MayLook, kind_is}

-- ---- lists of causes
first_behind : (xs : List (Option Refusal)) (last : Option Refusal) → first_cause (xs ++ last ∷ []) ≡ or_next (first_cause xs) last
first_behind [] last = or_none last
first_behind (x ∷ xs) last = ap (or_next x) (first_behind xs last) ∙ sym (or_next_deep x (first_cause xs) last)

-- the first stands, or there is none
pub or_first : (a b : Option Refusal) (r : Refusal) → a ≡ Some r → or_next a b ≡ Some r
or_first a b r e = ap (λ o. or_next o b) e

pub or_last : (a b : Option Refusal) → a ≡ None → or_next a b ≡ b
or_last a b e = ap (λ o. or_next o b) e

module _ (rs : Readers) (opening : Map) (steps : List Step) (s : State) (c : CoreData) (h : StandsAmong rs opening steps s c) (t : ℕ) where
  pub not_precommitted_is : stage_of t rs.unfinished ≡ None → or_next (why_not_active c.table t) (when (nat_le MAX_STAMP c.table.clock) ClockSpent) ≡ why_not_precommit s t
  not_precommitted_is other =
      ap (λ (a : Option Refusal). or_next a (when (nat_le MAX_STAMP c.table.clock) ClockSpent)) (not_active_is rs opening steps s c h t (subst MayLook (sym other) tt))
      ∙ ap (λ (n : ℕ). or_next (first_cause (unless_active s t)) (when (nat_le MAX_STAMP n) ClockSpent)) h.dependencies.stands.clock
      ∙ sym (first_behind (unless_active s t) (when (nat_le MAX_STAMP s.clock) ClockSpent))

  pub not_validated_is : stage_of t rs.unfinished ≡ None → or_next (why_not_preparing c.table t) (next_differs s.stamped (preparing_of t s.stamped)) ≡ why_not_validate s t
  not_validated_is other =
      ap (λ (a : Option Refusal). or_next a (next_differs s.stamped (preparing_of t s.stamped))) (not_preparing_is rs opening steps s c h t other)
      ∙ sym (first_behind (unless_preparing s t) (next_differs s.stamped (preparing_of t s.stamped)))

  pub not_settled_is : stage_of t rs.unfinished ≡ None → or_next (why_not_preparing c.table t) (when (not (was_valid (preparing_of t s.stamped))) NotValidated) ≡ why_not_settle s t
  not_settled_is other =
      ap (λ (a : Option Refusal). or_next a (when (not (was_valid (preparing_of t s.stamped))) NotValidated)) (not_preparing_is rs opening steps s c h t other)
      ∙ sym (first_behind (unless_preparing s t) (when (not (was_valid (preparing_of t s.stamped))) NotValidated))

-- ---- none stands: it is Preparing
pub preparing_unended : (o : Option TxState) (flag : Option TxId) → unless_preparing_as o Other flag ≡ None → (e : Stamp) × (o ≡ Some (Preparing e))
preparing_unended None flag e = absurd (some_none NoSuchTransaction e)
preparing_unended (Some Active) flag e = absurd (some_none NotPreparing e)
preparing_unended (Some (Preparing d)) flag e = (d, refl)
preparing_unended (Some (Committed d)) flag e = absurd (some_none Ended e)
preparing_unended (Some Aborted) flag e = absurd (some_none Ended e)

-- of one that isn't read-only
pub other_prepared : (rs : Readers) (opening : Map) (steps : List Step) (s : State) (c : CoreData) → StandsAmong rs opening steps s c → (t : ℕ) → stage_of t rs.unfinished ≡ None → why_not_preparing c.table t ≡ None
    → (e : Stamp) × (state_of c.table t ≡ Some (Preparing e))
other_prepared rs opening steps s c h t other none = preparing_unended (state_of c.table t) (flag_of c.table t)
    (subst (λ k. unless_preparing_as (state_of c.table t) k (flag_of c.table t) ≡ None) (kind_is rs opening steps s c h t other) none)
