-- A transaction was told what its work holds, or what is kept of it.
use Rattle.std.proofs.Common.{◌≡◌, ℕ, ◌↔◌, List, Option, None, Some, refl, sym, ap, ◌∙◌, subst}
use Rattle.std.specs.Prelude.{Bool, IsTrue}
use Rattle.std.proofs.lemmas.Bool.{false≢true}
use Rattle.mvo_types.specs.Keys.{Map}
use Rattle.mvo_model.specs.History.{History}
use Rattle.mvo_model.specs.Trace.{Step, Phase}
use Rattle.mvo_model.specs.Trace.Phase.{Absent, Active as IsActivePhase, Preparing as IsPreparingPhase, Committed as IsCommittedPhase, Aborted as IsAbortedPhase}
use Rattle.mvo_theory.specs.State.{State, ActiveTx, StampedTx, EndedTx, Outcome, active_of, preparing_of, ended_of}
use Rattle.mvo_theory.specs.State.Outcome.{Committed as WasCommitted, Aborted as WasAborted}
use Rattle.mvo_theory.specs.Phases.{phase_by, phase_in, ended_as, is_active}
use Rattle.mvo_txn.specs.declared.state.TxState.{TxState}
use Rattle.mvo_txn.specs.declared.state.TxState.TheVariants.{Active, Preparing, Committed, Aborted}
use Rattle.mvo_txn.specs.Txns.{state_of, IsUnended}
use Rattle.mvo_representation.specs.Table.{phase_as}
use Rattle.mvo_representation.proofs.Facts.{phase_preparing}
use Rattle.mvo_content.specs.Works.{works_in}
use Rattle.mvo_core.specs.Readers.{Readers}
use Rattle.mvo_core.specs.declared.kept_transaction.KeptTransaction.{KeptTransaction}
use Rattle.mvo_core.specs.Data.{CoreData, own_of}
use Rattle.mvo_core.specs.Standing.{StandsAmong}
use Rattle.mvo_core.specs.Holding.{own_told, told_at, HasToldAs, HasJust}
use Rattle.mvo_core.proofs.Undone.{kept_of_preparing}
use Rattle.mvo_core.proofs.WorksHeld.{work_held}

told_same : (a b : History) → ◌≡◌ {A = Option History} (Some a) (Some b) → a ≡ b
told_same a b e = cc

-- ---- where one stands
abbrev IsOpenPhase : Phase → Type 0
IsOpenPhase Absent = ⊥
IsOpenPhase IsActivePhase = Unit {0}
IsOpenPhase (IsPreparingPhase e) = Unit {0}
IsOpenPhase (IsCommittedPhase e) = ⊥
IsOpenPhase IsAbortedPhase = ⊥

open_unended : (o : Option TxState) → IsOpenPhase (phase_as o) → IsUnended o
open_unended None h = h
open_unended (Some Active) h = h
open_unended (Some (Preparing e)) h = h
open_unended (Some (Committed e)) h = h
open_unended (Some Aborted) h = h

unended_open : (o : Option TxState) → IsUnended o → IsOpenPhase (phase_as o)
unended_open None h = h
unended_open (Some Active) h = h
unended_open (Some (Preparing e)) h = h
unended_open (Some (Committed e)) h = h
unended_open (Some Aborted) h = h

preparing_open : (w : Option ActiveTx) (x : StampedTx) (u : Option EndedTx) → IsOpenPhase (phase_by w (Some x) u)
preparing_open None x u = tt
preparing_open (Some r) x u = tt

outcome_not_open : (o : Outcome) → IsOpenPhase (ended_as o) → ⊥
outcome_not_open (WasCommitted e) h = h
outcome_not_open WasAborted h = h

neither_not_open : (u : Option EndedTx) → IsOpenPhase (phase_by None None u) → ⊥
neither_not_open None h = h
neither_not_open (Some u) h = outcome_not_open u.outcome h

-- ---- what is answered of one that stands so
told_of_unended : (o : Option TxState) (told : Option History) (h : History) (b : Bool) → IsUnended o → HasToldAs o told h b → IsTrue b ↔ (told ≡ Some h)
told_of_unended None told h b un as' = absurd un
told_of_unended (Some Active) told h b un as' = as'
told_of_unended (Some (Preparing e)) told h b un as' = as'
told_of_unended (Some (Committed e)) told h b un as' = absurd un
told_of_unended (Some Aborted) told h b un as' = absurd un

told_of_other : (o : Option TxState) (told : Option History) (h : History) (b : Bool) → (IsUnended o → ⊥) → HasToldAs o told h b → IsTrue b
told_of_other None told h b n as' = as'
told_of_other (Some Active) told h b n as' = absurd (n tt)
told_of_other (Some (Preparing e)) told h b n as' = absurd (n tt)
told_of_other (Some (Committed e)) told h b n as' = as'
told_of_other (Some Aborted) told h b n as' = as'

-- one that is Active for the state is so for the table
stands_so : (o : Option TxState) → phase_as o ≡ IsActivePhase → o ≡ Some Active
stands_so None e = absurd (false≢true (ap is_active e))
stands_so (Some Active) e = refl
stands_so (Some (Preparing d)) e = absurd (false≢true (ap is_active e))
stands_so (Some (Committed d)) e = absurd (false≢true (ap is_active e))
stands_so (Some Aborted) e = absurd (false≢true (ap is_active e))

-- and what was told to one that is Preparing is kept
kept_told : (o : Option TxState) (e : ℕ) (work : History) (own : Option KeptTransaction) → phase_as o ≡ IsPreparingPhase e → told_at o work own ≡ own_told own
kept_told None e work own q = refl
kept_told (Some Active) e work own q = absurd (false≢true (sym (ap is_active q)))
kept_told (Some (Preparing d)) e work own q = refl
kept_told (Some (Committed d)) e work own q = refl
kept_told (Some Aborted) e work own q = refl

module _ (rs : Readers) (opening : Map) (steps : List Step) (s : State) (c : CoreData) (h : StandsAmong rs opening steps s c) (t : ℕ) (told : History) (b : Bool)
    (same : HasToldAs (state_of c.table t) (told_at (state_of c.table t) (works_in c.works t).history (own_of c.table t)) told b) where
  -- the table's phase is the state's
  abbrev phase : phase_as (state_of c.table t) ≡ phase_in s t
  phase = h.dependencies.stands.phases t

  active_phase : (r : ActiveTx) → active_of t s.active ≡ Some r → phase_as (state_of c.table t) ≡ IsActivePhase
  active_phase r f = phase ∙ ap (λ w. phase_by w (preparing_of t s.stamped) (ended_of t s.ended)) f

  preparing_phase : (x : StampedTx) → preparing_of t s.stamped ≡ Some x → phase_as (state_of c.table t) ≡ IsPreparingPhase x.end
  preparing_phase x f = phase ∙ phase_preparing s t x h.versions.kept.single f

  neither_ended : active_of t s.active ≡ None → preparing_of t s.stamped ≡ None → IsUnended (state_of c.table t) → ⊥
  neither_ended f g un =
      let at : phase_as (state_of c.table t) ≡ phase_by None None (ended_of t s.ended) = phase ∙ (λ i. phase_by (f i) (g i) (ended_of t s.ended)) in
      neither_not_open (ended_of t s.ended) (subst IsOpenPhase at (unended_open (state_of c.table t) un))

  by_told : (history : History) → IsUnended (state_of c.table t) → told_at (state_of c.table t) (works_in c.works t).history (own_of c.table t) ≡ Some history → IsTrue b ↔ (history ≡ told)
  by_told history un at =
      let as' = told_of_unended (state_of c.table t) (told_at (state_of c.table t) (works_in c.works t).history (own_of c.table t)) told b un same in
      (λ yes. told_same history told (sym at ∙ as'.0 yes), λ e. as'.1 (at ∙ ap (λ (x : History). Some x) e))

  pub has_just : HasJust s t told b
  has_just = (
    λ r f.
        by_told r.history (open_unended (state_of c.table t) (subst IsOpenPhase (sym (active_phase r f)) tt))
        (ap (λ o. told_at o (works_in c.works t).history (own_of c.table t)) (stands_so (state_of c.table t) (active_phase r f)) ∙ ap (λ (x : History). Some x) (work_held rs opening steps s c h t r f).history),
    λ x f.
        let k = kept_of_preparing rs opening steps s c h t x f in
        by_told x.history (open_unended (state_of c.table t) (subst IsOpenPhase (sym (preparing_phase x f)) tt))
        (kept_told (state_of c.table t) x.end (works_in c.works t).history (own_of c.table t) (preparing_phase x f) ∙ ap own_told (k.kept ∙ ap (λ (o : KeptTransaction). Some o) (sym k.own_is)) ∙ ap (λ (y : History). Some y) k.same.history),
    λ f g. told_of_other (state_of c.table t) (told_at (state_of c.table t) (works_in c.works t).history (own_of c.table t)) told b (neither_ended f g) same,
  )
