-- The table is the state's after each step.
use Rattle.std.proofs.Common.{◌≡◌, ◌≢◌, ℕ, List, Option, None, Some, refl, sym, ap, ◌∙◌, subst, ⊎_elim}
use Rattle.std.specs.List.{find}
use Rattle.std.specs.Option.{option_map}
use Rattle.std.proofs.lemmas.Bool.{cases_eq}
use Rattle.mvo_model.specs.Trace.{Step, owner_of, phase_after}
use Rattle.mvo_model.specs.Trace.Phase.{Absent, Active as IsActivePhase, Preparing as PreparingPhase}
use Rattle.mvo_theory.specs.State.{State, ActiveTx, StampedTx, EndedTx, Outcome, Word, Claim, active_of, preparing_of, ended_of, is_ended_as}
use Rattle.mvo_theory.specs.Changes.{with_words, taken_over}
use Rattle.mvo_theory.specs.Words.{words_without}
use Rattle.mvo_theory.specs.Phases.{phase_by, phase_in, ended_as}
use Rattle.mvo_theory.proofs.Phases.{Leads}
use Rattle.mvo_theory.proofs.Finds.{find_map}
use Rattle.mvo_theory.proofs.Each.{each_always}
use Rattle.mvo_theory.specs.State.Outcome.{Committed as WasCommitted, Aborted as WasAborted}
use Rattle.mvo_txn.specs.declared.state.TxState.{TxState}
use Rattle.mvo_txn.specs.declared.state.TxState.TheVariants.{Active, Preparing, Committed, Aborted}
use Rattle.mvo_txn.specs.Txns.{Txns, state_of, IsEnded}
use Rattle.mvo_representation.specs.Table.{phase_as, phases_of}
use Rattle.mvo_representation.specs.Dependencies.{IsTableOf}

module _ {P : Type 0} where
  -- one stands otherwise, and the others as before
  pub table_leads : (s s' : State) (x : Step) (old new : Txns P) (now : Option TxState) → IsTableOf s old → Leads x s s' → new.clock ≡ s'.clock
      → state_of new (owner_of x) ≡ now → phase_as now ≡ phase_after x (phase_in s (owner_of x))
      → ((u : ℕ) → u ≢ owner_of x → state_of new u ≡ state_of old u) → IsTableOf s' new
  table_leads s s' x old new now h l c is own others = record {
    clock = c;
    phases = λ u. ⊎_elim
        (λ e. subst (λ (n : ℕ). phases_of (state_of new) n ≡ phase_in s' n) (sym e) (ap phase_as is ∙ own ∙ sym l.own))
        (λ ne. ap phase_as (others u ne) ∙ h.phases u ∙ sym (l.others u (λ e. ne (sym e))))
        (cases_eq u (owner_of x));
  }

  -- all stand as before
  pub table_alike : (s s' : State) (old new : Txns P) → IsTableOf s old → new.clock ≡ old.clock → s'.clock ≡ s.clock
      → ((u : ℕ) → state_of new u ≡ state_of old u) → ((u : ℕ) → phase_in s' u ≡ phase_in s u) → IsTableOf s' new
  table_alike s s' old new h c d t p = record {
    clock = c ∙ h.clock ∙ sym d;
    phases = λ u. ap phase_as (t u) ∙ h.phases u ∙ sym (p u);
  }

-- ---- other words of ended ones
worded : (a : Option ActiveTx) (b : Option StampedTx) (f : EndedTx → List Word) (c : Option EndedTx) → phase_by a b (option_map {T = EndedTx} (λ u. record u { words = f u }) c) ≡ phase_by a b c
worded (Some r) b f c = refl
worded None (Some x) f c = refl
worded None None f None = refl
worded None None f (Some u) = refl

pub phase_worded : (s : State) (f : EndedTx → List Word) (t : ℕ) → phase_in (with_words f s) t ≡ phase_in s t
phase_worded s f t =
    ap (phase_by (active_of t s.active) (preparing_of t s.stamped)) (find_map {X = EndedTx} (is_ended_as t) (λ u. record u { words = f u }) s.ended (each_always (λ u. is_ended_as t u ≡ is_ended_as t u) (λ u. refl) s.ended))
    ∙ worded (active_of t s.active) (preparing_of t s.stamped) f (find (is_ended_as t) s.ended)

-- ---- what a state of the table says
pub active_is : (s : State) (t : ℕ) → phase_in s t ≡ IsActivePhase → (r : ActiveTx) × (active_of t s.active ≡ Some r)
active_is s t e = go (active_of t s.active) (preparing_of t s.stamped) (ended_of t s.ended) e
  where
    prep : (n : ℕ) → PreparingPhase n ≡ IsActivePhase → ⊥
    prep n q = cc

    ended : (o : Outcome) → ended_as o ≡ IsActivePhase → ⊥
    ended (WasCommitted n) q = cc
    ended WasAborted q = cc

    absent : Absent ≡ IsActivePhase → ⊥
    absent q = cc

    go : (a : Option ActiveTx) (b : Option StampedTx) (c : Option EndedTx) → phase_by a b c ≡ IsActivePhase → (r : ActiveTx) × (a ≡ Some r)
    go (Some r) b c q = (r, refl)
    go None (Some x) c q = absurd (prep x.end q)
    go None None (Some u) q = absurd (ended u.outcome q)
    go None None None q = absurd (absent q)

pub ended_is : (s : State) (t : ℕ) (o : Option TxState) → IsEnded o → phase_in s t ≡ phase_as o → (u : EndedTx) × (ended_of t s.ended ≡ Some u)
ended_is s t o ended e = go (active_of t s.active) (preparing_of t s.stamped) (ended_of t s.ended) o ended e
  where
    not_active : (o : Option TxState) → IsEnded o → IsActivePhase ≡ phase_as o → ⊥
    not_active None h q = h
    not_active (Some Active) h q = h
    not_active (Some (Preparing n)) h q = h
    not_active (Some (Committed n)) h q = cc
    not_active (Some Aborted) h q = cc

    not_prep : (m : ℕ) (o : Option TxState) → IsEnded o → PreparingPhase m ≡ phase_as o → ⊥
    not_prep m None h q = h
    not_prep m (Some Active) h q = h
    not_prep m (Some (Preparing n)) h q = h
    not_prep m (Some (Committed n)) h q = cc
    not_prep m (Some Aborted) h q = cc

    not_absent : (o : Option TxState) → IsEnded o → Absent ≡ phase_as o → ⊥
    not_absent None h q = h
    not_absent (Some Active) h q = h
    not_absent (Some (Preparing n)) h q = h
    not_absent (Some (Committed n)) h q = cc
    not_absent (Some Aborted) h q = cc

    go : (a : Option ActiveTx) (b : Option StampedTx) (c : Option EndedTx) (o : Option TxState) → IsEnded o → phase_by a b c ≡ phase_as o → (u : EndedTx) × (c ≡ Some u)
    go (Some r) b c o h q = absurd (not_active o h q)
    go None (Some x) c o h q = absurd (not_prep x.end o h q)
    go None None (Some u) o h q = (u, refl)
    go None None None o h q = absurd (not_absent o h q)

pub phase_taken_over : (s : State) (c : Option Claim) (t : ℕ) → phase_in (taken_over c s) t ≡ phase_in s t
phase_taken_over s None t = refl
phase_taken_over s (Some c) t = phase_worded s (λ u. words_without c u.outcome u.words) t
