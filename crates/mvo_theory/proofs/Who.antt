-- Who a call finds, where it is refused and where it isn't.
use Rattle.std.proofs.Common.{◌≡◌, ℕ, Bool, true, false, cond, List, [], ◌∷◌, Option, None, Some, refl, sym, ap, ◌∙◌, subst}
use Rattle.std.specs.Prelude.{⊤, ◌==◌, is_some}
use Rattle.std.specs.List.{AllByRecursion}
use Rattle.std.proofs.lemmas.Bool.{eqb-true, false≢true}
use Rattle.mvo_types.specs.declared.op.Op.{Op}
use Rattle.mvo_types.specs.declared.refusal.Refusal.{Refusal}
use Rattle.mvo_types.specs.declared.refusal.Refusal.TheVariants.{NotActive, NotPreparing, DependencyAborted}
use Rattle.mvo_theory.specs.State.{EndedTx, ended_of, State, StampedTx, ActiveTx, active_of, preparing_of}
use Rattle.mvo_theory.proofs.Cases.{not_there_by, do_cases, precommit_cases, validate_none, settle_none, validate_not, settle_not, rollback_none, finish_none, ended_in, or_flagged, not_active, not_preparing, not_done_at, not_op, not_prepared, not_settled_at, not_checked_at, is_ended_in, none_refusal}
use Rattle.mvo_theory.specs.Causes.{why_not_do, why_not_precommit, why_not_settle, why_not_validate, is_failure, why_not_rollback, why_not_finish}
use Rattle.mvo_theory.proofs.Each.{each_always}
use Rattle.mvo_theory.proofs.Phases.{IsUnended}

-- ---- the one that is found
none_some : (r : ActiveTx) → ◌≡◌ {A = Option ActiveTx} None (Some r) → ⊥
none_some r q = cc

some_same : (q r : ActiveTx) → ◌≡◌ {A = Option ActiveTx} (Some q) (Some r) → q ≡ r
some_same q r e = cc

pub active_holds : (P : ActiveTx → Type 0) (t : ℕ) (rs : List ActiveTx) (r : ActiveTx) → active_of t rs ≡ Some r → AllByRecursion P rs → P r × (r.id ≡ t)
active_holds P t [] r e h = absurd (none_some r e)
active_holds P t (q ∷ qs) r e h = go (q.id == t) refl e (λ f. active_holds P t qs r f h.1)
  where
    go : (b : Bool) → (q.id == t) ≡ b → cond b (Some q) (active_of t qs) ≡ Some r → (active_of t qs ≡ Some r → P r × (r.id ≡ t)) → P r × (r.id ≡ t)
    go true f g k = let is = some_same q r g in (subst P is h.0, subst (λ (p : ActiveTx). p.id ≡ t) is (eqb-true q.id t f))
    go false f g k = k g

pub id_of : (t : ℕ) (rs : List ActiveTx) (r : ActiveTx) → active_of t rs ≡ Some r → r.id ≡ t
id_of t rs r e = (active_holds (λ q. ⊤) t rs r e (each_always (λ q. ⊤) (λ q. tt) rs)).1

some_refusal : (v w : Refusal) → ◌≡◌ {A = Option Refusal} (Some v) (Some w) → v ≡ w
some_refusal v w e = cc

there : {X : Type 0} (w : Option X) (f : Option X → Option Refusal) (r : Refusal) → f None ≡ Some r → f w ≡ None → (x : X) × (w ≡ Some x)
there None f r e n = absurd (none_refusal r (sym e ∙ n))
there (Some x) f r e n = (x, refl)

-- ---- one that is Active, where nothing stands in the way
done_at : (s : State) (t : ℕ) (why : ActiveTx → Option Refusal) (w : Option ActiveTx) → not_done_at s t why w ≡ None → (r : ActiveTx) × (w ≡ Some r) × (r.aborted_dependency ≡ None) × (why r ≡ None)
done_at s t why None n = absurd (none_refusal (not_active s t) n)
done_at s t why (Some r) n = go r.aborted_dependency refl n
  where
    go : (d : Option ℕ) → r.aborted_dependency ≡ d → or_flagged d (why r) ≡ None → (q : ActiveTx) × (Some r ≡ Some q) × (q.aborted_dependency ≡ None) × (why q ≡ None)
    go None e h = (r, refl, e, h)
    go (Some x) e h = absurd (none_refusal (DependencyAborted (record { 0 = x })) h)

pub active_done : (s : State) (t : ℕ) (op : Op) → why_not_do s t op ≡ None → (r : ActiveTx) × (active_of t s.active ≡ Some r) × (r.aborted_dependency ≡ None) × (not_op s op r ≡ None)
active_done s t op n = done_at s t (not_op s op) (active_of t s.active) (sym (do_cases s t op) ∙ n)

pub active_after_prepare : (s : State) (t : ℕ) → why_not_precommit s t ≡ None → (r : ActiveTx) × (active_of t s.active ≡ Some r) × (r.aborted_dependency ≡ None) × (not_prepared s r ≡ None)
active_after_prepare s t n = done_at s t (not_prepared s) (active_of t s.active) (sym (precommit_cases s t) ∙ n)

pub preparing_after_check : (s : State) (t : ℕ) → why_not_validate s t ≡ None → (x : StampedTx) × (preparing_of t s.stamped ≡ Some x)
preparing_after_check s t n = there (preparing_of t s.stamped) (not_checked_at s t) (not_preparing s t) refl (validate_none s t n)

pub preparing_settled : (s : State) (t : ℕ) → why_not_settle s t ≡ None → (x : StampedTx) × (preparing_of t s.stamped ≡ Some x)
preparing_settled s t n = there (preparing_of t s.stamped) (not_settled_at s t) (not_preparing s t) refl (settle_none s t n)

-- ---- one that a refusal aborts is Active or Preparing
pub unended_rolled_back : (s : State) (t : ℕ) → why_not_rollback s t ≡ None → IsUnended s t
unended_rolled_back s t n e = rollback_none s t n e

fails_there : (a : Bool) (u : Option EndedTx) → is_failure (cond a NotActive (not_there_by u)) ≡ true → ⊥
fails_there true u q = false≢true q
fails_there false None q = false≢true q
fails_there false (Some u) q = false≢true q

unended_at : (s : State) (t : ℕ) (why : ActiveTx → Option Refusal) (r : Refusal) → not_done_at s t why (active_of t s.active) ≡ Some r → is_failure r ≡ true → IsUnended s t
unended_at s t why r n f e = go (active_of t s.active) refl
  where
    go : (w : Option ActiveTx) → active_of t s.active ≡ w → (q : ActiveTx) × (active_of t s.active ≡ Some q)
    go (Some q) g = (q, g)
    go None g = absurd (fails_there (is_some (preparing_of t s.stamped)) (ended_of t s.ended)
        (ap is_failure (some_refusal (not_active s t) r (sym (ap (not_done_at s t why) g) ∙ n)) ∙ f))

pub unended_done : (s : State) (t : ℕ) (op : Op) (r : Refusal) → why_not_do s t op ≡ Some r → is_failure r ≡ true → IsUnended s t
unended_done s t op r n f = unended_at s t (not_op s op) r (sym (do_cases s t op) ∙ n) f

pub unended_after_prepare : (s : State) (t : ℕ) (r : Refusal) → why_not_precommit s t ≡ Some r → is_failure r ≡ true → IsUnended s t
unended_after_prepare s t r n f = unended_at s t (not_prepared s) r (sym (precommit_cases s t) ∙ n) f

fails_preparing : (a : Bool) (u : Option EndedTx) → is_failure (cond a NotPreparing (not_there_by u)) ≡ true → ⊥
fails_preparing true u q = false≢true q
fails_preparing false None q = false≢true q
fails_preparing false (Some u) q = false≢true q

pub unended_after_check : (s : State) (t : ℕ) (r : Refusal) → why_not_validate s t ≡ Some r → is_failure r ≡ true → IsUnended s t
unended_after_check s t r c f e = absurd (fails_preparing (is_some (active_of t s.active)) (ended_of t s.ended) (ap is_failure (some_refusal (not_preparing s t) r (sym (validate_not s t e) ∙ c)) ∙ f))

pub unended_settled : (s : State) (t : ℕ) (r : Refusal) → why_not_settle s t ≡ Some r → is_failure r ≡ true → IsUnended s t
unended_settled s t r c f e = absurd (fails_preparing (is_some (active_of t s.active)) (ended_of t s.ended) (ap is_failure (some_refusal (not_preparing s t) r (sym (settle_not s t e) ∙ c)) ∙ f))

pub ended_finished : (s : State) (t : ℕ) → why_not_finish s t ≡ None → is_ended_in s t ≡ true
ended_finished s t n = let u = finish_none s t n in ended_in t s.ended u.0 u.1
