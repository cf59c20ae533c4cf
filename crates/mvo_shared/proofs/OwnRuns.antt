-- Works that were all made on this core: each call keeps them so, none meets a mismatch, and each operation is told what the serial step answers on the snapshot.
use Rattle.std.proofs.Common.{suc, zero, ◌≡◌, ℕ, Bool, true, false, not, List, [], ◌∷◌, Option, None, Some, refl, sym, ap, ◌∙◌, subst}
use Rattle.std.specs.Prelude.{◌&&◌, slice_get, nat_le}
use Rattle.std.specs.List.{AllByRecursion}
use Rattle.std.specs.Option.{option_map}
use Rattle.std.proofs.lemmas.Bool.{true≢false}
use Rattle.mvo_types.specs.declared.op.Op.{Op}
use Rattle.mvo_types.specs.declared.refusal.Refusal.{Refusal}
use Rattle.mvo_types.specs.declared.refusal.Refusal.TheVariants.{NoSuchTransaction, Ended, NotActive, NotPreparing, DependencyAborted, ClockSpent, OutOfMemory}
use Rattle.mvo_types.specs.declared.limits.TheConstants.{MAX_STAMP}
use Rattle.mvo_types.specs.Causes.{when}
use Rattle.mvo_model.specs.Serial.{answer_to}
use Rattle.mvo_model.specs.History.{after_history}
use Rattle.mvo_theory.specs.Entries.{entry_of}
use Rattle.mvo_theory.specs.State.{State, ActiveTx, StampedTx, EndedTx, Outcome, active_of, preparing_of, ended_of, seen_by, snapshot}
use Rattle.mvo_theory.specs.State.Outcome.{Committed, Aborted}
use Rattle.mvo_theory.specs.Causes.{flagged}
use Rattle.mvo_theory.specs.Sound.{IsNumbered}
use Rattle.mvo_theory.specs.Calls.{Call, why_not, answer_in, takes_memory}
use Rattle.mvo_theory.specs.Calls.Call.{Begin, Do, Precommit, Validate, Settle, Rollback, Finish, Trim, Close}
use Rattle.mvo_theory.proofs.Each.{each_back}
use Rattle.mvo_theory.proofs.Commits.{split_at}
use Rattle.mvo_theory.proofs.Who.{active_holds, id_of}
use Rattle.mvo_theory.proofs.Kept.{sees}
use Rattle.mvo_shared.specs.Kept.{Looked, with_looked, answer_kept}
use Rattle.mvo_shared.specs.Shared.{AllTaken, looked_of, AreSeen, IsOwnWork, WorksById, AreOwnWorks}
use Rattle.mvo_shared.specs.Causes.{next_looked}
use Rattle.mvo_shared.specs.Given.{GivenRefusal, GivenState, if_mismatch, among, or_behind, first_given, rows_to, answer_given, look_differs, op_causes, writes_differ, next_changed, entry_mismatches, next_mismatches, why_not_given, IsGivenRefusal, MayComeGiven}
use Rattle.mvo_shared.specs.Given.GivenRefusal.{Because, WorkMismatch}
use Rattle.mvo_shared.specs.Given.GivenResult.{Denied}
use Rattle.mvo_shared.specs.Held.{work_for}
use Rattle.mvo_shared.proofs.Own.{one_of_seen, own_answer}
use Rattle.mvo_shared.proofs.Causes.{no_look_test, no_entry_test}
use Rattle.mvo_shared.proofs.Written.{test_by_same}
use Rattle.mvo_shared.proofs.GivenCauses.{given_head, given_prepared_head, given_done}

-- ---- no mismatch
not_because : (q : Refusal) → ◌≡◌ {A = Option GivenRefusal} (Some (Because q)) (Some WorkMismatch) → ⊥
not_because q e = cc

none_mismatch : ◌≡◌ {A = Option GivenRefusal} None (Some WorkMismatch) → ⊥
none_mismatch e = cc

other_cause : (w : Option Refusal) → option_map Because w ≡ Some WorkMismatch → ⊥
other_cause None e = none_mismatch e
other_cause (Some q) e = not_because q e

among_never : (cs : List (Option Refusal)) → first_given (among cs) ≡ Some WorkMismatch → ⊥
among_never [] e = none_mismatch e
among_never (None ∷ cs) e = among_never cs e
among_never (Some q ∷ cs) e = not_because q e

head_mismatch : (v : Option ActiveTx) (w : Option StampedTx) (u : Option EndedTx) (rest : Option GivenRefusal) → given_head v w u rest ≡ Some WorkMismatch → (r : ActiveTx) × (v ≡ Some r) × (r.aborted_dependency ≡ None) × (rest ≡ Some WorkMismatch)
head_mismatch None (Some x) u rest h = absurd (not_because NotActive h)
head_mismatch None None None rest h = absurd (not_because NoSuchTransaction h)
head_mismatch None None (Some u) rest h = absurd (go u.outcome h)
  where
    go : (o : Outcome) → given_head None None (Some (record u { outcome = o })) rest ≡ Some WorkMismatch → ⊥
    go (Committed e) g = not_because Ended g
    go Aborted g = not_because Ended g
head_mismatch (Some r) w u rest h = go r.aborted_dependency refl h
  where
    go : (d : Option ℕ) → r.aborted_dependency ≡ d → or_behind (option_map Because (flagged d)) rest ≡ Some WorkMismatch → (q : ActiveTx) × (Some r ≡ Some q) × (q.aborted_dependency ≡ None) × (rest ≡ Some WorkMismatch)
    go None e g = (r, refl, e, g)
    go (Some x) e g = absurd (not_because (DependencyAborted (record { 0 = x })) g)

prepared_mismatch : (v : Option ActiveTx) (w : Option StampedTx) (u : Option EndedTx) (rest : Option GivenRefusal) → given_prepared_head v w u rest ≡ Some WorkMismatch → (x : StampedTx) × (w ≡ Some x) × (x.aborted_dependency ≡ None) × (rest ≡ Some WorkMismatch)
prepared_mismatch (Some r) w u rest h = absurd (not_because NotPreparing h)
prepared_mismatch None None None rest h = absurd (not_because NoSuchTransaction h)
prepared_mismatch None None (Some u) rest h = absurd (go u.outcome h)
  where
    go : (o : Outcome) → given_prepared_head None None (Some (record u { outcome = o })) rest ≡ Some WorkMismatch → ⊥
    go (Committed e) g = not_because Ended g
    go Aborted g = not_because Ended g
prepared_mismatch None (Some x) u rest h = go x.aborted_dependency refl h
  where
    go : (d : Option ℕ) → x.aborted_dependency ≡ d → or_behind (option_map Because (flagged d)) rest ≡ Some WorkMismatch → (y : StampedTx) × (Some x ≡ Some y) × (y.aborted_dependency ≡ None) × (rest ≡ Some WorkMismatch)
    go None e g = (x, refl, e, g)
    go (Some n) e g = absurd (not_because (DependencyAborted (record { 0 = n })) g)

behind_false : (b : Bool) (next : Option GivenRefusal) → b ≡ false → or_behind (if_mismatch b) next ≡ Some WorkMismatch → next ≡ Some WorkMismatch
behind_false true next n h = absurd (true≢false n)
behind_false false next n h = h

-- the work of the Active transaction that is found
own_found : (s : State) (all : AllTaken) (works : WorksById) (t : ℕ) (r : ActiveTx) → active_of t s.active ≡ Some r → AreOwnWorks s all works → IsOwnWork s.base s.stamped r (works t)
own_found s all works t r f h = let a = active_holds (λ q. IsOwnWork s.base s.stamped q (works q.id)) t s.active r f h.active in subst (λ (n : ℕ). IsOwnWork s.base s.stamped r (works n)) a.1 a.0

each_got : {X : Type 0} (P : X → Type 0) (xs : List X) (n : ℕ) (x : X) → AllByRecursion P xs → slice_get xs n ≡ Some x → P x
each_got P [] n x h e = absurd (nothing x e)
  where
    nothing : {X : Type 0} (x : X) → ◌≡◌ {A = Option X} None (Some x) → ⊥
    nothing x e = cc
each_got P (y ∷ ys) zero x h e = subst P (same y x e) h.0
  where
    same : {X : Type 0} (y x : X) → ◌≡◌ {A = Option X} (Some y) (Some x) → y ≡ x
    same y x e = cc
each_got P (y ∷ ys) (suc n) x h e = each_got P ys n x h.1 e

pub never_mismatched : (g : GivenState) (works : WorksById) (c : Call) → AreOwnWorks g.state g.taken works → why_not_given g (work_for works c) c ≡ Some WorkMismatch → ⊥
never_mismatched g works (Do t op) h e =
    let s = g.state in
    let f = head_mismatch (active_of t s.active) (preparing_of t s.stamped) (ended_of t s.ended) (or_behind (if_mismatch (look_differs s (active_of t s.active) (works t) op)) (first_given (among (op_causes s t (works t) op)))) e in
    let n = no_look_test s f.0 (works t) op f.2 (own_found s g.taken works t f.0 f.1 h) in
    among_never (op_causes s t (works t) op) (behind_false (look_differs s (active_of t s.active) (works t) op) (first_given (among (op_causes s t (works t) op))) (ap (λ v. look_differs s v (works t) op) f.1 ∙ n) f.3)
never_mismatched g works (Precommit t) h e =
    let s = g.state in
    let f = head_mismatch (active_of t s.active) (preparing_of t s.stamped) (ended_of t s.ended) _ e in
    let n = test_by_same f.0 (works t) (own_found s g.taken works t f.0 f.1 h).writes in
    among_never (when (nat_le MAX_STAMP s.clock) ClockSpent ∷ []) (behind_false (writes_differ (active_of t s.active) (works t)) (first_given (among (when (nat_le MAX_STAMP s.clock) ClockSpent ∷ []))) (ap (λ v. writes_differ v (works t)) f.1 ∙ n) f.3)
never_mismatched g works (Validate t) h e =
    let s = g.state in
    let f = prepared_mismatch (active_of t s.active) (preparing_of t s.stamped) (ended_of t s.ended) _ e in
    let p = split_at t s.stamped f.0 f.1 in
    let seen = (each_back (λ x. x.settled ≡ false → x.aborted_dependency ≡ None → AreSeen s.base s.stamped x.id x.depends_on (looked_of (g.taken x.end))) p.0 (f.0 ∷ p.1) (subst (AllByRecursion (λ x. x.settled ≡ false → x.aborted_dependency ≡ None → AreSeen s.base s.stamped x.id x.depends_on (looked_of (g.taken x.end)))) p.2 h.preparing)).0 p.4 f.2 in
    checks (next_changed g.taken s.stamped (preparing_of t s.stamped)) (next_mismatches g.taken s.base s.stamped (preparing_of t s.stamped)) (ap (next_mismatches g.taken s.base s.stamped) f.1 ∙ matched f.0 seen) f.3
  where
    matched : (x : StampedTx) → AreSeen g.state.base g.state.stamped x.id x.depends_on (looked_of (g.taken x.end)) → next_mismatches g.taken g.state.base g.state.stamped (Some x) ≡ false
    matched x seen = here (next_looked g.taken x.end) refl
      where
        none : (b : Bool) → (not b && false) ≡ false
        none true = refl
        none false = refl

        here : (v : Option Looked) → next_looked g.taken x.end ≡ v → (not x.valid && entry_mismatches g.state.base g.state.stamped x v) ≡ false
        here None q = none x.valid
        here (Some l) q = ap (λ c. not x.valid && c) (no_entry_test g.state.base g.state.stamped x l (each_got (λ k. AreSeen g.state.base g.state.stamped x.id x.depends_on (k ∷ [])) (looked_of (g.taken x.end)) (g.taken x.end).checked l (one_of_seen g.state.base g.state.stamped x.id x.depends_on (looked_of (g.taken x.end)) seen) q)) ∙ none x.valid

    checks : (w : Option Refusal) (b : Bool) → b ≡ false → or_behind (option_map Because w) (or_behind (if_mismatch b) None) ≡ Some WorkMismatch → ⊥
    checks (Some q) b n k = not_because q k
    checks None true n k = true≢false n
    checks None false n k = none_mismatch k
never_mismatched g works Begin h e = other_cause (why_not g.state Begin) e
never_mismatched g works (Settle t) h e = other_cause (why_not g.state (Settle t)) e
never_mismatched g works (Rollback t) h e = other_cause (why_not g.state (Rollback t)) e
never_mismatched g works (Finish t) h e = other_cause (why_not g.state (Finish t)) e
never_mismatched g works (Trim m) h e = other_cause (why_not g.state (Trim m)) e
never_mismatched g works (Close fits group full) h e = other_cause (why_not g.state (Close fits group full)) e

pub never_denied : (g : GivenState) (works : WorksById) (c : Call) → AreOwnWorks g.state g.taken works → MayComeGiven g (work_for works c) c (Denied WorkMismatch) → ⊥
never_denied g works c h m = go (takes_memory c) (why_not_given g (work_for works c) c) (never_mismatched g works c h) m
  where
    memory : ◌≡◌ {A = GivenRefusal} WorkMismatch (Because OutOfMemory) → ⊥
    memory e = cc

    go : (b : Bool) (v : Option GivenRefusal) → (v ≡ Some WorkMismatch → ⊥) → IsGivenRefusal b v WorkMismatch → ⊥
    go b (Some q) n k = n (ap Some (sym k))
    go true None n k = memory k
    go false None n k = k

-- ---- an operation is told what its snapshot answers
pub told_by : (s : State) (all : AllTaken) (works : WorksById) (t : ℕ) (op : Op) (r : ActiveTx) → active_of t s.active ≡ Some r → r.aborted_dependency ≡ None → IsNumbered s → AreOwnWorks s all works → answer_given s t (works t) op ≡ answer_in s t op
told_by s all works t op r f n d h =
    let is = id_of t s.active r f in
    let own = own_found s all works t r f h in
    ap (λ (u : ℕ). answer_kept (with_looked (works t).looked (entry_of op) (rows_to s u op)) (works t).history op) (sym is)
    ∙ own_answer s r (works t) op own n
    ∙ ap (answer_to op) (sym ((active_holds (λ q. q.id ≡ t → snapshot s t ≡ after_history q.history (seen_by s.base s.stamped q.id)) t s.active r f (sees s t d)).0 is))

pub own_told : (g : GivenState) (works : WorksById) (t : ℕ) (op : Op) → IsNumbered g.state → AreOwnWorks g.state g.taken works → why_not_given g (works t) (Do t op) ≡ None → answer_given g.state t (works t) op ≡ answer_in g.state t op
own_told g works t op d h n = let f = given_done g.state t (works t) op n in told_by g.state g.taken works t op f.0 f.1.here f.1.unflagged d h
