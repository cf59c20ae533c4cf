-- Whom a call of a core that is given works finds, where it is refused and where it isn't.
use Rattle.std.proofs.Common.{◌≡◌, ℕ, Bool, true, false, cond, not, List, [], ◌∷◌, Option, None, Some, refl, sym, ap, ◌∙◌, subst}
use Rattle.std.specs.Prelude.{◌&&◌, is_some}
use Rattle.std.specs.List.{AllByRecursion}
use Rattle.std.specs.Option.{option_map}
use Rattle.std.proofs.lemmas.Bool.{false≢true}
use Rattle.mvo_types.specs.declared.op.Op.{Op}
use Rattle.mvo_types.specs.declared.op.Op.TheVariants.{Read, Scan, Insert, Update, Delete}
use Rattle.mvo_types.specs.declared.cause.Cause.{Cause}
use Rattle.mvo_types.specs.declared.refusal.Refusal.{Refusal}
use Rattle.mvo_types.specs.declared.refusal.Refusal.TheVariants.{NoSuchTransaction, Ended, NotActive, NotPreparing, DependencyAborted, WriteConflict, ValidationFailed}
use Rattle.mvo_types.specs.Causes.{when}
use Rattle.mvo_theory.specs.State.{State, ActiveTx, StampedTx, EndedTx, Outcome, active_of, preparing_of, ended_of}
use Rattle.mvo_theory.specs.State.Outcome.{Committed, Aborted}
use Rattle.mvo_theory.specs.Phases.{phase_by, is_absent, is_ended, is_active, is_preparing}
use Rattle.mvo_theory.specs.Causes.{flagged, flag_of_active, flag_of_preparing, conflicts, differs, change_of, is_failure}
use Rattle.mvo_theory.proofs.Phases.{IsUnended}
use Rattle.mvo_shared.specs.Kept.{Looked, WorkContent}
use Rattle.mvo_shared.specs.Shared.{AllTaken}
use Rattle.mvo_shared.specs.Causes.{is_look_mismatch, is_write_mismatch, is_entry_mismatch, is_found, next_looked}
use Rattle.mvo_shared.specs.Given.{GivenRefusal, if_mismatch, among, or_behind, first_given, look_differs, conflict_given, op_causes, why_not_do_given, writes_differ, why_not_precommit_given, look_changed, next_changed, entry_mismatches, next_mismatches, why_not_validate_given}
use Rattle.mvo_shared.specs.Given.GivenRefusal.{Because, WorkMismatch}

-- ---- a list of which no cause stands
pub none_given : (r : GivenRefusal) → ◌≡◌ {A = Option GivenRefusal} (Some r) None → ⊥
none_given r e = cc

pub some_given : (q r : GivenRefusal) → ◌≡◌ {A = Option GivenRefusal} (Some q) (Some r) → q ≡ r
some_given q r e = cc

pub first_none : (cs : List (Option GivenRefusal)) → first_given cs ≡ None → AllByRecursion (λ c. c ≡ None) cs
first_none [] h = tt
first_none (None ∷ cs) h = (refl, first_none cs h)
first_none (Some r ∷ cs) h = absurd (none_given r h)

no_cause : (w : Option Refusal) → option_map Because w ≡ None → w ≡ None
no_cause None e = refl
no_cause (Some r) e = absurd (none_given (Because r) e)

no_mismatch : (b : Bool) → if_mismatch b ≡ None → b ≡ false
no_mismatch true e = absurd (none_given WorkMismatch e)
no_mismatch false e = refl

-- ---- the head that each call of an Active transaction has
abbrev pub given_head : Option ActiveTx → Option StampedTx → Option EndedTx → Option GivenRefusal → Option GivenRefusal
given_head r w u rest =
    or_behind (option_map Because (when (is_absent (phase_by r w u)) NoSuchTransaction)) (or_behind (option_map Because (when (is_ended (phase_by r w u)) Ended))
    (or_behind (option_map Because (when (is_preparing (phase_by r w u)) NotActive)) (or_behind (option_map Because (flagged (flag_of_active r))) rest)))

pub active_given : (v : Option ActiveTx) (w : Option StampedTx) (u : Option EndedTx) (rest : Option GivenRefusal) → given_head v w u rest ≡ None → (r : ActiveTx) × (v ≡ Some r) × (r.aborted_dependency ≡ None) × (rest ≡ None)
active_given None (Some x) u rest h = absurd (none_given (Because NotActive) h)
active_given None None None rest h = absurd (none_given (Because NoSuchTransaction) h)
active_given None None (Some u) rest h = go u.outcome h
  where
    go : (o : Outcome) → given_head None None (Some (record u { outcome = o })) rest ≡ None → (r : ActiveTx) × (◌≡◌ {A = Option ActiveTx} None (Some r)) × (r.aborted_dependency ≡ None) × (rest ≡ None)
    go (Committed e) g = absurd (none_given (Because Ended) g)
    go Aborted g = absurd (none_given (Because Ended) g)
active_given (Some r) w u rest h = go r.aborted_dependency refl h
  where
    go : (d : Option ℕ) → r.aborted_dependency ≡ d → or_behind (option_map Because (flagged d)) rest ≡ None → (q : ActiveTx) × (Some r ≡ Some q) × (q.aborted_dependency ≡ None) × (rest ≡ None)
    go None e g = (r, refl, e, g)
    go (Some x) e g = absurd (none_given (Because (DependencyAborted (record { 0 = x }))) g)

-- a failure comes of one that is Active
fails : (q r : Refusal) → ◌≡◌ {A = Option GivenRefusal} (Some (Because q)) (Some (Because r)) → is_failure q ≡ false → is_failure r ≡ true → ⊥
fails q r e n f = false≢true (sym n ∙ ap is_failure (same q r e) ∙ f)
  where
    same : (q r : Refusal) → ◌≡◌ {A = Option GivenRefusal} (Some (Because q)) (Some (Because r)) → q ≡ r
    same q r e = cc

pub active_failed : (v : Option ActiveTx) (w : Option StampedTx) (u : Option EndedTx) (rest : Option GivenRefusal) (r : Refusal) → given_head v w u rest ≡ Some (Because r) → is_failure r ≡ true → (q : ActiveTx) × (v ≡ Some q)
active_failed (Some q) w u rest r h f = (q, refl)
active_failed None (Some x) u rest r h f = absurd (fails NotActive r h refl f)
active_failed None None None rest r h f = absurd (fails NoSuchTransaction r h refl f)
active_failed None None (Some u) rest r h f = absurd (go u.outcome h)
  where
    go : (o : Outcome) → given_head None None (Some (record u { outcome = o })) rest ≡ Some (Because r) → ⊥
    go (Committed e) g = fails Ended r g refl f
    go Aborted g = fails Ended r g refl f

-- ---- and each call of a Preparing one
abbrev pub given_prepared_head : Option ActiveTx → Option StampedTx → Option EndedTx → Option GivenRefusal → Option GivenRefusal
given_prepared_head r w u rest =
    or_behind (option_map Because (when (is_absent (phase_by r w u)) NoSuchTransaction)) (or_behind (option_map Because (when (is_ended (phase_by r w u)) Ended))
    (or_behind (option_map Because (when (is_active (phase_by r w u)) NotPreparing)) (or_behind (option_map Because (flagged (flag_of_preparing w))) rest)))

pub preparing_given : (v : Option ActiveTx) (w : Option StampedTx) (u : Option EndedTx) (rest : Option GivenRefusal) → given_prepared_head v w u rest ≡ None → (x : StampedTx) × (w ≡ Some x) × (rest ≡ None)
preparing_given (Some r) w u rest h = absurd (none_given (Because NotPreparing) h)
preparing_given None None None rest h = absurd (none_given (Because NoSuchTransaction) h)
preparing_given None None (Some u) rest h = go u.outcome h
  where
    go : (o : Outcome) → given_prepared_head None None (Some (record u { outcome = o })) rest ≡ None → (x : StampedTx) × (◌≡◌ {A = Option StampedTx} None (Some x)) × (rest ≡ None)
    go (Committed e) g = absurd (none_given (Because Ended) g)
    go Aborted g = absurd (none_given (Because Ended) g)
preparing_given None (Some x) u rest h = go x.aborted_dependency h
  where
    go : (d : Option ℕ) → or_behind (option_map Because (flagged d)) rest ≡ None → (y : StampedTx) × (Some x ≡ Some y) × (rest ≡ None)
    go None g = (x, refl, g)
    go (Some n) g = absurd (none_given (Because (DependencyAborted (record { 0 = n }))) g)

pub preparing_failed : (v : Option ActiveTx) (w : Option StampedTx) (u : Option EndedTx) (rest : Option GivenRefusal) (r : Refusal) → given_prepared_head v w u rest ≡ Some (Because r) → is_failure r ≡ true → w ≡ None → ⊥
preparing_failed (Some q) (Some x) u rest r h f e = absurd (false≢true (ap is_some (sym e)))
preparing_failed None (Some x) u rest r h f e = absurd (false≢true (ap is_some (sym e)))
preparing_failed (Some q) None u rest r h f e = fails NotPreparing r h refl f
preparing_failed None None None rest r h f e = fails NoSuchTransaction r h refl f
preparing_failed None None (Some u) rest r h f e = go u.outcome h
  where
    go : (o : Outcome) → given_prepared_head None None (Some (record u { outcome = o })) rest ≡ Some (Because r) → ⊥
    go (Committed n) g = fails Ended r g refl f
    go Aborted g = fails Ended r g refl f

-- ---- an operation that isn't refused
behind_mismatch : (b : Bool) (next : Option GivenRefusal) → or_behind (if_mismatch b) next ≡ None → (b ≡ false) × (next ≡ None)
behind_mismatch true next h = absurd (none_given WorkMismatch h)
behind_mismatch false next h = (refl, h)

no_conflict_cause : (c : Option Cause) → option_map Because (conflicts c) ≡ None → c ≡ None
no_conflict_cause None e = refl
no_conflict_cause (Some c) e = absurd (none_given (Because (WriteConflict c)) e)

pub no_conflict : (s : State) (t : ℕ) (w : WorkContent) (op : Op) → first_given (among (op_causes s t w op)) ≡ None → conflict_given s t w op ≡ None
no_conflict s t w (Read k) h = refl
no_conflict s t w (Scan table lo hi) h = refl
no_conflict s t w (Insert row) h = no_conflict_cause (conflict_given s t w (Insert row)) (first_none (among (op_causes s t w (Insert row))) h).1.1.1.1.0
no_conflict s t w (Update row) h = no_conflict_cause (conflict_given s t w (Update row)) (first_none (among (op_causes s t w (Update row))) h).1.1.1.1.0
no_conflict s t w (Delete k) h = no_conflict_cause (conflict_given s t w (Delete k)) (first_none (among (op_causes s t w (Delete k))) h).1.1.1.0

pub record IsDone (s : State) (t : ℕ) (w : WorkContent) (op : Op) (r : ActiveTx) : Type 0 where
  pub here : active_of t s.active ≡ Some r
  pub unflagged : r.aborted_dependency ≡ None
  pub shown : is_look_mismatch s r w op ≡ false
  pub first : conflict_given s t w op ≡ None

pub given_done : (s : State) (t : ℕ) (w : WorkContent) (op : Op) → why_not_do_given s t w op ≡ None → (r : ActiveTx) × IsDone s t w op r
given_done s t w op h =
    let f = active_given (active_of t s.active) (preparing_of t s.stamped) (ended_of t s.ended) (or_behind (if_mismatch (look_differs s (active_of t s.active) w op)) (first_given (among (op_causes s t w op)))) h in
    let m = behind_mismatch (look_differs s (active_of t s.active) w op) (first_given (among (op_causes s t w op))) f.3 in (
      f.0,
      record { here = f.1; unflagged = f.2; shown = sym (ap (λ v. look_differs s v w op) f.1) ∙ m.0; first = no_conflict s t w op m.1 },
    )

pub do_failed : (s : State) (t : ℕ) (w : WorkContent) (op : Op) (r : Refusal) → why_not_do_given s t w op ≡ Some (Because r) → is_failure r ≡ true → IsUnended s t
do_failed s t w op r h f e = active_failed (active_of t s.active) (preparing_of t s.stamped) (ended_of t s.ended) (or_behind (if_mismatch (look_differs s (active_of t s.active) w op)) (first_given (among (op_causes s t w op)))) r h f

-- ---- a precommit
pub given_prepared : (s : State) (t : ℕ) (w : WorkContent) → why_not_precommit_given s t w ≡ None → (r : ActiveTx) × (active_of t s.active ≡ Some r) × (r.aborted_dependency ≡ None) × (is_write_mismatch r w ≡ false)
given_prepared s t w h =
    let f = active_given (active_of t s.active) (preparing_of t s.stamped) (ended_of t s.ended) _ h in
    let m = behind_mismatch (writes_differ (active_of t s.active) w) _ f.3 in
    (f.0, f.1, f.2, sym (ap (λ v. writes_differ v w) f.1) ∙ m.0)

pub precommit_failed : (s : State) (t : ℕ) (w : WorkContent) (r : Refusal) → why_not_precommit_given s t w ≡ Some (Because r) → is_failure r ≡ true → IsUnended s t
precommit_failed s t w r h f e = active_failed (active_of t s.active) (preparing_of t s.stamped) (ended_of t s.ended) _ r h f

-- ---- a check
pub given_checked : (s : State) (all : AllTaken) (t : ℕ) → why_not_validate_given s all t ≡ None → (x : StampedTx) × (preparing_of t s.stamped ≡ Some x) × (x.valid ≡ false → (l : Looked) → next_looked all x.end ≡ Some l → is_found s.base s.stamped x l ≡ true)
given_checked s all t h =
    let f = preparing_given (active_of t s.active) (preparing_of t s.stamped) (ended_of t s.ended) _ h in
    let here : first_given (option_map Because (next_changed all s.stamped (Some f.0)) ∷ if_mismatch (next_mismatches all s.base s.stamped (Some f.0)) ∷ []) ≡ None =
    subst (λ (v : Option StampedTx). first_given (option_map Because (next_changed all s.stamped v) ∷ if_mismatch (next_mismatches all s.base s.stamped v) ∷ []) ≡ None) f.1 f.2 in
    let g = first_none (option_map Because (next_changed all s.stamped (Some f.0)) ∷ if_mismatch (next_mismatches all s.base s.stamped (Some f.0)) ∷ []) here in
    (f.0, f.1, λ v l n. found f.0 l v n (no_cause (next_changed all s.stamped (Some f.0)) g.0) (no_mismatch (next_mismatches all s.base s.stamped (Some f.0)) g.1.0))
  where
    unchanged : (c : Option ℕ) → differs c ≡ None → is_some c ≡ false
    unchanged None e = refl
    unchanged (Some n) e = absurd (none_refusal (ValidationFailed (record { 0 = n })) e)
      where
        none_refusal : (w : Refusal) → ◌≡◌ {A = Option Refusal} (Some w) None → ⊥
        none_refusal w q = cc

    found : (x : StampedTx) (l : Looked) → x.valid ≡ false → next_looked all x.end ≡ Some l → next_changed all s.stamped (Some x) ≡ None → next_mismatches all s.base s.stamped (Some x) ≡ false → is_found s.base s.stamped x l ≡ true
    found x l v n c m =
        let changed : look_changed s.stamped x (Some l) ≡ None = sym (ap (λ b. cond b None (look_changed s.stamped x (next_looked all x.end))) v ∙ ap (look_changed s.stamped x) n) ∙ c in
        let differing : entry_mismatches s.base s.stamped x (Some l) ≡ false = sym (ap (λ b. not b && entry_mismatches s.base s.stamped x (next_looked all x.end)) v ∙ ap (entry_mismatches s.base s.stamped x) n) ∙ m in
        ap (λ b. not b && not (is_entry_mismatch s.base s.stamped x l)) (unchanged (change_of s.stamped x.id x.end l.entry) changed) ∙ ap not differing

pub check_failed : (s : State) (all : AllTaken) (t : ℕ) (r : Refusal) → why_not_validate_given s all t ≡ Some (Because r) → is_failure r ≡ true → IsUnended s t
check_failed s all t r h f e = absurd (preparing_failed (active_of t s.active) (preparing_of t s.stamped) (ended_of t s.ended) _ r h f e)
