-- Works that were all made on this core: each call keeps them so, and each list of calls.
use Rattle.std.proofs.Common.{◌≡◌, ◌≢◌, ℕ, ◌≤◌, ◌+◌, Bool, true, false, cond, not, ◌||◌, List, [], ◌∷◌, Option, None, Some, map, refl, sym, ap, subst, arith}
use Rattle.std.specs.Prelude.{◌==◌}
use Rattle.std.specs.List.{AllByRecursion, filter}
use Rattle.std.specs.Option.{option_map}
use Rattle.std.proofs.lemmas.Bool.{true≢false, eqb-true}
use Rattle.mvo_types.specs.declared.refusal.Refusal.{Refusal}
use Rattle.mvo_types.specs.Keys.{Map}
use Rattle.mvo_theory.specs.State.{State, opened, StampedTx, EndedTx, preparing_of}
use Rattle.mvo_theory.specs.Words.{words_left, is_done}
use Rattle.mvo_theory.specs.Changes.{with_words, with_settled, without_ended, after_finish, with_flag, active_with_flag, not_at, after_trim}
use Rattle.mvo_theory.specs.Causes.{awaited, is_failure}
use Rattle.mvo_theory.specs.Steps.{after_precommit_of, after_commit_of, after_settle_unless, after_settle, after_abort_of, after_abort, after_refusal}
use Rattle.mvo_theory.specs.Sound.{IsActive, IsPlaced, IsRising, IsSound}
use Rattle.mvo_theory.specs.Calls.{Call, after_refused}
use Rattle.mvo_theory.specs.Calls.Call.{Begin, Do, Precommit, Validate, Settle, Rollback, Finish, Trim, Close}
use Rattle.mvo_theory.proofs.Each.{each_weaker, each_both, each_map, each_filter}
use Rattle.mvo_theory.proofs.Stamped.{each_part}
use Rattle.mvo_theory.proofs.Ends.{like_settled, spared}
use Rattle.mvo_theory.proofs.Commits.{split_at}
use Rattle.mvo_theory.proofs.AfterTrace.{alone_open}
use Rattle.mvo_theory.proofs.Trim.{is_after, IsTrim}
use Rattle.mvo_theory.proofs.Trimmed.{may_trim}
use Rattle.mvo_shared.specs.Kept.{WorkContent, IsWork, after_op}
use Rattle.mvo_shared.specs.Shared.{AllTaken, looked_of, with_taken, AreSeen, IsOwnWork, WorksById, AreOwnWorks, with_work, with_valid, after_valid}
use Rattle.mvo_shared.specs.Given.{rows_to, GivenState, GivenResult, why_not_given, MayComeGiven, one_more_checked, is_last_look, after_check_given, after_took, after_given, with_new_state}
use Rattle.mvo_shared.specs.Given.GivenRefusal.{Because, WorkMismatch}
use Rattle.mvo_shared.specs.Given.GivenResult.{Took, Denied}
use Rattle.mvo_shared.specs.Held.{IsHeldGiven, empty_work, work_for, works_after_took, works_after, OwnCall, MayRunOwn, IsToldOwn, AreToldOwn}
use Rattle.mvo_shared.proofs.Seen.{seen_aborted, seen_to}
use Rattle.mvo_shared.proofs.Works.{work_empty, work_after_op}
use Rattle.mvo_shared.proofs.Own.{own_aborted, own_to}
use Rattle.mvo_shared.proofs.GivenCauses.{given_done, given_prepared}
use Rattle.mvo_shared.proofs.GivenSteps.{held_after}
use Rattle.mvo_shared.proofs.OwnRuns.{told_by, own_told, never_denied}
use Rattle.mvo_shared.proofs.OwnSteps.{IsSeenTaken, IsOwnActive, own_after_begin, own_after_do, own_after_prepare, own_mapped}

abbrev pub AreOwn : GivenState → WorksById → Type 0
AreOwn g works = AreOwnWorks g.state g.taken works

-- ---- a check
own_taken : (s : State) (all more : AllTaken) (works : WorksById) → ((n : ℕ) → looked_of (more n) ≡ looked_of (all n)) → AreOwnWorks s all works → AreOwnWorks s more works
own_taken s all more works same h = record {
  active = h.active;
  preparing = each_weaker (IsSeenTaken s all) (IsSeenTaken s more) (λ x q o d. subst (λ looked. AreSeen s.base s.stamped x.id x.depends_on looked) (sym (same x.end)) (q o d)) s.stamped h.preparing;
}

same_looks : (all : AllTaken) (e n : ℕ) → looked_of (one_more_checked all e n) ≡ looked_of (all n)
same_looks all e n = go (n == e) refl
  where
    go : (b : Bool) → n == e ≡ b → looked_of (cond b (record { work = (all e).work; checked = (all e).checked + 1 }) (all n)) ≡ looked_of (all n)
    go true i = ap (λ m. looked_of (all m)) (sym (eqb-true n e i))
    go false i = refl

own_checked : (s : State) (all : AllTaken) (works : WorksById) (v : Option StampedTx) → AreOwnWorks s all works → AreOwn (after_check_given (record { state = s; taken = all }) v) works
own_checked s all works None h = h
own_checked s all works (Some x) h = go x.valid
  where
    more : AllTaken
    more = one_more_checked all x.end

    last : (b : Bool) → AreOwnWorks (cond b (after_valid s x.end) s) more works
    last true = own_mapped (with_valid x.end) (λ y. (refl, refl, λ q. q, refl)) s all more works (λ y. same_looks all x.end y.end) (λ y q. q) (λ y. refl) (λ y. refl) (λ y. refl) h
    last false = own_taken s all more works (same_looks all x.end) h

    go : (b : Bool) → AreOwn (cond b (record { state = s; taken = all }) (record { state = cond (is_last_look (all x.end)) (after_valid s x.end) s; taken = more })) works
    go true = h
    go false = last (is_last_look (all x.end))

-- ---- settle
own_ended : (s : State) (all : AllTaken) (works : WorksById) (ended : List EndedTx) → AreOwnWorks s all works → AreOwnWorks (record s { ended = ended }) all works
own_ended s all works ended h = record { active = h.active; preparing = h.preparing }

still_open : (a b : Bool) → (a || b) ≡ false → a ≡ false
still_open true b h = absurd (true≢false h)
still_open false b h = refl

own_settled : (s : State) (all : AllTaken) (works : WorksById) (t : ℕ) → AreOwnWorks s all works → AreOwnWorks (after_settle s t) all works
own_settled s all works t h = go (awaited s t)
  where
    committed : (v : Option StampedTx) → AreOwnWorks (after_commit_of s t v) all works
    committed None = h
    committed (Some x) = let q = own_mapped (with_settled x.end) (like_settled x.end) s all all works (λ y. refl) (λ y o. still_open y.settled (y.end == x.end) o) (λ y. refl) (λ y. refl) (λ y. refl) h in record { active = q.active; preparing = q.preparing }

    go : (v : Option StampedTx) → AreOwnWorks (after_settle_unless s t v) all works
    go (Some y) = h
    go None = committed (preparing_of t s.stamped)

-- ---- an abort
own_gone : (s : State) (all : AllTaken) (works : WorksById) (t : ℕ) → IsSound s → AreOwnWorks s all works → AreOwnWorks (after_abort s t) all works
own_gone s all works t sound h = go (preparing_of t s.stamped) refl
  where
    go : (v : Option StampedTx) → preparing_of t s.stamped ≡ v → AreOwnWorks (after_abort_of s t v) all works
    go None e = record { active = each_filter (λ r. not (r.id == t)) (IsOwnActive s works) (IsOwnActive s works) (λ r _ q. q) s.active h.active; preparing = h.preparing }
    go (Some x) e =
        let p = split_at t s.stamped x e in
        let alone : AllByRecursion (λ y. y.end ≡ x.end → y.settled ≡ false) s.stamped = subst (AllByRecursion (λ y. y.end ≡ x.end → y.settled ≡ false)) (sym p.2) (alone_open p.0 p.1 x p.4 (subst IsRising p.2 sound.rising)) in
        let rest = filter (not_at x.end) s.stamped in
        let f = with_flag t x.end in
        record {
          active = each_map (active_with_flag t x.end) (IsOwnActive s works) (λ r. IsOwnWork s.base (map f rest) r (works r.id)) (λ r q. own_aborted s.base s.stamped t x.end r (works r.id) alone q) s.active h.active;
          preparing = each_map f (IsSeenTaken s all) (λ y. y.settled ≡ false → y.aborted_dependency ≡ None → AreSeen s.base (map f rest) y.id y.depends_on (looked_of (all y.end)))
              (λ y q o n. let z = spared t x.end y.depends_on y.aborted_dependency n in seen_aborted s.base s.stamped t x.end y.id y.depends_on (looked_of (all y.end)) alone z.1 (q o z.0)) rest (each_part (not_at x.end) (IsSeenTaken s all) s.stamped h.preparing);
        }

own_failed : (s : State) (all : AllTaken) (works : WorksById) (t : ℕ) (r : Refusal) → IsSound s → AreOwnWorks s all works → AreOwnWorks (after_refusal s t r) all works
own_failed s all works t r sound h = go (is_failure r)
  where
    go : (b : Bool) → AreOwnWorks (cond b (after_abort s t) s) all works
    go true = own_gone s all works t sound h
    go false = h

-- ---- finishing, a trim
own_finished : (s : State) (all : AllTaken) (works : WorksById) (t : ℕ) → AreOwnWorks s all works → AreOwnWorks (after_finish s t) all works
own_finished s all works t h = go (is_done s t)
  where
    go : (b : Bool) → AreOwnWorks (cond b (record s { ended = without_ended t s.ended }) (with_words (words_left t) s)) all works
    go true = own_ended s all works (without_ended t s.ended) h
    go false = record { active = h.active; preparing = h.preparing }

own_trimmed : (s : State) (all : AllTaken) (works : WorksById) (m : ℕ) → IsTrim m s → IsSound s → AreOwnWorks s all works → AreOwnWorks (after_trim s m) all works
own_trimmed s all works m t sound h = record {
  active = each_both (λ r. IsActive s.base s.stamped s.clock r × (m ≤ r.id)) (IsOwnActive s works) (λ r. IsOwnWork (after_trim s m).base (after_trim s m).stamped r (works r.id)) (λ r p q. own_to m s.base s.stamped r (works r.id) sound.rising t.settled p.1 p.0.others q) s.active
      (each_both (IsActive s.base s.stamped s.clock) (λ r. m ≤ r.id) (λ r. IsActive s.base s.stamped s.clock r × (m ≤ r.id)) (λ r a b. (a, b)) s.active sound.active t.active) h.active;
  preparing = each_part (is_after m) (λ x. x.settled ≡ false → x.aborted_dependency ≡ None → AreSeen (after_trim s m).base (after_trim s m).stamped x.id x.depends_on (looked_of (all x.end))) s.stamped
      (each_both (λ x. IsPlaced s.stamped s.clock x × (x.settled ≡ false → m ≤ x.id)) (IsSeenTaken s all) (λ x. x.settled ≡ false → x.aborted_dependency ≡ None → AreSeen (after_trim s m).base (after_trim s m).stamped x.id x.depends_on (looked_of (all x.end)))
      (λ x p q o n. seen_to m s.base s.stamped x.id x.depends_on (looked_of (all x.end)) sound.rising t.settled (p.1 o) p.0.others (q o n)) s.stamped
      (each_both (IsPlaced s.stamped s.clock) (λ x. x.settled ≡ false → m ≤ x.id) (λ x. IsPlaced s.stamped s.clock x × (x.settled ≡ false → m ≤ x.id)) (λ x a b. (a, b)) s.stamped sound.placed t.preparing) h.preparing);
}

-- ---- each call
no_cause : (w : Option Refusal) → option_map Because w ≡ None → w ≡ None
no_cause None e = refl
no_cause (Some q) e = cc

own_took : (opening : Map) (g : GivenState) (works : WorksById) (c : Call) → why_not_given g (work_for works c) c ≡ None → IsHeldGiven opening g → AreOwn g works → AreOwn (after_took g (work_for works c) c) (works_after_took g works c)
own_took opening g works Begin n k h = own_after_begin g.state g.taken works (g.state.clock + 1) (omega arith) k.shared.sound h
own_took opening g works (Do t op) n k h =
    let f = given_done g.state t (works t) op n in
    own_after_do g.state g.taken works t op f.0 f.1.here f.1.unflagged (told_by g.state g.taken works t op f.0 f.1.here f.1.unflagged k.standing.numbered h) k.standing.numbered k.shared.sound h
own_took opening g works (Precommit t) n k h =
    let f = given_prepared g.state t (works t) n in
    subst (λ (q : State). AreOwnWorks q (with_taken g.taken (g.state.clock + 1) (record { work = works t; checked = 0 })) works) (sym (ap (after_precommit_of g.state) f.1))
    (own_after_prepare g.state g.taken works t f.0 f.1 f.2 k.shared.sound h)
own_took opening g works (Validate t) n k h = own_checked g.state g.taken works (preparing_of t g.state.stamped) h
own_took opening g works (Settle t) n k h = own_settled g.state g.taken works t h
own_took opening g works (Rollback t) n k h = own_gone g.state g.taken works t k.shared.sound h
own_took opening g works (Finish t) n k h = own_finished g.state g.taken works t h
own_took opening g works (Trim m) n k h = own_trimmed g.state g.taken works m (may_trim g.state m (no_cause _ n) k.shared.sound) k.shared.sound h
own_took opening g works (Close fits group full) n k h = record { active = h.active; preparing = h.preparing }

own_refused : (g : GivenState) (works : WorksById) (c : Call) (r : Refusal) → IsSound g.state → AreOwn g works → AreOwn (with_new_state g (after_refused g.state c r)) works
own_refused g works Begin r sound h = h
own_refused g works (Do t op) r sound h = own_failed g.state g.taken works t r sound h
own_refused g works (Precommit t) r sound h = own_failed g.state g.taken works t r sound h
own_refused g works (Validate t) r sound h = own_failed g.state g.taken works t r sound h
own_refused g works (Settle t) r sound h = own_failed g.state g.taken works t r sound h
own_refused g works (Rollback t) r sound h = h
own_refused g works (Finish t) r sound h = h
own_refused g works (Trim m) r sound h = h
own_refused g works (Close fits group full) r sound h = h

pub own_after : (opening : Map) (g : GivenState) (works : WorksById) (c : Call) (r : GivenResult) → MayComeGiven g (work_for works c) c r → IsHeldGiven opening g → AreOwn g works → AreOwn (after_given g (work_for works c) c r) (works_after g works c r)
own_after opening g works c Took m k h = own_took opening g works c m.0 k h
own_after opening g works c (Denied (Because r)) m k h = own_refused g works c r k.shared.sound h
own_after opening g works c (Denied WorkMismatch) m k h = h

-- ---- each list of calls
abbrev pub AreWorks : WorksById → Type 0
AreWorks works = (n : ℕ) → IsWork (works n)

works_with : (works : WorksById) (t : ℕ) (w : WorkContent) → IsWork w → AreWorks works → AreWorks (with_work works t w)
works_with works t w h a n = go (n == t)
  where
    go : (b : Bool) → IsWork (cond b w (works n))
    go true = h
    go false = a n

works_now : (g : GivenState) (works : WorksById) (c : Call) → AreWorks works → IsWork (work_for works c) × AreWorks (works_after_took g works c)
works_now g works Begin a = (work_empty, works_with works (g.state.clock + 1) empty_work work_empty a)
works_now g works (Do t op) a = (a t, works_with works t (after_op (works t) op (rows_to g.state t op)) (work_after_op (works t) op (rows_to g.state t op) (a t)) a)
works_now g works (Precommit t) a = (a t, a)
works_now g works (Validate t) a = (work_empty, a)
works_now g works (Settle t) a = (work_empty, a)
works_now g works (Rollback t) a = (work_empty, a)
works_now g works (Finish t) a = (work_empty, a)
works_now g works (Trim m) a = (work_empty, a)
works_now g works (Close fits group full) a = (work_empty, a)

works_still : (g : GivenState) (works : WorksById) (c : Call) (r : GivenResult) → AreWorks works → AreWorks (works_after g works c r)
works_still g works c Took a = (works_now g works c a).1
works_still g works c (Denied r) a = a

told_one : (opening : Map) (g : GivenState) (works : WorksById) (c : Call) (r : GivenResult) → MayComeGiven g (work_for works c) c r → IsHeldGiven opening g → AreOwn g works → IsToldOwn g works c r
told_one opening g works (Do t op) Took m k h = own_told g works t op k.standing.numbered h m.0
told_one opening g works (Do t op) (Denied r) m k h = tt
told_one opening g works Begin r m k h = tt
told_one opening g works (Precommit t) r m k h = tt
told_one opening g works (Validate t) r m k h = tt
told_one opening g works (Settle t) r m k h = tt
told_one opening g works (Rollback t) r m k h = tt
told_one opening g works (Finish t) r m k h = tt
told_one opening g works (Trim n) r m k h = tt
told_one opening g works (Close fits group full) r m k h = tt

not_mismatched : (g : GivenState) (works : WorksById) (c : Call) (r : GivenResult) → MayComeGiven g (work_for works c) c r → AreOwn g works → r ≢ Denied WorkMismatch
not_mismatched g works c r m h e = never_denied g works c h (subst (MayComeGiven g (work_for works c) c) e m)

pub own_run : (opening : Map) (g : GivenState) (works : WorksById) (cs : List OwnCall) → MayRunOwn g works cs → AreWorks works → IsHeldGiven opening g → AreOwn g works → AreToldOwn g works cs
own_run opening g works [] m a k h = tt
own_run opening g works (c ∷ cs) m a k h = (
  not_mismatched g works c.call c.result m.0 h,
  told_one opening g works c.call c.result m.0 k h,
  own_run opening (after_given g (work_for works c.call) c.call c.result) (works_after g works c.call c.result) cs m.1 (works_still g works c.call c.result a)
      (held_after opening g (work_for works c.call) c.call c.result (works_now g works c.call a).0 m.0 k) (own_after opening g works c.call c.result m.0 k h),
)

pub own_opened : (rows : Map) (mark : ℕ) (all : AllTaken) (works : WorksById) → AreOwnWorks (opened rows mark) all works
own_opened rows mark all works = record { active = tt; preparing = tt }
