-- A state knows whom its transactions rest on: each call keeps that.
use Rattle.std.proofs.Common.{◌≡◌, ◌≢◌, ℕ, ◌+◌, ◌≤◌, Bool, true, false, cond, not, ◌||◌, List, [], ◌∷◌, ◌++◌, Option, None, Some, length, refl, sym, ap, ◌∙◌, subst, ◌⊎◌, inl, inr, arith, append-nil}
use Rattle.std.specs.Prelude.{◌==◌, nat_le}
use Rattle.std.specs.List.{AllByRecursion, filter}
use Rattle.std.proofs.lemmas.Bool.{true≢false, false≢true, eqb-true, eq-eqb, ne_eqb, cases_eq}
use Rattle.std.proofs.lemmas.List.{length-append}
use Rattle.mvo_types.specs.declared.op.Op.{Op}
use Rattle.mvo_types.specs.declared.refusal.Refusal.{Refusal}
use Rattle.mvo_types.specs.declared.refusal.Refusal.TheVariants.{OutOfMemory}
use Rattle.mvo_types.specs.AnswerData.{AnswerData}
use Rattle.mvo_types.specs.Keys.{Map}
use Rattle.mvo_model.specs.Trace.{Step, history_by, history_of}
use Rattle.mvo_model.specs.Trace.Step.{Begins, Answers, Prepares, Checks, Commits, Aborts, Terminates}
use Rattle.mvo_theory.specs.Entries.{entry_of, entries}
use Rattle.mvo_theory.specs.State.{State, StampedTx, ActiveTx, Claim, opened, timeline, active_of, preparing_of}
use Rattle.mvo_theory.specs.Dependencies.{keys_for, unwritten, dependencies}
use Rattle.mvo_theory.specs.Claims.{new_claim}
use Rattle.mvo_theory.specs.Words.{is_done, words_left}
use Rattle.mvo_theory.specs.Changes.{new_active, after_begin, after_operation, with_answer, taken_over, with_words, after_prepare, to_stamped, with_check, after_check, with_settled, after_commit, aborted_dependency_after, with_flag, active_with_flag, not_at, after_abort_of_active, after_abort_of_preparing, after_termination, after_finish, is_to, after_trim, after_close}
use Rattle.mvo_theory.specs.Causes.{why_not_precommit, why_not_validate, why_not_settle, awaited, end_of, is_failure}
use Rattle.mvo_theory.specs.Steps.{after_precommit_of, after_precommit, after_validate_of, after_validate, after_commit_of, after_commit_now, after_settle_unless, after_settle, after_abort_of, after_abort, after_refusal, steps_of_refusal}
use Rattle.mvo_theory.specs.Traced.{is_abort_of}
use Rattle.mvo_theory.specs.Snapshots.{is_aborted}
use Rattle.mvo_theory.specs.Calls.{Call, Result, why_not, takes_memory, IsRefusal, MayCome, answer_in, after_accepted, after_refused, after_call, steps_unless, steps_of_accepted, steps_of_refused, steps_of, IsKept}
use Rattle.mvo_theory.specs.Calls.Call.{Begin, Do, Precommit, Validate, Settle, Rollback, Finish, Trim, Close}
use Rattle.mvo_theory.specs.Calls.Result.{Accepted, Refused}
use Rattle.mvo_theory.proofs.Each.{each_weaker, each_both, each_append, each_map}
use Rattle.mvo_theory.proofs.Stamped.{each_part}
use Rattle.mvo_theory.proofs.Apart.{IsIn}
use Rattle.mvo_theory.proofs.There.{IsThere, There}
use Rattle.mvo_theory.proofs.Exact.{depends_only, depends_all}
use Rattle.mvo_theory.proofs.Depends.{depends_more}
use Rattle.mvo_theory.proofs.LastWriter.{found_in}
use Rattle.mvo_theory.proofs.Phases.{IsUnended}
use Rattle.mvo_theory.proofs.Who.{active_holds, id_of, active_done, active_after_prepare, preparing_after_check, preparing_settled, unended_rolled_back, unended_done, unended_after_prepare, unended_after_check, unended_settled}
use Rattle.mvo_theory.proofs.Kept.{only_one}
use Rattle.mvo_theory.proofs.Traced.{still_open}
use Rattle.mvo_theory.specs.rests.Course.{Course, start_behind, trims_after, with_steps, with_trim}
use Rattle.mvo_theory.specs.rests.Resting.{DependsNow, RestsOn, RestsOnNoAborted}
use Rattle.mvo_theory.specs.rests.Known.{IsFlag, KnowsOne, KnowsRests}
use Rattle.mvo_theory.proofs.rests.Looking.{depends_in, depends_out}
use Rattle.mvo_theory.proofs.rests.Reached.{reached, in_timeline, its_end, its_id, unaborted}
use Rattle.mvo_theory.proofs.rests.Resting.{split_last, IsNoAnswer, AbortsNone, rests_later, aborted_push, knows_later, no_abort, start_trimmed, start_later, knows_trimmed, flag_aborted}

abbrev ActiveKnown : Course → ActiveTx → Type 0
ActiveKnown c r = KnowsOne c r.id r.depends_on r.aborted_dependency

abbrev OpenKnown : Course → StampedTx → Type 0
OpenKnown c x = x.settled ≡ false → KnowsOne c x.id x.depends_on x.aborted_dependency

-- ---- a step that says nothing of resting
-- the step is no answer and no abort
abbrev is_idle : Step → Bool
is_idle (Answers t op a) = false
is_idle (Aborts t) = false
is_idle y = true

idle_answers : (y : Step) (t : ℕ) → is_idle y ≡ true → IsNoAnswer t y
idle_answers (Answers u op' a') t i op a e = absurd (false≢true i)
idle_answers y t i op a e = cc

idle_aborts : (y : Step) (x : ℕ) → is_idle y ≡ true → is_abort_of x y ≡ false
idle_aborts (Answers u op a) x i = absurd (false≢true i)
idle_aborts (Aborts u) x i = absurd (false≢true i)
idle_aborts y x i = refl

-- where the history starts, behind one step more
known_with : (c : Course) (y : Step) (s s' : State) → s'.start ≡ s.start → KnowsRests c s → AllByRecursion (ActiveKnown (with_steps c (y ∷ []))) s'.active → AllByRecursion (OpenKnown (with_steps c (y ∷ []))) s'.stamped → KnowsRests (with_steps c (y ∷ [])) s'
known_with c y s s' e k a o =
    let l = length-append c.steps (y ∷ []) in
    record {
      start = start_later c.mark (length c.steps) (length (c.steps ++ y ∷ [])) c.trims (omega (arith, l)) k.earlier ∙ k.start ∙ sym e;
      earlier = each_weaker (λ d. d.0 ≤ length c.steps) (λ d. d.0 ≤ length (c.steps ++ y ∷ [])) (λ d le. omega (arith, l, le)) c.trims k.earlier;
      active = a;
      preparing = o;
    }

known_idle : (c : Course) (y : Step) (s s' : State) → is_idle y ≡ true → s'.start ≡ s.start → KnowsRests c s → AllByRecursion (ActiveKnown c) s'.active → AllByRecursion (OpenKnown c) s'.stamped → KnowsRests (with_steps c (y ∷ [])) s'
known_idle c y s s' i e k a o =
    let later : (t : ℕ) (ds : List ℕ) (f : Option ℕ) → KnowsOne c t ds f → KnowsOne (with_steps c (y ∷ [])) t ds f = λ t ds f. knows_later c y t ds f (idle_answers y t i) (λ x n _. idle_aborts y x i) in
    known_with c y s s' e k (each_weaker (ActiveKnown c) (ActiveKnown (with_steps c (y ∷ []))) (λ r g. later r.id r.depends_on r.aborted_dependency g) s'.active a)
    (each_weaker (OpenKnown c) (OpenKnown (with_steps c (y ∷ []))) (λ x g o. later x.id x.depends_on x.aborted_dependency (g o)) s'.stamped o)

-- no step
known_still : (c : Course) (s s' : State) → s'.start ≡ s.start → KnowsRests c s → AllByRecursion (ActiveKnown c) s'.active → AllByRecursion (OpenKnown c) s'.stamped → KnowsRests (with_steps c []) s'
known_still c s s' e k a o = subst (λ (xs : List Step). KnowsRests (record c { steps = xs }) s') (sym (append-nil c.steps)) (record { start = k.start ∙ sym e; earlier = k.earlier; active = a; preparing = o })

known_same : (c : Course) (s : State) → KnowsRests c s → KnowsRests (with_steps c []) s
known_same c s k = known_still c s s refl k k.active k.preparing

-- ---- begin
history_there : (t : ℕ) (before after : List Step) (op : Op) (a : AnswerData) → history_of t (before ++ (Answers t op a ∷ after)) ≡ [] → ⊥
history_there t [] after op a e = go (t == t) (eq-eqb t t refl) e
  where
    go : (b : Bool) → b ≡ true → cond b ((op, a) ∷ []) [] ++ history_of t after ≡ [] → ⊥
    go true f g = cc
    go false f g = false≢true f
history_there t (x ∷ xs) after op a e = history_there t xs after op a (no_back (history_by x t) (history_of t (xs ++ (Answers t op a ∷ after))) e)
  where
    no_back : {X : Type 0} (ys zs : List X) → ys ++ zs ≡ [] → zs ≡ []
    no_back [] zs f = f
    no_back (y ∷ ys) zs f = absurd cc

none_yet : (c : Course) (t x e : ℕ) → history_of t c.steps ≡ [] → RestsOn c t x e → ⊥
none_yet c t x e n h = history_there t h.before h.after h.op h.answer (sym (ap (history_of t) h.then') ∙ n)

known_begun : (c : Course) (s : State) → IsKept c.rows c.steps s → KnowsRests c s → KnowsRests (with_steps c (Begins (s.clock + 1) ∷ [])) (after_begin s (s.clock + 1))
known_begun c s k h =
    let t = s.clock + 1 in
    let none : (x e : ℕ) → RestsOn c t x e → ⊥ = λ x e. none_yet c t x e (k.after_trace.fresh t (omega arith)) in
    let new : KnowsOne c t [] None = record { all = λ x e r. absurd (none x e r); only = λ e r. absurd (false≢true r); flag = λ x e r. absurd (none x e r) } in
    known_idle c (Begins t) s (after_begin s t) refl refl h (each_append (ActiveKnown c) s.active (new_active t ∷ []) h.active (new, tt)) h.preparing

-- ---- an operation
same_op : (t u : ℕ) (op op' : Op) (a a' : AnswerData) → Answers t op a ≡ Answers u op' a' → op ≡ op'
same_op t u op op' a a' e = cc

same_owner : (t u : ℕ) (op op' : Op) (a a' : AnswerData) → Answers t op a ≡ Answers u op' a' → t ≡ u
same_owner t u op op' a a' e = cc

module _ (c : Course) (s : State) (t : ℕ) (op : Op) (a : AnswerData) (r : ActiveTx) (f : active_of t s.active ≡ Some r) (free : r.aborted_dependency ≡ None) (k : IsKept c.rows c.steps s) (h : KnowsRests c s) where
  abbrev after_it : Course
  after_it = with_steps c (Answers t op a ∷ [])

  mine : KnowsOne c t r.depends_on r.aborted_dependency
  mine = let q = active_holds (ActiveKnown c) t s.active r f h.active in subst (λ (i : ℕ). KnowsOne c i r.depends_on r.aborted_dependency) q.1 q.0

  -- t rested on it before, or the operation depends on it
  before_or_now : (x e : ℕ) → RestsOn after_it t x e → RestsOn c t x e ⊎ DependsNow c.rows c.steps s.start t op x e
  before_or_now x e n = elim (split_last c.steps n.before n.after (Answers t op a) (Answers t n.op n.answer) n.then') [
    | inl q ↦ inl (record { before = n.before; op = n.op; answer = n.answer; after = q.0; then' = q.1; depends = n.depends })
    | inr q ↦ inr (subst (λ (m : ℕ). DependsNow c.rows c.steps m t op x e) h.start
        (subst (λ (o : Op). DependsNow c.rows c.steps (start_behind c.mark c.trims (length c.steps)) t o x e) (same_op t t n.op op n.answer a q.1)
        (subst (λ (bs : List Step). DependsNow c.rows bs (start_behind c.mark c.trims (length bs)) t n.op x e) q.0 n.depends)))
  ]

  known_mine : KnowsOne after_it t (dependencies s op r) r.aborted_dependency
  known_mine = record {
    all = λ x e n. elim (before_or_now x e n) [
      | inl old ↦ depends_more r.depends_on (unwritten r.history (keys_for (entry_of op) r.id s.base s.stamped)) r.id s.stamped e (mine.all x e old)
      | inr new ↦ depends_all s op r e (depends_out c.rows c.steps s t op r x e f k new)
    ];
    only = λ e g. elim (depends_only s op r e g) [
      | inl old ↦ let q = mine.only e old in (q.0, rests_later c (Answers t op a) t q.0 e q.1)
      | inr new ↦ (let q = depends_in c.rows c.steps s t op r e f k new in (q.0, record { before = c.steps; op = op; answer = a; after = []; then' = refl; depends = subst (λ (m : ℕ). DependsNow c.rows c.steps m t op q.0 e) (sym h.start) q.1 }))
    ];
    flag = subst (IsFlag after_it t) (sym free) (λ x e n. aborted_push x c.steps (Answers t op a) ∙ ap (λ (b : Bool). b || false) (unaborted_then x e (before_or_now x e n)));
  }
    where
      none : RestsOnNoAborted c t
      none = subst (IsFlag c t) free mine.flag

      unaborted_then : (x e : ℕ) → RestsOn c t x e ⊎ DependsNow c.rows c.steps s.start t op x e → is_aborted x c.steps ≡ false
      unaborted_then x e (inl old) = none x e old
      unaborted_then x e (inr new) = unaborted c.rows c.steps s x e k new.writer.preparing

  known_done : KnowsRests after_it (after_operation s t op a)
  known_done =
      known_with c (Answers t op a) s (after_operation s t op a) refl h
      (each_map (with_answer s t op a) (λ q. (q.id ≡ t → q ≡ r) × ActiveKnown c q) (ActiveKnown after_it) (λ q g. one q g.0 g.1 (q.id == t) refl) s.active
      (each_both (λ (q : ActiveTx). q.id ≡ t → q ≡ r) (ActiveKnown c) (λ q. (q.id ≡ t → q ≡ r) × ActiveKnown c q) (λ q u v. (u, v)) s.active (only_one t s.active r f k.numbered.distinct) h.active))
      (each_both (λ (x : StampedTx). x.id ≢ t) (OpenKnown c) (OpenKnown after_it) (λ x n g o. knows_later c (Answers t op a) x.id x.depends_on x.aborted_dependency (other x.id n) (λ z e _. refl) (g o)) s.stamped apart h.preparing)
    where
      is : r.id ≡ t
      is = id_of t s.active r f

      apart : AllByRecursion (λ (x : StampedTx). x.id ≢ t) s.stamped
      apart = subst (λ (i : ℕ). AllByRecursion (λ (x : StampedTx). x.id ≢ i) s.stamped) is (active_holds (λ q. AllByRecursion (λ x. x.id ≢ q.id) s.stamped) t s.active r f k.numbered.apart).0

      other : (u : ℕ) → u ≢ t → IsNoAnswer u (Answers t op a)
      other u n op' a' e = n (same_owner u t op' op a' a e)

      one : (q : ActiveTx) → (q.id ≡ t → q ≡ r) → ActiveKnown c q → (b : Bool) → (q.id == t) ≡ b → KnowsOne after_it q.id (cond b (dependencies s op q) q.depends_on) q.aborted_dependency
      one q is_r g true e =
          subst (λ (v : ActiveTx). KnowsOne after_it v.id (dependencies s op v) v.aborted_dependency) (sym (is_r (eqb-true q.id t e)))
          (subst (λ (i : ℕ). KnowsOne after_it i (dependencies s op r) r.aborted_dependency) (sym is) known_mine)
      one q is_r g false e = knows_later c (Answers t op a) q.id q.depends_on q.aborted_dependency (other q.id (λ i. true≢false (sym (eq-eqb q.id t i) ∙ e))) (λ z n _. refl) g

known_over : (c : Course) (s : State) (w : Option Claim) → KnowsRests c s → KnowsRests c (taken_over w s)
known_over c s None h = h
known_over c s (Some w) h = record { start = h.start; earlier = h.earlier; active = h.active; preparing = h.preparing }

-- ---- precommit, a check and a settling
known_prepared : (c : Course) (s : State) (t : ℕ) → why_not_precommit s t ≡ None → KnowsRests c s → KnowsRests (with_steps c (Prepares t (s.clock + 1) ∷ [])) (after_precommit s t)
known_prepared c s t w h =
    let found = active_after_prepare s t w in
    let r = found.0 in
    let e = s.clock + 1 in
    let y = Prepares t e in
    subst (KnowsRests (with_steps c (y ∷ []))) (sym (ap (after_precommit_of s) found.1))
    (known_idle c y s (after_prepare s r e) refl refl h (each_part (λ q. not (q.id == r.id)) (ActiveKnown c) s.active h.active)
    (each_append (OpenKnown c) s.stamped (to_stamped e r ∷ []) h.preparing ((λ _. (active_holds (ActiveKnown c) t s.active r found.1 h.active).0), tt)))

known_checked : (c : Course) (s : State) (t : ℕ) → why_not_validate s t ≡ None → KnowsRests c s → KnowsRests (with_steps c (Checks t ∷ [])) (after_validate s t)
known_checked c s t w h =
    let found = preparing_after_check s t w in
    subst (KnowsRests (with_steps c (Checks t ∷ []))) (sym (ap (after_validate_of s) found.1)) (go found.0 found.0.valid)
  where
    go : (x : StampedTx) (b : Bool) → KnowsRests (with_steps c (Checks t ∷ [])) (cond b s (after_check s x.end (nat_le (length (entries x.history)) (x.checked + 1))))
    go x true = known_idle c (Checks t) s s refl refl h h.active h.preparing
    go x false =
        let v = nat_le (length (entries x.history)) (x.checked + 1) in
        known_idle c (Checks t) s (after_check s x.end v) refl refl h h.active (each_map (with_check x.end v) (OpenKnown c) (OpenKnown c) (λ y q. q) s.stamped h.preparing)

known_settled : (c : Course) (s : State) (t : ℕ) → why_not_settle s t ≡ None → KnowsRests c s → KnowsRests (with_steps c (steps_unless t (end_of s t) (awaited s t))) (after_settle s t)
known_settled c s t w h = go (awaited s t)
  where
    y : Step
    y = Commits t (end_of s t)

    now : KnowsRests (with_steps c (y ∷ [])) (after_commit_now s t)
    now =
        let found = preparing_settled s t w in
        let e = found.0.end in
        subst (KnowsRests (with_steps c (y ∷ []))) (sym (ap (after_commit_of s t) found.1))
        (known_idle c y s (after_commit s t e) refl refl h h.active (each_map (with_settled e) (OpenKnown c) (OpenKnown c) (λ x q o. q (still_open x.settled (x.end == e) o)) s.stamped h.preparing))

    go : (v : Option StampedTx) → KnowsRests (with_steps c (steps_unless t (end_of s t) v)) (after_settle_unless s t v)
    go (Some x) = known_same c s h
    go None = now

-- ---- an abort
abbrev aborting : Course → ℕ → Course
aborting c t = with_steps c (Aborts t ∷ [])

known_aborted : (c : Course) (s : State) (t : ℕ) → IsUnended s t → IsKept c.rows c.steps s → KnowsRests c s → KnowsRests (with_steps c (Aborts t ∷ [])) (after_abort s t)
known_aborted c s t u k h = go (preparing_of t s.stamped) refl
  where
    -- none rests on one that is Active
    never : (r : ActiveTx) → active_of t s.active ≡ Some r → (v e : ℕ) → RestsOn c v t e → ⊥
    never r f v e n =
        let alive = active_holds (λ q. is_aborted q.id c.steps ≡ false) t s.active r f k.has_ends.active in
        let past = (active_holds (λ q. AllByRecursion (λ x. x.id ≢ q.id) s.past) t s.active r f k.numbered.before).0 in
        let stamped = (active_holds (λ q. AllByRecursion (λ x. x.id ≢ q.id) s.stamped) t s.active r f k.numbered.apart).0 in
        nowhere (each_append (λ (x : StampedTx). x.id ≢ r.id) s.past s.stamped past stamped) alive.1 (reached c s v t e k n (ap (λ (i : ℕ). is_aborted i c.steps) (sym alive.1) ∙ alive.0))
      where
        nowhere : AllByRecursion (λ (x : StampedTx). x.id ≢ r.id) (timeline s) → r.id ≡ t → IsThere (timeline s) t e → ⊥
        nowhere all is (There y m i d) = m (λ x. x.id ≢ r.id) all (i ∙ sym is)

    by_active : (r : ActiveTx) → active_of t s.active ≡ Some r → (v : ℕ) → AbortsNone c v (Aborts t)
    by_active r f v x e n = elim (cases_eq t x) [
      | inl i ↦ absurd (never r f v e (subst (λ (j : ℕ). RestsOn c v j e) (sym i) n))
      | inr g ↦ ne_eqb t x g
    ]

    go : (w : Option StampedTx) → preparing_of t s.stamped ≡ w → KnowsRests (aborting c t) (after_abort_of s t w)
    go None e =
        let r = u e in
        let later : (v : ℕ) (ds : List ℕ) (f : Option ℕ) → KnowsOne c v ds f → KnowsOne (aborting c t) v ds f = λ v ds f. knows_later c (Aborts t) v ds f (no_abort v t) (by_active r.0 r.1 v) in
        known_with c (Aborts t) s (after_abort_of_active s t) refl h
        (each_part (λ q. not (q.id == t)) (ActiveKnown (aborting c t)) s.active (each_weaker (ActiveKnown c) (ActiveKnown (aborting c t)) (λ q g. later q.id q.depends_on q.aborted_dependency g) s.active h.active))
        (each_weaker (OpenKnown c) (OpenKnown (aborting c t)) (λ x g o. later x.id x.depends_on x.aborted_dependency (g o)) s.stamped h.preparing)
    go (Some x) e =
        let m = found_in t s.stamped x e in
        let there : IsIn x (timeline s) = in_timeline s x m.0 in
        let later : (v : ℕ) (ds : List ℕ) (f : Option ℕ) → KnowsOne c v ds f → KnowsOne (aborting c t) v ds (aborted_dependency_after t x.end ds f) =
        λ v ds f. flag_aborted c v t x.end ds f
        (λ z n a. its_id c.rows c.steps s x z k there (reached c s v z x.end k n a) ∙ m.1)
        (λ d n a. its_end c.rows c.steps s x t d k there m.1 (reached c s v t d k n a)) in
        known_with c (Aborts t) s (after_abort_of_preparing s t x.end) refl h
        (each_map (active_with_flag t x.end) (ActiveKnown c) (ActiveKnown (aborting c t)) (λ q g. later q.id q.depends_on q.aborted_dependency g) s.active h.active)
        (each_map (with_flag t x.end) (OpenKnown c) (OpenKnown (aborting c t)) (λ z g o. later z.id z.depends_on z.aborted_dependency (g o)) (filter (not_at x.end) s.stamped) (each_part (not_at x.end) (OpenKnown c) s.stamped h.preparing))

known_failed : (c : Course) (s : State) (t : ℕ) (r : Refusal) → (is_failure r ≡ true → IsUnended s t) → IsKept c.rows c.steps s → KnowsRests c s → KnowsRests (with_steps c (steps_of_refusal t r)) (after_refusal s t r)
known_failed c s t r f k h = go (is_failure r) refl
  where
    go : (b : Bool) → is_failure r ≡ b → KnowsRests (with_steps c (cond b (Aborts t ∷ []) [])) (cond b (after_abort s t) s)
    go true e = known_aborted c s t (f e) k h
    go false e = known_same c s h

-- ---- finish, trim and close
known_finished : (c : Course) (s : State) (t : ℕ) → KnowsRests c s → KnowsRests (with_steps c (steps_of_accepted s (Finish t))) (after_finish s t)
known_finished c s t h = go (is_done s t)
  where
    go : (b : Bool) → KnowsRests (with_steps c (cond b (Terminates t ∷ []) [])) (cond b (after_termination s t) (with_words (words_left t) s))
    go true = known_idle c (Terminates t) s (after_termination s t) refl refl h h.active h.preparing
    go false = known_still c s (with_words (words_left t) s) refl h h.active h.preparing

known_trimmed : (c : Course) (s : State) (m : ℕ) → KnowsRests c s → KnowsRests (with_steps (with_trim c m) []) (after_trim s m)
known_trimmed c s m h =
    let now : KnowsRests (with_trim c m) (after_trim s m) = record {
      start = start_trimmed c.mark (length c.steps) m c.trims h.earlier;
      earlier = each_append (λ d. d.0 ≤ length c.steps) c.trims ((length c.steps, m) ∷ []) h.earlier (omega arith, tt);
      active = each_weaker (ActiveKnown c) (ActiveKnown (with_trim c m)) (λ r g. knows_trimmed c m r.id r.depends_on r.aborted_dependency g) s.active h.active;
      preparing = each_part (λ x. not (is_to m x)) (OpenKnown (with_trim c m)) s.stamped (each_weaker (OpenKnown c) (OpenKnown (with_trim c m)) (λ x g o. knows_trimmed c m x.id x.depends_on x.aborted_dependency (g o)) s.stamped h.preparing);
    } in
    known_same (with_trim c m) (after_trim s m) now

-- ---- each call
known_accepted : (c : Course) (s : State) (call : Call) → why_not s call ≡ None → IsKept c.rows c.steps s → KnowsRests c s → KnowsRests (record c { steps = c.steps ++ steps_of_accepted s call; trims = trims_after c call Accepted }) (after_accepted s call)
known_accepted c s Begin w k h = known_begun c s k h
known_accepted c s (Do t op) w k h =
    let found = active_done s t op w in
    let a = answer_in s t op in
    known_over (with_steps c (Answers t op a ∷ [])) (after_operation s t op a) (new_claim s t op a) (known_done c s t op a found.0 found.1 found.2 k h)
known_accepted c s (Precommit t) w k h = known_prepared c s t w h
known_accepted c s (Validate t) w k h = known_checked c s t w h
known_accepted c s (Settle t) w k h = known_settled c s t w h
known_accepted c s (Rollback t) w k h = known_aborted c s t (unended_rolled_back s t w) k h
known_accepted c s (Finish t) w k h = known_finished c s t h
known_accepted c s (Trim m) w k h = known_trimmed c s m h
known_accepted c s (Close fits g full) w k h = known_still c s (after_close s g.mark) refl h h.active h.preparing

known_refused : (c : Course) (s : State) (call : Call) (r : Refusal) → why_not s call ≡ Some r → IsKept c.rows c.steps s → KnowsRests c s → KnowsRests (record c { steps = c.steps ++ steps_of_refused call r; trims = trims_after c call (Refused r) }) (after_refused s call r)
known_refused c s (Do t op) r w k h = known_failed c s t r (unended_done s t op r w) k h
known_refused c s (Precommit t) r w k h = known_failed c s t r (unended_after_prepare s t r w) k h
known_refused c s (Validate t) r w k h = known_failed c s t r (unended_after_check s t r w) k h
known_refused c s (Settle t) r w k h = known_failed c s t r (unended_settled s t r w) k h
known_refused c s call r w k h = known_same c s h

known_spent : (c : Course) (s : State) (call : Call) → KnowsRests c s → KnowsRests (record c { steps = c.steps ++ steps_of_refused call OutOfMemory; trims = trims_after c call (Refused OutOfMemory) }) (after_refused s call OutOfMemory)
known_spent c s (Trim m) h = known_same c s h
known_spent c s call h = known_same c s h

pub known_after_call : (c : Course) (s : State) (call : Call) (r : Result) → MayCome s call r → IsKept c.rows c.steps s → KnowsRests c s → KnowsRests (record c { steps = c.steps ++ steps_of s call r; trims = trims_after c call r }) (after_call s call r)
known_after_call c s call Accepted m k h = known_accepted c s call m.0 k h
known_after_call c s call (Refused r) m k h = go (why_not s call) refl (takes_memory call) m
  where
    go : (w : Option Refusal) → why_not s call ≡ w → (b : Bool) → IsRefusal b w r → KnowsRests (record c { steps = c.steps ++ steps_of_refused call r; trims = trims_after c call (Refused r) }) (after_refused s call r)
    go (Some why) e b q = known_refused c s call r (e ∙ ap (λ (v : Refusal). Some v) (sym q)) k h
    go None e true q = subst (λ (v : Refusal). KnowsRests (record c { steps = c.steps ++ steps_of_refused call v; trims = trims_after c call (Refused v) }) (after_refused s call v)) (sym q) (known_spent c s call h)
    go None e false q = absurd q

-- a mark that was closed changes nothing of it
pub known_closed : (c : Course) (s : State) (n : ℕ) → KnowsRests c s → KnowsRests c (after_close s n)
known_closed c s n h = record { start = h.start; earlier = h.earlier; active = h.active; preparing = h.preparing }

pub known_opened : (rows : Map) (mark : ℕ) → KnowsRests (record { rows = rows; mark = mark; steps = []; trims = [] }) (opened rows mark)
known_opened rows mark = record { start = refl; earlier = tt; active = tt; preparing = tt }
