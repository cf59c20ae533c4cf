-- Each step leads its own transaction from one phase to the next, and no other.
use Rattle.std.proofs.Common.{◌≡◌, ◌≢◌, ℕ, ◌+◌, ◌<◌, ◌≤◌, Bool, true, false, cond, not, ◌||◌, List, [], ◌∷◌, ◌++◌, Option, None, Some, map, refl, sym, ap, ◌∙◌, subst, arith, ◌⊎◌, inl, inr}
use Rattle.std.specs.Prelude.{⊤, ◌==◌, ◌&&◌}
use Rattle.std.specs.Option.{option_map}
use Rattle.std.specs.List.{AllByRecursion, filter, find, list_any}
use Rattle.std.proofs.lemmas.Bool.{eq-eqb, eqb-true, ne_eqb, cases_eq, true≢false, false≢true, and_left, and_from, not-false}
use Rattle.mvo_types.specs.declared.op.Op.{Op}
use Rattle.mvo_types.specs.AnswerData.{AnswerData}
use Rattle.mvo_model.specs.Trace.{Step, owner_of, phase_after, phase_of, Phase}
use Rattle.mvo_model.specs.Trace.Phase.{Active, Preparing}
use Rattle.mvo_model.specs.Trace.Step.{Begins, Answers, Prepares, Checks, Commits, Aborts, Terminates}
use Rattle.mvo_model.proofs.Traces.{phase_of-push_own, phase_of-push_other}
use Rattle.mvo_theory.specs.State.{EndedTx, State, StampedTx, ActiveTx, active_of, preparing_of, is_active_as, is_preparing_as, is_ended_as, ended_of}
use Rattle.mvo_theory.specs.Words.{words_now}
use Rattle.mvo_theory.specs.Changes.{new_active, after_begin, after_operation, with_answer, after_prepare, to_stamped, without_id, after_check, with_check, after_commit, committed_tx, with_settled, with_flag, active_with_flag, not_at, after_abort_of_active, aborted_tx, after_abort_of_preparing, after_termination, without_ended}
use Rattle.mvo_theory.proofs.Cases.{is_ended_in}
use Rattle.mvo_theory.specs.Phases.{phase_by, phase_in}
use Rattle.mvo_theory.specs.Steps.{after_validate_of, after_validate, after_abort_of, after_abort}
use Rattle.mvo_theory.specs.Sound.{IsSound, IsRising, IsSingle, how_many}
use Rattle.mvo_theory.proofs.Each.{each_weaker, each_append, each_always}
use Rattle.mvo_theory.proofs.Finds.{find_none, find_push_own, find_holds, at_most, find_push_other, find_map, find_filter, count_map, count_filter_out}
use Rattle.mvo_theory.proofs.Single.{active_found, preparing_found, active_alone, preparing_alone, fresh_alone, fewer_settled, fewer_after_abort_of_preparing}
use Rattle.mvo_theory.proofs.Commits.{split_at}
use Rattle.mvo_theory.proofs.Settle.{rising_before, rising_after}

-- ---- where each stands after one step more
pub record Leads (x : Step) (s s' : State) : Type 0 where
  pub own : phase_in s' (owner_of x) ≡ phase_after x (phase_in s (owner_of x))
  pub others : (t : ℕ) → owner_of x ≢ t → phase_in s' t ≡ phase_in s t

pub phases_push : (xs : List Step) (x : Step) (s s' : State) → Leads x s s' → ((t : ℕ) → phase_of t xs ≡ phase_in s t) → (t : ℕ) → phase_of t (xs ++ x ∷ []) ≡ phase_in s' t
phases_push xs x s s' l h t = go (cases_eq (owner_of x) t)
  where
    go : ((owner_of x ≡ t) ⊎ (owner_of x ≡ t → ⊥)) → phase_of t (xs ++ x ∷ []) ≡ phase_in s' t
    go (inl e) = phase_of-push_own t xs x e ∙ ap (phase_after x) (h t) ∙ subst (λ (u : ℕ). phase_after x (phase_in s u) ≡ phase_in s' u) e (sym l.own)
    go (inr n) = phase_of-push_other t xs x n ∙ h t ∙ sym (l.others t n)

-- the look-ups are finds
abbrev phase_at : State → ℕ → Phase
phase_at s t = phase_by (find (is_active_as t) s.active) (find (is_preparing_as t) s.stamped) (find (is_ended_as t) s.ended)

found : (s : State) (t : ℕ) → phase_in s t ≡ phase_at s t
found s t = λ i. phase_by (active_found t s.active i) (preparing_found t s.stamped i) (ended_of t s.ended)

by_three : (a a' : Option ActiveTx) (b b' : Option StampedTx) (c c' : Option EndedTx) → a ≡ a' → b ≡ b' → c ≡ c' → phase_by a b c ≡ phase_by a' b' c'
by_three a a' b b' c c' p q r = λ i. phase_by (p i) (q i) (r i)

-- one that is Active, or isn't
is_active : (s : State) (t : ℕ) (r : ActiveTx) → find (is_active_as t) s.active ≡ Some r → phase_in s t ≡ Active
is_active s t r e = found s t ∙ ap (λ (w : Option ActiveTx). phase_by w (find (is_preparing_as t) s.stamped) (find (is_ended_as t) s.ended)) e

is_else : (s : State) (t : ℕ) (w : Option StampedTx) (u : Option EndedTx) → how_many (is_active_as t) s.active ≤ 0 → find (is_preparing_as t) s.stamped ≡ w → find (is_ended_as t) s.ended ≡ u → phase_in s t ≡ phase_by None w u
is_else s t w u l e f = found s t ∙ by_three (find (is_active_as t) s.active) None (find (is_preparing_as t) s.stamped) w (find (is_ended_as t) s.ended) u (find_none (is_active_as t) s.active l) e f

-- one that stands as before
stays : (s s' : State) (t : ℕ) → find (is_active_as t) s'.active ≡ find (is_active_as t) s.active → find (is_preparing_as t) s'.stamped ≡ find (is_preparing_as t) s.stamped → find (is_ended_as t) s'.ended ≡ find (is_ended_as t) s.ended → phase_in s' t ≡ phase_in s t
stays s s' t p q r = found s' t ∙ by_three (find (is_active_as t) s'.active) (find (is_active_as t) s.active) (find (is_preparing_as t) s'.stamped) (find (is_preparing_as t) s.stamped) (find (is_ended_as t) s'.ended) (find (is_ended_as t) s.ended) p q r ∙ sym (found s t)

-- a change of each that keeps where it stands
like_active : (f : ActiveTx → ActiveTx) (w : Option ActiveTx) (x : Option StampedTx) (u : Option EndedTx) → phase_by (option_map f w) x u ≡ phase_by w x u
like_active f (Some r) x u = refl
like_active f None x u = refl

like_line : (f : StampedTx → StampedTx) → ((x : StampedTx) → (f x).end ≡ x.end) → (w : Option ActiveTx) (x : Option StampedTx) (u : Option EndedTx) → phase_by w (option_map f x) u ≡ phase_by w x u
like_line f k (Some r) x u = refl
like_line f k None (Some x) u = ap Preparing (k x)
like_line f k None None u = refl

-- what is as it was but for such changes
stays_like : (s s' : State) (t : ℕ) (f : ActiveTx → ActiveTx) (g : StampedTx → StampedTx) → ((x : StampedTx) → (g x).end ≡ x.end) → find (is_active_as t) s'.active ≡ option_map f (find (is_active_as t) s.active) → find (is_preparing_as t) s'.stamped ≡ option_map g (find (is_preparing_as t) s.stamped) → find (is_ended_as t) s'.ended ≡ find (is_ended_as t) s.ended → phase_in s' t ≡ phase_in s t
stays_like s s' t f g k p q r =
    found s' t ∙ by_three (find (is_active_as t) s'.active) (option_map f (find (is_active_as t) s.active)) (find (is_preparing_as t) s'.stamped) (option_map g (find (is_preparing_as t) s.stamped)) (find (is_ended_as t) s'.ended) (find (is_ended_as t) s.ended) p q r
    ∙ like_active f (find (is_active_as t) s.active) (option_map g (find (is_preparing_as t) s.stamped)) (find (is_ended_as t) s.ended)
    ∙ like_line g k (find (is_active_as t) s.active) (find (is_preparing_as t) s.stamped) (find (is_ended_as t) s.ended)
    ∙ sym (found s t)

same_find : {X : Type 0} (w : Option X) → w ≡ option_map (λ x. x) w
same_find None = refl
same_find (Some x) = refl

-- ---- begin
pub leads_after_begin : (s : State) (t : ℕ) → s.clock < t → IsSound s → IsSingle s → Leads (Begins t) s (after_begin s t)
leads_after_begin s t lt k h = record {
  own = is_active (after_begin s t) t new (find_push_own (is_active_as t) s.active new (fresh_alone s t lt k h).0 (eq-eqb t t refl));
  others = λ u n. stays s (after_begin s t) u (find_push_other (is_active_as u) s.active new (ne_eqb t u n)) refl refl;
}
  where
    new : ActiveTx
    new = new_active t

-- ---- an operation
pub leads_after_operation : (s : State) (t : ℕ) (op : Op) (a : AnswerData) → Leads (Answers t op a) s (after_operation s t op a)
leads_after_operation s t op a = record { own = same t; others = λ u _. same u }
  where
    same : (u : ℕ) → phase_in (after_operation s t op a) u ≡ phase_in s u
    same u = stays_like s (after_operation s t op a) u (with_answer s t op a) (λ x. x) (λ x. refl) (find_map (is_active_as u) (with_answer s t op a) s.active (each_always (λ r. is_active_as u r ≡ is_active_as u r) (λ r. refl) s.active)) (same_find (find (is_preparing_as u) s.stamped)) refl

-- ---- precommit
gone_active : (t u n : ℕ) (rs : List ActiveTx) → t ≡ n → t ≢ u → find (is_active_as u) (without_id n rs) ≡ find (is_active_as u) rs
gone_active t u n rs e ne = find_filter (is_active_as u) (λ q. not (q.id == n)) rs (each_always (λ q. not (q.id == n) ≡ false → (q.id == u) ≡ false) (λ q f. ne_eqb q.id u (λ g. ne (e ∙ sym (eqb-true q.id n (not-false (q.id == n) f)) ∙ g))) rs)

none_active : (s : State) (t n : ℕ) (r : ActiveTx) → active_of t s.active ≡ Some r → t ≡ n → r.id ≡ n → IsSingle s → how_many (is_active_as t) (without_id n s.active) ≤ 0
none_active s t n r f e is h =
    let l = count_filter_out (is_active_as t) (λ q. not (q.id == n)) s.active r (sym (active_found t s.active) ∙ f) (ap not (eq-eqb r.id n is)) in
    let o = h.once t in
    omega arith

pub leads_after_prepare : (s : State) (t : ℕ) (r : ActiveTx) (e : ℕ) → active_of t s.active ≡ Some r → r.id ≡ t → IsSingle s → Leads (Prepares t e) s (after_prepare s r e)
leads_after_prepare s t r e f is h = record {
  own = is_else (after_prepare s r e) t (Some (to_stamped e r)) (find (is_ended_as t) s.ended) (none_active s t r.id r f (sym is) refl h) (find_push_own (is_preparing_as t) s.stamped (to_stamped e r) (let l = active_alone s t r f h in omega arith) (and_from (r.id == t) true (eq-eqb r.id t is) refl)) refl;
  others = λ u n. stays s (after_prepare s r e) u (gone_active t u r.id s.active (sym is) n) (find_push_other (is_preparing_as u) s.stamped (to_stamped e r) (and_left (r.id == u) true (ne_eqb r.id u (λ q. n (sym is ∙ q))))) refl;
}

-- ---- a check
same_after_check : (s : State) (e : ℕ) (v : Bool) (u : ℕ) → phase_in (after_check s e v) u ≡ phase_in s u
same_after_check s e v u = stays_like s (after_check s e v) u (λ r. r) (with_check e v) (λ x. refl) (same_find (find (is_active_as u) s.active)) (find_map (is_preparing_as u) (with_check e v) s.stamped (each_always (λ x. is_preparing_as u x ≡ is_preparing_as u x) (λ x. refl) s.stamped)) refl

pub leads_after_check : (s : State) (t : ℕ) → Leads (Checks t) s (after_validate s t)
leads_after_check s t = record { own = go (preparing_of t s.stamped) t; others = λ u _. go (preparing_of t s.stamped) u }
  where
    now_valid : (x : StampedTx) (v b : Bool) (u : ℕ) → phase_in (cond b s (after_check s x.end v)) u ≡ phase_in s u
    now_valid x v true u = refl
    now_valid x v false u = same_after_check s x.end v u

    go : (w : Option StampedTx) (u : ℕ) → phase_in (after_validate_of s w) u ≡ phase_in s u
    go None u = refl
    go (Some x) u = now_valid x _ x.valid u

-- ---- a commit
-- no other has its end
alone_at : (before after : List StampedTx) (x : StampedTx) → IsRising (before ++ x ∷ after) → AllByRecursion (λ y. y.end ≡ x.end → y.id ≡ x.id) (before ++ x ∷ after)
alone_at before after x r = each_append (λ y. y.end ≡ x.end → y.id ≡ x.id) before (x ∷ after)
    (each_weaker (λ y. y.end < x.end) (λ y. y.end ≡ x.end → y.id ≡ x.id) (λ y lt e. absurd (omega arith)) before (rising_before before after x r))
    (λ _. refl, each_weaker (λ y. x.end < y.end) (λ y. y.end ≡ x.end → y.id ≡ x.id) (λ y lt e. absurd (omega arith)) after (rising_after before after x r))

pub alone_in : (s : State) (t : ℕ) (x : StampedTx) → preparing_of t s.stamped ≡ Some x → IsSound s → AllByRecursion (λ y. y.end ≡ x.end → y.id ≡ t) s.stamped
alone_in s t x f k =
    let p = split_at t s.stamped x f in
    subst (λ (n : ℕ). AllByRecursion (λ y. y.end ≡ x.end → y.id ≡ n) s.stamped) p.3
    (subst (AllByRecursion (λ y. y.end ≡ x.end → y.id ≡ x.id)) (sym p.2) (alone_at p.0 p.1 x (subst IsRising p.2 k.rising)))

other_settled : (e t u : ℕ) (y : StampedTx) → t ≢ u → (y.end ≡ e → y.id ≡ t) → is_preparing_as u (with_settled e y) ≡ is_preparing_as u y
other_settled e t u y n k = go (y.end == e) refl
  where
    nobody : (a c d : Bool) → a ≡ false → (a && c) ≡ (a && d)
    nobody true c d q = absurd (true≢false q)
    nobody false c d q = refl

    or_same : (c : Bool) → (c || false) ≡ c
    or_same true = refl
    or_same false = refl

    go : (b : Bool) → (y.end == e) ≡ b → ((y.id == u) && not (y.settled || b)) ≡ ((y.id == u) && not y.settled)
    go true q = nobody (y.id == u) (not (y.settled || true)) (not y.settled) (ne_eqb y.id u (λ g. n (sym (k (eqb-true y.end e q)) ∙ g)))
    go false q = ap (λ (c : Bool). (y.id == u) && not c) (or_same y.settled)

pub leads_after_commit : (s : State) (t : ℕ) (x : StampedTx) → preparing_of t s.stamped ≡ Some x → IsSound s → IsSingle s → Leads (Commits t x.end) s (after_commit s t x.end)
leads_after_commit s t x f k h =
    let alone = preparing_alone s t x f h in
    let fewer = fewer_settled t s.stamped x (sym (preparing_found t s.stamped) ∙ f) in
    let once = h.once t in
    record {
      own = is_else (after_commit s t x.end) t None (Some (committed_tx t x.end (words_now s t))) (let l : how_many (is_active_as t) s.active ≤ 0 = omega arith in l)
          (find_none (is_preparing_as t) (map (with_settled x.end) s.stamped) (omega arith))
          (find_push_own (is_ended_as t) s.ended (committed_tx t x.end (words_now s t)) (omega arith) (eq-eqb t t refl));
      others = λ u n. stays_like s (after_commit s t x.end) u (λ r. r) (with_settled x.end) (λ y. refl) (same_find (find (is_active_as u) s.active))
          (find_map (is_preparing_as u) (with_settled x.end) s.stamped (each_weaker (λ y. y.end ≡ x.end → y.id ≡ t) (λ y. is_preparing_as u (with_settled x.end y) ≡ is_preparing_as u y) (λ y q. other_settled x.end t u y n q) s.stamped (alone_in s t x f k)))
          (find_push_other (is_ended_as u) s.ended (committed_tx t x.end (words_now s t)) (ne_eqb t u n));
    }

-- ---- an abort
pub leads_after_abort_of_active : (s : State) (t : ℕ) (r : ActiveTx) → active_of t s.active ≡ Some r → r.id ≡ t → IsSingle s → Leads (Aborts t) s (after_abort_of_active s t)
leads_after_abort_of_active s t r f is h =
    let alone = active_alone s t r f h in
    record {
      own = is_else (after_abort_of_active s t) t None (Some (aborted_tx t (words_now s t))) (none_active s t t r f refl is h) (find_none (is_preparing_as t) s.stamped (omega arith)) (find_push_own (is_ended_as t) s.ended (aborted_tx t (words_now s t)) (omega arith) (eq-eqb t t refl));
      others = λ u n. stays s (after_abort_of_active s t) u (gone_active t u t s.active refl n) refl (find_push_other (is_ended_as u) s.ended (aborted_tx t (words_now s t)) (ne_eqb t u n));
    }

-- a flag changes no phase
pub leads_after_abort_of_preparing : (s : State) (t : ℕ) (x : StampedTx) → preparing_of t s.stamped ≡ Some x → IsSound s → IsSingle s → Leads (Aborts t) s (after_abort_of_preparing s t x.end)
leads_after_abort_of_preparing s t x f k h =
    let alone = preparing_alone s t x f h in
    let fewer = fewer_after_abort_of_preparing t t s.stamped x (sym (preparing_found t s.stamped) ∙ f) in
    let once = h.once t in
    let active = count_map (is_active_as t) (active_with_flag t x.end) s.active (λ r q. q) in
    record {
      own = is_else (after_abort_of_preparing s t x.end) t None (Some (aborted_tx t (words_now s t))) (let l : how_many (is_active_as t) (map (active_with_flag t x.end) s.active) ≤ 0 = omega arith in l)
          (find_none (is_preparing_as t) (map (with_flag t x.end) (filter (not_at x.end) s.stamped)) (omega arith))
          (find_push_own (is_ended_as t) s.ended (aborted_tx t (words_now s t)) (omega arith) (eq-eqb t t refl));
      others = λ u n. stays_like s (after_abort_of_preparing s t x.end) u (active_with_flag t x.end) (with_flag t x.end) (λ y. refl)
          (find_map (is_active_as u) (active_with_flag t x.end) s.active (each_always (λ r. is_active_as u r ≡ is_active_as u r) (λ r. refl) s.active))
          (find_map (is_preparing_as u) (with_flag t x.end) (filter (not_at x.end) s.stamped) (each_always (λ y. is_preparing_as u y ≡ is_preparing_as u y) (λ y. refl) (filter (not_at x.end) s.stamped))
          ∙ ap (option_map (with_flag t x.end)) (find_filter (is_preparing_as u) (not_at x.end) s.stamped (each_weaker (λ y. y.end ≡ x.end → y.id ≡ t) (λ y. not_at x.end y ≡ false → is_preparing_as u y ≡ false) (λ y q g. and_left (y.id == u) (not y.settled) (ne_eqb y.id u (λ e. n (sym (q (eqb-true y.end x.end (not-false (y.end == x.end) g))) ∙ e)))) s.stamped (alone_in s t x f k))))
          (find_push_other (is_ended_as u) s.ended (aborted_tx t (words_now s t)) (ne_eqb t u n));
    }

-- Active, unless it is Preparing
abbrev pub IsUnended : State → ℕ → Type 0
IsUnended s t = preparing_of t s.stamped ≡ None → (r : ActiveTx) × (active_of t s.active ≡ Some r)

pub leads_aborted : (s : State) (t : ℕ) → IsUnended s t → IsSound s → IsSingle s → Leads (Aborts t) s (after_abort s t)
leads_aborted s t a k h = go (preparing_of t s.stamped) refl
  where
    drop : (r : ActiveTx) → active_of t s.active ≡ Some r → Leads (Aborts t) s (after_abort_of_active s t)
    drop r f = leads_after_abort_of_active s t r f (eqb-true r.id t (find_holds (λ q. ⊤) (is_active_as t) s.active r (sym (active_found t s.active) ∙ f) (each_always (λ q. ⊤) (λ q. tt) s.active)).1) h

    go : (w : Option StampedTx) → preparing_of t s.stamped ≡ w → Leads (Aborts t) s (after_abort_of s t w)
    go None e = let r = a e in drop r.0 r.1
    go (Some x) e = leads_after_abort_of_preparing s t x e k h

-- ---- leaving
any_counts : (t : ℕ) (us : List EndedTx) → list_any (is_ended_as t) us ≡ true → 1 ≤ how_many (is_ended_as t) us
any_counts t [] e = absurd (false≢true e)
any_counts t (w ∷ ws) e = go (w.id == t) e (λ q. any_counts t ws q)
  where
    go : (b : Bool) → (b || list_any (is_ended_as t) ws) ≡ true → (list_any (is_ended_as t) ws ≡ true → 1 ≤ how_many (is_ended_as t) ws) → 1 ≤ cond b 1 0 + how_many (is_ended_as t) ws
    go true q r = omega arith
    go false q r = let l = r q in omega arith

fewer_after_termination : (t : ℕ) (us : List EndedTx) → list_any (is_ended_as t) us ≡ true → how_many (is_ended_as t) (without_ended t us) + 1 ≤ how_many (is_ended_as t) us
fewer_after_termination t [] e = absurd (false≢true e)
fewer_after_termination t (w ∷ ws) e = go (w.id == t) refl e (λ q. fewer_after_termination t ws q)
  where
    go : (b : Bool) → (w.id == t) ≡ b → (b || list_any (is_ended_as t) ws) ≡ true → (list_any (is_ended_as t) ws ≡ true → how_many (is_ended_as t) (without_ended t ws) + 1 ≤ how_many (is_ended_as t) ws) → how_many (is_ended_as t) (cond b ws (w ∷ without_ended t ws)) + 1 ≤ cond b 1 0 + how_many (is_ended_as t) ws
    go true f q r = omega arith
    go false f q r = let z = at_most (w.id == t) false (λ g. sym f ∙ g) in let l = r q in omega arith

others_after_termination : (t u : ℕ) (us : List EndedTx) → t ≢ u → find (is_ended_as u) (without_ended t us) ≡ find (is_ended_as u) us
others_after_termination t u [] n = refl
others_after_termination t u (w ∷ ws) n = go (w.id == t) refl (others_after_termination t u ws n)
  where
    go : (b : Bool) → (w.id == t) ≡ b → find (is_ended_as u) (without_ended t ws) ≡ find (is_ended_as u) ws → find (is_ended_as u) (cond b ws (w ∷ without_ended t ws)) ≡ cond (w.id == u) (Some w) (find (is_ended_as u) ws)
    go true f r = sym (ap (λ (c : Bool). cond c (Some w) (find (is_ended_as u) ws)) (ne_eqb w.id u (λ g. n (sym (eqb-true w.id t f) ∙ g))))
    go false f r = ap (λ (v : Option EndedTx). cond (w.id == u) (Some w) v) r

pub leads_after_termination : (s : State) (t : ℕ) → is_ended_in s t ≡ true → IsSingle s → Leads (Terminates t) s (after_termination s t)
leads_after_termination s t o h =
    let one = any_counts t s.ended o in
    let fewer = fewer_after_termination t s.ended o in
    let once = h.once t in
    record {
      own = is_else (after_termination s t) t None None (let l : how_many (is_active_as t) s.active ≤ 0 = omega arith in l) (find_none (is_preparing_as t) s.stamped (omega arith)) (find_none (is_ended_as t) (without_ended t s.ended) (omega arith));
      others = λ u n. stays s (after_termination s t) u refl refl (others_after_termination t u s.ended n);
    }
