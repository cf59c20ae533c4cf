-- What a state counts is what the trace says: each call keeps that.
use Rattle.std.proofs.Common.{◌≡◌, ◌≢◌, ℕ, ◌+◌, ◌<◌, ◌≤◌, Bool, true, false, cond, not, ◌||◌, List, [], ◌∷◌, ◌++◌, Option, None, Some, map, length, refl, sym, ap, ◌∙◌, subst, arith, append-nil, ◌⊎◌, inl, inr}
use Rattle.std.specs.Prelude.{nat_lt, nat_le, ◌==◌, ◌&&◌}
use Rattle.std.specs.List.{AllByRecursion, filter}
use Rattle.std.proofs.lemmas.Bool.{true≢false, false≢true, eqb-true, eq-eqb, ne_eqb, and_parts, and_from, lt-ltb, leb-true, le-leb, cases_eq}
use Rattle.std.proofs.lemmas.List.{length-append, length-map}
use Rattle.mvo_types.specs.declared.op.Op.{Op}
use Rattle.mvo_types.specs.declared.refusal.Refusal.{Refusal}
use Rattle.mvo_types.specs.declared.refusal.Refusal.TheVariants.{OutOfMemory}
use Rattle.mvo_types.specs.Keys.{Map}
use Rattle.mvo_types.specs.AnswerData.{AnswerData}
use Rattle.mvo_model.specs.Trace.{Step}
use Rattle.mvo_model.specs.Trace.Step.{Begins, Answers, Prepares, Checks, Commits, Aborts, Terminates}
use Rattle.mvo_theory.specs.Entries.{entries}
use Rattle.mvo_theory.specs.State.{State, StampedTx, ActiveTx, EndedTx, Claim, Word, opened, preparing_of, is_active_as, is_preparing_as}
use Rattle.mvo_theory.specs.Claims.{new_claim}
use Rattle.mvo_theory.specs.Words.{words_without, words_left, is_done, words_now}
use Rattle.mvo_theory.specs.Changes.{new_active, after_begin, with_answer, after_operation, with_words, taken_over, without_id, to_stamped, after_prepare, with_check, after_check, with_settled, committed_tx, after_commit, with_flag, active_with_flag, not_at, aborted_tx, after_abort_of_active, after_abort_of_preparing, after_termination, after_finish, is_to, after_trim, after_close}
use Rattle.mvo_theory.specs.Causes.{unsettled, unfinished, why_not_precommit, why_not_validate, why_not_settle, why_not_finish, awaited, end_of, is_failure}
use Rattle.mvo_theory.specs.Steps.{after_precommit_of, after_precommit, after_validate_of, after_validate, after_commit_of, after_commit_now, after_settle_unless, after_settle, after_abort_of, after_abort, after_refusal, steps_of_refusal}
use Rattle.mvo_theory.specs.Sound.{IsActive, IsPlaced, IsRising, how_many}
use Rattle.mvo_theory.specs.Calls.{Call, Result, why_not, takes_memory, IsRefusal, MayCome, answer_in, after_accepted, after_refused, after_call, steps_unless, steps_of_accepted, steps_of_refused, steps_of, IsKept}
use Rattle.mvo_theory.specs.Calls.Call.{Begin, Do, Precommit, Validate, Settle, Rollback, Finish, Trim, Close}
use Rattle.mvo_theory.specs.Calls.Result.{Accepted, Refused}
use Rattle.mvo_theory.proofs.Each.{each_weaker, each_always, each_append, each_map}
use Rattle.mvo_theory.proofs.Apart.{IsIn, each_in}
use Rattle.mvo_theory.proofs.Stamped.{each_part}
use Rattle.mvo_theory.proofs.Finds.{count_push}
use Rattle.mvo_theory.proofs.Single.{preparing_alone}
use Rattle.mvo_theory.proofs.Commits.{split_at}
use Rattle.mvo_theory.proofs.LastWriter.{counted, found_in}
use Rattle.mvo_theory.proofs.OriginEnds.{alone_at}
use Rattle.mvo_theory.proofs.Phases.{IsUnended}
use Rattle.mvo_theory.proofs.Trim.{IsTrim}
use Rattle.mvo_theory.proofs.Trimmed.{may_trim}
use Rattle.mvo_theory.proofs.Cases.{finish_none}
use Rattle.mvo_theory.proofs.Who.{active_holds, id_of, active_after_prepare, preparing_after_check, preparing_settled, unended_rolled_back, unended_done, unended_after_prepare, unended_after_check, unended_settled}
use Rattle.mvo_theory.specs.Counts.{is_draw, is_begin, is_finish, is_check_of, checks_in}
use Rattle.mvo_theory.specs.Counted.{HasChecks, HasCounts}
use Rattle.mvo_theory.proofs.Numbers.{checks_other, checks_more, without_one, unsettled_append, unsettled_map, unsettled_filter, settled_one, dropped_one, ended_one}

-- ---- the checks of one that isn't checked now
abbrev NoChecks : List Step → ActiveTx → Type 0
NoChecks xs r = checks_in r.id xs ≡ 0

abbrev OpenChecks : List Step → StampedTx → Type 0
OpenChecks xs x = x.settled ≡ false → HasChecks xs x

same_checks : (xs ys : List Step) (x : StampedTx) → checks_in x.id ys ≡ checks_in x.id xs → HasChecks xs x → HasChecks ys x
same_checks xs ys x e h = record {
  checked = λ v. h.checked v ∙ sym e;
  valid = ap (λ (n : ℕ). nat_lt 0 n && nat_le (length (entries x.history)) n) e ∙ h.valid;
}

-- a step that is no check
counted_with : (mark : ℕ) (xs : List Step) (x : Step) (s s' : State) → ((t : ℕ) → is_check_of t x ≡ false) → s'.marks.opening ≡ s.marks.opening → s'.clock ≡ s.clock + cond (is_draw x) 1 0 → unfinished s' + cond (is_finish x) 1 0 ≡ unfinished s + cond (is_begin x) 1 0
    → AllByRecursion (NoChecks xs) s'.active → AllByRecursion (OpenChecks xs) s'.stamped → HasCounts mark xs s → HasCounts mark (xs ++ x ∷ []) s'
counted_with mark xs x s s' n o c u a p h = record {
  opening = o ∙ h.opening;
  clock = let d = count_push is_draw xs x in let k = h.clock in omega (arith, c, d, k);
  unfinished = let b = count_push is_begin xs x in let f = count_push is_finish xs x in let k = h.unfinished in omega (arith, u, b, f, k);
  active = each_weaker (NoChecks xs) (NoChecks (xs ++ x ∷ [])) (λ r e. checks_other r.id xs x (n r.id) ∙ e) s'.active a;
  preparing = each_weaker (OpenChecks xs) (OpenChecks (xs ++ x ∷ [])) (λ y f e. same_checks xs (xs ++ x ∷ []) y (checks_other y.id xs x (n y.id)) (f e)) s'.stamped p;
  fresh = λ t lt. checks_other t xs x (n t) ∙ h.fresh t (omega (arith, c, lt));
}

-- no step
counted_still : (mark : ℕ) (xs : List Step) (s s' : State) → s'.marks.opening ≡ s.marks.opening → s'.clock ≡ s.clock → unfinished s' ≡ unfinished s → AllByRecursion (NoChecks xs) s'.active → AllByRecursion (OpenChecks xs) s'.stamped → HasCounts mark xs s → HasCounts mark (xs ++ []) s'
counted_still mark xs s s' o c u a p h = subst (λ (ys : List Step). HasCounts mark ys s') (sym (append-nil xs)) (record {
  opening = o ∙ h.opening;
  clock = c ∙ h.clock;
  unfinished = let k = h.unfinished in omega (arith, u, k);
  active = a;
  preparing = p;
  fresh = λ t lt. h.fresh t (omega (arith, c, lt));
})

counted_same : (mark : ℕ) (xs : List Step) (s : State) → HasCounts mark xs s → HasCounts mark (xs ++ []) s
counted_same mark xs s h = counted_still mark xs s s refl refl refl h.active h.preparing h

-- ---- begin, and an operation
counted_begun : (mark : ℕ) (xs : List Step) (s : State) → HasCounts mark xs s → HasCounts mark (xs ++ Begins (s.clock + 1) ∷ []) (after_begin s (s.clock + 1))
counted_begun mark xs s h =
    counted_with mark xs (Begins (s.clock + 1)) s (after_begin s (s.clock + 1)) (λ t. refl) refl refl (let l = length-append s.active (new_active (s.clock + 1) ∷ []) in omega (arith, l))
    (each_append (NoChecks xs) s.active (new_active (s.clock + 1) ∷ []) h.active (h.fresh (s.clock + 1) (omega arith), tt)) h.preparing h

counted_words : (mark : ℕ) (xs : List Step) (s : State) (f : EndedTx → List Word) → HasCounts mark xs s → HasCounts mark xs (with_words f s)
counted_words mark xs s f h = record {
  opening = h.opening;
  clock = h.clock;
  unfinished =
      let k = h.unfinished in
      let l : length (with_words f s).ended ≡ length s.ended = length-map s.ended (λ (u : EndedTx). record u { words = f u }) in
      omega (arith, k, l);
  active = h.active;
  preparing = h.preparing;
  fresh = h.fresh;
}

counted_over : (mark : ℕ) (xs : List Step) (s : State) (w : Option Claim) → HasCounts mark xs s → HasCounts mark xs (taken_over w s)
counted_over mark xs s None h = h
counted_over mark xs s (Some c) h = counted_words mark xs s (λ u. words_without c u.outcome u.words) h

counted_done : (mark : ℕ) (xs : List Step) (s : State) (t : ℕ) (op : Op) (a : AnswerData) → HasCounts mark xs s → HasCounts mark (xs ++ Answers t op a ∷ []) (after_operation s t op a)
counted_done mark xs s t op a h =
    counted_with mark xs (Answers t op a) s (after_operation s t op a) (λ u. refl) refl (omega arith) (let l = length-map s.active (with_answer s t op a) in omega (arith, l))
    (each_map (with_answer s t op a) (NoChecks xs) (NoChecks xs) (λ r e. e) s.active h.active) h.preparing h

-- ---- precommit
counted_prepared : (opening : Map) (mark : ℕ) (xs : List Step) (s : State) (t : ℕ) → why_not_precommit s t ≡ None → IsKept opening xs s → HasCounts mark xs s → HasCounts mark (xs ++ Prepares t (s.clock + 1) ∷ []) (after_precommit s t)
counted_prepared opening mark xs s t w k h =
    let found = active_after_prepare s t w in
    let r = found.0 in
    let e = s.clock + 1 in
    let is = id_of t s.active r found.1 in
    let mine = (active_holds (NoChecks xs) t s.active r found.1 h.active).0 in
    let begun = (active_holds (IsActive s.base s.stamped s.clock) t s.active r found.1 k.sound.active).0.drawn in
    let drawn : is_draw (Prepares t e) ≡ true = ap not (ne_eqb e t (λ q. absurd (omega (arith, begun, is, q)))) in
    let fewer : length (without_id r.id s.active) + 1 ≡ length s.active = subst (λ (u : ℕ). length (without_id u s.active) + 1 ≡ length s.active) (sym is) (without_one t s.active r found.1 k.numbered.distinct) in
    let more : unsettled (s.stamped ++ to_stamped e r ∷ []) ≡ unsettled s.stamped + unsettled (to_stamped e r ∷ []) = unsettled_append s.stamped (to_stamped e r ∷ []) in
    subst (HasCounts mark (xs ++ Prepares t e ∷ [])) (sym (ap (after_precommit_of s) found.1))
    (counted_with mark xs (Prepares t e) s (after_prepare s r e) (λ u. refl) refl (ap (λ (b : Bool). s.clock + cond b 1 0) (sym drawn)) (omega (arith, fewer, more))
    (each_part (λ q. not (q.id == r.id)) (NoChecks xs) s.active h.active)
    (each_append (OpenChecks xs) s.stamped (to_stamped e r ∷ []) h.preparing (
      (λ _. record {
        checked = λ _. sym mine;
        valid = ap (λ (n : ℕ). nat_lt 0 n && nat_le (length (entries r.history)) n) mine;
      }),
      tt,
    )) h)

-- ---- validate
none_counted : {X : Type 0} (p : X → Bool) (xs : List X) → how_many p xs ≤ 0 → AllByRecursion (λ z. p z ≡ false) xs
none_counted p xs l = each_weaker (λ z. p z ≡ true → 1 ≤ how_many p xs) (λ z. p z ≡ false) (λ z f. go z (p z) refl f) xs (counted p xs)
  where
    go : (z : _) (b : Bool) → p z ≡ b → (p z ≡ true → 1 ≤ how_many p xs) → p z ≡ false
    go z true e f = absurd (let m = f e in omega (arith, l, m))
    go z false e f = e

some_stamped : (v z : StampedTx) → ◌≡◌ {A = Option StampedTx} (Some v) (Some z) → v ≡ z
some_stamped v z e = cc

no_stamped : (z : StampedTx) → ◌≡◌ {A = Option StampedTx} None (Some z) → ⊥
no_stamped z e = cc

-- the Preparing one with the id is alone
only_preparing : (t : ℕ) (xs : List StampedTx) (x : StampedTx) → preparing_of t xs ≡ Some x → how_many (is_preparing_as t) xs ≤ 1 → AllByRecursion (λ y. is_preparing_as t y ≡ true → y ≡ x) xs
only_preparing t [] x e l = tt
only_preparing t (z ∷ zs) x e l = go (is_preparing_as t z) refl e l (λ f m. only_preparing t zs x f m)
  where
    go : (b : Bool) → is_preparing_as t z ≡ b → cond b (Some z) (preparing_of t zs) ≡ Some x → cond b 1 0 + how_many (is_preparing_as t) zs ≤ 1 → (preparing_of t zs ≡ Some x → how_many (is_preparing_as t) zs ≤ 1 → AllByRecursion (λ y. is_preparing_as t y ≡ true → y ≡ x) zs) →
        (is_preparing_as t z ≡ true → z ≡ x) × AllByRecursion (λ y. is_preparing_as t y ≡ true → y ≡ x) zs
    go true f g m k = ((λ _. some_stamped z x g), each_weaker (λ y. is_preparing_as t y ≡ false) (λ y. is_preparing_as t y ≡ true → y ≡ x) (λ y n i. absurd (true≢false (sym i ∙ n))) zs (none_counted (is_preparing_as t) zs (omega (arith, m))))
    go false f g m k = ((λ i. absurd (true≢false (sym i ∙ f))), k g (omega (arith, m)))

counted_checked : (opening : Map) (mark : ℕ) (xs : List Step) (s : State) (t : ℕ) → why_not_validate s t ≡ None → IsKept opening xs s → HasCounts mark xs s → HasCounts mark (xs ++ Checks t ∷ []) (after_validate s t)
counted_checked opening mark xs s t w k h =
    let found = preparing_after_check s t w in
    let x = found.0 in
    let p = split_at t s.stamped x found.1 in
    let m = found_in t s.stamped x found.1 in
    subst (HasCounts mark (xs ++ Checks t ∷ [])) (sym (ap (after_validate_of s) found.1)) (at x found.1 m.0 m.1 p.4 p.0 p.1 p.2 x.valid refl)
  where
    ys : List Step
    ys = xs ++ Checks t ∷ []

    other : (u : ℕ) → u ≢ t → checks_in u ys ≡ checks_in u xs
    other u n = checks_other u xs (Checks t) (ne_eqb t u (λ i. n (sym i)))

    drawn : (x : StampedTx) → IsIn x s.stamped → x.id ≡ t → t ≤ s.clock
    drawn x m i = let q = m (IsPlaced s.stamped s.clock) k.sound.placed in let b = q.begun in let d = q.drawn in omega (arith, b, d, i)

    -- what is left to say of the stamped ones
    counted_at : (x : StampedTx) (s' : State) → preparing_of t s.stamped ≡ Some x → IsIn x s.stamped → x.id ≡ t → s'.marks.opening ≡ s.marks.opening → s'.clock ≡ s.clock → unfinished s' ≡ unfinished s → s'.active ≡ s.active → AllByRecursion (OpenChecks ys) s'.stamped → HasCounts mark ys s'
    counted_at x s' f m i o c u a q = record {
      opening = o ∙ h.opening;
      clock = let d = count_push is_draw xs (Checks t) in let l = h.clock in omega (arith, c, d, l);
      unfinished = let b = count_push is_begin xs (Checks t) in let g = count_push is_finish xs (Checks t) in let l = h.unfinished in omega (arith, u, b, g, l);
      active = subst (AllByRecursion (NoChecks ys)) (sym a) (others s.active (none_counted (is_active_as t) s.active (let l = preparing_alone s t x f k.single in omega (arith, l))) h.active);
      preparing = q;
      fresh = λ v lt. other v (λ e. let d = drawn x m i in absurd (omega (arith, d, e, lt, c))) ∙ h.fresh v (omega (arith, lt, c));
    }
      where
        others : (rs : List ActiveTx) → AllByRecursion (λ r. is_active_as t r ≡ false) rs → AllByRecursion (NoChecks xs) rs → AllByRecursion (NoChecks ys) rs
        others [] n g = tt
        others (r ∷ rs) n g = (other r.id (λ e. true≢false (sym (eq-eqb r.id t e) ∙ n.0)) ∙ g.0, others rs n.1 g.1)

    at : (x : StampedTx) → preparing_of t s.stamped ≡ Some x → IsIn x s.stamped → x.id ≡ t → x.settled ≡ false → (before after : List StampedTx) → s.stamped ≡ before ++ x ∷ after → (b : Bool) → x.valid ≡ b → HasCounts mark ys (cond b s (after_check s x.end (nat_le (length (entries x.history)) (x.checked + 1))))
    at x f m i o before after e b v = go b v
      where
        -- one that isn't checked now
        apart : AllByRecursion (λ y. y.settled ≡ false → y.id ≡ t → y ≡ x) s.stamped
        apart = each_weaker (λ y. is_preparing_as t y ≡ true → y ≡ x) (λ y. y.settled ≡ false → y.id ≡ t → y ≡ x) (λ y g o' j. g (and_from (y.id == t) (not y.settled) (eq-eqb y.id t j) (ap not o'))) s.stamped
            (only_preparing t s.stamped x f (let l = k.single.once t in omega (arith, l)))

        same_end : AllByRecursion (λ y. y.end ≡ x.end → y ≡ x) s.stamped
        same_end = subst (AllByRecursion (λ y. y.end ≡ x.end → y ≡ x)) (sym e) (alone_at before after x (subst IsRising e k.sound.rising) (λ y. y ≡ x) refl)

        mine : HasChecks xs x
        mine = m (OpenChecks xs) h.preparing o

        more : checks_in x.id ys ≡ checks_in x.id xs + 1
        more = checks_more x.id xs (Checks t) (eq-eqb t x.id (sym i))

        go : (b : Bool) → x.valid ≡ b → HasCounts mark ys (cond b s (after_check s x.end (nat_le (length (entries x.history)) (x.checked + 1))))
        go true v = counted_at x s f m i refl refl refl refl (each_in (OpenChecks ys) s.stamped (λ y my oy. one y my oy (cases_eq y.id t)))
          where
            n : ℕ
            n = checks_in x.id xs

            again : HasChecks ys x
            again =
                let q = and_parts (nat_lt 0 n) (nat_le (length (entries x.history)) n) (mine.valid ∙ v) in
                let le = leb-true (length (entries x.history)) n q.1 in
                record {
                  checked = λ g. absurd (true≢false (sym v ∙ g));
                  valid = ap (λ (j : ℕ). nat_lt 0 j && nat_le (length (entries x.history)) j) more ∙ and_from (nat_lt 0 (n + 1)) (nat_le (length (entries x.history)) (n + 1)) (lt-ltb 0 (n + 1) (omega arith)) (le-leb (length (entries x.history)) (n + 1) (omega (arith, le))) ∙ sym v;
                }

            one : (y : StampedTx) → IsIn y s.stamped → y.settled ≡ false → (y.id ≡ t) ⊎ (y.id ≡ t → ⊥) → HasChecks ys y
            one y my oy (inl j) = subst (HasChecks ys) (sym (my (λ z. z.settled ≡ false → z.id ≡ t → z ≡ x) apart oy j)) again
            one y my oy (inr j) = same_checks xs ys y (other y.id j) (my (OpenChecks xs) h.preparing oy)
        go false v = counted_at x (after_check s x.end d) f m i refl refl (let l = unsettled_map (with_check x.end d) s.stamped (each_always (λ y. (with_check x.end d y).settled ≡ y.settled) (λ y. refl) s.stamped) in omega (arith, l)) refl
            (each_map (with_check x.end d) (λ y. OpenChecks ys (with_check x.end d y)) (OpenChecks ys) (λ y g. g) s.stamped (each_in (λ y. OpenChecks ys (with_check x.end d y)) s.stamped (λ y my oy. one y my oy (y.end == x.end) refl)))
          where
            d : Bool
            d = nat_le (length (entries x.history)) (x.checked + 1)

            after' : (c : Bool) → c ≡ true → HasChecks ys (record x { checked = cond c (x.checked + 1) x.checked; valid = cond c d x.valid })
            after' true q =
                let is : checks_in x.id ys ≡ x.checked + 1 = more ∙ ap (λ (j : ℕ). j + 1) (sym (mine.checked v)) in
                record {
                  checked = λ _. sym is;
                  valid = ap (λ (j : ℕ). nat_lt 0 j && nat_le (length (entries x.history)) j) is ∙ ap (λ (c : Bool). c && d) (lt-ltb 0 (x.checked + 1) (omega arith));
                }
            after' false q = absurd (false≢true q)

            one : (y : StampedTx) → IsIn y s.stamped → y.settled ≡ false → (c : Bool) → (y.end == x.end) ≡ c → HasChecks ys (record y { checked = cond c (y.checked + 1) y.checked; valid = cond c d y.valid })
            one y my oy true q =
                let is = my (λ z. z.end ≡ x.end → z ≡ x) same_end (eqb-true y.end x.end q) in
                subst (λ (z : StampedTx). HasChecks ys (record z { checked = z.checked + 1; valid = d })) (sym is) (after' true refl)
            one y my oy false q =
                let old = my (OpenChecks xs) h.preparing oy in
                let n : y.id ≢ t = λ j. true≢false (sym (eq-eqb y.end x.end (ap (λ (z : StampedTx). z.end) (my (λ z. z.settled ≡ false → z.id ≡ t → z ≡ x) apart oy j))) ∙ q) in
                record { checked = (same_checks xs ys y (other y.id n) old).checked; valid = (same_checks xs ys y (other y.id n) old).valid }

-- ---- settle
counted_settled : (opening : Map) (mark : ℕ) (xs : List Step) (s : State) (t : ℕ) → why_not_settle s t ≡ None → IsKept opening xs s → HasCounts mark xs s → HasCounts mark (xs ++ steps_unless t (end_of s t) (awaited s t)) (after_settle s t)
counted_settled opening mark xs s t w k h = go (awaited s t)
  where
    now : HasCounts mark (xs ++ Commits t (end_of s t) ∷ []) (after_commit_now s t)
    now =
        let found = preparing_settled s t w in
        let x = found.0 in
        let p = split_at t s.stamped x found.1 in
        let one : unsettled (map (with_settled x.end) s.stamped) + 1 ≡ unsettled s.stamped = subst (λ (zs : List StampedTx). unsettled (map (with_settled x.end) zs) + 1 ≡ unsettled zs) (sym p.2) (settled_one p.0 p.1 x p.4 (subst IsRising p.2 k.sound.rising)) in
        let l = length-append s.ended (committed_tx t x.end (words_now s t) ∷ []) in
        subst (HasCounts mark (xs ++ Commits t (end_of s t) ∷ [])) (sym (ap (after_commit_of s t) found.1))
        (counted_with mark xs (Commits t (end_of s t)) s (after_commit s t x.end) (λ u. refl) refl (omega arith) (omega (arith, one, l)) h.active
        (each_map (with_settled x.end) (OpenChecks xs) (OpenChecks xs) (λ y f. one_left y x.end f (y.end == x.end)) s.stamped h.preparing) h)
      where
        or_parts_first : (a b : Bool) → (a || b) ≡ false → a ≡ false
        or_parts_first true b e = e
        or_parts_first false b e = refl

        or_parts_second : (a b : Bool) → (a || b) ≡ false → b ≡ false
        or_parts_second true b e = absurd (true≢false e)
        or_parts_second false b e = e

        one_left : (y : StampedTx) (e : ℕ) → OpenChecks xs y → (b : Bool) → (y.settled || b) ≡ false → HasChecks xs (record y { settled = y.settled || b; checked = cond b 0 y.checked })
        one_left y e f true o = absurd (true≢false (or_parts_second y.settled true o))
        one_left y e f false o = let q = f (or_parts_first y.settled false o) in record { checked = q.checked; valid = q.valid }

    go : (a : Option StampedTx) → HasCounts mark (xs ++ steps_unless t (end_of s t) a) (after_settle_unless s t a)
    go (Some y) = counted_same mark xs s h
    go None = now

-- ---- abort
counted_aborted : (opening : Map) (mark : ℕ) (xs : List Step) (s : State) (t : ℕ) → IsUnended s t → IsKept opening xs s → HasCounts mark xs s → HasCounts mark (xs ++ Aborts t ∷ []) (after_abort s t)
counted_aborted opening mark xs s t u k h = go (preparing_of t s.stamped) refl
  where
    go : (w : Option StampedTx) → preparing_of t s.stamped ≡ w → HasCounts mark (xs ++ Aborts t ∷ []) (after_abort_of s t w)
    go None e =
        let r = u e in
        let fewer = without_one t s.active r.0 r.1 k.numbered.distinct in
        let l = length-append s.ended (aborted_tx t (words_now s t) ∷ []) in
        counted_with mark xs (Aborts t) s (after_abort_of_active s t) (λ v. refl) refl (omega arith) (omega (arith, fewer, l)) (each_part (λ q. not (q.id == t)) (NoChecks xs) s.active h.active) h.preparing h
    go (Some x) e =
        let p = split_at t s.stamped x e in
        let kept = filter (not_at x.end) s.stamped in
        let one : unsettled kept + 1 ≡ unsettled s.stamped = subst (λ (zs : List StampedTx). unsettled (filter (not_at x.end) zs) + 1 ≡ unsettled zs) (sym p.2) (dropped_one p.0 p.1 x p.4 (subst IsRising p.2 k.sound.rising)) in
        let same = unsettled_map (with_flag t x.end) kept (each_always (λ y. (with_flag t x.end y).settled ≡ y.settled) (λ y. refl) kept) in
        let l = length-append s.ended (aborted_tx t (words_now s t) ∷ []) in
        let a = length-map s.active (active_with_flag t x.end) in
        counted_with mark xs (Aborts t) s (after_abort_of_preparing s t x.end) (λ v. refl) refl (omega arith) (omega (arith, one, same, l, a))
        (each_map (active_with_flag t x.end) (NoChecks xs) (NoChecks xs) (λ r g. g) s.active h.active)
        (each_map (with_flag t x.end) (OpenChecks xs) (OpenChecks xs) (λ y f o. let q = f o in record { checked = q.checked; valid = q.valid }) kept (each_part (not_at x.end) (OpenChecks xs) s.stamped h.preparing)) h

counted_failed : (opening : Map) (mark : ℕ) (xs : List Step) (s : State) (t : ℕ) (r : Refusal) → (is_failure r ≡ true → IsUnended s t) → IsKept opening xs s → HasCounts mark xs s → HasCounts mark (xs ++ steps_of_refusal t r) (after_refusal s t r)
counted_failed opening mark xs s t r f k h = go (is_failure r) refl
  where
    go : (b : Bool) → is_failure r ≡ b → HasCounts mark (xs ++ cond b (Aborts t ∷ []) []) (cond b (after_abort s t) s)
    go true e = counted_aborted opening mark xs s t (f e) k h
    go false e = counted_same mark xs s h

-- ---- finish, trim and close
counted_finished : (mark : ℕ) (xs : List Step) (s : State) (t : ℕ) → why_not_finish s t ≡ None → HasCounts mark xs s → HasCounts mark (xs ++ steps_of_accepted s (Finish t)) (after_finish s t)
counted_finished mark xs s t w h = go (is_done s t)
  where
    go : (b : Bool) → HasCounts mark (xs ++ cond b (Terminates t ∷ []) []) (cond b (after_termination s t) (with_words (words_left t) s))
    go true =
        let u = finish_none s t w in
        let l = ended_one t s.ended u.0 u.1 in
        counted_with mark xs (Terminates t) s (after_termination s t) (λ v. refl) refl (omega arith) (omega (arith, l)) h.active h.preparing h
    go false = subst (λ (zs : List Step). HasCounts mark zs (with_words (words_left t) s)) (sym (append-nil xs)) (counted_words mark xs s (words_left t) h)

counted_trimmed : (mark : ℕ) (xs : List Step) (s : State) (m : ℕ) → IsTrim m s → HasCounts mark xs s → HasCounts mark (xs ++ []) (after_trim s m)
counted_trimmed mark xs s m t h =
    counted_still mark xs s (after_trim s m) refl refl (let l = unsettled_filter (λ x. not (is_to m x)) s.stamped (each_weaker (λ x. x.settled ≡ false → m < x.end) (λ x. not (is_to m x) ≡ false → x.settled ≡ true) (λ x f e. settled_there x f e x.settled refl) s.stamped t.settled) in omega (arith, l))
    h.active (each_part (λ x. not (is_to m x)) (OpenChecks xs) s.stamped h.preparing) h
  where
    no_true : (b : Bool) → not b ≡ false → b ≡ true
    no_true true e = refl
    no_true false e = absurd (true≢false e)

    settled_there : (x : StampedTx) → (x.settled ≡ false → m < x.end) → not (is_to m x) ≡ false → (b : Bool) → x.settled ≡ b → x.settled ≡ true
    settled_there x f e true o = o
    settled_there x f e false o = absurd (let lt = f o in let le = leb-true x.end m (no_true (is_to m x) e) in omega (arith, lt, le))

-- ---- each call
counted_accepted : (opening : Map) (mark : ℕ) (xs : List Step) (s : State) (c : Call) → why_not s c ≡ None → IsKept opening xs s → HasCounts mark xs s → HasCounts mark (xs ++ steps_of_accepted s c) (after_accepted s c)
counted_accepted opening mark xs s Begin w k h = counted_begun mark xs s h
counted_accepted opening mark xs s (Do t op) w k h = counted_over mark (xs ++ Answers t op (answer_in s t op) ∷ []) (after_operation s t op (answer_in s t op)) (new_claim s t op (answer_in s t op)) (counted_done mark xs s t op (answer_in s t op) h)
counted_accepted opening mark xs s (Precommit t) w k h = counted_prepared opening mark xs s t w k h
counted_accepted opening mark xs s (Validate t) w k h = counted_checked opening mark xs s t w k h
counted_accepted opening mark xs s (Settle t) w k h = counted_settled opening mark xs s t w k h
counted_accepted opening mark xs s (Rollback t) w k h = counted_aborted opening mark xs s t (unended_rolled_back s t w) k h
counted_accepted opening mark xs s (Finish t) w k h = counted_finished mark xs s t w h
counted_accepted opening mark xs s (Trim m) w k h = counted_trimmed mark xs s m (may_trim s m w k.sound) h
counted_accepted opening mark xs s (Close fits g full) w k h = counted_still mark xs s (after_close s g.mark) refl refl refl h.active h.preparing h

counted_refused : (opening : Map) (mark : ℕ) (xs : List Step) (s : State) (c : Call) (r : Refusal) → why_not s c ≡ Some r → IsKept opening xs s → HasCounts mark xs s → HasCounts mark (xs ++ steps_of_refused c r) (after_refused s c r)
counted_refused opening mark xs s Begin r w k h = counted_same mark xs s h
counted_refused opening mark xs s (Do t op) r w k h = counted_failed opening mark xs s t r (unended_done s t op r w) k h
counted_refused opening mark xs s (Precommit t) r w k h = counted_failed opening mark xs s t r (unended_after_prepare s t r w) k h
counted_refused opening mark xs s (Validate t) r w k h = counted_failed opening mark xs s t r (unended_after_check s t r w) k h
counted_refused opening mark xs s (Settle t) r w k h = counted_failed opening mark xs s t r (unended_settled s t r w) k h
counted_refused opening mark xs s (Rollback t) r w k h = counted_same mark xs s h
counted_refused opening mark xs s (Finish t) r w k h = counted_same mark xs s h
counted_refused opening mark xs s (Trim m) r w k h = counted_same mark xs s h
counted_refused opening mark xs s (Close fits g full) r w k h = counted_same mark xs s h

counted_spent : (mark : ℕ) (xs : List Step) (s : State) (c : Call) → HasCounts mark xs s → HasCounts mark (xs ++ steps_of_refused c OutOfMemory) (after_refused s c OutOfMemory)
counted_spent mark xs s Begin h = counted_same mark xs s h
counted_spent mark xs s (Do t op) h = counted_same mark xs s h
counted_spent mark xs s (Precommit t) h = counted_same mark xs s h
counted_spent mark xs s (Validate t) h = counted_same mark xs s h
counted_spent mark xs s (Settle t) h = counted_same mark xs s h
counted_spent mark xs s (Rollback t) h = counted_same mark xs s h
counted_spent mark xs s (Finish t) h = counted_same mark xs s h
counted_spent mark xs s (Trim m) h = counted_same mark xs s h
counted_spent mark xs s (Close fits g full) h = counted_same mark xs s h

pub counted_after_call : (opening : Map) (mark : ℕ) (xs : List Step) (s : State) (c : Call) (r : Result) → MayCome s c r → IsKept opening xs s → HasCounts mark xs s → HasCounts mark (xs ++ steps_of s c r) (after_call s c r)
counted_after_call opening mark xs s c Accepted m k h = counted_accepted opening mark xs s c m.0 k h
counted_after_call opening mark xs s c (Refused r) m k h = go (why_not s c) refl (takes_memory c) m
  where
    go : (w : Option Refusal) → why_not s c ≡ w → (b : Bool) → IsRefusal b w r → HasCounts mark (xs ++ steps_of_refused c r) (after_refused s c r)
    go (Some why) e b q = counted_refused opening mark xs s c r (e ∙ ap (λ (v : Refusal). Some v) (sym q)) k h
    go None e true q = subst (λ (v : Refusal). HasCounts mark (xs ++ steps_of_refused c v) (after_refused s c v)) (sym q) (counted_spent mark xs s c h)
    go None e false q = absurd q

pub counted_opened : (rows : Map) (mark : ℕ) → HasCounts mark [] (opened rows mark)
counted_opened rows mark = record { opening = refl; clock = omega arith; unfinished = refl; active = tt; preparing = tt; fresh = λ t lt. refl }

-- a mark that was closed changes nothing of it
pub counted_closed : (mark : ℕ) (xs : List Step) (s : State) (n : ℕ) → HasCounts mark xs s → HasCounts mark xs (after_close s n)
counted_closed mark xs s n h = record { opening = h.opening; clock = h.clock; unfinished = h.unfinished; active = h.active; preparing = h.preparing; fresh = h.fresh }
