-- Finishing is Done by the call for the last word.
use Rattle.std.proofs.Common.{◌≡◌, ℕ, ◌<◌, ◌≤◌, ◌+◌, Bool, true, false, cond, max, List, [], ◌∷◌, ◌++◌, Option, None, Some, length, map, refl, sym, ap, ◌∙◌, subst, arith, append_assoc}
use Rattle.std.specs.Prelude.{◌==◌, drop}
use Rattle.std.specs.List.{AllByRecursion}
use Rattle.std.proofs.lemmas.Bool.{leb-false, eqb-true}
use Rattle.mvo_types.specs.declared.refusal.Refusal.{Refusal}
use Rattle.mvo_types.specs.Keys.{Map}
use Rattle.mvo_model.specs.Trace.{Step, history_of}
use Rattle.mvo_theory.specs.State.{State, StampedTx, EndedTx, Claim, Word, opened, active_of, preparing_of, ended_of}
use Rattle.mvo_theory.specs.Claims.{new_claim}
use Rattle.mvo_theory.specs.Words.{word_count, words_without, is_last_word, is_done, words_left, words_now, HaveFewWords}
use Rattle.mvo_theory.specs.Changes.{after_operation, with_words, taken_over, without_ended, after_termination, after_finish, committed_tx, aborted_tx}
use Rattle.mvo_theory.specs.Causes.{awaited, is_failure, why_not_finish}
use Rattle.mvo_theory.specs.Steps.{after_precommit, after_validate, after_commit_of, after_settle_unless, after_abort_of, after_abort}
use Rattle.mvo_theory.specs.Calls.{Call, Result, Run, MayCome, answer_in, after_accepted, after_refused, after_call, steps_of, MayRun, trace_of, IsKept}
use Rattle.mvo_theory.specs.Calls.Call.{Begin, Do, Precommit, Validate, Settle, Rollback, Finish, Trim, Close}
use Rattle.mvo_theory.specs.Calls.Result.{Accepted, Refused}
use Rattle.mvo_theory.specs.Finished.{is_finish_of, mores_before, FinishingEnds}
use Rattle.mvo_theory.proofs.Cases.{finish_none}
use Rattle.mvo_theory.proofs.Runs.{kept_after_call, kept_opened}
use Rattle.mvo_theory.proofs.Words.{Few, count_later, left_less, without_less, ended_precommit, ended_validate, words_after_call, finish_leaves, finish_fewer}

none_some : (u : EndedTx) → ◌≡◌ {A = Option EndedTx} None (Some u) → ⊥
none_some u q = cc

some_same : (u v : EndedTx) → ◌≡◌ {A = Option EndedTx} (Some u) (Some v) → u ≡ v
some_same u v q = cc

not_both : true ≡ false → ⊥
not_both q = cc

-- ---- whoever ended stays so, with no more words
abbrev StaysEnded : ℕ → ℕ → List EndedTx → Type 0
StaysEnded n t us = (v : EndedTx) × ((ended_of t us ≡ Some v) × (length v.words ≤ n))

ended_append : (t : ℕ) (us vs : List EndedTx) (u : EndedTx) → ended_of t us ≡ Some u → ended_of t (us ++ vs) ≡ Some u
ended_append t [] vs u e = absurd (none_some u e)
ended_append t (w ∷ ws) vs u e = go (w.id == t) e (ended_append t ws vs u)
  where
    go : (b : Bool) → cond b (Some w) (ended_of t ws) ≡ Some u → (ended_of t ws ≡ Some u → ended_of t (ws ++ vs) ≡ Some u) → cond b (Some w) (ended_of t (ws ++ vs)) ≡ Some u
    go true f r = f
    go false f r = r f

ended_map : (t : ℕ) (f : EndedTx → List Word) (us : List EndedTx) (u : EndedTx) → ended_of t us ≡ Some u → ended_of t (map {A = EndedTx} (λ v. record v { words = f v }) us) ≡ Some (record u { words = f u })
ended_map t f [] u e = absurd (none_some u e)
ended_map t f (w ∷ ws) u e = go (w.id == t) e (ended_map t f ws u)
  where
    go : (b : Bool) → cond b (Some w) (ended_of t ws) ≡ Some u → (ended_of t ws ≡ Some u → ended_of t (map {A = EndedTx} (λ v. record v { words = f v }) ws) ≡ Some (record u { words = f u })) → cond b (Some (record w { words = f w })) (ended_of t (map {A = EndedTx} (λ v. record v { words = f v }) ws)) ≡ Some (record u { words = f u })
    go true g r = ap (λ (v : EndedTx). Some (record v { words = f v })) (some_same w u g)
    go false g r = r g

ended_without : (t a : ℕ) (us : List EndedTx) (u : EndedTx) → (a == t) ≡ false → ended_of t us ≡ Some u → ended_of t (without_ended a us) ≡ Some u
ended_without t a [] u n e = absurd (none_some u e)
ended_without t a (w ∷ ws) u n e = go (w.id == a) refl (ended_without t a ws u n)
  where
    then : (c : Bool) → cond c (Some w) (ended_of t ws) ≡ Some u → (ended_of t ws ≡ Some u → ended_of t (without_ended a ws) ≡ Some u) → cond c (Some w) (ended_of t (without_ended a ws)) ≡ Some u
    then true f r = f
    then false f r = r f

    go : (b : Bool) → (w.id == a) ≡ b → (ended_of t ws ≡ Some u → ended_of t (without_ended a ws) ≡ Some u) → ended_of t (cond b ws (w ∷ without_ended a ws)) ≡ Some u
    go true q r = subst (λ (c : Bool). cond c (Some w) (ended_of t ws) ≡ Some u) (ap (λ (i : ℕ). i == t) (eqb-true w.id a q) ∙ n) e
    go false q r = then (w.id == t) e r

module _ (t : ℕ) (u : EndedTx) where
  stays_same : (us vs : List EndedTx) → vs ≡ us → ended_of t us ≡ Some u → StaysEnded (length u.words) t vs
  stays_same us vs q e = (u, (ap (ended_of t) q ∙ e, omega arith))

  stays_append : (us vs : List EndedTx) → ended_of t us ≡ Some u → StaysEnded (length u.words) t (us ++ vs)
  stays_append us vs e = (u, (ended_append t us vs u e, omega arith))

  stays_map : (us : List EndedTx) (f : EndedTx → List Word) → length (f u) ≤ length u.words → ended_of t us ≡ Some u → StaysEnded (length u.words) t (map {A = EndedTx} (λ v. record v { words = f v }) us)
  stays_map us f l e = (record u { words = f u }, (ended_map t f us u e, l))

  stays_taken : (s : State) (c : Option Claim) → ended_of t s.ended ≡ Some u → StaysEnded (length u.words) t (taken_over c s).ended
  stays_taken s None e = stays_same s.ended s.ended refl e
  stays_taken s (Some c) e = stays_map s.ended (λ v. words_without c v.outcome v.words) (without_less c u.outcome u.words) e

  stays_commit : (s : State) (a : ℕ) (w : Option StampedTx) → ended_of t s.ended ≡ Some u → StaysEnded (length u.words) t (after_commit_of s a w).ended
  stays_commit s a None e = stays_same s.ended s.ended refl e
  stays_commit s a (Some x) e = stays_append s.ended (committed_tx a x.end (words_now s a) ∷ []) e

  stays_settle : (s : State) (a : ℕ) (w : Option StampedTx) → ended_of t s.ended ≡ Some u → StaysEnded (length u.words) t (after_settle_unless s a w).ended
  stays_settle s a None e = stays_commit s a (preparing_of a s.stamped) e
  stays_settle s a (Some x) e = stays_same s.ended s.ended refl e

  stays_abort : (s : State) (a : ℕ) (w : Option StampedTx) → ended_of t s.ended ≡ Some u → StaysEnded (length u.words) t (after_abort_of s a w).ended
  stays_abort s a None e = stays_append s.ended (aborted_tx a (words_now s a) ∷ []) e
  stays_abort s a (Some x) e = stays_append s.ended (aborted_tx a (words_now s a) ∷ []) e

  stays_refusal : (s : State) (a : ℕ) (b : Bool) → ended_of t s.ended ≡ Some u → StaysEnded (length u.words) t (cond b (after_abort s a) s).ended
  stays_refusal s a true e = stays_abort s a (preparing_of a s.stamped) e
  stays_refusal s a false e = stays_same s.ended s.ended refl e

  stays_finish : (s : State) (a : ℕ) (b : Bool) → (a == t) ≡ false → ended_of t s.ended ≡ Some u → StaysEnded (length u.words) t (cond b (after_termination s a) (with_words (words_left a) s)).ended
  stays_finish s a true n e = (u, (ended_without t a s.ended u n e, omega arith))
  stays_finish s a false n e = stays_map s.ended (words_left a) (left_less a u) e

  stays_accepted : (s : State) (c : Call) → is_finish_of t c Accepted ≡ false → ended_of t s.ended ≡ Some u → StaysEnded (length u.words) t (after_accepted s c).ended
  stays_accepted s Begin n e = stays_same s.ended s.ended refl e
  stays_accepted s (Do a op) n e = stays_taken (after_operation s a op (answer_in s a op)) (new_claim s a op (answer_in s a op)) e
  stays_accepted s (Precommit a) n e = stays_same s.ended (after_precommit s a).ended (ended_precommit s (active_of a s.active)) e
  stays_accepted s (Validate a) n e = stays_same s.ended (after_validate s a).ended (ended_validate s (preparing_of a s.stamped)) e
  stays_accepted s (Settle a) n e = stays_settle s a (awaited s a) e
  stays_accepted s (Rollback a) n e = stays_abort s a (preparing_of a s.stamped) e
  stays_accepted s (Finish a) n e = stays_finish s a (is_done s a) n e
  stays_accepted s (Trim m) n e = stays_same s.ended s.ended refl e
  stays_accepted s (Close fits g full) n e = stays_same s.ended s.ended refl e

  stays_refused : (s : State) (c : Call) (r : Refusal) → ended_of t s.ended ≡ Some u → StaysEnded (length u.words) t (after_refused s c r).ended
  stays_refused s Begin r e = stays_same s.ended s.ended refl e
  stays_refused s (Do a op) r e = stays_refusal s a (is_failure r) e
  stays_refused s (Precommit a) r e = stays_refusal s a (is_failure r) e
  stays_refused s (Validate a) r e = stays_refusal s a (is_failure r) e
  stays_refused s (Settle a) r e = stays_refusal s a (is_failure r) e
  stays_refused s (Rollback a) r e = stays_same s.ended s.ended refl e
  stays_refused s (Finish a) r e = stays_same s.ended s.ended refl e
  stays_refused s (Trim m) r e = stays_same s.ended s.ended refl e
  stays_refused s (Close fits g full) r e = stays_same s.ended s.ended refl e

  stays_ended : (s : State) (c : Call) (r : Result) → is_finish_of t c r ≡ false → ended_of t s.ended ≡ Some u → StaysEnded (length u.words) t (after_call s c r).ended
  stays_ended s c Accepted n e = stays_accepted s c n e
  stays_ended s c (Refused r) n e = stays_refused s c r e

-- ---- a call of finishing that is answered
finishes : (t : ℕ) (s : State) (c : Call) (r : Result) → is_finish_of t c r ≡ true → MayCome s c r → (after_call s c r ≡ after_finish s t) × (why_not_finish s t ≡ None)
finishes t s (Finish a) Accepted q m = let same = eqb-true a t q in (ap (after_finish s) same, ap (why_not_finish s) (sym same) ∙ m.0)
finishes t s (Finish a) (Refused r) q m = absurd (not_both (sym q))
finishes t s Begin r q m = absurd (not_both (sym q))
finishes t s (Do a op) r q m = absurd (not_both (sym q))
finishes t s (Precommit a) r q m = absurd (not_both (sym q))
finishes t s (Validate a) r q m = absurd (not_both (sym q))
finishes t s (Settle a) r q m = absurd (not_both (sym q))
finishes t s (Rollback a) r q m = absurd (not_both (sym q))
finishes t s (Trim n) r q m = absurd (not_both (sym q))
finishes t s (Close fits g full) r q m = absurd (not_both (sym q))

two_left : (s : State) (t : ℕ) (u : EndedTx) → ended_of t s.ended ≡ Some u → is_done s t ≡ false → 1 < length u.words
two_left s t u e n = leb-false (length u.words) 1 (sym (ap is_last_word e) ∙ n)

one_fewer : (rest now before : ℕ) → rest < max 1 now → now + 1 ≡ before → 1 < before → rest + 1 < max 1 before
one_fewer rest now before l e m = grind arith

no_more : (rest now before : ℕ) → rest < max 1 now → now ≤ before → rest < max 1 before
no_more rest now before l m = grind arith

-- ---- of one that ended, each More takes a word
fewer_than_words : (t : ℕ) (s : State) (cs : Run) (u : EndedTx) → MayRun s cs → ended_of t s.ended ≡ Some u → mores_before t s cs < max 1 (length u.words)
fewer_than_words t s [] u m e = no_more 0 0 (length u.words) (omega arith) (omega arith)
fewer_than_words t s (c ∷ cs) u m e = go (λ x v. fewer_than_words t x cs v) (is_finish_of t c.0 c.1) refl (is_done s t) refl
  where
    go : ((x : State) (v : EndedTx) → MayRun x cs → ended_of t x.ended ≡ Some v → mores_before t x cs < max 1 (length v.words))
        → (b : Bool) → is_finish_of t c.0 c.1 ≡ b → (d : Bool) → is_done s t ≡ d
        → cond b (cond d 0 (mores_before t (after_call s c.0 c.1) cs + 1)) (mores_before t (after_call s c.0 c.1) cs) < max 1 (length u.words)
    go each true q true d = no_more 0 0 (length u.words) (omega arith) (omega arith)
    go each true q false d =
        let is = (finishes t s c.0 c.1 q m.0).0 in
        let left = ap (λ (x : State). ended_of t x.ended) is ∙ finish_leaves s t u e d in
        let rest = each (after_call s c.0 c.1) (record u { words = drop 1 u.words }) m.1 left in
        one_fewer (mores_before t (after_call s c.0 c.1) cs) (length (drop 1 u.words)) (length u.words) rest (finish_fewer s t u e d) (two_left s t u e d)
    go each false q d f =
        let v = stays_ended t u s c.0 c.1 q e in
        no_more (mores_before t (after_call s c.0 c.1) cs) (length v.0.words) (length u.words) (each (after_call s c.0 c.1) v.0 m.1 v.1.0) v.1.1

few_of : (t : ℕ) (xs : List Step) (us : List EndedTx) (u : EndedTx) → AllByRecursion (Few xs) us → ended_of t us ≡ Some u → length u.words ≤ word_count (history_of t xs)
few_of t xs [] u h e = absurd (none_some u e)
few_of t xs (w ∷ ws) u h e = go (w.id == t) refl e (few_of t xs ws u h.1)
  where
    go : (b : Bool) → (w.id == t) ≡ b → cond b (Some w) (ended_of t ws) ≡ Some u → (ended_of t ws ≡ Some u → length u.words ≤ word_count (history_of t xs)) → length u.words ≤ word_count (history_of t xs)
    go true q f r = subst (λ (v : EndedTx). length v.words ≤ word_count (history_of t xs)) (some_same w u f) (subst (λ (i : ℕ). length w.words ≤ word_count (history_of i xs)) (eqb-true w.id t q) h.0)
    go false q f r = r f

-- ---- of any transaction
fewer_than_answers : (opening : Map) (xs : List Step) (t : ℕ) (s : State) (cs : Run) → MayRun s cs → IsKept opening xs s → HaveFewWords xs s → mores_before t s cs < max 1 (word_count (history_of t (xs ++ trace_of s cs)))
fewer_than_answers opening xs t s [] m k h = no_more 0 0 (word_count (history_of t (xs ++ []))) (omega arith) (omega arith)
fewer_than_answers opening xs t s (c ∷ cs) m k h =
    go (ended_of t s.ended) refl
    (subst (λ ys. mores_before t (after_call s c.0 c.1) cs < max 1 (word_count (history_of t ys))) (append_assoc xs (steps_of s c.0 c.1) (trace_of (after_call s c.0 c.1) cs))
    (fewer_than_answers opening (xs ++ steps_of s c.0 c.1) t (after_call s c.0 c.1) cs m.1 (kept_after_call opening xs s c.0 c.1 m.0 k) (words_after_call opening xs s c.0 c.1 k.after_trace h)))
  where
    then : ended_of t s.ended ≡ None → (b : Bool) → is_finish_of t c.0 c.1 ≡ b → mores_before t (after_call s c.0 c.1) cs < max 1 (word_count (history_of t (xs ++ trace_of s (c ∷ cs)))) → cond b (cond (is_done s t) 0 (mores_before t (after_call s c.0 c.1) cs + 1)) (mores_before t (after_call s c.0 c.1) cs) < max 1 (word_count (history_of t (xs ++ trace_of s (c ∷ cs))))
    then e true q rest = let found = finish_none s t (finishes t s c.0 c.1 q m.0).1 in absurd (none_some found.0 (sym e ∙ found.1))
    then e false q rest = rest

    go : (v : Option EndedTx) → ended_of t s.ended ≡ v → mores_before t (after_call s c.0 c.1) cs < max 1 (word_count (history_of t (xs ++ trace_of s (c ∷ cs)))) → mores_before t s (c ∷ cs) < max 1 (word_count (history_of t (xs ++ trace_of s (c ∷ cs))))
    go None e rest = then e (is_finish_of t c.0 c.1) refl rest
    go (Some u) e rest =
        let now = few_of t xs s.ended u h e in
        let at_end = count_later t xs (trace_of s (c ∷ cs)) in
        no_more (mores_before t s (c ∷ cs)) (length u.words) (word_count (history_of t (xs ++ trace_of s (c ∷ cs)))) (fewer_than_words t s (c ∷ cs) u m e) (omega (arith, now, at_end))

pub finishing_ends : FinishingEnds
finishing_ends rows mark run t m = fewer_than_answers rows [] t (opened rows mark) run m (kept_opened rows mark) tt
