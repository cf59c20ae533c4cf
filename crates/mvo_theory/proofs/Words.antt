-- How many words an ended transaction has left.
use Rattle.std.proofs.Common.{◌≡◌, ℕ, ◌≤◌, ◌+◌, Bool, true, false, cond, List, [], ◌∷◌, ◌++◌, Option, None, Some, length, map, refl, sym, ap, ◌∙◌, subst, arith, append-nil, append_assoc}
use Rattle.std.specs.Prelude.{◌==◌, nat_le, drop, not, is_some}
use Rattle.std.specs.List.{AllByRecursion, filter}
use Rattle.std.proofs.lemmas.List.{length-append, length-drop}
use Rattle.std.proofs.lemmas.Bool.{leb-true, leb-false}
use Rattle.mvo_types.specs.declared.row.RowKey.{RowKey}
use Rattle.mvo_types.specs.declared.op.Op.{Op}
use Rattle.mvo_types.specs.declared.op.Op.TheVariants.{Insert, Update, Delete}
use Rattle.mvo_types.specs.declared.refusal.Refusal.{Refusal}
use Rattle.mvo_types.specs.Keys.{Map}
use Rattle.mvo_types.specs.AnswerData.{AnswerData}
use Rattle.mvo_types.specs.AnswerData.AnswerData.{Inserted, Updated, Deleted}
use Rattle.mvo_model.specs.History.{History, net_write}
use Rattle.mvo_model.specs.Trace.{Step, history_of}
use Rattle.mvo_model.specs.Trace.Step.{Aborts, Terminates}
use Rattle.mvo_theory.specs.Entries.{entries}
use Rattle.mvo_theory.specs.State.{State, ActiveTx, StampedTx, EndedTx, Claim, Word, Outcome, active_of, preparing_of, ended_of}
use Rattle.mvo_theory.specs.State.Outcome.{Committed, Aborted}
use Rattle.mvo_theory.specs.Claims.{ended_key, claims_with, claim_with, new_claim, origin}
use Rattle.mvo_theory.specs.Words.{words_by, words_behind, words_of, word_count_of, word_count, words_held, words_now, is_end_of, words_without, is_last_word, is_done, words_left, HaveFewWords}
use Rattle.mvo_theory.specs.Changes.{after_check, after_operation, with_words, taken_over, without_ended, after_termination, after_finish, committed_tx, aborted_tx}
use Rattle.mvo_theory.specs.Causes.{awaited, is_failure, end_of}
use Rattle.mvo_theory.specs.Steps.{after_precommit_of, after_precommit, after_validate_of, after_validate, after_commit_of, after_settle_unless, after_abort_of, after_abort}
use Rattle.mvo_theory.specs.AfterTrace.{IsAfterTrace}
use Rattle.mvo_theory.specs.Calls.{Call, Result, Run, answer_in, after_accepted, after_refused, after_call, steps_unless, steps_of_accepted, steps_of_refused, steps_of, MayRun, after_run, trace_of, IsKept}
use Rattle.mvo_theory.specs.Calls.Call.{Begin, Do, Precommit, Validate, Settle, Rollback, Finish, Trim, Close}
use Rattle.mvo_theory.specs.Calls.Result.{Accepted, Refused}
use Rattle.mvo_theory.proofs.Each.{each_weaker, each_append, each_map}
use Rattle.mvo_theory.proofs.Who.{active_holds}
use Rattle.mvo_theory.proofs.LastWriter.{found_in}
use Rattle.mvo_theory.proofs.Cases.{found_is, no_ended}
use Rattle.mvo_theory.proofs.Runs.{kept_after_call}
use Rattle.mvo_theory.proofs.Found.{history_of-append}

-- ---- as many as its operations wrote
words_by_count : (before : History) (claims : List Claim) (op : Op) (a : AnswerData) → length (words_by before claims op a) ≡ word_count_of op a
words_by_count before claims (Insert r) Inserted = refl
words_by_count before claims (Update r) Updated = refl
words_by_count before claims (Delete k) Deleted = refl
words_by_count before claims op a = refl

words_behind_count : (before : History) (claims : List Claim) (ts : History) → length (words_behind before claims ts) ≡ word_count ts
words_behind_count before claims [] = refl
words_behind_count before claims (t ∷ ts) =
    length-append (words_by before claims t.0 t.1) (words_behind (before ++ t ∷ []) claims ts)
    ∙ ap (λ (n : ℕ). n + length (words_behind (before ++ t ∷ []) claims ts)) (words_by_count before claims t.0 t.1)
    ∙ ap (λ (n : ℕ). word_count_of t.0 t.1 + n) (words_behind_count (before ++ t ∷ []) claims ts)

-- finishing takes one call for each Inserted or Deleted, and two for each Updated
pub words_of_count : (ts : History) (claims : List Claim) → length (words_of ts claims) ≡ word_count ts
words_of_count ts claims = words_behind_count [] claims ts

word_count-append : (xs ys : History) → word_count (xs ++ ys) ≡ word_count xs + word_count ys
word_count-append [] ys = omega arith
word_count-append (x ∷ xs) ys = let e = word_count-append xs ys in omega arith

pub count_later : (u : ℕ) (xs ys : List Step) → word_count (history_of u xs) ≤ word_count (history_of u (xs ++ ys))
count_later u xs ys = let e = ap word_count (history_of-append u xs ys) ∙ word_count-append (history_of u xs) (history_of u ys) in omega arith

-- ---- the words of one that is found
count_found : (xs : List Step) (u t : ℕ) (ts : History) (claims : List Claim) → u ≡ t → history_of u xs ≡ ts → length (words_of ts claims) ≤ word_count (history_of t xs)
count_found xs u t ts claims is e = let q = words_of_count ts claims ∙ ap word_count (sym e) ∙ ap (λ (i : ℕ). word_count (history_of i xs)) is in omega arith

pub words_now_count : (opening : Map) (xs : List Step) (s : State) (t : ℕ) → IsAfterTrace opening xs s → length (words_now s t) ≤ word_count (history_of t xs)
words_now_count opening xs s t h = go (active_of t s.active) refl (preparing_of t s.stamped) refl
  where
    go : (v : Option ActiveTx) → active_of t s.active ≡ v → (w : Option StampedTx) → preparing_of t s.stamped ≡ w → length (words_held v w) ≤ word_count (history_of t xs)
    go (Some r) e w f = let q = active_holds (λ (a : ActiveTx). history_of a.id xs ≡ a.history) t s.active r e h.active in count_found xs r.id t r.history r.claims q.1 q.0
    go None e (Some x) f = let q = found_in t s.stamped x f in count_found xs x.id t x.history x.claims q.1 (q.0 (λ (y : StampedTx). history_of y.id xs ≡ y.history) h.stamped)
    go None e None f = omega arith

-- ---- what each change leaves of them
abbrev pub Few : List Step → EndedTx → Type 0
Few xs u = length u.words ≤ word_count (history_of u.id xs)

few_later : (xs ys : List Step) (us : List EndedTx) → AllByRecursion (Few xs) us → AllByRecursion (Few (xs ++ ys)) us
few_later xs ys us h = each_weaker (Few xs) (Few (xs ++ ys)) (λ u l. let c = count_later u.id xs ys in omega arith) us h

same_ended : (xs ys : List Step) (s s' : State) → s'.ended ≡ s.ended → HaveFewWords xs s → HaveFewWords (xs ++ ys) s'
same_ended xs ys s s' e h = subst (AllByRecursion (Few (xs ++ ys))) (sym e) (few_later xs ys s.ended h)

fewer_words : (xs : List Step) (s : State) (f : EndedTx → List Word) → ((u : EndedTx) → length (f u) ≤ length u.words) → HaveFewWords xs s → HaveFewWords xs (with_words f s)
fewer_words xs s f g h = each_map {X = EndedTx} {Y = EndedTx} (λ u. record u { words = f u }) (Few xs) (Few xs) (λ u l. let q = g u in omega arith) s.ended h

filter_less : (p : Word → Bool) (ws : List Word) → length (filter p ws) ≤ length ws
filter_less p [] = omega arith
filter_less p (w ∷ ws) = go (p w) (filter_less p ws)
  where
    go : (b : Bool) → length (filter p ws) ≤ length ws → length (cond b (w ∷ filter p ws) (filter p ws)) ≤ length (w ∷ ws)
    go true l = omega arith
    go false l = omega arith

pub without_less : (c : Claim) (o : Outcome) (ws : List Word) → length (words_without c o ws) ≤ length ws
without_less c (Committed e) ws = omega arith
without_less c Aborted ws = filter_less (λ w. not (is_end_of c w)) ws

taken_less : (xs : List Step) (s : State) (c : Option Claim) → HaveFewWords xs s → HaveFewWords xs (taken_over c s)
taken_less xs s None h = h
taken_less xs s (Some c) h = fewer_words xs s (λ u. words_without c u.outcome u.words) (λ u. without_less c u.outcome u.words) h

drop_less : (ws : List Word) → length (drop 1 ws) ≤ length ws
drop_less [] = omega arith
drop_less (w ∷ ws) = omega arith

pub left_less : (t : ℕ) (u : EndedTx) → length (words_left t u) ≤ length u.words
left_less t u = go (u.id == t)
  where
    go : (b : Bool) → length (cond b (drop 1 u.words) u.words) ≤ length u.words
    go true = drop_less u.words
    go false = omega arith

few_without : (xs : List Step) (t : ℕ) (us : List EndedTx) → AllByRecursion (Few xs) us → AllByRecursion (Few xs) (without_ended t us)
few_without xs t [] h = tt
few_without xs t (u ∷ us) h = go (u.id == t) (few_without xs t us h.1)
  where
    go : (b : Bool) → AllByRecursion (Few xs) (without_ended t us) → AllByRecursion (Few xs) (cond b us (u ∷ without_ended t us))
    go true r = h.1
    go false r = (h.0, r)

pub ended_precommit : (s : State) (w : Option ActiveTx) → (after_precommit_of s w).ended ≡ s.ended
ended_precommit s None = refl
ended_precommit s (Some r) = refl

pub ended_validate : (s : State) (w : Option StampedTx) → (after_validate_of s w).ended ≡ s.ended
ended_validate s None = refl
ended_validate s (Some x) = go x.valid
  where
    go : (b : Bool) → (cond b s (after_check s x.end (nat_le (length (entries x.history)) (x.checked + 1)))).ended ≡ s.ended
    go true = refl
    go false = refl

few_commit : (opening : Map) (xs ys : List Step) (s : State) (t : ℕ) (w : Option StampedTx) → IsAfterTrace opening xs s → HaveFewWords xs s → HaveFewWords (xs ++ ys) (after_commit_of s t w)
few_commit opening xs ys s t None a h = few_later xs ys s.ended h
few_commit opening xs ys s t (Some x) a h = each_append (Few (xs ++ ys)) s.ended (committed_tx t x.end (words_now s t) ∷ []) (few_later xs ys s.ended h) ((let l = words_now_count opening xs s t a in let c = count_later t xs ys in omega arith), tt)

few_settle : (opening : Map) (xs : List Step) (s : State) (t : ℕ) (w : Option StampedTx) → IsAfterTrace opening xs s → HaveFewWords xs s → HaveFewWords (xs ++ steps_unless t (end_of s t) w) (after_settle_unless s t w)
few_settle opening xs s t None a h = few_commit opening xs (steps_unless t (end_of s t) None) s t (preparing_of t s.stamped) a h
few_settle opening xs s t (Some y) a h = few_later xs [] s.ended h

few_abort : (opening : Map) (xs ys : List Step) (s : State) (t : ℕ) (w : Option StampedTx) → IsAfterTrace opening xs s → HaveFewWords xs s → HaveFewWords (xs ++ ys) (after_abort_of s t w)
few_abort opening xs ys s t w a h = go w (each_append (Few (xs ++ ys)) s.ended (aborted_tx t (words_now s t) ∷ []) (few_later xs ys s.ended h) ((let l = words_now_count opening xs s t a in let c = count_later t xs ys in omega arith), tt))
  where
    go : (v : Option StampedTx) → AllByRecursion (Few (xs ++ ys)) (s.ended ++ aborted_tx t (words_now s t) ∷ []) → HaveFewWords (xs ++ ys) (after_abort_of s t v)
    go None q = q
    go (Some x) q = q

few_refusal : (opening : Map) (xs : List Step) (s : State) (t : ℕ) (b : Bool) → IsAfterTrace opening xs s → HaveFewWords xs s → HaveFewWords (xs ++ cond b (Aborts t ∷ []) []) (cond b (after_abort s t) s)
few_refusal opening xs s t true a h = few_abort opening xs (Aborts t ∷ []) s t (preparing_of t s.stamped) a h
few_refusal opening xs s t false a h = few_later xs [] s.ended h

few_finish : (xs : List Step) (s : State) (t : ℕ) (b : Bool) → HaveFewWords xs s → HaveFewWords (xs ++ cond b (Terminates t ∷ []) []) (cond b (after_termination s t) (with_words (words_left t) s))
few_finish xs s t true h = few_later xs (Terminates t ∷ []) (without_ended t s.ended) (few_without xs t s.ended h)
few_finish xs s t false h = subst (λ ys. HaveFewWords ys (with_words (words_left t) s)) (sym (append-nil xs)) (fewer_words xs s (words_left t) (left_less t) h)

few_accepted : (opening : Map) (xs : List Step) (s : State) (c : Call) → IsAfterTrace opening xs s → HaveFewWords xs s → HaveFewWords (xs ++ steps_of_accepted s c) (after_accepted s c)
few_accepted opening xs s Begin a h = few_later xs (steps_of_accepted s Begin) s.ended h
few_accepted opening xs s (Do t op) a h = taken_less (xs ++ steps_of_accepted s (Do t op)) (after_operation s t op (answer_in s t op)) (new_claim s t op (answer_in s t op)) (few_later xs (steps_of_accepted s (Do t op)) s.ended h)
few_accepted opening xs s (Precommit t) a h = same_ended xs (steps_of_accepted s (Precommit t)) s (after_precommit s t) (ended_precommit s (active_of t s.active)) h
few_accepted opening xs s (Validate t) a h = same_ended xs (steps_of_accepted s (Validate t)) s (after_validate s t) (ended_validate s (preparing_of t s.stamped)) h
few_accepted opening xs s (Settle t) a h = few_settle opening xs s t (awaited s t) a h
few_accepted opening xs s (Rollback t) a h = few_abort opening xs (Aborts t ∷ []) s t (preparing_of t s.stamped) a h
few_accepted opening xs s (Finish t) a h = few_finish xs s t (is_done s t) h
few_accepted opening xs s (Trim m) a h = few_later xs [] s.ended h
few_accepted opening xs s (Close fits g full) a h = few_later xs [] s.ended h

few_refused : (opening : Map) (xs : List Step) (s : State) (c : Call) (r : Refusal) → IsAfterTrace opening xs s → HaveFewWords xs s → HaveFewWords (xs ++ steps_of_refused c r) (after_refused s c r)
few_refused opening xs s Begin r a h = few_later xs [] s.ended h
few_refused opening xs s (Do t op) r a h = few_refusal opening xs s t (is_failure r) a h
few_refused opening xs s (Precommit t) r a h = few_refusal opening xs s t (is_failure r) a h
few_refused opening xs s (Validate t) r a h = few_refusal opening xs s t (is_failure r) a h
few_refused opening xs s (Settle t) r a h = few_refusal opening xs s t (is_failure r) a h
few_refused opening xs s (Rollback t) r a h = few_later xs [] s.ended h
few_refused opening xs s (Finish t) r a h = few_later xs [] s.ended h
few_refused opening xs s (Trim m) r a h = few_later xs [] s.ended h
few_refused opening xs s (Close fits g full) r a h = few_later xs [] s.ended h

pub words_after_call : (opening : Map) (xs : List Step) (s : State) (c : Call) (r : Result) → IsAfterTrace opening xs s → HaveFewWords xs s → HaveFewWords (xs ++ steps_of s c r) (after_call s c r)
words_after_call opening xs s c Accepted a h = few_accepted opening xs s c a h
words_after_call opening xs s c (Refused r) a h = few_refused opening xs s c r a h

pub words_after_run : (opening : Map) (xs : List Step) (s : State) (cs : Run) → MayRun s cs → IsKept opening xs s → HaveFewWords xs s → HaveFewWords (xs ++ trace_of s cs) (after_run s cs)
words_after_run opening xs s [] m k h = few_later xs [] s.ended h
words_after_run opening xs s (c ∷ cs) m k h =
    subst (λ ys. HaveFewWords ys (after_run (after_call s c.0 c.1) cs)) (append_assoc xs (steps_of s c.0 c.1) (trace_of (after_call s c.0 c.1) cs))
    (words_after_run opening (xs ++ steps_of s c.0 c.1) (after_call s c.0 c.1) cs m.1 (kept_after_call opening xs s c.0 c.1 m.0 k) (words_after_call opening xs s c.0 c.1 k.after_trace h))

-- ---- each call of finishing takes one word away, until Done
same : (u v : EndedTx) → ◌≡◌ {A = Option EndedTx} (Some u) (Some v) → u ≡ v
same u v q = cc

left_of : (t : ℕ) (us : List EndedTx) (u : EndedTx) → ended_of t us ≡ Some u → ended_of t (map {A = EndedTx} (λ v. record v { words = words_left t v }) us) ≡ Some (record u { words = drop 1 u.words })
left_of t [] u e = absurd (no_ended u e)
left_of t (v ∷ vs) u e = go (v.id == t) e (λ f. left_of t vs u f)
  where
    go : (b : Bool) → cond b (Some v) (ended_of t vs) ≡ Some u → (ended_of t vs ≡ Some u → ended_of t (map {A = EndedTx} (λ w. record w { words = words_left t w }) vs) ≡ Some (record u { words = drop 1 u.words }))
        → cond b (Some (record v { words = cond b (drop 1 v.words) v.words })) (ended_of t (map {A = EndedTx} (λ w. record w { words = words_left t w }) vs)) ≡ Some (record u { words = drop 1 u.words })
    go true f r = ap (λ (w : EndedTx). Some (record w { words = drop 1 w.words })) (same v u f)
    go false f r = r f

-- where finishing doesn't answer Done, one word fewer is left; it answers Done where at most one was left
pub finish_leaves : (s : State) (t : ℕ) (u : EndedTx) → ended_of t s.ended ≡ Some u → is_done s t ≡ false → ended_of t (after_finish s t).ended ≡ Some (record u { words = drop 1 u.words })
finish_leaves s t u e n = subst (λ (b : Bool). ended_of t (cond b (after_termination s t) (with_words (words_left t) s)).ended ≡ Some (record u { words = drop 1 u.words })) (sym n) (left_of t s.ended u e)

pub finish_fewer : (s : State) (t : ℕ) (u : EndedTx) → ended_of t s.ended ≡ Some u → is_done s t ≡ false → length (drop 1 u.words) + 1 ≡ length u.words
finish_fewer s t u e n =
    let more = leb-false (length u.words) 1 (sym (ap is_last_word e) ∙ n) in
    let l = length-drop 1 u.words in
    omega arith

pub done_is : (s : State) (t : ℕ) (u : EndedTx) → ended_of t s.ended ≡ Some u → is_done s t ≡ true → length u.words ≤ 1
done_is s t u e n = leb-true (length u.words) 1 (sym (ap is_last_word e) ∙ n)

-- ---- the claim of an answer is the one that the transaction gets
abbrev claims_of : Option Claim → List Claim
claims_of None = []
claims_of (Some c) = c ∷ []

claims_same : (s : State) (r : ActiveTx) (k : Option RowKey) → claims_with s r k ≡ r.claims ++ claims_of (claim_with s r.id r.history k)
claims_same s r None = sym (append-nil r.claims)
claims_same s r (Some k) = go (is_some (net_write k r.history))
  where
    go : (b : Bool) → cond b r.claims (r.claims ++ (record { key = k; origin = origin s r.id k }) ∷ []) ≡ r.claims ++ claims_of (cond b None (Some (record { key = k; origin = origin s r.id k })))
    go true = sym (append-nil r.claims)
    go false = refl

pub new_claim_is : (s : State) (t : ℕ) (op : Op) (a : AnswerData) (r : ActiveTx) → active_of t s.active ≡ Some r → claims_with s r (ended_key op a) ≡ r.claims ++ claims_of (new_claim s t op a)
new_claim_is s t op a r e =
    let f = found_is t s.active r e in
    claims_same s r (ended_key op a) ∙ ap (λ (c : Option Claim). r.claims ++ claims_of c) (ap (λ (i : ℕ). claim_with s i r.history (ended_key op a)) f.0 ∙ ap (λ ts. claim_with s t ts (ended_key op a)) (sym f.1))
