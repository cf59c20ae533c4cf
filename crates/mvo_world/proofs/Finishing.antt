-- Each call keeps the count of the words that finishing replaces.
use Rattle.std.proofs.Common.{◌≡◌, ℕ, ◌≤◌, ◌<◌, ◌+◌, Bool, true, false, cond, not, List, [], ◌∷◌, ◌++◌, Option, None, Some, length, refl, sym, ap, ◌∙◌, subst, arith, append-nil}
use Rattle.std.specs.Prelude.{◌==◌, drop}
use Rattle.std.specs.Option.{option_map}
use Rattle.std.specs.List.{filter}
use Rattle.std.proofs.lemmas.Bool.{eq-eqb, eqb-true, ne_eqb, true≢false, leb-true, leb-false}
use Rattle.mvo_types.specs.declared.op.Op.{Op}
use Rattle.mvo_types.specs.declared.refusal.Refusal.{Refusal}
use Rattle.mvo_types.specs.declared.refusal.Refusal.TheVariants.{OutOfMemory}
use Rattle.mvo_types.specs.AnswerData.{AnswerData}
use Rattle.mvo_types.specs.Keys.{Map}
use Rattle.mvo_model.specs.History.{History}
use Rattle.mvo_model.specs.Trace.{Step, history_of}
use Rattle.mvo_model.specs.Trace.Step.{Begins, Answers, Prepares, Checks, Commits, Aborts, Terminates}
use Rattle.mvo_theory.specs.State.{State, ActiveTx, StampedTx, EndedTx, Claim, Word, Outcome, active_of, preparing_of, ended_of, is_active_as, is_ended_as}
use Rattle.mvo_theory.specs.State.Outcome.{Committed, Aborted}
use Rattle.mvo_theory.specs.Claims.{new_claim}
use Rattle.mvo_theory.specs.Words.{words_of, word_count, words_held, words_now, words_without, is_last_word, is_done, words_left}
use Rattle.mvo_theory.specs.Sound.{how_many}
use Rattle.mvo_theory.specs.Changes.{after_begin, after_operation, with_words, taken_over, without_ended, after_termination, after_finish, committed_tx, aborted_tx, after_trim, after_close}
use Rattle.mvo_theory.specs.Causes.{awaited, end_of, is_failure, why_not_do, why_not_settle, why_not_finish}
use Rattle.mvo_theory.specs.Steps.{after_precommit, after_validate, after_commit_of, after_commit_now, after_settle_unless, after_abort_of, after_abort}
use Rattle.mvo_theory.specs.Calls.{Call, Result, IsRefusal, MayCome, why_not, takes_memory, answer_in, after_accepted, after_refused, after_call, steps_unless, steps_of_accepted, steps_of_refused, steps_of, IsKept}
use Rattle.mvo_theory.specs.Calls.Call.{Begin, Do, Precommit, Validate, Settle, Rollback, Finish, Trim, Close}
use Rattle.mvo_theory.specs.Calls.Result.{Accepted, Refused}
use Rattle.mvo_theory.proofs.Cases.{finish_none}
use Rattle.mvo_theory.proofs.Each.{each_always}
use Rattle.mvo_theory.proofs.Finds.{find_none, find_holds, find_push_own, find_push_other, find_map, count_push, count_some}
use Rattle.mvo_theory.proofs.Found.{history_of-append}
use Rattle.mvo_theory.proofs.LastWriter.{found_in}
use Rattle.mvo_theory.proofs.Phases.{IsUnended}
use Rattle.mvo_theory.proofs.Single.{active_found, active_alone, preparing_alone}
use Rattle.mvo_theory.proofs.Who.{active_done, preparing_settled, unended_rolled_back, unended_done, unended_after_prepare, unended_after_check, unended_settled}
use Rattle.mvo_theory.proofs.Words.{words_of_count, words_now_count, without_less, ended_precommit, ended_validate, finish_fewer}
use Rattle.mvo_world.specs.Finishing.{mores_of, CountsAs, CountsWords, HaveCountedWords}

-- ---- what a call makes of the answers More
abbrev pub mores_with : State → Call → Result → List ℕ → List ℕ
mores_with s (Finish t) Accepted ms = cond (is_done s t) (filter (λ u. not (u == t)) ms) (ms ++ t ∷ [])
mores_with s c r ms = ms

other_way : (a b : ℕ) → (a == b) ≡ false → (b == a) ≡ false
other_way a b n = ne_eqb b a (λ e. true≢false (sym (eq-eqb a b (sym e)) ∙ n))

none_left : (t : ℕ) (ms : List ℕ) → mores_of t (filter (λ u. not (u == t)) ms) ≡ 0
none_left t [] = refl
none_left t (u ∷ us) = go (u == t) refl (none_left t us)
  where
    go : (b : Bool) → (u == t) ≡ b → mores_of t (filter (λ v. not (v == t)) us) ≡ 0 → mores_of t (cond (not b) (u ∷ filter (λ v. not (v == t)) us) (filter (λ v. not (v == t)) us)) ≡ 0
    go true q r = r
    go false q r = let l : ◌≡◌ {A = ℕ} (cond (u == t) 1 0) 0 = ap (λ (c : Bool). cond c 1 0) q in omega (arith, l, r)

others_left : (k t : ℕ) (ms : List ℕ) → (t == k) ≡ false → mores_of k (filter (λ u. not (u == t)) ms) ≡ mores_of k ms
others_left k t [] n = refl
others_left k t (u ∷ us) n = go (u == t) refl (others_left k t us n)
  where
    go : (b : Bool) → (u == t) ≡ b → mores_of k (filter (λ v. not (v == t)) us) ≡ mores_of k us → mores_of k (cond (not b) (u ∷ filter (λ v. not (v == t)) us) (filter (λ v. not (v == t)) us)) ≡ mores_of k (u ∷ us)
    go true q r = let l : ◌≡◌ {A = ℕ} (cond (u == k) 1 0) 0 = ap (λ (c : Bool). cond c 1 0) (ap (λ (i : ℕ). i == k) (eqb-true u t q) ∙ n) in omega (arith, l, r)
    go false q r = ap (λ (n : ℕ). cond (u == k) 1 0 + n) r

-- ---- who is taken out of the ended ones
alone_without : (t : ℕ) (us : List EndedTx) → how_many (is_ended_as t) us ≤ 1 → ended_of t (without_ended t us) ≡ None
alone_without t [] l = refl
alone_without t (u ∷ us) l = go (u.id == t) refl l (alone_without t us)
  where
    go : (b : Bool) → (u.id == t) ≡ b → cond b 1 0 + how_many (is_ended_as t) us ≤ 1 → (how_many (is_ended_as t) us ≤ 1 → ended_of t (without_ended t us) ≡ None) → ended_of t (cond b us (u ∷ without_ended t us)) ≡ None
    go true q m r = find_none (is_ended_as t) us (omega (arith, m))
    go false q m r = ap (λ (c : Bool). cond c (Some u) (ended_of t (without_ended t us))) q ∙ r (omega (arith, m))

other_without : (k t : ℕ) (us : List EndedTx) → (t == k) ≡ false → ended_of k (without_ended t us) ≡ ended_of k us
other_without k t [] n = refl
other_without k t (u ∷ us) n = go (u.id == t) refl (other_without k t us n)
  where
    go : (b : Bool) → (u.id == t) ≡ b → ended_of k (without_ended t us) ≡ ended_of k us → ended_of k (cond b us (u ∷ without_ended t us)) ≡ cond (u.id == k) (Some u) (ended_of k us)
    go true q r = sym (ap (λ (c : Bool). cond c (Some u) (ended_of k us)) (ap (λ (i : ℕ). i == k) (eqb-true u.id t q) ∙ n))
    go false q r = ap (λ (w : Option EndedTx). cond (u.id == k) (Some u) w) r

-- ---- what others take over of one that ended
fewer_as : (c : Claim) (m n : ℕ) (o : Outcome) (ws : List Word) → CountsAs m n o (length ws) → CountsAs m n o (length (words_without c o ws))
fewer_as c m n (Committed e) ws h = h
fewer_as c m n Aborted ws h = let l = without_less c Aborted ws in omega (arith, l, h)

abbrev without_taken : Claim → EndedTx → EndedTx
without_taken c u = record u { words = words_without c u.outcome u.words }

fewer : (c : Claim) (m n : ℕ) (w : Option EndedTx) → CountsWords m n w → CountsWords m n (option_map (without_taken c) w)
fewer c m n None h = h
fewer c m n (Some u) h = fewer_as c m n u.outcome u.words h

taken_counts : (s : State) (c : Option Claim) (k m n : ℕ) → CountsWords m n (ended_of k s.ended) → CountsWords m n (ended_of k (taken_over c s).ended)
taken_counts s None k m n h = h
taken_counts s (Some c) k m n h =
    subst (CountsWords m n) (sym (find_map (is_ended_as k) (without_taken c) s.ended (each_always (λ (u : EndedTx). (u.id == k) ≡ (u.id == k)) (λ u. refl) s.ended)))
    (fewer c m n (ended_of k s.ended) h)

-- ---- a word is replaced
one_fewer : (m n left all : ℕ) (o : Outcome) → left + 1 ≡ all → CountsAs m n o all → CountsAs (m + 1) n o left
one_fewer m n left all (Committed e) is h = omega (arith, is, h)
one_fewer m n left all Aborted is h = omega (arith, is, h)

left_own : (t : ℕ) (u : EndedTx) → (u.id == t) ≡ true → words_left t u ≡ drop 1 u.words
left_own t u q = ap (λ (c : Bool). cond c (drop 1 u.words) u.words) q

left_other : (t : ℕ) (u : EndedTx) → (u.id == t) ≡ false → words_left t u ≡ u.words
left_other t u q = ap (λ (c : Bool). cond c (drop 1 u.words) u.words) q

named : (k : ℕ) (us : List EndedTx) (u : EndedTx) → ended_of k us ≡ Some u → (u.id == k) ≡ true
named k us u e = (find_holds (λ (v : EndedTx). Unit {0}) (is_ended_as k) us u e (each_always (λ (v : EndedTx). Unit {0}) (λ v. tt) us)).1

-- ---- at most one that ended, or none
few : (a b c : ℕ) → a + (b + c) ≤ 1 → c ≤ 1
few a b c l = omega (arith, l)

module _ (opening : Map) (xs : List Step) (s : State) (kept : IsKept opening xs s) (ms : List ℕ) (h : HaveCountedWords ms xs s) where
  abbrev wrote : ℕ → List Step → ℕ
  wrote k steps = word_count (history_of k steps)

  same_wrote : (k : ℕ) (ys : List Step) → history_of k ys ≡ [] → wrote k (xs ++ ys) ≡ wrote k xs
  same_wrote k ys e = ap word_count (history_of-append k xs ys ∙ ap (λ (ts : History). history_of k xs ++ ts) e ∙ append-nil (history_of k xs))

  -- one of which nothing changes
  stays : (k : ℕ) (ys : List Step) (us : List EndedTx) → history_of k ys ≡ [] → ended_of k us ≡ ended_of k s.ended → CountsWords (mores_of k ms) (wrote k (xs ++ ys)) (ended_of k us)
  stays k ys us e q = subst (λ (n : ℕ). CountsWords (mores_of k ms) n (ended_of k us)) (sym (same_wrote k ys e)) (subst (CountsWords (mores_of k ms) (wrote k xs)) (sym q) (h k))

  all_stay : (ys : List Step) (s' : State) → ((k : ℕ) → history_of k ys ≡ []) → s'.ended ≡ s.ended → HaveCountedWords ms (xs ++ ys) s'
  all_stay ys s' none e = λ k. stays k ys s'.ended (none k) (ap (ended_of k) e)

  -- ---- one more has ended
  own_joins : (ys : List Step) (new : EndedTx) → history_of new.id ys ≡ [] → how_many (is_ended_as new.id) s.ended ≤ 0 → CountsAs 0 (wrote new.id xs) new.outcome (length new.words) → CountsWords (mores_of new.id ms) (wrote new.id (xs ++ ys)) (ended_of new.id (s.ended ++ new ∷ []))
  own_joins ys new none fresh counts =
      let zero : mores_of new.id ms ≡ 0 = subst (CountsWords (mores_of new.id ms) (wrote new.id xs)) (find_none (is_ended_as new.id) s.ended fresh) (h new.id) in
      let found = find_push_own (is_ended_as new.id) s.ended new fresh (eq-eqb new.id new.id refl) in
      subst (CountsWords (mores_of new.id ms) (wrote new.id (xs ++ ys))) (sym found)
      (subst (λ (m : ℕ). CountsAs m (wrote new.id (xs ++ ys)) new.outcome (length new.words)) (sym zero)
      (subst (λ (n : ℕ). CountsAs 0 n new.outcome (length new.words)) (sym (same_wrote new.id ys none)) counts))

  joins : (ys : List Step) (s' : State) (new : EndedTx) → ((k : ℕ) → history_of k ys ≡ []) → how_many (is_ended_as new.id) s.ended ≤ 0 → CountsAs 0 (wrote new.id xs) new.outcome (length new.words) → s'.ended ≡ s.ended ++ new ∷ [] → HaveCountedWords ms (xs ++ ys) s'
  joins ys s' new none fresh counts e = λ k. subst (λ (us : List EndedTx). CountsWords (mores_of k ms) (wrote k (xs ++ ys)) (ended_of k us)) (sym e) (go k (new.id == k) refl)
    where
      go : (k : ℕ) (b : Bool) → (new.id == k) ≡ b → CountsWords (mores_of k ms) (wrote k (xs ++ ys)) (ended_of k (s.ended ++ new ∷ []))
      go k true q = subst (λ (i : ℕ). CountsWords (mores_of i ms) (wrote i (xs ++ ys)) (ended_of i (s.ended ++ new ∷ []))) (eqb-true new.id k q) (own_joins ys new (none new.id) fresh counts)
      go k false q = stays k ys (s.ended ++ new ∷ []) (none k) (find_push_other (is_ended_as k) s.ended new q)

  -- ---- a commit
  words_now_are : (t : ℕ) (x : StampedTx) → preparing_of t s.stamped ≡ Some x → length (words_now s t) ≡ wrote t xs
  words_now_are t x f =
      let alone = preparing_alone s t x f kept.single in
      let none : active_of t s.active ≡ None = active_found t s.active ∙ find_none (is_active_as t) s.active (omega (arith, alone)) in
      let now : words_now s t ≡ words_of x.history x.claims = λ i. words_held (none i) (f i) in
      let there = found_in t s.stamped x f in
      let history : x.history ≡ history_of t xs = sym (there.0 (λ (y : StampedTx). history_of y.id xs ≡ y.history) kept.after_trace.stamped) ∙ ap (λ (i : ℕ). history_of i xs) there.1 in
      ap (λ (ws : List Word). length ws) now ∙ words_of_count x.history x.claims ∙ ap word_count history

  commits : (t : ℕ) (x : StampedTx) (e : ℕ) → preparing_of t s.stamped ≡ Some x → HaveCountedWords ms (xs ++ Commits t e ∷ []) (after_commit_now s t)
  commits t x e f =
      let alone = preparing_alone s t x f kept.single in
      let words = words_now_are t x f in
      joins (Commits t e ∷ []) (after_commit_now s t) (committed_tx t x.end (words_now s t)) (λ k. refl) (omega (arith, alone)) (omega (arith, words))
      (ap (λ (w : Option StampedTx). (after_commit_of s t w).ended) f)

  settles : (t : ℕ) (w : Option StampedTx) → why_not_settle s t ≡ None → HaveCountedWords ms (xs ++ steps_unless t (end_of s t) w) (after_settle_unless s t w)
  settles t None may = let found = preparing_settled s t may in commits t found.0 (end_of s t) found.1
  settles t (Some y) may = all_stay [] s (λ k. refl) refl

  -- ---- an abort
  not_ended : (t : ℕ) → IsUnended s t → how_many (is_ended_as t) s.ended ≤ 0
  not_ended t un = go (preparing_of t s.stamped) refl
    where
      go : (w : Option StampedTx) → preparing_of t s.stamped ≡ w → how_many (is_ended_as t) s.ended ≤ 0
      go None f = let there = un f in let alone = active_alone s t there.0 there.1 kept.single in omega (arith, alone)
      go (Some x) f = let alone = preparing_alone s t x f kept.single in omega (arith, alone)

  abort_ended : (t : ℕ) (w : Option StampedTx) → (after_abort_of s t w).ended ≡ s.ended ++ aborted_tx t (words_now s t) ∷ []
  abort_ended t None = refl
  abort_ended t (Some x) = refl

  aborts : (t : ℕ) → IsUnended s t → HaveCountedWords ms (xs ++ Aborts t ∷ []) (after_abort s t)
  aborts t un =
      let words = words_now_count opening xs s t kept.after_trace in
      joins (Aborts t ∷ []) (after_abort s t) (aborted_tx t (words_now s t)) (λ k. refl) (not_ended t un) (omega (arith, words)) (abort_ended t (preparing_of t s.stamped))

  fails : (t : ℕ) (b : Bool) → (b ≡ true → IsUnended s t) → HaveCountedWords ms (xs ++ cond b (Aborts t ∷ []) []) (cond b (after_abort s t) s)
  fails t true un = aborts t (un refl)
  fails t false un = all_stay [] s (λ k. refl) refl

  -- ---- an answer, of one that hasn't ended
  not_own : (k t : ℕ) (u : EndedTx) (r : ActiveTx) → ended_of k s.ended ≡ Some u → active_of t s.active ≡ Some r → (t == k) ≡ false
  not_own k t u r e f = go (t == k) refl
    where
      go : (b : Bool) → (t == k) ≡ b → (t == k) ≡ false
      go false q = q
      go true q =
          let there : active_of k s.active ≡ Some r = subst (λ (i : ℕ). active_of i s.active ≡ Some r) (eqb-true t k q) f in
          let alone = active_alone s k r there kept.single in
          let one = count_some (is_ended_as k) s.ended u e in
          absurd (omega (arith, alone, one))

  others_answer : (k t : ℕ) (op : Op) (a : AnswerData) (r : ActiveTx) → active_of t s.active ≡ Some r → CountsWords (mores_of k ms) (wrote k (xs ++ Answers t op a ∷ [])) (ended_of k s.ended)
  others_answer k t op a r f = go (ended_of k s.ended) refl (h k)
    where
      go : (w : Option EndedTx) → ended_of k s.ended ≡ w → CountsWords (mores_of k ms) (wrote k xs) w → CountsWords (mores_of k ms) (wrote k (xs ++ Answers t op a ∷ [])) w
      go None e c = c
      go (Some u) e c =
          let silent : history_of k (Answers t op a ∷ []) ≡ [] = ap (λ (b : Bool). cond b ((op, a) ∷ []) [] ++ []) (not_own k t u r e f) in
          subst (λ (n : ℕ). CountsWords (mores_of k ms) n (Some u)) (sym (same_wrote k (Answers t op a ∷ []) silent)) c

  answers : (t : ℕ) (op : Op) → why_not_do s t op ≡ None → HaveCountedWords ms (xs ++ steps_of_accepted s (Do t op)) (after_accepted s (Do t op))
  answers t op may = λ k.
      let found = active_done s t op may in
      let a = answer_in s t op in
      taken_counts (after_operation s t op a) (new_claim s t op a) k (mores_of k ms) (wrote k (xs ++ Answers t op a ∷ [])) (others_answer k t op a found.0 found.1)

  -- ---- a call of finishing
  ends : (t : ℕ) → HaveCountedWords (filter (λ u. not (u == t)) ms) (xs ++ Terminates t ∷ []) (after_termination s t)
  ends t = λ k. go k (t == k) refl
    where
      ys : List Step
      ys = Terminates t ∷ []

      rest : List ℕ
      rest = filter (λ u. not (u == t)) ms

      own : CountsWords (mores_of t rest) (wrote t (xs ++ ys)) (ended_of t (without_ended t s.ended))
      own =
          let one = few (how_many (is_active_as t) s.active) _ (how_many (is_ended_as t) s.ended) (kept.single.once t) in
          subst (CountsWords (mores_of t rest) (wrote t (xs ++ ys))) (sym (alone_without t s.ended one)) (none_left t ms)

      go : (k : ℕ) (b : Bool) → (t == k) ≡ b → CountsWords (mores_of k rest) (wrote k (xs ++ ys)) (ended_of k (without_ended t s.ended))
      go k true q = subst (λ (i : ℕ). CountsWords (mores_of i rest) (wrote i (xs ++ ys)) (ended_of i (without_ended t s.ended))) (eqb-true t k q) own
      go k false q = subst (λ (m : ℕ). CountsWords m (wrote k (xs ++ ys)) (ended_of k (without_ended t s.ended))) (sym (others_left k t ms q)) (stays k ys (without_ended t s.ended) refl (other_without k t s.ended q))

  replaces : (t : ℕ) → (u : EndedTx) → ended_of t s.ended ≡ Some u → is_done s t ≡ false → HaveCountedWords (ms ++ t ∷ []) (xs ++ []) (with_words (words_left t) s)
  replaces t u e n = λ k. subst (λ (ys : List Step). CountsWords (mores_of k (ms ++ t ∷ [])) (wrote k ys) (ended_of k (with_words (words_left t) s).ended)) (sym (append-nil xs)) (go k (t == k) refl)
    where
      shorter : EndedTx → EndedTx
      shorter v = record v { words = words_left t v }

      mapped : (k : ℕ) → ended_of k (with_words (words_left t) s).ended ≡ option_map shorter (ended_of k s.ended)
      mapped k = find_map (is_ended_as k) shorter s.ended (each_always (λ (v : EndedTx). (v.id == k) ≡ (v.id == k)) (λ v. refl) s.ended)

      own : CountsWords (mores_of t (ms ++ t ∷ [])) (wrote t xs) (ended_of t (with_words (words_left t) s).ended)
      own =
          let more : mores_of t (ms ++ t ∷ []) ≡ mores_of t ms + 1 = count_push (λ (v : ℕ). v == t) ms t ∙ ap (λ (c : Bool). mores_of t ms + cond c 1 0) (eq-eqb t t refl) in
          let before : CountsAs (mores_of t ms) (wrote t xs) u.outcome (length u.words) = subst (CountsWords (mores_of t ms) (wrote t xs)) e (h t) in
          let now = one_fewer (mores_of t ms) (wrote t xs) (length (drop 1 u.words)) (length u.words) u.outcome (finish_fewer s t u e n) before in
          subst (CountsWords (mores_of t (ms ++ t ∷ [])) (wrote t xs)) (sym (mapped t ∙ ap (option_map shorter) e))
          (subst (λ (m : ℕ). CountsAs m (wrote t xs) u.outcome (length (words_left t u))) (sym more)
          (subst (λ (ws : List Word). CountsAs (mores_of t ms + 1) (wrote t xs) u.outcome (length ws)) (sym (left_own t u (named t s.ended u e))) now))

      others : (k : ℕ) (w : Option EndedTx) → (t == k) ≡ false → ended_of k s.ended ≡ w → CountsWords (mores_of k ms) (wrote k xs) w → CountsWords (mores_of k ms) (wrote k xs) (option_map shorter w)
      others k None q f c = c
      others k (Some v) q f c =
          let apart : (v.id == t) ≡ false = ap (λ (i : ℕ). i == t) (eqb-true v.id k (named k s.ended v f)) ∙ other_way t k q in
          subst (λ (ws : List Word). CountsAs (mores_of k ms) (wrote k xs) v.outcome (length ws)) (sym (left_other t v apart)) c

      go : (k : ℕ) (b : Bool) → (t == k) ≡ b → CountsWords (mores_of k (ms ++ t ∷ [])) (wrote k xs) (ended_of k (with_words (words_left t) s).ended)
      go k true q = subst (λ (i : ℕ). CountsWords (mores_of i (ms ++ t ∷ [])) (wrote i xs) (ended_of i (with_words (words_left t) s).ended)) (eqb-true t k q) own
      go k false q =
          let same : mores_of k (ms ++ t ∷ []) ≡ mores_of k ms = (let l = count_push (λ (v : ℕ). v == k) ms t in let z : ◌≡◌ {A = ℕ} (cond (t == k) 1 0) 0 = ap (λ (c : Bool). cond c 1 0) q in omega (arith, l, z)) in
          subst (λ (m : ℕ). CountsWords m (wrote k xs) (ended_of k (with_words (words_left t) s).ended)) (sym same)
          (subst (CountsWords (mores_of k ms) (wrote k xs)) (sym (mapped k)) (others k (ended_of k s.ended) q refl (h k)))

  finishes : (t : ℕ) → why_not_finish s t ≡ None → HaveCountedWords (mores_with s (Finish t) Accepted ms) (xs ++ steps_of_accepted s (Finish t)) (after_finish s t)
  finishes t may = go (is_done s t) refl
    where
      go : (b : Bool) → is_done s t ≡ b → HaveCountedWords (cond b (filter (λ u. not (u == t)) ms) (ms ++ t ∷ [])) (xs ++ cond b (Terminates t ∷ []) []) (cond b (after_termination s t) (with_words (words_left t) s))
      go true d = ends t
      go false d = let found = finish_none s t may in replaces t found.0 found.1 d

  -- ---- each call
  accepts : (c : Call) → why_not s c ≡ None → HaveCountedWords (mores_with s c Accepted ms) (xs ++ steps_of_accepted s c) (after_accepted s c)
  accepts Begin may = all_stay (Begins (s.clock + 1) ∷ []) (after_begin s (s.clock + 1)) (λ k. refl) refl
  accepts (Do t op) may = answers t op may
  accepts (Precommit t) may = all_stay (Prepares t (s.clock + 1) ∷ []) (after_precommit s t) (λ k. refl) (ended_precommit s (active_of t s.active))
  accepts (Validate t) may = all_stay (Checks t ∷ []) (after_validate s t) (λ k. refl) (ended_validate s (preparing_of t s.stamped))
  accepts (Settle t) may = settles t (awaited s t) may
  accepts (Rollback t) may = aborts t (unended_rolled_back s t may)
  accepts (Finish t) may = finishes t may
  accepts (Trim m) may = all_stay [] (after_trim s m) (λ k. refl) refl
  accepts (Close fits g full) may = all_stay [] (after_close s g.mark) (λ k. refl) refl

  refuses : (c : Call) (r : Refusal) → why_not s c ≡ Some r → HaveCountedWords ms (xs ++ steps_of_refused c r) (after_refused s c r)
  refuses (Do t op) r w = fails t (is_failure r) (unended_done s t op r w)
  refuses (Precommit t) r w = fails t (is_failure r) (unended_after_prepare s t r w)
  refuses (Validate t) r w = fails t (is_failure r) (unended_after_check s t r w)
  refuses (Settle t) r w = fails t (is_failure r) (unended_settled s t r w)
  refuses Begin r w = all_stay [] s (λ k. refl) refl
  refuses (Rollback t) r w = all_stay [] s (λ k. refl) refl
  refuses (Finish t) r w = all_stay [] s (λ k. refl) refl
  refuses (Trim m) r w = all_stay [] s (λ k. refl) refl
  refuses (Close fits g full) r w = all_stay [] s (λ k. refl) refl

  refuses_memory : (c : Call) → HaveCountedWords ms (xs ++ steps_of_refused c OutOfMemory) (after_refused s c OutOfMemory)
  refuses_memory Begin = all_stay [] s (λ k. refl) refl
  refuses_memory (Do t op) = all_stay [] s (λ k. refl) refl
  refuses_memory (Precommit t) = all_stay [] s (λ k. refl) refl
  refuses_memory (Validate t) = all_stay [] s (λ k. refl) refl
  refuses_memory (Settle t) = all_stay [] s (λ k. refl) refl
  refuses_memory (Rollback t) = all_stay [] s (λ k. refl) refl
  refuses_memory (Finish t) = all_stay [] s (λ k. refl) refl
  refuses_memory (Trim m) = all_stay [] s (λ k. refl) refl
  refuses_memory (Close fits g full) = all_stay [] s (λ k. refl) refl

  same_refused : (c : Call) (r : Refusal) → mores_with s c (Refused r) ms ≡ ms
  same_refused (Finish t) r = refl
  same_refused c r = refl

  pub counted_words_after_call : (c : Call) (r : Result) → MayCome s c r → HaveCountedWords (mores_with s c r ms) (xs ++ steps_of s c r) (after_call s c r)
  counted_words_after_call c Accepted may = accepts c may.0
  counted_words_after_call c (Refused r) may = subst (λ (ns : List ℕ). HaveCountedWords ns (xs ++ steps_of_refused c r) (after_refused s c r)) (sym (same_refused c r)) (go (why_not s c) refl (takes_memory c) may)
    where
      go : (w : Option Refusal) → why_not s c ≡ w → (b : Bool) → IsRefusal b w r → HaveCountedWords ms (xs ++ steps_of_refused c r) (after_refused s c r)
      go (Some why) e b q = refuses c r (e ∙ ap (λ (v : Refusal). Some v) (sym q))
      go None e true q = subst (λ (v : Refusal). HaveCountedWords ms (xs ++ steps_of_refused c v) (after_refused s c v)) (sym q) (refuses_memory c)
      go None e false q = absurd q

  -- ---- what finishing answers
  at_most_wrote : (m n l : ℕ) (o : Outcome) → CountsAs m n o l → l + m ≤ n
  at_most_wrote m n l (Committed e) c = omega (arith, c)
  at_most_wrote m n l Aborted c = c

  pub more_is_left : (t : ℕ) (u : EndedTx) → ended_of t s.ended ≡ Some u → is_done s t ≡ false → mores_of t ms + 1 < wrote t xs
  more_is_left t u e n =
      let counts : CountsAs (mores_of t ms) (wrote t xs) u.outcome (length u.words) = subst (CountsWords (mores_of t ms) (wrote t xs)) e (h t) in
      let all = at_most_wrote (mores_of t ms) (wrote t xs) (length u.words) u.outcome counts in
      let two = leb-false (length u.words) 1 (sym (ap is_last_word e) ∙ n) in
      omega (arith, all, two)

  pub none_is_left : (t e : ℕ) (u : EndedTx) → ended_of t s.ended ≡ Some u → u.outcome ≡ Committed e → is_done s t ≡ true → wrote t xs ≤ mores_of t ms + 1
  none_is_left t e u f committed d =
      let counts : CountsAs (mores_of t ms) (wrote t xs) u.outcome (length u.words) = subst (CountsWords (mores_of t ms) (wrote t xs)) f (h t) in
      let just = subst (λ (o : Outcome). CountsAs (mores_of t ms) (wrote t xs) o (length u.words)) committed counts in
      let one = leb-true (length u.words) 1 (sym (ap is_last_word f) ∙ d) in
      omega (arith, just, one)
