-- What precommit took in of those that end up to the start of the tale stays.
use Rattle.std.proofs.Common.{◌≡◌, ◌≢◌, ℕ, ◌+◌, ◌≤◌, Bool, true, false, cond, List, Option, None, Some, length, refl, sym, ap, ◌∙◌, subst, ne_eqb, arith}
use Rattle.std.specs.Prelude.{◌==◌, nat_le}
use Rattle.std.specs.List.{filter}
use Rattle.std.proofs.lemmas.Bool.{eqb-true}
use Rattle.mvo_types.specs.declared.op.Op.{Op}
use Rattle.mvo_types.specs.AnswerData.{AnswerData}
use Rattle.mvo_types.specs.Keys.{Map}
use Rattle.mvo_model.specs.Trace.{Step}
use Rattle.mvo_theory.specs.Entries.{entries}
use Rattle.mvo_theory.specs.State.{State, ActiveTx, StampedTx, Claim, active_of, preparing_of}
use Rattle.mvo_theory.specs.Claims.{new_claim}
use Rattle.mvo_theory.specs.Words.{words_left, is_done}
use Rattle.mvo_theory.specs.Causes.{awaited, is_failure}
use Rattle.mvo_theory.specs.Changes.{after_operation, taken_over, after_check, after_termination, with_words, is_to}
use Rattle.mvo_theory.specs.Steps.{after_precommit_of, after_validate_of, after_commit_of, after_settle_unless, after_abort_of, after_abort}
use Rattle.mvo_theory.specs.Sound.{IsPast}
use Rattle.mvo_theory.specs.Calls.{Call, Result, answer_in, after_call}
use Rattle.mvo_theory.specs.Calls.Call.{Begin, Do, Precommit, Validate, Settle, Rollback, Finish, Trim, Close}
use Rattle.mvo_theory.specs.Calls.Result.{Accepted, Refused}
use Rattle.mvo_theory.proofs.Each.{each_both, each_append, each_filter}
use Rattle.mvo_shared.specs.Kept.{WorkContent}
use Rattle.mvo_shared.specs.Shared.{TakenWork, AllTaken, with_taken, WorksById, after_valid}
use Rattle.mvo_shared.specs.Given.{GivenState, one_more_checked, is_last_look, after_check_given, after_given}
use Rattle.mvo_shadow.specs.Shadowed.{IsWorkOf, shadow_call, shadow_result}
use Rattle.mvo_shadow.specs.Laws.{GoTogether}
use Rattle.mvo_given.specs.WholeShadowed.{PastWasTaken}

-- ---- the past grows by a trim alone
past_stays : (s : State) (c : Call) (r : Result) → ((m : ℕ) → c ≡ Trim m → r ≡ Accepted → ⊥) → (after_call s c r).past ≡ s.past
past_stays s c r n = go c r n
  where
    aborted : (t : ℕ) (w : Option StampedTx) → (after_abort_of s t w).past ≡ s.past
    aborted t None = refl
    aborted t (Some x) = refl

    failed : (t : ℕ) (b : Bool) → (cond b (after_abort s t) s).past ≡ s.past
    failed t true = aborted t (preparing_of t s.stamped)
    failed t false = refl

    answered : (t : ℕ) (op : Op) (a : AnswerData) (w : Option Claim) → (taken_over w (after_operation s t op a)).past ≡ s.past
    answered t op a None = refl
    answered t op a (Some x) = refl

    prepared : (w : Option ActiveTx) → (after_precommit_of s w).past ≡ s.past
    prepared None = refl
    prepared (Some x) = refl

    checked : (w : Option StampedTx) → (after_validate_of s w).past ≡ s.past
    checked None = refl
    checked (Some x) = by x.valid
      where
        by : (b : Bool) → (cond b s (after_check s x.end (nat_le (length (entries x.history)) (x.checked + 1)))).past ≡ s.past
        by true = refl
        by false = refl

    committed : (t : ℕ) (w : Option StampedTx) → (after_commit_of s t w).past ≡ s.past
    committed t None = refl
    committed t (Some x) = refl

    settled : (t : ℕ) (w : Option StampedTx) → (after_settle_unless s t w).past ≡ s.past
    settled t (Some x) = refl
    settled t None = committed t (preparing_of t s.stamped)

    finished : (t : ℕ) (b : Bool) → (cond b (after_termination s t) (with_words (words_left t) s)).past ≡ s.past
    finished t true = refl
    finished t false = refl

    go : (c' : Call) (r' : Result) → ((m : ℕ) → c' ≡ Trim m → r' ≡ Accepted → ⊥) → (after_call s c' r').past ≡ s.past
    go Begin Accepted k = refl
    go (Do t op) Accepted k = answered t op (answer_in s t op) (new_claim s t op (answer_in s t op))
    go (Precommit t) Accepted k = prepared (active_of t s.active)
    go (Validate t) Accepted k = checked (preparing_of t s.stamped)
    go (Settle t) Accepted k = settled t (awaited s t)
    go (Rollback t) Accepted k = aborted t (preparing_of t s.stamped)
    go (Finish t) Accepted k = finished t (is_done s t)
    go (Trim m) Accepted k = absurd (k m refl refl)
    go (Close fits g full) Accepted k = refl
    go Begin (Refused q) k = refl
    go (Do t op) (Refused q) k = failed t (is_failure q)
    go (Precommit t) (Refused q) k = failed t (is_failure q)
    go (Validate t) (Refused q) k = failed t (is_failure q)
    go (Settle t) (Refused q) k = failed t (is_failure q)
    go (Rollback t) (Refused q) k = refl
    go (Finish t) (Refused q) k = refl
    go (Trim m) (Refused q) k = refl
    go (Close fits g full) (Refused q) k = refl

-- ---- what was taken in
with_other : (all : AllTaken) (e : ℕ) (w : TakenWork) (n : ℕ) → n ≢ e → with_taken all e w n ≡ all n
with_other all e w n m = ap (λ (b : Bool). cond b w (all n)) (ne_eqb n e m)

same_work : (all : AllTaken) (e n : ℕ) → (one_more_checked all e n).work ≡ (all n).work
same_work all e n = go (n == e) refl
  where
    go : (b : Bool) → n == e ≡ b → (cond b (record { work = (all e).work; checked = (all e).checked + 1 }) (all n)).work ≡ (all n).work
    go true i = ap (λ (m : ℕ). (all m).work) (sym (eqb-true n e i))
    go false i = refl

check_works : (g : GivenState) (v : Option StampedTx) (n : ℕ) → ((after_check_given g v).taken n).work ≡ (g.taken n).work
check_works g None n = refl
check_works g (Some x) n = go x.valid
  where
    go : (b : Bool) → ((cond b g (record { state = cond (is_last_look (g.taken x.end)) (after_valid g.state x.end) g.state; taken = one_more_checked g.taken x.end })).taken n).work ≡ (g.taken n).work
    go true = refl
    go false = same_work g.taken x.end n

-- up to the clock
works_stay : (g : GivenState) (w : WorkContent) (c : Call) (r : Result) (n : ℕ) → n ≤ g.state.clock → ((after_given g w (shadow_call c) (shadow_result r)).taken n).work ≡ (g.taken n).work
works_stay g w Begin Accepted n l = refl
works_stay g w (Do t op) Accepted n l = refl
works_stay g w (Precommit t) Accepted n l = ap (λ (k : TakenWork). k.work) (with_other g.taken (g.state.clock + 1) (record { work = w; checked = 0 }) n (λ e. absurd (omega arith)))
works_stay g w (Validate t) Accepted n l = check_works g (preparing_of t g.state.stamped) n
works_stay g w (Settle t) Accepted n l = refl
works_stay g w (Rollback t) Accepted n l = refl
works_stay g w (Finish t) Accepted n l = refl
works_stay g w (Trim m) Accepted n l = refl
works_stay g w (Close fits gr full) Accepted n l = refl
works_stay g w c (Refused q) n l = refl

-- ---- each call
pub past_one : (opening : Map) (xs : List Step) (s : State) (g : GivenState) (works : WorksById) (w : WorkContent) (c : Call) (r : Result) → GoTogether opening xs s g works → PastWasTaken s.past g.taken → PastWasTaken (after_call s c r).past (after_given g w (shadow_call c) (shadow_result r)).taken
past_one opening xs s g works w c r h p = go c r
  where
    clock : g.state.clock ≡ s.clock
    clock = ap (λ (q : State). q.clock) h.shadowed.state

    stays : (c' : Call) (r' : Result) → PastWasTaken s.past (after_given g w (shadow_call c') (shadow_result r')).taken
    stays c' r' = each_both (IsPast s.start) (λ x. (g.taken x.end).work.history ≡ x.history) (λ x. ((after_given g w (shadow_call c') (shadow_result r')).taken x.end).work.history ≡ x.history)
        (λ x k e. ap (λ (u : WorkContent). u.history) (works_stay g w c' r' x.end (let b = k.until in let d = h.kept.started.drawn in let i = clock in omega arith)) ∙ e) s.past h.kept.started.past p

    same : (c' : Call) (r' : Result) → ((m : ℕ) → c' ≡ Trim m → r' ≡ Accepted → ⊥) → PastWasTaken (after_call s c' r').past (after_given g w (shadow_call c') (shadow_result r')).taken
    same c' r' n = subst (λ past. PastWasTaken past (after_given g w (shadow_call c') (shadow_result r')).taken) (sym (past_stays s c' r' n)) (stays c' r')

    trimmed : (m : ℕ) → PastWasTaken (after_call s (Trim m) Accepted).past g.taken
    trimmed m = each_append (λ x. (g.taken x.end).work.history ≡ x.history) s.past (filter (is_to m) s.stamped) p
        (each_filter (is_to m) (λ x. IsWorkOf x.history (g.taken x.end).work) (λ x. (g.taken x.end).work.history ≡ x.history) (λ x _ k. k.history) s.stamped h.shadowed.taken)

    go : (c' : Call) (r' : Result) → PastWasTaken (after_call s c' r').past (after_given g w (shadow_call c') (shadow_result r')).taken
    go Begin r' = same Begin r' (λ m i j. absurd cc)
    go (Do t op) r' = same (Do t op) r' (λ m i j. absurd cc)
    go (Precommit t) r' = same (Precommit t) r' (λ m i j. absurd cc)
    go (Validate t) r' = same (Validate t) r' (λ m i j. absurd cc)
    go (Settle t) r' = same (Settle t) r' (λ m i j. absurd cc)
    go (Rollback t) r' = same (Rollback t) r' (λ m i j. absurd cc)
    go (Finish t) r' = same (Finish t) r' (λ m i j. absurd cc)
    go (Trim m) Accepted = trimmed m
    go (Trim m) (Refused q) = same (Trim m) (Refused q) (λ k i j. absurd cc)
    go (Close fits gr full) r' = same (Close fits gr full) r' (λ m i j. absurd cc)
