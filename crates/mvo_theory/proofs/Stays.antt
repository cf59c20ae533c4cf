-- Each call leaves what is committed up to a closed mark.
use Rattle.std.proofs.Common.{◌≡◌, ℕ, length, ◌+◌, ◌<◌, Bool, true, false, cond, List, [], ◌∷◌, ◌++◌, Option, None, Some, refl, sym, ap, ◌∙◌}
use Rattle.std.specs.Prelude.{nat_le, ◌&&◌}
use Rattle.mvo_types.specs.declared.refusal.Refusal.{Refusal}
use Rattle.mvo_model.specs.History.{History}
use Rattle.mvo_theory.specs.Entries.{entries}
use Rattle.mvo_theory.specs.State.{Claim, State, StampedTx, ActiveTx, active_of, preparing_of}
use Rattle.mvo_theory.specs.Changes.{with_words, taken_over, after_operation, after_answer, after_termination, after_finish, after_close, after_check, after_trim}
use Rattle.mvo_theory.specs.Causes.{awaited, is_failure}
use Rattle.mvo_theory.specs.Steps.{after_precommit_of, after_precommit, after_validate_of, after_validate, after_commit_of, after_commit_now, after_settle_unless, after_settle, after_abort_of, after_abort, after_refusal}
use Rattle.mvo_theory.specs.Marks.{settled_to, StaysBelow}
use Rattle.mvo_theory.specs.Sound.{IsSound}
use Rattle.mvo_theory.specs.Calls.{Call, Result, Run, answer_in, after_accepted, after_refused, after_call, steps_of, MayRun, after_run, IsKept}
use Rattle.mvo_theory.specs.Words.{is_done, words_left}
use Rattle.mvo_theory.specs.Claims.{new_claim}
use Rattle.mvo_theory.proofs.Runs.{kept_after_call}
use Rattle.mvo_theory.proofs.Stamped.{each_part}
use Rattle.mvo_theory.proofs.Below.{EndsStay, stays_same, stays_after_operation, stays_after_begin, stays_after_termination, stays_after_prepare, stays_after_check, stays_after_commit, stays_aborted}
use Rattle.mvo_theory.proofs.Trim.{is_after, timeline_trimmed}
use Rattle.mvo_theory.specs.Calls.Result.{Accepted, Refused}
use Rattle.mvo_types.specs.Keys.{Map}
use Rattle.mvo_types.specs.AnswerData.{AnswerData}
use Rattle.mvo_types.specs.declared.op.Op.{Op}
use Rattle.mvo_model.specs.Trace.{Step}
use Rattle.mvo_theory.specs.Calls.Call.{Begin, Do, Precommit, Validate, Settle, Rollback, Finish, Trim, Close}

settled_to-append : (m : ℕ) (xs ys : List StampedTx) → settled_to m (xs ++ ys) ≡ settled_to m xs ++ settled_to m ys
settled_to-append m [] ys = refl
settled_to-append m (x ∷ xs) ys = go (x.settled && nat_le x.end m) (settled_to-append m xs ys)
  where
    go : (b : Bool) → settled_to m (xs ++ ys) ≡ settled_to m xs ++ settled_to m ys → cond b ((x.end, x.history) ∷ settled_to m (xs ++ ys)) (settled_to m (xs ++ ys)) ≡ cond b ((x.end, x.history) ∷ settled_to m xs) (settled_to m xs) ++ settled_to m ys
    go true e = ap (λ (zs : List (ℕ × History)). (x.end, x.history) ∷ zs) e
    go false e = e

-- where the past stays
all_stay : (s s' : State) → s'.past ≡ s.past → EndsStay s s' → StaysBelow s s'
all_stay s s' p f m c =
    let q = f m c in
    (q.0, settled_to-append m s'.past s'.stamped ∙ ap (λ (l : List StampedTx). settled_to m l ++ settled_to m s'.stamped) p ∙ ap (λ zs. settled_to m s.past ++ zs) q.1 ∙ sym (settled_to-append m s.past s.stamped))

past_after_prepare : (s : State) (w : Option ActiveTx) → (after_precommit_of s w).past ≡ s.past
past_after_prepare s None = refl
past_after_prepare s (Some r) = refl

past_after_check : (s : State) (w : Option StampedTx) → (after_validate_of s w).past ≡ s.past
past_after_check s None = refl
past_after_check s (Some x) = go x.valid
  where
    go : (b : Bool) → (cond b s (after_check s x.end (nat_le (length (entries x.history)) (x.checked + 1)))).past ≡ s.past
    go true = refl
    go false = refl

past_after_commit : (s : State) (t : ℕ) (w : Option StampedTx) → (after_commit_of s t w).past ≡ s.past
past_after_commit s t None = refl
past_after_commit s t (Some x) = refl

past_aborted : (s : State) (t : ℕ) (w : Option StampedTx) → (after_abort_of s t w).past ≡ s.past
past_aborted s t None = refl
past_aborted s t (Some x) = refl

stays_settled : (s : State) (t : ℕ) → StaysBelow s (after_settle s t)
stays_settled s t = go (awaited s t)
  where
    go : (w : Option StampedTx) → StaysBelow s (after_settle_unless s t w)
    go (Some y) = all_stay s s refl (stays_same s)
    go None = all_stay s (after_commit_now s t) (past_after_commit s t (preparing_of t s.stamped)) (stays_after_commit s t)

stays_refused : (s : State) (t : ℕ) (r : Refusal) → StaysBelow s (after_refusal s t r)
stays_refused s t r = go (is_failure r)
  where
    go : (b : Bool) → StaysBelow s (cond b (after_abort s t) s)
    go true = all_stay s (after_abort s t) (past_aborted s t (preparing_of t s.stamped)) (stays_aborted s t)
    go false = all_stay s s refl (stays_same s)

stays_after_trim : (s : State) (n : ℕ) → IsSound s → StaysBelow s (after_trim s n)
stays_after_trim s n k m c = (
  record { drawn = c.drawn; above = each_part (is_after n) (λ x. x.settled ≡ false → m < x.end) s.stamped c.above },
  ap (settled_to m) (timeline_trimmed s n k.rising),
)

stays_finished : (s : State) (t : ℕ) → StaysBelow s (after_finish s t)
stays_finished s t = go (is_done s t)
  where
    go : (b : Bool) → StaysBelow s (cond b (after_termination s t) (with_words (words_left t) s))
    go true = all_stay s (after_termination s t) refl (stays_after_termination s t)
    go false = all_stay s (with_words (words_left t) s) refl (λ m h. (record { drawn = h.drawn; above = h.above }, refl))

stays_answered : (s : State) (t : ℕ) (op : Op) (a : AnswerData) → StaysBelow s (after_answer s t op a)
stays_answered s t op a = go (new_claim s t op a)
  where
    go : (c : Option Claim) → StaysBelow s (taken_over c (after_operation s t op a))
    go None = all_stay s (after_operation s t op a) refl (stays_after_operation s t op a)
    go (Some c) = all_stay s (taken_over (Some c) (after_operation s t op a)) refl (λ m h. (record { drawn = h.drawn; above = h.above }, refl))

stays_accepted : (s : State) (c : Call) → IsSound s → StaysBelow s (after_accepted s c)
stays_accepted s Begin k = all_stay s (after_accepted s Begin) refl (stays_after_begin s)
stays_accepted s (Do t op) k = stays_answered s t op (answer_in s t op)
stays_accepted s (Precommit t) k = all_stay s (after_precommit s t) (past_after_prepare s (active_of t s.active)) (stays_after_prepare s t)
stays_accepted s (Validate t) k = all_stay s (after_validate s t) (past_after_check s (preparing_of t s.stamped)) (stays_after_check s t)
stays_accepted s (Settle t) k = stays_settled s t
stays_accepted s (Rollback t) k = all_stay s (after_abort s t) (past_aborted s t (preparing_of t s.stamped)) (stays_aborted s t)
stays_accepted s (Finish t) k = stays_finished s t
stays_accepted s (Trim m) k = stays_after_trim s m k
stays_accepted s (Close fits g full) k = all_stay s (after_close s g.mark) refl (λ m h. (record { drawn = h.drawn; above = h.above }, refl))

stays_not : (s : State) (c : Call) (r : Refusal) → StaysBelow s (after_refused s c r)
stays_not s Begin r = all_stay s s refl (stays_same s)
stays_not s (Do t op) r = stays_refused s t r
stays_not s (Precommit t) r = stays_refused s t r
stays_not s (Validate t) r = stays_refused s t r
stays_not s (Settle t) r = stays_refused s t r
stays_not s (Rollback t) r = all_stay s s refl (stays_same s)
stays_not s (Finish t) r = all_stay s s refl (stays_same s)
stays_not s (Trim m) r = all_stay s s refl (stays_same s)
stays_not s (Close fits g full) r = all_stay s s refl (stays_same s)

-- what is committed up to a closed mark stays, whatever the call comes to
pub stays_after_call : (s : State) (c : Call) (r : Result) → IsSound s → StaysBelow s (after_call s c r)
stays_after_call s c Accepted k = stays_accepted s c k
stays_after_call s c (Refused r) k = stays_not s c r

pub stays_after_run : (opening : Map) (xs : List Step) (s : State) (cs : Run) → MayRun s cs → IsKept opening xs s → StaysBelow s (after_run s cs)
stays_after_run opening xs s [] m h n c = (c, refl)
stays_after_run opening xs s (c ∷ cs) m h n q =
    let one = stays_after_call s c.0 c.1 h.sound n q in
    let rest = stays_after_run opening (xs ++ steps_of s c.0 c.1) (after_call s c.0 c.1) cs m.1 (kept_after_call opening xs s c.0 c.1 m.0 h) n one.0 in
    (rest.0, rest.1 ∙ one.1)
