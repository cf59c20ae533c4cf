-- The start of the tale is never lower after a call.
use Rattle.std.proofs.Common.{◌≡◌, ℕ, ◌+◌, ◌≤◌, Bool, true, false, cond, Option, None, Some, [], refl, arith, nat_le}
use Rattle.std.specs.Prelude.{length}
use Rattle.std.proofs.lemmas.Bool.{false≢true}
use Rattle.mvo_types.specs.declared.op.Op.{Op}
use Rattle.mvo_types.specs.declared.refusal.Refusal.{Refusal}
use Rattle.mvo_types.specs.AnswerData.{AnswerData}
use Rattle.mvo_theory.specs.State.{State, StampedTx, ActiveTx, Claim, active_of, preparing_of}
use Rattle.mvo_theory.specs.Causes.{awaited, is_failure}
use Rattle.mvo_theory.specs.Entries.{entries}
use Rattle.mvo_theory.specs.Claims.{new_claim}
use Rattle.mvo_theory.specs.Words.{is_done, words_left}
use Rattle.mvo_theory.specs.Changes.{after_operation, after_answer, taken_over, after_check, after_termination, after_finish, with_words}
use Rattle.mvo_theory.specs.Steps.{after_precommit_of, after_validate_of, after_commit_of, after_settle, after_settle_unless, after_abort, after_abort_of, after_refusal}
use Rattle.mvo_theory.specs.Calls.{Call, Result, MayCome, after_call, groups_closed_by, answer_in}
use Rattle.mvo_theory.specs.Calls.Call.{Begin, Do, Precommit, Validate, Settle, Rollback, Finish, Trim, Close}
use Rattle.mvo_theory.specs.Calls.Result.{Accepted, Refused}
use Rattle.mvo_theory.specs.Sound.{IsSound}
use Rattle.mvo_theory.proofs.Trimmed.{may_trim}

answered : (s : State) (t : ℕ) (op : Op) (a : AnswerData) → (after_answer s t op a).start ≡ s.start
answered s t op a = go (new_claim s t op a)
  where
    go : (c : Option Claim) → (taken_over c (after_operation s t op a)).start ≡ s.start
    go None = refl
    go (Some c) = refl

prepared : (s : State) (w : Option ActiveTx) → (after_precommit_of s w).start ≡ s.start
prepared s None = refl
prepared s (Some r) = refl

validated : (s : State) (w : Option StampedTx) → (after_validate_of s w).start ≡ s.start
validated s None = refl
validated s (Some x) = go x.valid
  where
    go : (b : Bool) → (cond b s (after_check s x.end (nat_le (length (entries x.history)) (x.checked + 1)))).start ≡ s.start
    go true = refl
    go false = refl

pub start_settled : (s : State) (t : ℕ) → (after_settle s t).start ≡ s.start
start_settled s t = go (awaited s t)
  where
    now : (w : Option StampedTx) → (after_commit_of s t w).start ≡ s.start
    now None = refl
    now (Some x) = refl

    go : (w : Option StampedTx) → (after_settle_unless s t w).start ≡ s.start
    go (Some y) = refl
    go None = now (preparing_of t s.stamped)

aborted : (s : State) (t : ℕ) → (after_abort s t).start ≡ s.start
aborted s t = go (preparing_of t s.stamped)
  where
    go : (w : Option StampedTx) → (after_abort_of s t w).start ≡ s.start
    go None = refl
    go (Some x) = refl

pub start_refused : (s : State) (t : ℕ) (r : Refusal) → (after_refusal s t r).start ≡ s.start
start_refused s t r = go (is_failure r)
  where
    go : (b : Bool) → (cond b (after_abort s t) s).start ≡ s.start
    go true = aborted s t
    go false = refl

finished : (s : State) (t : ℕ) → (after_finish s t).start ≡ s.start
finished s t = go (is_done s t)
  where
    go : (b : Bool) → (cond b (after_termination s t) (with_words (words_left t) s)).start ≡ s.start
    go true = refl
    go false = refl

same : (a b : ℕ) → a ≡ b → b ≤ a
same a b e = omega (arith, e)

pub start_rises : (s : State) (c : Call) (r : Result) → MayCome s c r → IsSound s → s.start ≤ (after_call s c r).start
start_rises s Begin Accepted m k = same _ _ refl
start_rises s (Do t op) Accepted m k = same _ _ (answered s t op (answer_in s t op))
start_rises s (Precommit t) Accepted m k = same _ _ (prepared s (active_of t s.active))
start_rises s (Validate t) Accepted m k = same _ _ (validated s (preparing_of t s.stamped))
start_rises s (Settle t) Accepted m k = same _ _ (start_settled s t)
start_rises s (Rollback t) Accepted m k = same _ _ (aborted s t)
start_rises s (Finish t) Accepted m k = same _ _ (finished s t)
start_rises s (Trim upto) Accepted m k = let above = (may_trim s upto m.0 k).above in omega (arith, above)
start_rises s (Close fits g full) Accepted m k = same _ _ refl
start_rises s Begin (Refused r) m k = same _ _ refl
start_rises s (Do t op) (Refused r) m k = same _ _ (start_refused s t r)
start_rises s (Precommit t) (Refused r) m k = same _ _ (start_refused s t r)
start_rises s (Validate t) (Refused r) m k = same _ _ (start_refused s t r)
start_rises s (Settle t) (Refused r) m k = same _ _ (start_refused s t r)
start_rises s (Rollback t) (Refused r) m k = same _ _ refl
start_rises s (Finish t) (Refused r) m k = same _ _ refl
start_rises s (Trim upto) (Refused r) m k = same _ _ refl
start_rises s (Close fits g full) (Refused r) m k = same _ _ refl

-- ---- the calls that store no commit and close no group
abbrev pub is_quiet : Call → Bool
is_quiet Begin = true
is_quiet (Do t op) = true
is_quiet (Precommit t) = true
is_quiet (Validate t) = true
is_quiet (Settle t) = false
is_quiet (Rollback t) = true
is_quiet (Finish t) = true
is_quiet (Trim upto) = true
is_quiet (Close fits g full) = false

pub quiet_group : (c : Call) (r : Result) → is_quiet c ≡ true → groups_closed_by c r ≡ []
quiet_group Begin r q = refl
quiet_group (Do t op) r q = refl
quiet_group (Precommit t) r q = refl
quiet_group (Validate t) r q = refl
quiet_group (Settle t) r q = refl
quiet_group (Rollback t) r q = refl
quiet_group (Finish t) r q = refl
quiet_group (Trim upto) r q = refl
quiet_group (Close fits g full) r q = absurd (false≢true q)
