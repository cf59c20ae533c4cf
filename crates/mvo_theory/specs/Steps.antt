-- What each call leaves where it is answered, and what its refusal leaves.
use Rattle.std.specs.Prelude.{ℕ, ◌+◌, nat_le, Bool, false, ◌||◌, if◌then◌else◌, length, List, [], ◌∷◌, Option, None, Some}
use Rattle.mvo_types.specs.declared.refusal.Refusal.{Refusal}
use Rattle.mvo_model.specs.Trace.{Step}
use Rattle.mvo_model.specs.Trace.Step.{Aborts}
use Rattle.mvo_theory.specs.Entries.{entries}
use Rattle.mvo_theory.specs.State.{State, StampedTx, ActiveTx, active_of, preparing_of}
use Rattle.mvo_theory.specs.Changes.{after_prepare, after_check, after_commit, after_abort_of_active, after_abort_of_preparing}
use Rattle.mvo_theory.specs.Causes.{awaited, is_failure}

-- an Active transaction becomes Preparing, with the next timestamp as its end
abbrev pub after_precommit_of : State → Option ActiveTx → State
after_precommit_of s None = s
after_precommit_of s (Some r) = after_prepare s r (s.clock + 1)

abbrev pub after_precommit : State → ℕ → State
after_precommit s t = after_precommit_of s (active_of t s.active)

-- whether no entry is left after the next check
abbrev pub has_last_check : StampedTx → Bool
has_last_check x = x.valid || nat_le (length (entries x.history)) (x.checked + 1)

abbrev pub is_valid_at : Option StampedTx → Bool
is_valid_at None = false
is_valid_at (Some x) = has_last_check x

-- whether the next check answers Valid
abbrev pub is_valid_now : State → ℕ → Bool
is_valid_now s t = is_valid_at (preparing_of t s.stamped)

abbrev pub after_validate_of : State → Option StampedTx → State
after_validate_of s None = s
after_validate_of s (Some x) =
    if x.valid then s else after_check s x.end (nat_le (length (entries x.history)) (x.checked + 1))

-- the next entry is checked, unless all were
abbrev pub after_validate : State → ℕ → State
after_validate s t = after_validate_of s (preparing_of t s.stamped)

abbrev pub after_commit_of : State → ℕ → Option StampedTx → State
after_commit_of s t None = s
after_commit_of s t (Some x) = after_commit s t x.end

-- a Preparing transaction becomes Committed
abbrev pub after_commit_now : State → ℕ → State
after_commit_now s t = after_commit_of s t (preparing_of t s.stamped)

abbrev pub after_settle_unless : State → ℕ → Option StampedTx → State
after_settle_unless s t (Some x) = s
after_settle_unless s t None = after_commit_now s t

-- what settle leaves where it isn't refused: it waits and nothing changes, or it commits
abbrev pub after_settle : State → ℕ → State
after_settle s t = after_settle_unless s t (awaited s t)

abbrev pub after_abort_of : State → ℕ → Option StampedTx → State
after_abort_of s t None = after_abort_of_active s t
after_abort_of s t (Some x) = after_abort_of_preparing s t x.end

-- an Active or Preparing transaction becomes Aborted
abbrev pub after_abort : State → ℕ → State
after_abort s t = after_abort_of s t (preparing_of t s.stamped)

-- what a refusal leaves
abbrev pub after_refusal : State → ℕ → Refusal → State
after_refusal s t r = if is_failure r then after_abort s t else s

-- what a refusal is in the trace
abbrev pub steps_of_refusal : ℕ → Refusal → List Step
steps_of_refusal t r = if is_failure r then Aborts t ∷ [] else []
