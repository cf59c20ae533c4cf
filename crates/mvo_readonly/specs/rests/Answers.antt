-- The laws of what a call is answered, with read-only transactions, by the whole trace.
use Rattle.std.specs.Prelude.{ℕ, ◌≡◌, ◌+◌, nat_le, Bool, length, Option, None, Some}
use Rattle.mvo_types.specs.declared.op.Op.{Op}
use Rattle.mvo_model.specs.Serial.{answer_to}
use Rattle.mvo_model.specs.Trace.{history_of, phase_of}
use Rattle.mvo_model.specs.Trace.Phase.{Preparing as IsPreparing}
use Rattle.mvo_theory.specs.Entries.{entries}
use Rattle.mvo_theory.specs.State.{State}
use Rattle.mvo_theory.specs.Causes.{end_of}
use Rattle.mvo_theory.specs.Counts.{draws, checks_in}
use Rattle.mvo_theory.specs.Snapshots.{snapshot_of}
use Rattle.mvo_theory.specs.Steps.{is_valid_now}
use Rattle.mvo_theory.specs.Calls.{answer_in}
use Rattle.mvo_theory.specs.Calls.Call.{Do, Validate, Settle}
use Rattle.mvo_theory.specs.Calls.Result.{Accepted}
use Rattle.mvo_theory.specs.rests.Course.{Course}
use Rattle.mvo_readonly.specs.Whole.{ReaderStage, WholeState, stage_of}
use Rattle.mvo_readonly.specs.WholeCauses.{MayComeWhole, is_valid_stage}
use Rattle.mvo_readonly.specs.WholeCauses.WholeCall.{CoreCall}
use Rattle.mvo_readonly.specs.WholeCalls.{checked_more}
use Rattle.mvo_readonly.specs.rests.Followed.{IsFollowed}

-- The clock stands at the opening mark and the draws of the whole trace: a begin of either kind,
-- and a precommit of one that isn't read-only, gets the timestamp behind it.
abbrev pub ClockIsDrawn : Type 0
ClockIsDrawn = (whole own : Course) (w : WholeState) → IsFollowed whole own w
    → w.core.clock ≡ whole.mark + draws whole.steps

-- An operation is answered by the serial step on what its transaction sees by the whole trace.
abbrev pub AnswersAreWhole : Type 0
AnswersAreWhole = (whole own : Course) (w : WholeState) (t : ℕ) (op : Op)
    → IsFollowed whole own w → MayComeWhole w (CoreCall (Do t op)) Accepted
    → answer_in w.core t op ≡ answer_to op (snapshot_of whole.rows whole.steps t)

-- whether the next check answers Valid, by whether the transaction is read-only
abbrev pub is_valid_at_stage : State → ℕ → Option ReaderStage → Bool
is_valid_at_stage s t None = is_valid_now s t
is_valid_at_stage s t (Some p) = is_valid_stage (checked_more s t p)

-- A check answers Valid exactly where no entry is left behind it, by the whole trace.
abbrev pub ChecksAreWhole : Type 0
ChecksAreWhole = (whole own : Course) (w : WholeState) (t : ℕ)
    → IsFollowed whole own w → MayComeWhole w (CoreCall (Validate t)) Accepted
    → is_valid_at_stage w.core t (stage_of t w.readers)
    ≡ nat_le (length (entries (history_of t whole.steps))) (checks_in t whole.steps + 1)

-- the end of the Preparing transaction t: that of a read-only one is its begin
abbrev pub end_at_stage : State → ℕ → Option ReaderStage → ℕ
end_at_stage s t None = end_of s t
end_at_stage s t (Some p) = t

-- A settling that isn't refused is of one that is Preparing with its end, by the whole trace.
abbrev pub SettlesAtEnd : Type 0
SettlesAtEnd = (whole own : Course) (w : WholeState) (t : ℕ)
    → IsFollowed whole own w → MayComeWhole w (CoreCall (Settle t)) Accepted
    → phase_of t whole.steps ≡ IsPreparing (end_at_stage w.core t (stage_of t w.readers))
