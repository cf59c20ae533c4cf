-- What justifies the reply to an event of a transaction: what was asked and answered before it.
use Rattle.std.specs.Prelude.{◌≡◌, ◌⊎◌, ◌+◌, ◌<◌, ◌≤◌, ℕ, length, ⊤}
use Rattle.mvo_types.specs.declared.op.Op.{Op}
use Rattle.mvo_types.specs.declared.refusal.Refusal.TheVariants.{OutOfMemory}
use Rattle.mvo_types.specs.AnswerData.{answer_data}
use Rattle.mvo_model.specs.Serial.{answer_to}
use Rattle.mvo_model.specs.Trace.{history_of, phase_of}
use Rattle.mvo_model.specs.Trace.Phase.{Preparing, Committed as Commits}
use Rattle.mvo_theory.specs.Entries.{entries}
use Rattle.mvo_theory.specs.Snapshots.{snapshot_of}
use Rattle.mvo_theory.specs.Calls as theory
use Rattle.mvo_theory.specs.Calls.Call.{Begin as BeginCall, Precommit as PrecommitCall, Validate as ValidateCall, Settle as SettleCall, Rollback as RollbackCall, Finish as FinishCall, Do as DoCall}
use Rattle.mvo_theory.specs.Calls.Result.{Accepted, Refused as RefusedCall}
use Rattle.mvo_theory.specs.Counts.{draws, checks_in}
use Rattle.mvo_theory.specs.rests.Resting.{IsFirstAwaited, AwaitsNone}
use Rattle.mvo_core.specs.declared.answers.Validation.{Validation}
use Rattle.mvo_core.specs.declared.answers.Validation.TheVariants.{More, Valid}
use Rattle.mvo_theory.specs.Words.{word_count}
use Rattle.mvo_core.specs.declared.answers.Finishing.{Finishing}
use Rattle.mvo_core.specs.declared.answers.Finishing.TheVariants.{More, Done}
use Rattle.mvo_core.specs.declared.answers.Settlement.{Settlement}
use Rattle.mvo_core.specs.declared.answers.Settlement.TheVariants.{Committed, Waiting}
use Rattle.mvo_world.specs.Past.{Past, course_of}
use Rattle.mvo_world.specs.Finishing.{mores_of}
use Rattle.mvo_world.specs.Collecting.{IsJustCollection}
use Rattle.mvo_world.specs.Replies.{HasRow}
use Rattle.mvo_world.specs.Forgetting.{IsJustTrim}
use Rattle.mvo_world.specs.Closing.{IsJustClosing}
use Rattle.mvo_world.specs.WholeJustified.{is_among, IsJustCall, IsGivenEnd}
use Rattle.mvo_world.specs.declared.event.Event.{Event}
use Rattle.mvo_world.specs.declared.event.Event.TheVariants.{Begin, BeginReadOnly, Do, Precommit, Validate, Settle, Rollback, Finish, Collect, Trim, CloseGroup}
use Rattle.mvo_world.specs.declared.reply.Reply.{Reply}
use Rattle.mvo_world.specs.declared.reply.Reply.TheVariants.{Began, Answered, Prepared, Validated, Settled, RolledBack, Finished, Collected, Refused}

-- what the call came to: with the first cause that stands where it is refused, and else with none;
-- and 22 just where one on whom its transaction rests was aborted. A read-only one has other causes
abbrev pub IsJust : Past → theory.Call → theory.Result → Type 0
IsJust p c r = IsJustCall p.read_only (course_of p) c r

-- the timestamp behind those that were drawn
abbrev pub IsNextStamp : Past → ℕ → Type 0
IsNextStamp p n = n ≡ p.mark + draws p.steps + 1

-- the end of a precommit: the next timestamp, or of a read-only one its begin
abbrev pub IsJustEnd : Past → ℕ → ℕ → Type 0
IsJustEnd p t e = IsGivenEnd (is_among t p.read_only) (course_of p) t e

-- an operation, with the answer of the serial step on what the transaction sees
abbrev pub IsJustOperation : Past → ℕ → Op → Reply → Type 0
IsJustOperation p t op (Answered a) =
    IsJust p (DoCall t op) Accepted × (answer_data a ≡ answer_to op (snapshot_of p.rows p.steps t))
IsJustOperation p t op (Refused r) = IsJust p (DoCall t op) (RefusedCall r)
IsJustOperation p t op r = ⊥

-- Valid comes with the check of the last entry, or behind it
abbrev pub IsJustCheck : Past → ℕ → Validation → Type 0
IsJustCheck p t Valid = length (entries (history_of t p.steps)) ≤ checks_in t p.steps + 1
IsJustCheck p t More = checks_in t p.steps + 1 < length (entries (history_of t p.steps))

-- It is settled with its end, and rests on none that is Preparing; or it waits for one of those on
-- whom it rests and that are Preparing, which has the least end.
abbrev pub IsJustSettlement : Past → ℕ → Settlement → Type 0
IsJustSettlement p t (Committed e) =
    (phase_of t p.steps ≡ Preparing e.0) × AwaitsNone (course_of p) t
IsJustSettlement p t (Waiting x) = IsFirstAwaited (course_of p) t x.0

-- The words that were written are one for each Inserted or Deleted that was answered, and two for
-- each Updated. More comes only where another is left behind it and each More before it. Done comes
-- where none is; of an Aborted one others may have taken some over, so it may come sooner.
abbrev pub IsJustFinishing : Past → ℕ → Finishing → Type 0
IsJustFinishing p t More = mores_of t p.mores + 1 < word_count (history_of t p.steps)
IsJustFinishing p t Done = (e : ℕ) → phase_of t p.steps ≡ Commits e →
    word_count (history_of t p.steps) ≤ mores_of t p.mores + 1

-- The reply is justified by the past. Of events that are of no transaction it says when a version
-- may be collected, when a trim has nothing to do, and a group that is closed.
abbrev pub IsJustifiedBy : Past → Event → Reply → Type 0
IsJustifiedBy p Begin (Began t) = IsJust p BeginCall Accepted × IsNextStamp p t.0
IsJustifiedBy p Begin (Refused r) = IsJust p BeginCall (RefusedCall r)
IsJustifiedBy p Begin r = ⊥
IsJustifiedBy p BeginReadOnly (Began t) = IsJust p BeginCall Accepted × IsNextStamp p t.0
IsJustifiedBy p BeginReadOnly (Refused r) = IsJust p BeginCall (RefusedCall r)
IsJustifiedBy p BeginReadOnly r = ⊥
IsJustifiedBy p (Do t op) r = IsJustOperation p t.0 op r
IsJustifiedBy p (Precommit t) (Prepared e) =
    IsJust p (PrecommitCall t.0) Accepted × IsJustEnd p t.0 e.0
IsJustifiedBy p (Precommit t) (Refused r) = IsJust p (PrecommitCall t.0) (RefusedCall r)
IsJustifiedBy p (Precommit t) r = ⊥
IsJustifiedBy p (Validate t) (Validated v) =
    IsJust p (ValidateCall t.0) Accepted × IsJustCheck p t.0 v
IsJustifiedBy p (Validate t) (Refused r) = IsJust p (ValidateCall t.0) (RefusedCall r)
IsJustifiedBy p (Validate t) r = ⊥
IsJustifiedBy p (Settle t) (Settled a) =
    IsJust p (SettleCall t.0) Accepted × IsJustSettlement p t.0 a
IsJustifiedBy p (Settle t) (Refused r) = IsJust p (SettleCall t.0) (RefusedCall r)
IsJustifiedBy p (Settle t) r = ⊥
IsJustifiedBy p (Rollback t) RolledBack = IsJust p (RollbackCall t.0) Accepted
IsJustifiedBy p (Rollback t) (Refused r) = IsJust p (RollbackCall t.0) (RefusedCall r)
IsJustifiedBy p (Rollback t) r = ⊥
IsJustifiedBy p (Finish t) (Finished a) =
    IsJust p (FinishCall t.0) Accepted × IsJustFinishing p t.0 a
IsJustifiedBy p (Finish t) (Refused r) = IsJust p (FinishCall t.0) (RefusedCall r)
IsJustifiedBy p (Finish t) r = ⊥
IsJustifiedBy p Collect (Collected c) = IsJustCollection p c
IsJustifiedBy p Collect r = ⊥
IsJustifiedBy p (Trim upto) r = IsJustTrim p upto.0 r
IsJustifiedBy p CloseGroup r = IsJustClosing p r
IsJustifiedBy p e r = ⊤

-- so is the reply to an event that is copied first, but for a copy that was refused memory
abbrev pub IsCopyJustifiedBy : Past → Event → Reply → Type 0
IsCopyJustifiedBy p e r = IsJustifiedBy p e r ⊎ (HasRow e × (r ≡ Refused OutOfMemory))
