-- What justifies the answer or the refusal of a read-only transaction's call, by the whole trace.
use Rattle.std.specs.Prelude.{ℕ, ◌≡◌, ◌<◌, Bool, true, false, ◌||◌, List}
use Rattle.mvo_types.specs.declared.limits.TheConstants.{MAX_TABLE}
use Rattle.mvo_types.specs.declared.op.Op.{Op}
use Rattle.mvo_types.specs.declared.op.Op.TheVariants.{Read, Scan, Insert, Update, Delete}
use Rattle.mvo_types.specs.declared.refusal.Refusal.{Refusal}
use Rattle.mvo_types.specs.declared.refusal.Refusal.TheVariants.{NoSuchTransaction, Ended, NotActive, NotPreparing, NotValidated, NotEnded, DependencyAborted, TooManyReads, BadTable, ReadOnly, OutOfMemory}
use Rattle.mvo_types.specs.Keys.{Map}
use Rattle.mvo_model.specs.Trace.{Step, history_of, phase_of}
use Rattle.mvo_model.specs.Trace.Phase.{Absent, Active}
use Rattle.mvo_theory.specs.Entries.{entry_of}
use Rattle.mvo_theory.specs.Phases.{is_active, is_preparing, is_ended}
use Rattle.mvo_theory.specs.Causes.{is_entry_too_many}
use Rattle.mvo_theory.specs.Counts.{is_validated}
use Rattle.mvo_theory.specs.Justified.{table_asked, FlaggedBy}
use Rattle.mvo_theory.specs.Calls.{Call, Result}
use Rattle.mvo_theory.specs.Calls.Call.{Do, Precommit, Validate, Settle, Rollback, Finish}
use Rattle.mvo_theory.specs.Calls.Result.{Accepted, Refused}

-- the operation is an insert, an update or a delete
abbrev pub asks_to_write : Op → Bool
asks_to_write (Read k) = false
asks_to_write (Scan table lo hi) = false
asks_to_write (Insert row) = true
asks_to_write (Update row) = true
asks_to_write (Delete k) = true

-- ---- the causes of each call of a read-only transaction
-- of an operation of t: what a table or a history allows is asked of reads and scans alone
abbrev pub ReaderStandsAgainst : List Step → ℕ → Op → Refusal → Type 0
ReaderStandsAgainst steps t op NoSuchTransaction = phase_of t steps ≡ Absent
ReaderStandsAgainst steps t op Ended = is_ended (phase_of t steps) ≡ true
ReaderStandsAgainst steps t op NotActive = is_preparing (phase_of t steps) ≡ true
ReaderStandsAgainst steps t op ReadOnly = asks_to_write op ≡ true
ReaderStandsAgainst steps t op BadTable =
    (asks_to_write op ≡ false) × (MAX_TABLE < table_asked op)
ReaderStandsAgainst steps t op TooManyReads =
    (asks_to_write op ≡ false) × (is_entry_too_many (history_of t steps) (entry_of op) ≡ true)
ReaderStandsAgainst steps t op r = ⊥

-- a precommit has no cause of a timestamp, and a check none of an entry
abbrev pub ReaderCauseStands : List Step → Call → Refusal → Type 0
ReaderCauseStands steps (Do t op) r = ReaderStandsAgainst steps t op r
ReaderCauseStands steps (Precommit t) NoSuchTransaction = phase_of t steps ≡ Absent
ReaderCauseStands steps (Precommit t) Ended = is_ended (phase_of t steps) ≡ true
ReaderCauseStands steps (Precommit t) NotActive = is_preparing (phase_of t steps) ≡ true
ReaderCauseStands steps (Validate t) NoSuchTransaction = phase_of t steps ≡ Absent
ReaderCauseStands steps (Validate t) Ended = is_ended (phase_of t steps) ≡ true
ReaderCauseStands steps (Validate t) NotPreparing = phase_of t steps ≡ Active
ReaderCauseStands steps (Settle t) NoSuchTransaction = phase_of t steps ≡ Absent
ReaderCauseStands steps (Settle t) Ended = is_ended (phase_of t steps) ≡ true
ReaderCauseStands steps (Settle t) NotPreparing = phase_of t steps ≡ Active
ReaderCauseStands steps (Settle t) NotValidated = is_validated t steps ≡ false
ReaderCauseStands steps (Rollback t) NoSuchTransaction = phase_of t steps ≡ Absent
ReaderCauseStands steps (Rollback t) Ended = is_ended (phase_of t steps) ≡ true
ReaderCauseStands steps (Finish t) NoSuchTransaction = phase_of t steps ≡ Absent
ReaderCauseStands steps (Finish t) NotEnded =
    (is_active (phase_of t steps) || is_preparing (phase_of t steps)) ≡ true
ReaderCauseStands steps c r = ⊥

-- no cause stands
abbrev pub NoReaderCauseStands : List Step → Call → Type 0
NoReaderCauseStands steps c = (r : Refusal) → ReaderCauseStands steps c r → ⊥

-- ---- the answer or the refusal
abbrev pub IsJustReaderRefusal : Map → List Step → Call → Refusal → Type 0
IsJustReaderRefusal opening steps c (DependencyAborted x) = FlaggedBy opening steps c x.0
IsJustReaderRefusal opening steps (Do t op) OutOfMemory = NoReaderCauseStands steps (Do t op)
IsJustReaderRefusal opening steps c r = ReaderCauseStands steps c r

-- A refusal's cause stands, and where a call of a read-only transaction is accepted, or an
-- operation is refused memory, none stands. No other call of it is refused memory.
abbrev pub IsReaderJustified : Map → List Step → Call → Result → Type 0
IsReaderJustified opening steps c Accepted = NoReaderCauseStands steps c
IsReaderJustified opening steps c (Refused r) = IsJustReaderRefusal opening steps c r
