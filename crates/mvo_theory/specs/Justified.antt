-- What justifies the answer or the refusal of a call: what was asked and answered before it.
use Rattle.std.specs.Prelude.{ℕ, ◌≡◌, ◌+◌, ◌<◌, ◌≤◌, true, false, ◌||◌, List, length, ⊤}
use Rattle.mvo_types.specs.declared.limits.TheConstants.{MAX_STAMP, MAX_TABLE, MAX_DATA_LEN, MAX_UNFINISHED}
use Rattle.mvo_types.specs.declared.op.Op.{Op}
use Rattle.mvo_types.specs.declared.op.Op.TheVariants.{Read, Scan, Insert, Update, Delete}
use Rattle.mvo_types.specs.declared.cause.Cause.{Cause}
use Rattle.mvo_types.specs.declared.refusal.Refusal.{Refusal}
use Rattle.mvo_types.specs.declared.refusal.Refusal.TheVariants.{NoSuchTransaction, Ended, NotActive, NotPreparing, NotValidated, NotEnded, WriteConflict, ValidationFailed, DependencyAborted, TableFull, TooManyWrites, TooManyReads, DataTooLong, BadTable, ClockSpent, OutOfMemory}
use Rattle.mvo_types.specs.Keys.{Map}
use Rattle.mvo_model.specs.History.{History}
use Rattle.mvo_model.specs.Trace.{Step, history_of, phase_of}
use Rattle.mvo_model.specs.Trace.Phase.{Absent, Active}
use Rattle.mvo_theory.specs.Entries.{entry_of}
use Rattle.mvo_theory.specs.Phases.{is_active, is_preparing, is_ended}
use Rattle.mvo_theory.specs.Causes.{is_entry_too_many, is_write_too_many}
use Rattle.mvo_theory.specs.Traced.{HasAbortedDependency}
use Rattle.mvo_theory.specs.Calls.{Call, Result}
use Rattle.mvo_theory.specs.Calls.Call.{Begin, Do, Precommit, Validate, Settle, Rollback, Finish, Trim, Close}
use Rattle.mvo_theory.specs.Calls.Result.{Accepted, Refused}
use Rattle.mvo_theory.specs.Counts.{draws, unfinished_in, is_validated}
use Rattle.mvo_theory.specs.Conflicts.{IsInTheWay}
use Rattle.mvo_theory.specs.Differences.{NextDiffers, NextDiffersLast}

-- ---- what an operation names
abbrev pub table_asked : Op → ℕ
table_asked (Read k) = k.table
table_asked (Scan table lo hi) = table
table_asked (Insert row) = row.key.table
table_asked (Update row) = row.key.table
table_asked (Delete k) = k.table

-- the bytes that it brings
abbrev pub data_len_of : Op → ℕ
data_len_of (Insert row) = length row.bytes
data_len_of (Update row) = length row.bytes
data_len_of op = 0

-- it would write one key more than a transaction may
abbrev pub IsWriteTooMany : History → Op → Type 0
IsWriteTooMany ts (Insert row) = is_write_too_many ts row.key ≡ true
IsWriteTooMany ts (Update row) = is_write_too_many ts row.key ≡ true
IsWriteTooMany ts (Delete k) = is_write_too_many ts k ≡ true
IsWriteTooMany ts op = ⊥

-- another's first write stands in its way
abbrev pub Conflicts : Map → ℕ → List Step → ℕ → Op → Cause → Type 0
Conflicts opening mark steps t (Update row) c = IsInTheWay opening mark steps t row.key c
Conflicts opening mark steps t (Delete k) c = IsInTheWay opening mark steps t k c
Conflicts opening mark steps t op c = ⊥

-- ---- the causes of each call, of the transactions' calls
-- of an operation of t
abbrev pub StandsAgainst : Map → ℕ → List Step → ℕ → Op → Refusal → Type 0
StandsAgainst opening mark steps t op NoSuchTransaction = phase_of t steps ≡ Absent
StandsAgainst opening mark steps t op Ended = is_ended (phase_of t steps) ≡ true
StandsAgainst opening mark steps t op NotActive = is_preparing (phase_of t steps) ≡ true
StandsAgainst opening mark steps t op BadTable = MAX_TABLE < table_asked op
StandsAgainst opening mark steps t op DataTooLong = MAX_DATA_LEN < data_len_of op
StandsAgainst opening mark steps t op TooManyReads =
    is_entry_too_many (history_of t steps) (entry_of op) ≡ true
StandsAgainst opening mark steps t op TooManyWrites = IsWriteTooMany (history_of t steps) op
StandsAgainst opening mark steps t op (WriteConflict c) = Conflicts opening mark steps t op c
StandsAgainst opening mark steps t op r = ⊥

abbrev pub CauseStands : Map → ℕ → List Step → Call → Refusal → Type 0
CauseStands opening mark steps Begin TableFull = MAX_UNFINISHED ≤ unfinished_in steps
CauseStands opening mark steps Begin ClockSpent = MAX_STAMP ≤ mark + draws steps
CauseStands opening mark steps (Do t op) r = StandsAgainst opening mark steps t op r
CauseStands opening mark steps (Precommit t) NoSuchTransaction = phase_of t steps ≡ Absent
CauseStands opening mark steps (Precommit t) Ended = is_ended (phase_of t steps) ≡ true
CauseStands opening mark steps (Precommit t) NotActive = is_preparing (phase_of t steps) ≡ true
CauseStands opening mark steps (Precommit t) ClockSpent = MAX_STAMP ≤ mark + draws steps
CauseStands opening mark steps (Validate t) NoSuchTransaction = phase_of t steps ≡ Absent
CauseStands opening mark steps (Validate t) Ended = is_ended (phase_of t steps) ≡ true
CauseStands opening mark steps (Validate t) NotPreparing = phase_of t steps ≡ Active
CauseStands opening mark steps (Validate t) (ValidationFailed n) =
    NextDiffers opening steps t n.0
CauseStands opening mark steps (Settle t) NoSuchTransaction = phase_of t steps ≡ Absent
CauseStands opening mark steps (Settle t) Ended = is_ended (phase_of t steps) ≡ true
CauseStands opening mark steps (Settle t) NotPreparing = phase_of t steps ≡ Active
CauseStands opening mark steps (Settle t) NotValidated = is_validated t steps ≡ false
CauseStands opening mark steps (Rollback t) NoSuchTransaction = phase_of t steps ≡ Absent
CauseStands opening mark steps (Rollback t) Ended = is_ended (phase_of t steps) ≡ true
CauseStands opening mark steps (Finish t) NoSuchTransaction = phase_of t steps ≡ Absent
CauseStands opening mark steps (Finish t) NotEnded =
    (is_active (phase_of t steps) || is_preparing (phase_of t steps)) ≡ true
CauseStands opening mark steps c r = ⊥

-- no cause stands
abbrev pub NoCauseStands : Map → ℕ → List Step → Call → Type 0
NoCauseStands opening mark steps c = (r : Refusal) → CauseStands opening mark steps c r → ⊥

-- whose flag the call looks at
abbrev pub FlaggedBy : Map → List Step → Call → ℕ → Type 0
FlaggedBy opening steps (Do t op) x = HasAbortedDependency opening steps t x
FlaggedBy opening steps (Precommit t) x = HasAbortedDependency opening steps t x
FlaggedBy opening steps (Validate t) x = HasAbortedDependency opening steps t x
FlaggedBy opening steps (Settle t) x = HasAbortedDependency opening steps t x
FlaggedBy opening steps c x = ⊥

-- ---- the answer or the refusal
abbrev pub IsJustRefusal : Map → ℕ → List Step → Call → Refusal → Type 0
IsJustRefusal opening mark steps c (DependencyAborted x) = FlaggedBy opening steps c x.0
IsJustRefusal opening mark steps c OutOfMemory = NoCauseStands opening mark steps c
IsJustRefusal opening mark steps (Validate t) (ValidationFailed n) =
    NextDiffersLast opening steps t n.0
IsJustRefusal opening mark steps c r = CauseStands opening mark steps c r

-- A refusal's cause stands, and where a call is accepted, or is refused memory, none stands. A trim
-- and a closing are no calls of a transaction.
abbrev pub IsJustified : Map → ℕ → List Step → Call → Result → Type 0
IsJustified opening mark steps (Trim upto) r = ⊤
IsJustified opening mark steps (Close fits g full) r = ⊤
IsJustified opening mark steps c Accepted = NoCauseStands opening mark steps c
IsJustified opening mark steps c (Refused r) = IsJustRefusal opening mark steps c r
