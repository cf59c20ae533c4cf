-- What the calls of a session are refused with: a list for each.
use Rattle.std.specs.Prelude.{Bool, true, false}
use Rattle.mvo_types.specs.declared.op.Op.{Op}
use Rattle.mvo_types.specs.declared.op.Op.TheVariants.{Read, Scan, Insert, Update, Delete}
use Rattle.mvo_types.specs.declared.refusal.Refusal.{Refusal}
use Rattle.mvo_types.specs.declared.refusal.Refusal.TheVariants.{NoSuchTransaction, Ended, NotActive, NotPreparing, NotValidated, WriteConflict, ValidationFailed, DependencyAborted, TableFull, TooManyWrites, TooManyReads, DataTooLong, BadTable, ClockSpent, Busy, ReadOnly, OutOfMemory}

abbrev pub refuses_begin : Refusal → Bool
refuses_begin Busy = true
refuses_begin TableFull = true
refuses_begin ClockSpent = true
refuses_begin OutOfMemory = true
refuses_begin e = false

-- ---- operations
-- A read or a scan. Ended is where another rolls it back meanwhile. NotActive is the core's, and no
-- run of a session meets it.
abbrev pub refuses_read : Refusal → Bool
refuses_read NoSuchTransaction = true
refuses_read Ended = true
refuses_read NotActive = true
refuses_read (DependencyAborted by) = true
refuses_read BadTable = true
refuses_read TooManyReads = true
refuses_read OutOfMemory = true
refuses_read e = false

-- one that writes may also be one too many, or its transaction read-only
abbrev pub refuses_insert : Refusal → Bool
refuses_insert ReadOnly = true
refuses_insert DataTooLong = true
refuses_insert TooManyWrites = true
refuses_insert e = refuses_read e

-- and where it ends what another wrote, another may have done so
abbrev pub refuses_update : Refusal → Bool
refuses_update (WriteConflict cause) = true
refuses_update e = refuses_insert e

abbrev pub refuses_delete : Refusal → Bool
refuses_delete (WriteConflict cause) = true
refuses_delete ReadOnly = true
refuses_delete TooManyWrites = true
refuses_delete e = refuses_read e

abbrev pub refuses_operation : Op → Refusal → Bool
refuses_operation op OutOfMemory = true
refuses_operation (Read key) e = refuses_read e
refuses_operation (Scan table lo hi) e = refuses_read e
refuses_operation (Insert row) e = refuses_insert e
refuses_operation (Update row) e = refuses_update e
refuses_operation (Delete key) e = refuses_delete e

-- ---- the end of a transaction
-- Of these no run of a session meets NotActive, NotPreparing, NotValidated and Busy.
abbrev pub refuses_commit : Refusal → Bool
refuses_commit NoSuchTransaction = true
refuses_commit Ended = true
refuses_commit NotActive = true
refuses_commit NotPreparing = true
refuses_commit NotValidated = true
refuses_commit Busy = true
refuses_commit (DependencyAborted by) = true
refuses_commit (ValidationFailed stamp) = true
refuses_commit ClockSpent = true
refuses_commit OutOfMemory = true
refuses_commit e = false

-- Ended is where another rolls it back meanwhile
abbrev pub refuses_rollback : Refusal → Bool
refuses_rollback NoSuchTransaction = true
refuses_rollback Ended = true
refuses_rollback e = false
