-- The causes of each call: tests with their refusals, in the order of the table of refusals.
use Rattle.std.specs.Prelude.{ℕ, ◌+◌, ◌==◌, nat_lt, nat_le, Bool, true, false, not, ◌||◌, ◌&&◌, cond, if◌then◌else◌, is_some, List, [], ◌∷◌, ◌++◌, length, Option, None, Some, slice_get}
use Rattle.std.specs.FinMap as fin
use Rattle.mvo_types.specs.declared.limits.TheConstants.{MAX_STAMP, MAX_TABLE, MAX_DATA_LEN, MAX_UNFINISHED, MAX_WRITES, MAX_ENTRIES}
use Rattle.mvo_types.specs.declared.row.RowKey.{RowKey}
use Rattle.mvo_types.specs.declared.op.Op.{Op}
use Rattle.mvo_types.specs.declared.op.Op.TheVariants.{Read, Scan, Insert, Update, Delete}
use Rattle.mvo_types.specs.declared.cause.Cause.{Cause}
use Rattle.mvo_types.specs.declared.cause.Cause.TheVariants.{Active, Stamped}
use Rattle.mvo_types.specs.declared.refusal.Refusal.{Refusal}
use Rattle.mvo_types.specs.declared.refusal.Refusal.TheVariants.{NoSuchTransaction, Ended, NotActive, NotPreparing, NotValidated, NotEnded, WriteConflict, ValidationFailed, DependencyAborted, TableFull, TooManyWrites, TooManyReads, DataTooLong, BadTable, ClockSpent, RingFull, NothingToDo}
use Rattle.mvo_types.specs.Causes.{when, first_cause}
use Rattle.mvo_types.specs.RowData.{RowData}
use Rattle.mvo_model.specs.History.{History, net_write}
use Rattle.mvo_types.specs.declared.entry.Entry.{Entry}
use Rattle.mvo_types.specs.Entries.{has_entry}
use Rattle.mvo_theory.specs.Entries.{entries, is_noted, written_keys}
use Rattle.mvo_theory.specs.State.{State, StampedTx, ActiveTx, active_of, preparing_of, history_of_active, snapshot}
use Rattle.mvo_theory.specs.Dependencies.{has_end}
use Rattle.mvo_theory.specs.Claims.{has_claim, origin}
use Rattle.mvo_theory.specs.Phases.{phase_in, is_absent, is_active, is_preparing, is_ended}
use Rattle.mvo_theory.specs.Marks.{oldest_begin, low_water}
use Rattle.mvo_theory.specs.Sound.{changes}
use Rattle.mvo_types.specs.declared.entry.Entry.TheVariants.{Key, Range}

-- ---- who may not be called so
-- the first aborted one that the transaction depends on
abbrev pub flag_of_active : Option ActiveTx → Option ℕ
flag_of_active None = None
flag_of_active (Some r) = r.aborted_dependency

abbrev pub flag_of_preparing : Option StampedTx → Option ℕ
flag_of_preparing None = None
flag_of_preparing (Some x) = x.aborted_dependency

abbrev pub flagged : Option ℕ → Option Refusal
flagged None = None
flagged (Some x) = Some (DependencyAborted (record { 0 = x }))

-- the causes of a call of an Active transaction, that every such call has first
abbrev pub unless_active : State → ℕ → List (Option Refusal)
unless_active s t =
    when (is_absent (phase_in s t)) NoSuchTransaction
    ∷ when (is_ended (phase_in s t)) Ended
    ∷ when (is_preparing (phase_in s t)) NotActive
    ∷ flagged (flag_of_active (active_of t s.active))
    ∷ []

-- those of a call of a Preparing one
abbrev pub unless_preparing : State → ℕ → List (Option Refusal)
unless_preparing s t =
    when (is_absent (phase_in s t)) NoSuchTransaction
    ∷ when (is_ended (phase_in s t)) Ended
    ∷ when (is_active (phase_in s t)) NotPreparing
    ∷ flagged (flag_of_preparing (preparing_of t s.stamped))
    ∷ []

-- ---- begin
abbrev pub unsettled : List StampedTx → ℕ
unsettled [] = 0
unsettled (x ∷ xs) = if x.settled then unsettled xs else unsettled xs + 1

-- how many transactions are unfinished
abbrev pub unfinished : State → ℕ
unfinished s = length s.active + (unsettled s.stamped + length s.ended)

abbrev pub why_not_begin : State → Option Refusal
why_not_begin s = first_cause (
    when (nat_le MAX_UNFINISHED (unfinished s)) TableFull
    ∷ when (nat_le MAX_STAMP s.clock) ClockSpent
    ∷ [])

-- ---- first writer wins
-- the first other Active transaction that claims this version of the key
abbrev pub active_claim : ℕ → RowKey → ℕ → List ActiveTx → Option Cause
active_claim t k n [] = None
active_claim t k n (r ∷ rs) =
    if not (r.id == t) && has_claim r.claims k n
    then Some (Active (record { 0 = r.id }))
    else active_claim t k n rs

-- the first Preparing or Committed one that does
abbrev pub stamped_claim : RowKey → ℕ → List StampedTx → Option Cause
stamped_claim k n [] = None
stamped_claim k n (x ∷ xs) =
    if has_claim x.claims k n
    then Some (Stamped (record { 0 = x.end }))
    else stamped_claim k n xs

abbrev pub or_cause : Option Cause → Option Cause → Option Cause
or_cause None other = other
or_cause (Some c) other = Some c

-- who has ended the version of the key that the transaction t would end
abbrev pub claimed_by : State → ℕ → RowKey → Option Cause
claimed_by s t k =
    or_cause (active_claim t k (origin s t k) s.active) (stamped_claim k (origin s t k) s.stamped)

-- the same, where the key stands in its snapshot and it has no writing answer on it
abbrev pub conflict : State → ℕ → RowKey → Option Cause
conflict s t k =
    if fin.contains_key (snapshot s t) k
    && not (is_some (net_write k (history_of_active t s.active)))
    then claimed_by s t k
    else None

abbrev pub conflicts : Option Cause → Option Refusal
conflicts None = None
conflicts (Some c) = Some (WriteConflict c)

-- ---- the limits of an operation
-- one entry more than a transaction may keep
abbrev pub is_entry_too_many : History → Entry → Bool
is_entry_too_many ts e =
    not (has_entry (entries ts) e) && nat_le MAX_ENTRIES (length (entries ts))

-- one key more than a transaction may write
abbrev pub is_write_too_many : History → RowKey → Bool
is_write_too_many ts k =
    not (is_noted (written_keys ts) k) && nat_le MAX_WRITES (length (written_keys ts))

-- ---- operations
abbrev pub why_not_read : State → ℕ → RowKey → Option Refusal
why_not_read s t k = first_cause (unless_active s t
    ++ when (nat_lt MAX_TABLE k.table) BadTable
    ∷ when (is_entry_too_many (history_of_active t s.active) (Key k)) TooManyReads
    ∷ [])

abbrev pub why_not_scan : State → ℕ → ℕ → ℕ → ℕ → Option Refusal
why_not_scan s t table lo hi = first_cause (unless_active s t
    ++ when (nat_lt MAX_TABLE table) BadTable
    ∷ when (is_entry_too_many (history_of_active t s.active) (Range table lo hi)) TooManyReads
    ∷ [])

abbrev pub why_not_insert : State → ℕ → RowData → Option Refusal
why_not_insert s t row = first_cause (unless_active s t
    ++ when (nat_lt MAX_TABLE row.key.table) BadTable
    ∷ when (nat_lt MAX_DATA_LEN (length row.bytes)) DataTooLong
    ∷ when (is_entry_too_many (history_of_active t s.active) (Key row.key)) TooManyReads
    ∷ when (is_write_too_many (history_of_active t s.active) row.key) TooManyWrites
    ∷ [])

abbrev pub why_not_update : State → ℕ → RowData → Option Refusal
why_not_update s t row = first_cause (unless_active s t
    ++ when (nat_lt MAX_TABLE row.key.table) BadTable
    ∷ when (nat_lt MAX_DATA_LEN (length row.bytes)) DataTooLong
    ∷ when (is_entry_too_many (history_of_active t s.active) (Key row.key)) TooManyReads
    ∷ when (is_write_too_many (history_of_active t s.active) row.key) TooManyWrites
    ∷ conflicts (conflict s t row.key)
    ∷ [])

abbrev pub why_not_delete : State → ℕ → RowKey → Option Refusal
why_not_delete s t k = first_cause (unless_active s t
    ++ when (nat_lt MAX_TABLE k.table) BadTable
    ∷ when (is_entry_too_many (history_of_active t s.active) (Key k)) TooManyReads
    ∷ when (is_write_too_many (history_of_active t s.active) k) TooManyWrites
    ∷ conflicts (conflict s t k)
    ∷ [])

abbrev pub why_not_do : State → ℕ → Op → Option Refusal
why_not_do s t (Read k) = why_not_read s t k
why_not_do s t (Scan table lo hi) = why_not_scan s t table lo hi
why_not_do s t (Insert row) = why_not_insert s t row
why_not_do s t (Update row) = why_not_update s t row
why_not_do s t (Delete k) = why_not_delete s t k

-- ---- precommit
abbrev pub why_not_precommit : State → ℕ → Option Refusal
why_not_precommit s t =
    first_cause (unless_active s t ++ when (nat_le MAX_STAMP s.clock) ClockSpent ∷ [])

-- ---- validation
-- changes the entry, and ends between the begin and the end
abbrev pub is_changer : ℕ → ℕ → Entry → StampedTx → Bool
is_changer b e entry u = (nat_lt b u.end && nat_lt u.end e) && changes entry u

abbrev pub or_first : Option ℕ → Option ℕ → Option ℕ
or_first first None = first
or_first first (Some n) = Some n

-- the end of the last of these that passes, if one does
abbrev pub last_end : (StampedTx → Bool) → List StampedTx → Option ℕ
last_end p [] = None
last_end p (x ∷ xs) = or_first (cond (p x) (Some x.end) None) (last_end p xs)

-- the greatest end of one that changes the entry between the begin and the end
abbrev pub change_of : List StampedTx → ℕ → ℕ → Entry → Option ℕ
change_of stamped b e entry = last_end (is_changer b e entry) stamped

abbrev pub differs : Option ℕ → Option Refusal
differs None = None
differs (Some stamp) = Some (ValidationFailed (record { 0 = stamp }))

abbrev pub entry_differs : List StampedTx → StampedTx → Option Entry → Option Refusal
entry_differs stamped x None = None
entry_differs stamped x (Some e) = differs (change_of stamped x.id x.end e)

-- the next entry of a Preparing transaction differs. After Valid none is left
abbrev pub next_differs : List StampedTx → Option StampedTx → Option Refusal
next_differs stamped None = None
next_differs stamped (Some x) =
    if x.valid then None else entry_differs stamped x (slice_get (entries x.history) x.checked)

abbrev pub why_not_validate : State → ℕ → Option Refusal
why_not_validate s t =
    first_cause (unless_preparing s t ++ next_differs s.stamped (preparing_of t s.stamped) ∷ [])

-- ---- settle
abbrev pub was_valid : Option StampedTx → Bool
was_valid None = false
was_valid (Some x) = x.valid

abbrev pub why_not_settle : State → ℕ → Option Refusal
why_not_settle s t = first_cause (unless_preparing s t
    ++ when (not (was_valid (preparing_of t s.stamped))) NotValidated
    ∷ [])

abbrev pub end_at : Option StampedTx → ℕ
end_at None = 0
end_at (Some x) = x.end

-- the end timestamp of the Preparing transaction t
abbrev pub end_of : State → ℕ → ℕ
end_of s t = end_at (preparing_of t s.stamped)

-- the Preparing one with the least end, of those that it depends on
abbrev pub waiting_for : List ℕ → List StampedTx → Option StampedTx
waiting_for ds [] = None
waiting_for ds (x ∷ xs) =
    if not x.settled && has_end ds x.end then Some x else waiting_for ds xs

abbrev pub awaited_by : List StampedTx → Option StampedTx → Option StampedTx
awaited_by stamped None = None
awaited_by stamped (Some x) = waiting_for x.depends_on stamped

-- whom the Preparing transaction t waits for
abbrev pub awaited : State → ℕ → Option StampedTx
awaited s t = awaited_by s.stamped (preparing_of t s.stamped)

-- ---- rollback and finishing
abbrev pub why_not_rollback : State → ℕ → Option Refusal
why_not_rollback s t = first_cause (
    when (is_absent (phase_in s t)) NoSuchTransaction
    ∷ when (is_ended (phase_in s t)) Ended
    ∷ [])

abbrev pub why_not_finish : State → ℕ → Option Refusal
why_not_finish s t = first_cause (
    when (is_absent (phase_in s t)) NoSuchTransaction
    ∷ when (is_active (phase_in s t) || is_preparing (phase_in s t)) NotEnded
    ∷ [])

-- ---- trimming the tale, and closing a group
-- up to m: above the start, and at most the oldest begin and the low-water
abbrev pub is_trim : State → ℕ → Bool
is_trim s m = nat_lt s.start m && (nat_le m (oldest_begin s) && nat_le m (low_water s))

abbrev pub why_not_trim : State → ℕ → Option Refusal
why_not_trim s m = first_cause (when (not (is_trim s m)) NothingToDo ∷ [])

-- by whether the ring of closed groups is full
abbrev pub why_not_close : State → Bool → Option Refusal
why_not_close s full = first_cause (
    when (low_water s == s.marks.closed) NothingToDo
    ∷ when full RingFull
    ∷ [])

-- ---- what a refusal leaves
-- the refusals after which the transaction is Aborted
abbrev pub is_failure : Refusal → Bool
is_failure (WriteConflict cause) = true
is_failure (ValidationFailed stamp) = true
is_failure (DependencyAborted by) = true
is_failure r = false
