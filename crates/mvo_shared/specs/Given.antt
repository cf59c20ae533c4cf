-- A core that is given works: why it refuses a call, and what the call leaves.
use Rattle.std.specs.Prelude.{ℕ, ◌≡◌, ◌+◌, Bool, true, false, if◌then◌else◌, not, ◌&&◌, nat_le, nat_lt, is_some, length, map, List, [], ◌∷◌, ◌++◌, Option, None, Some, ⊤}
use Rattle.std.specs.Option.{option_map}
use Rattle.std.specs.FinMap as fin
use Rattle.mvo_types.specs.declared.limits.TheConstants.{MAX_STAMP, MAX_TABLE, MAX_DATA_LEN, MAX_ENTRIES}
use Rattle.mvo_types.specs.declared.op.Op.{Op}
use Rattle.mvo_types.specs.declared.op.Op.TheVariants.{Read, Scan, Insert, Update, Delete}
use Rattle.mvo_types.specs.declared.entry.Entry.{Entry}
use Rattle.mvo_types.specs.declared.entry.Entry.TheVariants.{Key, Range}
use Rattle.mvo_types.specs.declared.cause.Cause.{Cause}
use Rattle.mvo_types.specs.declared.refusal.Refusal.{Refusal}
use Rattle.mvo_types.specs.declared.refusal.Refusal.TheVariants.{BadTable, DataTooLong, TooManyReads, TooManyWrites, ClockSpent, OutOfMemory}
use Rattle.mvo_types.specs.Causes.{when}
use Rattle.mvo_types.specs.Entries.{has_entry}
use Rattle.mvo_types.specs.Keys.{Map}
use Rattle.mvo_types.specs.RowData.{RowData}
use Rattle.mvo_types.specs.AnswerData.{AnswerData}
use Rattle.mvo_types.specs.Write.{Write}
use Rattle.mvo_model.specs.History.{write_of}
use Rattle.mvo_theory.specs.Entries.{entry_of}
use Rattle.mvo_theory.specs.State.{State, ActiveTx, StampedTx, active_of, preparing_of, seen_by, snapshot}
use Rattle.mvo_theory.specs.Causes.{unless_active, unless_preparing, is_write_too_many, conflict, conflicts, differs, change_of}
use Rattle.mvo_theory.specs.Changes.{after_begin, after_answer, after_finish, after_trim, after_close}
use Rattle.mvo_theory.specs.Steps.{after_precommit, after_settle, after_abort}
use Rattle.mvo_theory.specs.Calls.{Call, why_not, takes_memory, IsCallInOrder, answer_in, after_refused}
use Rattle.mvo_theory.specs.Calls.Call.{Begin, Do, Precommit, Validate, Settle, Rollback, Finish, Trim, Close}
use Rattle.mvo_shared.specs.Kept.{Looked, WorkContent, IsWork, rows_shown, entries_in, with_looked, answer_kept}
use Rattle.mvo_shared.specs.Shared.{TakenWork, AllTaken, looked_of, with_taken, after_registering, after_valid}
use Rattle.mvo_shared.specs.Causes.{is_look_mismatch, is_write_mismatch, is_entry_mismatch, next_looked}

-- ---- refusals
-- a refusal that there is without works, or that the work isn't its transaction's here, which
-- changes nothing
pub data GivenRefusal : Type 0 where
  Because : Refusal → GivenRefusal
  WorkMismatch : GivenRefusal

abbrev pub if_mismatch : Bool → Option GivenRefusal
if_mismatch test = if test then Some WorkMismatch else None

-- these causes, among which the mismatch has its place
abbrev pub among : List (Option Refusal) → List (Option GivenRefusal)
among causes = map (option_map Because) causes

abbrev pub or_behind : Option GivenRefusal → Option GivenRefusal → Option GivenRefusal
or_behind None next = next
or_behind (Some r) next = Some r

-- the first of the list that stands
abbrev pub first_given : List (Option GivenRefusal) → Option GivenRefusal
first_given [] = None
first_given (c ∷ cs) = or_behind c (first_given cs)

-- ---- an operation
-- the rows that others show where the operation looks, to the begin t
abbrev pub rows_to : State → ℕ → Op → List RowData
rows_to s t op = rows_shown (entry_of op) (seen_by s.base s.stamped t)

-- what the work is told
abbrev pub answer_given : State → ℕ → WorkContent → Op → AnswerData
answer_given s t w op =
    answer_kept (with_looked w.looked (entry_of op) (rows_to s t op)) w.history op

abbrev pub look_differs : State → Option ActiveTx → WorkContent → Op → Bool
look_differs s None w op = false
look_differs s (Some r) w op = is_look_mismatch s r w op

-- one entry more than a transaction may keep
abbrev pub is_look_too_many : WorkContent → Entry → Bool
is_look_too_many w e =
    not (has_entry (entries_in w.looked) e) && nat_le MAX_ENTRIES (length w.looked)

-- who has ended the version that this write would end
abbrev pub conflict_at : State → ℕ → Option Write → Option Cause
conflict_at s t None = None
conflict_at s t (Some v) = conflict s t v.0

-- that of the write which the work is told
abbrev pub conflict_given : State → ℕ → WorkContent → Op → Option Cause
conflict_given s t w op = conflict_at s t (write_of op (answer_given s t w op))

-- the causes behind the mismatch
abbrev pub op_causes : State → ℕ → WorkContent → Op → List (Option Refusal)
op_causes s t w (Read k) =
    when (nat_lt MAX_TABLE k.table) BadTable
    ∷ when (is_look_too_many w (Key k)) TooManyReads
    ∷ []
op_causes s t w (Scan table lo hi) =
    when (nat_lt MAX_TABLE table) BadTable
    ∷ when (is_look_too_many w (Range table lo hi)) TooManyReads
    ∷ []
op_causes s t w (Insert row) =
    when (nat_lt MAX_TABLE row.key.table) BadTable
    ∷ when (nat_lt MAX_DATA_LEN (length row.bytes)) DataTooLong
    ∷ when (is_look_too_many w (Key row.key)) TooManyReads
    ∷ when (is_write_too_many w.history row.key) TooManyWrites
    ∷ conflicts (conflict_given s t w (Insert row))
    ∷ []
op_causes s t w (Update row) =
    when (nat_lt MAX_TABLE row.key.table) BadTable
    ∷ when (nat_lt MAX_DATA_LEN (length row.bytes)) DataTooLong
    ∷ when (is_look_too_many w (Key row.key)) TooManyReads
    ∷ when (is_write_too_many w.history row.key) TooManyWrites
    ∷ conflicts (conflict_given s t w (Update row))
    ∷ []
op_causes s t w (Delete k) =
    when (nat_lt MAX_TABLE k.table) BadTable
    ∷ when (is_look_too_many w (Key k)) TooManyReads
    ∷ when (is_write_too_many w.history k) TooManyWrites
    ∷ conflicts (conflict_given s t w (Delete k))
    ∷ []

abbrev pub why_not_do_given : State → ℕ → WorkContent → Op → Option GivenRefusal
why_not_do_given s t w op = first_given (among (unless_active s t)
    ++ if_mismatch (look_differs s (active_of t s.active) w op)
    ∷ among (op_causes s t w op))

-- ---- precommit
abbrev pub writes_differ : Option ActiveTx → WorkContent → Bool
writes_differ None w = false
writes_differ (Some r) w = is_write_mismatch r w

abbrev pub why_not_precommit_given : State → ℕ → WorkContent → Option GivenRefusal
why_not_precommit_given s t w = first_given (among (unless_active s t)
    ++ if_mismatch (writes_differ (active_of t s.active) w)
    ∷ among (when (nat_le MAX_STAMP s.clock) ClockSpent ∷ []))

-- ---- validation: of the next entry that the core took out of the work
abbrev pub look_changed : List StampedTx → StampedTx → Option Looked → Option Refusal
look_changed stamped x None = None
look_changed stamped x (Some l) = differs (change_of stamped x.id x.end l.entry)

abbrev pub next_changed : AllTaken → List StampedTx → Option StampedTx → Option Refusal
next_changed all stamped None = None
next_changed all stamped (Some x) =
    if x.valid then None else look_changed stamped x (next_looked all x.end)

abbrev pub entry_mismatches : Map → List StampedTx → StampedTx → Option Looked → Bool
entry_mismatches base stamped x None = false
entry_mismatches base stamped x (Some l) = is_entry_mismatch base stamped x l

abbrev pub next_mismatches : AllTaken → Map → List StampedTx → Option StampedTx → Bool
next_mismatches all base stamped None = false
next_mismatches all base stamped (Some x) =
    not x.valid && entry_mismatches base stamped x (next_looked all x.end)

abbrev pub why_not_validate_given : State → AllTaken → ℕ → Option GivenRefusal
why_not_validate_given s all t = first_given (among (unless_preparing s t)
    ++ option_map Because (next_changed all s.stamped (preparing_of t s.stamped))
    ∷ if_mismatch (next_mismatches all s.base s.stamped (preparing_of t s.stamped))
    ∷ [])

-- ---- the state of such a core, and what a call may come to
pub record GivenState : Type 0 where
  pub state : State
  pub taken : AllTaken

-- the first refusal of the call's list that stands. A work comes with an operation and with a
-- precommit alone, and counts for no other call
abbrev pub why_not_given : GivenState → WorkContent → Call → Option GivenRefusal
why_not_given g w (Do t op) = why_not_do_given g.state t w op
why_not_given g w (Precommit t) = why_not_precommit_given g.state t w
why_not_given g w (Validate t) = why_not_validate_given g.state g.taken t
why_not_given g w c = option_map Because (why_not g.state c)

abbrev pub IsGivenRefusal : Bool → Option GivenRefusal → GivenRefusal → Type 0
IsGivenRefusal takes (Some why) r = r ≡ why
IsGivenRefusal true None r = r ≡ Because OutOfMemory
IsGivenRefusal false None r = ⊥

-- what a call came to: accepted, or refused
pub data GivenResult : Type 0 where
  Took : GivenResult
  Denied : GivenRefusal → GivenResult

abbrev pub MayComeGiven : GivenState → WorkContent → Call → GivenResult → Type 0
MayComeGiven g w c Took = (why_not_given g w c ≡ None) × IsCallInOrder g.state c
MayComeGiven g w c (Denied r) = IsGivenRefusal (takes_memory c) (why_not_given g w c) r

-- ---- what a call leaves
-- the core puts a row over whatever it shows to the transaction itself
abbrev pub core_op : Map → Op → Op
core_op m (Insert row) = if fin.contains_key m row.key then Update row else Insert row
core_op m (Update row) = if fin.contains_key m row.key then Update row else Insert row
core_op m op = op

abbrev pub after_core_op : State → ℕ → Op → AnswerData → State
after_core_op s t op a =
    if is_some (write_of op a) then after_answer s t op a else after_registering s t op

-- where the work is told a write, the core writes as its own rows answer; else it hears of the
-- dependencies alone
abbrev pub after_do_given : State → ℕ → WorkContent → Op → State
after_do_given s t w op =
    if is_some (write_of op (answer_given s t w op))
    then after_core_op s t (core_op (snapshot s t) op) (answer_in s t (core_op (snapshot s t) op))
    else after_registering s t op

-- precommit takes the work in, and no entry of it is checked
abbrev pub after_taking_in : GivenState → ℕ → WorkContent → GivenState
after_taking_in g t w = record {
  state = after_precommit g.state t;
  taken = with_taken g.taken (g.state.clock + 1) (record { work = w; checked = 0 });
}

abbrev pub one_more_checked : AllTaken → ℕ → AllTaken
one_more_checked all e =
    with_taken all e (record { work = (all e).work; checked = (all e).checked + 1 })

-- whether no entry is left behind the next check
abbrev pub is_last_look : TakenWork → Bool
is_last_look w = nat_le (length (looked_of w)) (w.checked + 1)

abbrev pub after_check_given : GivenState → Option StampedTx → GivenState
after_check_given g None = g
after_check_given g (Some x) =
    if x.valid
    then g
    else record {
      state = if is_last_look (g.taken x.end) then after_valid g.state x.end else g.state;
      taken = one_more_checked g.taken x.end;
    }

abbrev pub with_new_state : GivenState → State → GivenState
with_new_state g s = record { state = s; taken = g.taken }

abbrev pub after_took : GivenState → WorkContent → Call → GivenState
after_took g w Begin = with_new_state g (after_begin g.state (g.state.clock + 1))
after_took g w (Do t op) = with_new_state g (after_do_given g.state t w op)
after_took g w (Precommit t) = after_taking_in g t w
after_took g w (Validate t) = after_check_given g (preparing_of t g.state.stamped)
after_took g w (Settle t) = with_new_state g (after_settle g.state t)
after_took g w (Rollback t) = with_new_state g (after_abort g.state t)
after_took g w (Finish t) = with_new_state g (after_finish g.state t)
after_took g w (Trim m) = with_new_state g (after_trim g.state m)
after_took g w (Close fits group full) = with_new_state g (after_close g.state group.mark)

abbrev pub after_denied : GivenState → Call → GivenRefusal → GivenState
after_denied g c (Because r) = with_new_state g (after_refused g.state c r)
after_denied g c WorkMismatch = g

abbrev pub after_given : GivenState → WorkContent → Call → GivenResult → GivenState
after_given g w c Took = after_took g w c
after_given g w c (Denied r) = after_denied g c r

-- ---- lists of calls, each with the work that it was given and with what it came to
pub record GivenCall : Type 0 where
  pub work : WorkContent
  pub call : Call
  pub result : GivenResult

-- each call may come to what it came to, whatever works are given
abbrev pub MayRunGiven : GivenState → List GivenCall → Type 0
MayRunGiven g [] = ⊤
MayRunGiven g (c ∷ cs) =
    IsWork c.work × MayComeGiven g c.work c.call c.result
    × MayRunGiven (after_given g c.work c.call c.result) cs

abbrev pub after_given_run : GivenState → List GivenCall → GivenState
after_given_run g [] = g
after_given_run g (c ∷ cs) = after_given_run (after_given g c.work c.call c.result) cs
