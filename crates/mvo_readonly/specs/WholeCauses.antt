-- The calls of a state with its read-only transactions, and what each may come to.
use Rattle.std.specs.Prelude.{ℕ, ◌≡◌, nat_lt, nat_le, Bool, true, false, not, List, [], ◌∷◌, ◌++◌, Option, None, Some, ⊤}
use Rattle.std.specs.List.{list_any}
use Rattle.mvo_types.specs.declared.limits.TheConstants.{MAX_TABLE}
use Rattle.mvo_types.specs.declared.op.Op.{Op}
use Rattle.mvo_types.specs.declared.op.Op.TheVariants.{Read, Scan, Insert, Update, Delete}
use Rattle.mvo_types.specs.declared.refusal.Refusal.{Refusal}
use Rattle.mvo_types.specs.declared.refusal.Refusal.TheVariants.{Ended, NotActive, NotPreparing, NotValidated, TooManyReads, BadTable, NothingToDo, ReadOnly}
use Rattle.mvo_types.specs.declared.entry.Entry.TheVariants.{Key, Range}
use Rattle.mvo_types.specs.Causes.{first_cause, when}
use Rattle.mvo_theory.specs.State.{State, StampedTx, ActiveTx, active_of, history_of_active}
use Rattle.mvo_theory.specs.Phases.{is_active, is_preparing, is_ended}
use Rattle.mvo_theory.specs.Causes.{flagged, flag_of_active, is_entry_too_many, is_trim, waiting_for}
use Rattle.mvo_theory.specs.Calls.{Call, Result, why_not, takes_memory, IsRefusal, IsCallInOrder, MayCome}
use Rattle.mvo_theory.specs.Calls.Call.{Begin, Do, Precommit, Validate, Settle, Trim}
use Rattle.mvo_theory.specs.Calls.Result.{Accepted, Refused}
use Rattle.mvo_readonly.specs.Whole.{ReaderStage, UnfinishedReader, WholeState, phase_at_stage, id_named, stage_named}
use Rattle.mvo_readonly.specs.Whole.ReaderStage.{Preparing}

-- the calls: those of the core, and one more
pub data WholeCall : Type 0 where
  CoreCall : (c : Call) → WholeCall
  BeginReadOnly : WholeCall

-- ---- why a call of a read-only transaction is refused
-- the first aborted one of those that it depends on: for the core it is Active
abbrev pub flag_of_reader : State → ℕ → Option ℕ
flag_of_reader s t = flag_of_active (active_of t s.active)

-- the causes of a call of one that is Active, that every such call has first
abbrev pub unless_reading : State → ℕ → ReaderStage → List (Option Refusal)
unless_reading s t p =
    when (is_ended (phase_at_stage t p)) Ended
    ∷ when (is_preparing (phase_at_stage t p)) NotActive
    ∷ flagged (flag_of_reader s t)
    ∷ []

-- those of a call of one that is Preparing
abbrev pub unless_prepared : State → ℕ → ReaderStage → List (Option Refusal)
unless_prepared s t p =
    when (is_ended (phase_at_stage t p)) Ended
    ∷ when (is_active (phase_at_stage t p)) NotPreparing
    ∷ flagged (flag_of_reader s t)
    ∷ []

-- behind these, those of an operation: one that would write is refused for that, and a test of its
-- table doesn't come before it
abbrev pub unless_read_only : State → ℕ → Op → List (Option Refusal)
unless_read_only s t (Read k) =
    when (nat_lt MAX_TABLE k.table) BadTable
    ∷ when (is_entry_too_many (history_of_active t s.active) (Key k)) TooManyReads
    ∷ []
unless_read_only s t (Scan table lo hi) =
    when (nat_lt MAX_TABLE table) BadTable
    ∷ when (is_entry_too_many (history_of_active t s.active) (Range table lo hi)) TooManyReads
    ∷ []
unless_read_only s t (Insert row) = Some ReadOnly ∷ []
unless_read_only s t (Update row) = Some ReadOnly ∷ []
unless_read_only s t (Delete k) = Some ReadOnly ∷ []

abbrev pub is_valid_stage : ReaderStage → Bool
is_valid_stage (Preparing n v) = v
is_valid_stage p = false

-- a precommit draws no timestamp and a check finds no entry that differs, so neither is refused for
-- that
abbrev pub why_not_reader : State → ReaderStage → Call → Option Refusal
why_not_reader s p (Do t op) = first_cause (unless_reading s t p ++ unless_read_only s t op)
why_not_reader s p (Precommit t) = first_cause (unless_reading s t p)
why_not_reader s p (Validate t) = first_cause (unless_prepared s t p)
why_not_reader s p (Settle t) =
    first_cause (unless_prepared s t p ++ when (not (is_valid_stage p)) NotValidated ∷ [])
why_not_reader s p c = why_not s c

-- ---- why a call of another is refused
-- whether an unfinished read-only transaction has a begin of at most m
abbrev pub has_reader_to : ℕ → List UnfinishedReader → Bool
has_reader_to m rs = list_any (λ r. nat_le r.id m) rs

-- as without read-only ones, but that a trim goes past none that is unfinished
abbrev pub why_not_other : WholeState → Call → Option Refusal
why_not_other w (Trim m) = first_cause (
    when (not (is_trim w.core m)) NothingToDo
    ∷ when (has_reader_to m w.readers) NothingToDo
    ∷ [])
why_not_other w c = why_not w.core c

-- ---- what a call may come to
-- by how far the read-only transaction is that it names
abbrev pub why_not_at_stage : WholeState → Call → Option ReaderStage → Option Refusal
why_not_at_stage w c None = why_not_other w c
why_not_at_stage w c (Some p) = why_not_reader w.core p c

-- of the calls of a read-only transaction an operation alone may need memory: the room for its
-- commit was taken as it began
abbrev pub reader_takes_memory : Call → Bool
reader_takes_memory (Do t op) = true
reader_takes_memory c = false

abbrev pub takes_memory_at_stage : Call → Option ReaderStage → Bool
takes_memory_at_stage c None = takes_memory c
takes_memory_at_stage c (Some p) = reader_takes_memory c

abbrev pub MayComeAtStage : WholeState → Call → Option ReaderStage → Result → Type 0
MayComeAtStage w c p Accepted = (why_not_at_stage w c p ≡ None) × IsCallInOrder w.core c
MayComeAtStage w c p (Refused r) =
    IsRefusal (takes_memory_at_stage c p) (why_not_at_stage w c p) r

abbrev pub MayComeWhole : WholeState → WholeCall → Result → Type 0
MayComeWhole w BeginReadOnly r = MayCome w.core Begin r
MayComeWhole w (CoreCall c) r = MayComeAtStage w c (stage_named w.readers (id_named c)) r

-- a group that a call closes is the next one
abbrev pub IsWholeCallInOrder : WholeState → WholeCall → Type 0
IsWholeCallInOrder w BeginReadOnly = ⊤
IsWholeCallInOrder w (CoreCall c) = IsCallInOrder w.core c

-- ---- whom a read-only transaction waits for
abbrev pub depends_of_active : Option ActiveTx → List ℕ
depends_of_active None = []
depends_of_active (Some r) = r.depends_on

-- the Preparing one with the least end, of those that it depends on
abbrev pub awaited_by_reader : State → ℕ → Option StampedTx
awaited_by_reader s t = waiting_for (depends_of_active (active_of t s.active)) s.stamped
