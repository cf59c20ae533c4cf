-- A core that is given works, with its read-only transactions, and why it refuses a call.
use Rattle.std.specs.Prelude.{ℕ, ◌≡◌, nat_lt, Bool, true, false, if◌then◌else◌, slice_get, List, [], ◌∷◌, ◌++◌, Option, None, Some}
use Rattle.std.specs.Option.{option_map}
use Rattle.mvo_types.specs.declared.limits.TheConstants.{MAX_TABLE}
use Rattle.mvo_types.specs.declared.op.Op.{Op}
use Rattle.mvo_types.specs.declared.op.Op.TheVariants.{Read, Scan, Insert, Update, Delete}
use Rattle.mvo_types.specs.declared.entry.Entry.TheVariants.{Key, Range}
use Rattle.mvo_types.specs.declared.refusal.Refusal.{Refusal}
use Rattle.mvo_types.specs.declared.refusal.Refusal.TheVariants.{TooManyReads, BadTable, ReadOnly}
use Rattle.mvo_types.specs.Causes.{when}
use Rattle.mvo_theory.specs.State.{State, ActiveTx, active_of}
use Rattle.mvo_theory.specs.Changes.{to_stamped}
use Rattle.mvo_theory.specs.Calls.{Call, why_not}
use Rattle.mvo_theory.specs.Calls.Call.{Begin, Do, Precommit, Validate, Trim}
use Rattle.mvo_shared.specs.Kept.{Looked, WorkContent}
use Rattle.mvo_shared.specs.Shared.{AllTaken, WorksById}
use Rattle.mvo_shared.specs.Given.{GivenRefusal, GivenState, GivenResult, if_mismatch, among, first_given, look_differs, is_look_too_many, writes_differ, entry_mismatches, why_not_given, IsGivenRefusal}
use Rattle.mvo_shared.specs.Given.GivenRefusal.{Because}
use Rattle.mvo_shared.specs.Given.GivenResult.{Took, Denied}
use Rattle.mvo_readonly.specs.Whole.{ReaderStage, WholeState, id_named, stage_named}
use Rattle.mvo_readonly.specs.Whole.ReaderStage.{Reading, Preparing, Committed, Aborted}
use Rattle.mvo_readonly.specs.WholeCauses.{WholeCall, unless_reading, unless_prepared, why_not_reader, why_not_other, takes_memory_at_stage, IsWholeCallInOrder}
use Rattle.mvo_readonly.specs.WholeCauses.WholeCall.{CoreCall, BeginReadOnly}

-- ---- the state
-- The whole state, in which of each history only the operations are left that wrote, so none of
-- those of an unfinished read-only transaction. Beside it, what precommit took out of works: of the
-- others by end timestamp, of read-only ones by id, since the end of one is its begin.
pub record GivenWhole : Type 0 where
  pub whole : WholeState
  pub taken : AllTaken
  pub reads : WorksById

-- the core of the others
abbrev pub others_given : GivenWhole → GivenState
others_given g = record { state = g.whole.core; taken = g.taken }

-- ---- why a call of a read-only transaction is refused
-- the causes of an operation behind the mismatch: one that would write is refused for that
abbrev pub read_causes : WorkContent → Op → List (Option Refusal)
read_causes w (Read k) =
    when (nat_lt MAX_TABLE k.table) BadTable
    ∷ when (is_look_too_many w (Key k)) TooManyReads
    ∷ []
read_causes w (Scan table lo hi) =
    when (nat_lt MAX_TABLE table) BadTable
    ∷ when (is_look_too_many w (Range table lo hi)) TooManyReads
    ∷ []
read_causes w (Insert row) = Some ReadOnly ∷ []
read_causes w (Update row) = Some ReadOnly ∷ []
read_causes w (Delete k) = Some ReadOnly ∷ []

abbrev pub why_not_read_given :
    State → ReaderStage → ℕ → WorkContent → Op → Option GivenRefusal
why_not_read_given s p t w op = first_given (among (unless_reading s t p)
    ++ if_mismatch (look_differs s (active_of t s.active) w op)
    ∷ among (read_causes w op))

-- a precommit: the core saw it write nothing, and it draws no timestamp
abbrev pub why_not_take_reads : State → ReaderStage → ℕ → WorkContent → Option GivenRefusal
why_not_take_reads s p t w = first_given (among (unless_reading s t p)
    ++ if_mismatch (writes_differ (active_of t s.active) w)
    ∷ [])

-- the look that the next check is of: none behind Valid
abbrev pub next_read : WorkContent → ReaderStage → Option Looked
next_read w (Preparing n v) = if v then None else slice_get w.looked n
next_read w Reading = None
next_read w Committed = None
next_read w Aborted = None

-- others show other rows there to the begin, or one that decides a key which counts for it is
-- neither settled nor depended on. As its end is its begin, nobody can have changed it in between
abbrev pub read_mismatches : State → Option ActiveTx → Option Looked → Bool
read_mismatches s None l = false
read_mismatches s (Some r) l = entry_mismatches s.base s.stamped (to_stamped r.id r) l

abbrev pub why_not_check_reads : GivenWhole → ReaderStage → ℕ → Option GivenRefusal
why_not_check_reads g p t =
    let s = g.whole.core in first_given (among (unless_prepared s t p)
    ++ if_mismatch (read_mismatches s (active_of t s.active) (next_read (g.reads t) p))
    ∷ [])

abbrev pub why_not_reader_given :
    GivenWhole → WorkContent → ReaderStage → Call → Option GivenRefusal
why_not_reader_given g w p (Do t op) = why_not_read_given g.whole.core p t w op
why_not_reader_given g w p (Precommit t) = why_not_take_reads g.whole.core p t w
why_not_reader_given g w p (Validate t) = why_not_check_reads g p t
why_not_reader_given g w p c = option_map Because (why_not_reader g.whole.core p c)

-- ---- why a call of another is refused
abbrev pub why_not_other_given : GivenWhole → WorkContent → Call → Option GivenRefusal
why_not_other_given g w (Trim m) = option_map Because (why_not_other g.whole (Trim m))
why_not_other_given g w c = why_not_given (others_given g) w c

-- ---- what a call may come to
-- by how far the read-only transaction is that it names
abbrev pub why_not_given_at_stage :
    GivenWhole → WorkContent → Call → Option ReaderStage → Option GivenRefusal
why_not_given_at_stage g w c None = why_not_other_given g w c
why_not_given_at_stage g w c (Some p) = why_not_reader_given g w p c

abbrev pub why_not_given_whole : GivenWhole → WorkContent → WholeCall → Option GivenRefusal
why_not_given_whole g w BeginReadOnly = option_map Because (why_not g.whole.core Begin)
why_not_given_whole g w (CoreCall c) =
    why_not_given_at_stage g w c (stage_named g.whole.readers (id_named c))

abbrev pub takes_memory_whole : GivenWhole → WholeCall → Bool
takes_memory_whole g BeginReadOnly = true
takes_memory_whole g (CoreCall c) =
    takes_memory_at_stage c (stage_named g.whole.readers (id_named c))

abbrev pub MayComeGivenWhole : GivenWhole → WorkContent → WholeCall → GivenResult → Type 0
MayComeGivenWhole g w c Took =
    (why_not_given_whole g w c ≡ None) × IsWholeCallInOrder g.whole c
MayComeGivenWhole g w c (Denied r) =
    IsGivenRefusal (takes_memory_whole g c) (why_not_given_whole g w c) r
