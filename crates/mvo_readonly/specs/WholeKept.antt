-- What each call keeps of a state with its read-only transactions, after the whole trace since the
-- opening, and after the core's own.
use Rattle.std.specs.Prelude.{ℕ, ◌≡◌, ◌≢◌, ◌<◌, ◌≤◌, true, List, [], ◌∷◌, ◌++◌, map, None, ⊤}
use Rattle.std.specs.List.{AllByRecursion}
use Rattle.std.specs.List.Sorted.{IsPermutation}
use Rattle.mvo_types.specs.Keys.{Map}
use Rattle.mvo_model.specs.Trace.{Step, Phase, commits, history_of, phase_of}
use Rattle.mvo_model.specs.Trace.Phase.{Active as IsActive, Aborted as IsAborted}
use Rattle.mvo_theory.specs.State.{State, timeline}
use Rattle.mvo_theory.specs.Snapshots.{is_aborted}
use Rattle.mvo_theory.specs.Calls.{IsKept}
use Rattle.mvo_readonly.specs.ReadAt.{WritesNothing, IsReadAt}
use Rattle.mvo_readonly.specs.Whole.{ReaderStage, UnfinishedReader, CommittedReader, WholeState, stage_of, phase_at_stage}
use Rattle.mvo_readonly.specs.Whole.ReaderStage.{Reading, Preparing, Committed, Aborted}

-- where the core of the others has it: Active until it ends, and then rolled back
abbrev pub core_phase : ReaderStage → Phase
core_phase Reading = IsActive
core_phase (Preparing n v) = IsActive
core_phase Committed = IsAborted
core_phase Aborted = IsAborted

-- An unfinished read-only transaction, after the whole steps and the core's own: it stands in both
-- as its stage says, wrote nothing, and began above the start.
pub record IsUnfinishedReader (steps own : List Step) (s : State) (r : UnfinishedReader) :
    Type 0 where
  pub stands : phase_of r.id own ≡ core_phase r.stage
  pub phase : phase_of r.id steps ≡ phase_at_stage r.id r.stage
  pub idle : WritesNothing (history_of r.id own)
  pub drawn : r.id ≤ s.clock
  pub later : s.start < r.id

-- A committed one: its history is the one that it was told, and is right at its begin.
pub record IsCommittedReader (opening : Map) (own : List Step) (s : State) (y : CommittedReader) :
    Type 0 where
  pub read : IsReadAt opening (timeline s) y.id y.history
  pub told : history_of y.id own ≡ y.history
  pub gone : is_aborted y.id own ≡ true
  pub drawn : y.id ≤ s.clock

abbrev pub HaveDistinctIds : List CommittedReader → Type 0
HaveDistinctIds [] = ⊤
HaveDistinctIds (y ∷ ys) = AllByRecursion (λ z. z.id ≢ y.id) ys × HaveDistinctIds ys

-- the commits of read-only ones: the end timestamp of each, and its id
abbrev pub reader_commits : List CommittedReader → List (ℕ × ℕ)
reader_commits ys = map (λ y. (y.id, y.id)) ys

-- The core keeps what it keeps without read-only ones, by its own trace. The whole trace is that
-- one, but for what becomes of the read-only ones: their commits are in it besides.
pub record IsWholeKept (opening : Map) (steps own : List Step) (w : WholeState) : Type 0 where
  pub kept : IsKept opening own w.core
  pub readers : AllByRecursion (IsUnfinishedReader steps own w.core) w.readers
  pub committed_readers :
      AllByRecursion (IsCommittedReader opening own w.core) w.committed_readers
  pub apart : HaveDistinctIds w.committed_readers
  pub histories : (t : ℕ) → history_of t steps ≡ history_of t own
  pub commits : IsPermutation (commits steps) (commits own ++ reader_commits w.committed_readers)
  pub phases : (t : ℕ) → stage_of t w.readers ≡ None → phase_of t steps ≡ phase_of t own
