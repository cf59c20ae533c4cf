-- What a state with its read-only transactions counts, read off the whole trace.
use Rattle.std.specs.Prelude.{ℕ, ◌≡◌, Bool, false, List, None, ⊤}
use Rattle.std.specs.List.{AllByRecursion}
use Rattle.mvo_model.specs.Trace.{Step}
use Rattle.mvo_theory.specs.Sound.{how_many}
use Rattle.mvo_theory.specs.Snapshots.{is_aborted}
use Rattle.mvo_theory.specs.Counts.{draws, is_begin, is_finish, checks_in, is_validated}
use Rattle.mvo_theory.specs.Counted.{HasCounts}
use Rattle.mvo_readonly.specs.Whole.{ReaderStage, WholeState, stage_of}
use Rattle.mvo_readonly.specs.Whole.ReaderStage.{Reading, Preparing, Committed, Aborted}

-- the read-only transaction t, which is Preparing with n entries checked, was checked as often as
-- the whole trace says, up to Valid
pub record HasReaderChecks (steps : List Step) (t n : ℕ) (v : Bool) : Type 0 where
  pub checked : v ≡ false → n ≡ checks_in t steps
  pub valid : is_validated t steps ≡ v

-- while it reads it was never checked
abbrev pub HasStageChecks : List Step → ℕ → ReaderStage → Type 0
HasStageChecks steps t Reading = checks_in t steps ≡ 0
HasStageChecks steps t (Preparing n v) = HasReaderChecks steps t n v
HasStageChecks steps t Committed = ⊤
HasStageChecks steps t Aborted = ⊤

-- The core counts what its own trace says. The whole trace has as many draws, begins and
-- finishings, and as many checks of each that isn't read-only and wasn't aborted; those of the
-- read-only ones are in the whole trace alone.
pub record HasWholeCounts (mark : ℕ) (steps own : List Step) (w : WholeState) : Type 0 where
  pub core : HasCounts mark own w.core
  pub drawn : draws steps ≡ draws own
  pub begun : how_many is_begin steps ≡ how_many is_begin own
  pub finished : how_many is_finish steps ≡ how_many is_finish own
  pub checks : (t : ℕ) → stage_of t w.readers ≡ None → is_aborted t own ≡ false
      → checks_in t steps ≡ checks_in t own
  pub readers : AllByRecursion (λ r. HasStageChecks steps r.id r.stage) w.readers
