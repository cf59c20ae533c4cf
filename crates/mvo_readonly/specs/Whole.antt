-- A state with its read-only transactions, and where each transaction stands in it.
use Rattle.std.specs.Prelude.{ℕ, ◌==◌, Bool, if◌then◌else◌, List, [], ◌∷◌, Option, None, Some}
use Rattle.mvo_types.specs.Keys.{Map}
use Rattle.mvo_model.specs.History.{History}
use Rattle.mvo_model.specs.Trace.{Phase}
use Rattle.mvo_model.specs.Trace.Phase.{Active as IsActive, Preparing as IsPreparing, Committed as IsCommitted, Aborted as IsAborted}
use Rattle.mvo_theory.specs.State.{State, opened}
use Rattle.mvo_theory.specs.Phases.{phase_in}
use Rattle.mvo_theory.specs.Calls.{Call}
use Rattle.mvo_theory.specs.Calls.Call.{Begin, Do, Precommit, Validate, Settle, Rollback, Finish, Trim, Close}

-- ---- the state
-- how far an unfinished read-only transaction is: it reads; it is Preparing, with so many entries
-- checked, and whether Valid was answered; it is Committed or Aborted
pub data ReaderStage : Type 0 where
  Reading : ReaderStage
  Preparing : (checked : ℕ) (valid : Bool) → ReaderStage
  Committed : ReaderStage
  Aborted : ReaderStage

-- a read-only transaction that is unfinished. Its id is its begin, and its end is its begin
pub record UnfinishedReader : Type 0 where
  pub id : ℕ
  pub stage : ReaderStage

-- a read-only transaction that is Committed, or was and is finished
pub record CommittedReader : Type 0 where
  pub id : ℕ
  pub history : History

-- The core of the others, in which a read-only transaction is Active until it ends and is rolled
-- back then; beside it the read-only ones that are unfinished, and those that were committed since
-- the opening.
pub record WholeState : Type 0 where
  pub core : State
  pub readers : List UnfinishedReader
  pub committed_readers : List CommittedReader

abbrev pub opened_whole : Map → ℕ → WholeState
opened_whole rows mark = record {
  core = opened rows mark;
  readers = [];
  committed_readers = [];
}

-- ---- who is where
-- how far the read-only transaction t is, if one that is unfinished has the id
abbrev pub stage_of : ℕ → List UnfinishedReader → Option ReaderStage
stage_of t [] = None
stage_of t (r ∷ rs) = if r.id == t then Some r.stage else stage_of t rs

abbrev pub phase_at_stage : ℕ → ReaderStage → Phase
phase_at_stage t Reading = IsActive
phase_at_stage t (Preparing n v) = IsPreparing t
phase_at_stage t Committed = IsCommitted t
phase_at_stage t Aborted = IsAborted

abbrev pub phase_by_stage : State → ℕ → Option ReaderStage → Phase
phase_by_stage s t None = phase_in s t
phase_by_stage s t (Some p) = phase_at_stage t p

-- where the transaction t stands
abbrev pub phase_in_whole : WholeState → ℕ → Phase
phase_in_whole w t = phase_by_stage w.core t (stage_of t w.readers)

-- the transaction that a call names
abbrev pub id_named : Call → Option ℕ
id_named (Do t op) = Some t
id_named (Precommit t) = Some t
id_named (Validate t) = Some t
id_named (Settle t) = Some t
id_named (Rollback t) = Some t
id_named (Finish t) = Some t
id_named Begin = None
id_named (Trim m) = None
id_named (Close fits g full) = None

-- how far the read-only transaction is that is named; none where another is, or nobody
abbrev pub stage_named : List UnfinishedReader → Option ℕ → Option ReaderStage
stage_named rs None = None
stage_named rs (Some t) = stage_of t rs
