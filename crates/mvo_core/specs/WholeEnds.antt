-- How a transaction ends in each whole state that a core stands for: what its precommit, its check
-- and its settlement answer, of a read-only one by its stage.
use Rattle.std.specs.Prelude.{ℕ, ◌≡◌, ◌+◌, Bool, if◌then◌else◌, List, Option, None, Some}
use Rattle.mvo_types.specs.declared.ids.Stamp.{Stamp}
use Rattle.mvo_types.specs.Keys.{Map}
use Rattle.mvo_model.specs.Trace.{Step}
use Rattle.mvo_theory.specs.State.{State, StampedTx}
use Rattle.mvo_theory.specs.Calls.Call.{Settle}
use Rattle.mvo_theory.specs.Calls.Result.{Accepted}
use Rattle.mvo_theory.specs.Causes.{awaited}
use Rattle.mvo_theory.specs.Steps.{is_valid_now}
use Rattle.mvo_readonly.specs.Whole.{ReaderStage, WholeState, stage_of}
use Rattle.mvo_readonly.specs.WholeCauses.{is_valid_stage, awaited_by_reader}
use Rattle.mvo_readonly.specs.WholeCauses.WholeCall.{CoreCall}
use Rattle.mvo_readonly.specs.WholeCalls.{checked_more}
use Rattle.mvo_core.specs.declared.answers.Settlement.{Settlement}
use Rattle.mvo_core.specs.declared.answers.Settlement.TheVariants.{Committed, Waiting}
use Rattle.mvo_core.specs.declared.answers.Validation.{Validation}
use Rattle.mvo_core.specs.declared.answers.Validation.TheVariants as validation
use Rattle.mvo_core.specs.Causes.{is_read_only}
use Rattle.mvo_core.specs.Data.{CoreData, own_of}
use Rattle.mvo_core.specs.Steps.{settled_as}
use Rattle.mvo_core.specs.WholeAnswers.{InEachWhole}
use Rattle.mvo_core.specs.WholeStanding.{StandsWhole, LeadsWhole}

-- ---- a precommit
-- what it answers: the next timestamp, or the begin of one that is read-only by what is kept of it
abbrev pub end_drawn : CoreData → ℕ → ℕ
end_drawn c t = if is_read_only (own_of c.table t) then t else c.table.clock + 1

-- the next timestamp is the end; of a read-only one its begin is, and it draws none
abbrev pub end_by_stage : State → ℕ → Option ReaderStage → ℕ
end_by_stage s t None = s.clock + 1
end_by_stage s t (Some p) = t

abbrev pub IsEndWhole : CoreData → ℕ → Stamp → Type 0
IsEndWhole c t e = InEachWhole c (λ w. e.0 ≡ end_by_stage w.core t (stage_of t w.readers))

-- ---- a check
-- whether it is valid then: a read-only one as soon as all of its entries are counted
abbrev pub valid_by_stage : State → ℕ → Option ReaderStage → Bool
valid_by_stage s t None = is_valid_now s t
valid_by_stage s t (Some p) = is_valid_stage (checked_more s t p)

abbrev pub IsValidationWhole : CoreData → ℕ → Validation → Type 0
IsValidationWhole c t v = InEachWhole c (λ w.
    v ≡ (if valid_by_stage w.core t (stage_of t w.readers) then validation.Valid
    else validation.More))

-- ---- a settlement
-- a read-only one waits for whom it depends on, or is committed at its begin
abbrev pub reader_settled_as : ℕ → Option StampedTx → Settlement
reader_settled_as t None = Committed (record { 0 = t })
reader_settled_as t (Some x) = Waiting (record { 0 = x.id })

abbrev pub settled_by_stage : State → ℕ → Option ReaderStage → Settlement
settled_by_stage s t None = settled_as s t (awaited s t)
settled_by_stage s t (Some p) = reader_settled_as t (awaited_by_reader s t)

abbrev pub IsSettlementWhole : CoreData → ℕ → Settlement → Type 0
IsSettlementWhole c t a =
    InEachWhole c (λ w. a ≡ settled_by_stage w.core t (stage_of t w.readers))

-- so a read-only one is settled, from each whole state that the core stands for
abbrev pub IsReaderSettled : CoreData → ℕ → CoreData → Type 0
IsReaderSettled old t new = (opening : Map) (steps own : List Step) (w : WholeState)
    → StandsWhole opening steps own w old
    → LeadsWhole opening steps own w (CoreCall (Settle t)) Accepted new
