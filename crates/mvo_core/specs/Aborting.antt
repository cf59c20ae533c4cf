-- What a refusal leaves: by a failure the transaction is Aborted.
use Rattle.std.specs.Prelude.{ℕ, ◌≡◌, Bool, true, false, if◌then◌else◌, List, [], ◌∷◌, ◌++◌, Option, None, Some, slice_set, IsSome}
use Rattle.mvo_types.specs.declared.refusal.Refusal.{Refusal}
use Rattle.mvo_types.specs.Keys.{Map}
use Rattle.mvo_model.specs.Trace.{Step}
use Rattle.mvo_model.specs.Trace.Step.{Aborts}
use Rattle.mvo_theory.specs.State.{State}
use Rattle.mvo_theory.specs.Causes.{is_failure}
use Rattle.mvo_theory.specs.Steps.{after_abort, after_refusal, steps_of_refusal}
use Rattle.mvo_txn.specs.declared.state.TxState.{TxState}
use Rattle.mvo_txn.specs.declared.state.TxState.TheVariants.{Active, Preparing}
use Rattle.mvo_txn.specs.Txns.{state_of, IsUnended}
use Rattle.mvo_tale.specs.declared.tale_place.TalePlace.{TalePlace}
use Rattle.mvo_tale.specs.declared.tale_place.TalePlace.TheVariants.{Empty}
use Rattle.mvo_tale.specs.Slots.{pending_end_at, closed_up}
use Rattle.mvo_readonly.specs.Whole.{ReaderStage, UnfinishedReader, stage_of}
use Rattle.mvo_readonly.specs.Whole.ReaderStage.{Aborted as IsAbortedStage}
use Rattle.mvo_readonly.specs.WholeCalls.{with_stage, readers_failed}
use Rattle.mvo_tale.specs.WholePlaces.{has_ended}
use Rattle.mvo_core.specs.declared.kept_transaction.TransactionKind.{TransactionKind}
use Rattle.mvo_core.specs.declared.kept_transaction.TransactionKind.TheVariants.{Reading, Preparing as Prepared}
use Rattle.mvo_core.specs.Data.{CoreData}
use Rattle.mvo_core.specs.Readers.{Readers}
use Rattle.mvo_core.specs.Standing.{StandsAmong}

-- the read-only transactions, with these of them unfinished
abbrev pub with_unfinished : Readers → List UnfinishedReader → Readers
with_unfinished rs us = record rs { unfinished = us }

-- ---- a refusal
-- whom a failure aborts is Active or Preparing
abbrev pub MayGiveUp : CoreData → ℕ → Refusal → Type 0
MayGiveUp c t r = is_failure r ≡ true → IsUnended (state_of c.table t)

-- from each state that the core stands for, where the transaction isn't read-only, it stands for
-- the one that the refusal leaves
abbrev pub IsGivenUp : CoreData → ℕ → Refusal → CoreData → Type 0
IsGivenUp old t r new = (rs : Readers) (opening : Map) (steps : List Step) (s : State)
    → stage_of t rs.unfinished ≡ None → StandsAmong rs opening steps s old
    → StandsAmong rs opening (steps ++ steps_of_refusal t r) (after_refusal s t r) new

-- and where it is read-only. One that has ended isn't refused by a failure
abbrev pub IsReaderGivenUp : CoreData → ℕ → Refusal → CoreData → Type 0
IsReaderGivenUp old t r new = (rs : Readers) (opening : Map) (steps : List Step) (s : State)
    (p : ReaderStage) → stage_of t rs.unfinished ≡ Some p
    → (is_failure r ≡ true → has_ended p ≡ false) → StandsAmong rs opening steps s old
    → StandsAmong (with_unfinished rs (readers_failed t r rs.unfinished)) opening
    (steps ++ steps_of_refusal t r) (after_refusal s t r) new

-- ---- an abort
-- from each state that the core stands for, where the transaction isn't read-only, it stands for
-- the one after the abort
abbrev pub IsAborted : CoreData → ℕ → CoreData → Type 0
IsAborted old t new = (rs : Readers) (opening : Map) (steps : List Step) (s : State)
    → stage_of t rs.unfinished ≡ None → StandsAmong rs opening steps s old
    → StandsAmong rs opening (steps ++ Aborts t ∷ []) (after_abort s t) new

-- and where it is read-only and hasn't ended
abbrev pub IsReaderAborted : CoreData → ℕ → CoreData → Type 0
IsReaderAborted old t new = (rs : Readers) (opening : Map) (steps : List Step) (s : State)
    (p : ReaderStage) → stage_of t rs.unfinished ≡ Some p → has_ended p ≡ false
    → StandsAmong rs opening steps s old
    → StandsAmong (with_unfinished rs (with_stage t IsAbortedStage rs.unfinished)) opening
    (steps ++ Aborts t ∷ []) (after_abort s t) new

-- ---- the place in the tale
abbrev pub has_reading_place : TransactionKind → Bool
has_reading_place Reading = true
has_reading_place Prepared = true
has_reading_place kind = false

-- a Preparing one has a place at which no commit is stored, and a read-only one that hasn't ended
abbrev pub has_pending_place : Option TxState → TransactionKind → Bool
has_pending_place (Some Active) kind = has_reading_place kind
has_pending_place (Some (Preparing e)) kind = true
has_pending_place state kind = false

abbrev pub HasOpenPlace : Option TxState → TransactionKind → List TalePlace → ℕ → Type 0
HasOpenPlace state kind slots place =
    has_pending_place state kind ≡ true → IsSome (pending_end_at slots place)

-- the tale that it leaves
abbrev pub tale_left : Option TxState → TransactionKind → List TalePlace → ℕ → List TalePlace
tale_left state kind slots place =
    if has_pending_place state kind then closed_up (slice_set slots place Empty) else slots
