-- The places after each call of a read-only transaction.
use Rattle.std.specs.Prelude.{ℕ, ◌≡◌, ◌+◌, false, if◌then◌else◌, List, [], ◌∷◌, ◌++◌, Option, None, Some, slice_set}
use Rattle.mvo_types.specs.declared.refusal.Refusal.{Refusal}
use Rattle.mvo_types.specs.Keys.{Map}
use Rattle.mvo_model.specs.Trace.{Step}
use Rattle.mvo_theory.specs.State.{State, StampedTx, history_of_active}
use Rattle.mvo_theory.specs.Causes.{is_failure}
use Rattle.mvo_theory.specs.Calls.{Call, Result}
use Rattle.mvo_theory.specs.Calls.Call.{Do, Precommit, Validate, Settle, Rollback}
use Rattle.mvo_theory.specs.Calls.Result.{Accepted, Refused}
use Rattle.mvo_readonly.specs.Whole.{ReaderStage, WholeState, id_named, stage_named}
use Rattle.mvo_readonly.specs.WholeCauses.{MayComeAtStage, awaited_by_reader}
use Rattle.mvo_readonly.specs.WholeCauses.WholeCall.{CoreCall, BeginReadOnly}
use Rattle.mvo_readonly.specs.WholeCalls.{after_whole_call}
use Rattle.mvo_readonly.specs.WholeKept.{IsWholeKept}
use Rattle.mvo_tale.specs.declared.tale_place.TalePlace.{TalePlace}
use Rattle.mvo_tale.specs.declared.tale_place.TalePlace.TheVariants.{Reading, Settled, Empty}
use Rattle.mvo_tale.specs.Stored.{StoredCommit}
use Rattle.mvo_tale.specs.Slots.{ends, reading_begin_at, AreRising, closed_up}
use Rattle.mvo_tale.specs.Next.{AreGroupedTo}
use Rattle.mvo_tale.specs.WholePlaces.{has_ended, HasWholeTale}

-- the commit of a read-only transaction
abbrev pub read_commit : State → ℕ → StoredCommit
read_commit s t = record { id = t; end = t; history = history_of_active t s.active }

-- it commits, unless it waits
abbrev pub stored_unless : State → ℕ → ℕ → List TalePlace → Option StampedTx → List TalePlace
stored_unless s t place slots (Some x) = slots
stored_unless s t place slots None = slice_set slots place (Settled (read_commit s t))

abbrev pub emptied_at : ℕ → List TalePlace → List TalePlace
emptied_at place slots = closed_up (slice_set slots place Empty)

abbrev pub places_accepted : State → Call → ℕ → List TalePlace → List TalePlace
places_accepted s (Settle t) place slots =
    stored_unless s t place slots (awaited_by_reader s t)
places_accepted s (Rollback t) place slots = emptied_at place slots
places_accepted s c place slots = slots

abbrev pub places_failed : Refusal → ℕ → List TalePlace → List TalePlace
places_failed r place slots = if is_failure r then emptied_at place slots else slots

abbrev pub places_refused : Call → Refusal → ℕ → List TalePlace → List TalePlace
places_refused (Do t op) r place slots = places_failed r place slots
places_refused (Precommit t) r place slots = places_failed r place slots
places_refused (Validate t) r place slots = places_failed r place slots
places_refused (Settle t) r place slots = places_failed r place slots
places_refused c r place slots = slots

-- the places after a call of a read-only transaction whose place this is
abbrev pub places_after_reader : State → Call → Result → ℕ → List TalePlace → List TalePlace
places_after_reader s c Accepted place slots = places_accepted s c place slots
places_after_reader s c (Refused r) place slots = places_refused c r place slots

-- ---- laws
-- As one begins its place is opened behind all others.
abbrev pub BeginOpensPlace : Type 0
BeginOpensPlace = (w : WholeState) (slots : List TalePlace) → HasWholeTale w slots
    → HasWholeTale (after_whole_call w BeginReadOnly Accepted)
    (slots ++ Reading (record { 0 = w.core.clock + 1 }) ∷ [])

-- What is grouped up to a place stays so over each call of one.
abbrev pub ReaderCallsKeepGrouped : Type 0
ReaderCallsKeepGrouped = (opening : Map) (steps own : List Step) (w : WholeState) (c : Call)
    (r : Result) (p : ReaderStage) (place from mark : ℕ) (slots : List TalePlace)
    → IsWholeKept opening steps own w → stage_named w.readers (id_named c) ≡ Some p
    → MayComeAtStage w c (Some p) r
    → (has_ended p ≡ false → reading_begin_at slots place ≡ id_named c)
    → AreGroupedTo slots from mark
    → AreGroupedTo (places_after_reader w.core c r place slots) from mark

-- Each call of one leaves the places of the state after the call.
abbrev pub ReaderCallsKeepTale : Type 0
ReaderCallsKeepTale = (opening : Map) (steps own : List Step) (w : WholeState) (c : Call)
    (r : Result) (p : ReaderStage) (place : ℕ) (slots : List TalePlace)
    → IsWholeKept opening steps own w → stage_named w.readers (id_named c) ≡ Some p
    → MayComeAtStage w c (Some p) r → AreRising (ends slots)
    → (has_ended p ≡ false → reading_begin_at slots place ≡ id_named c)
    → HasWholeTale w slots
    → HasWholeTale (after_whole_call w (CoreCall c) r) (places_after_reader w.core c r place slots)
