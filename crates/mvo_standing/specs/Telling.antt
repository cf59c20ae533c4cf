-- What the work of a transaction is told on a core that goes on beside a state.
use Rattle.std.specs.Prelude.{ℕ, ◌≡◌, ◌≢◌, ◌+◌, ◌++◌, false, List, [], ◌∷◌, Some, None}
use Rattle.std.specs.List.{AllByRecursion}
use Rattle.mvo_types.specs.declared.op.Op.{Op}
use Rattle.mvo_types.specs.declared.row.RowKey.{RowKey}
use Rattle.mvo_types.specs.declared.entry.Entry.{Entry}
use Rattle.mvo_types.specs.declared.entry.Entry.TheVariants.{Key, Range}
use Rattle.mvo_types.specs.Entries.{has_entry}
use Rattle.mvo_types.specs.Keys.{Map, row_at}
use Rattle.mvo_types.specs.RowData.{RowData}
use Rattle.mvo_model.specs.Serial.{scan}
use Rattle.mvo_model.specs.Trace.{Step}
use Rattle.mvo_theory.specs.Entries.{entry_of, written_keys}
use Rattle.mvo_theory.specs.State.{State, ActiveTx, active_of, seen_by, snapshot}
use Rattle.mvo_theory.specs.Causes.{why_not_begin, why_not_do}
use Rattle.mvo_theory.specs.Calls.{answer_in, after_call, steps_of}
use Rattle.mvo_theory.specs.Calls.Call.{Begin, Do}
use Rattle.mvo_theory.specs.Calls.Result.{Accepted}
use Rattle.mvo_shared.specs.Kept.{WorkContent, IsWork, rows_shown, entries_in, with_looked, answer_kept, after_op}
use Rattle.mvo_shared.specs.Shared.{WorksById, with_work}
use Rattle.mvo_shared.specs.Given.{GivenState, after_given}
use Rattle.mvo_shared.specs.Given.GivenResult.{Took}
use Rattle.mvo_shared.specs.Held.{empty_work}
use Rattle.mvo_shadow.specs.Shadowed.{IsWorkOf}
use Rattle.mvo_chain.specs.Slots.{Slots}
use Rattle.mvo_hash.specs.Lists.{Lists}
use Rattle.mvo_range.specs.Place.{PlaceNumbers as Places}
use Rattle.mvo_visible.specs.Words.{States}
use Rattle.mvo_visible.specs.Versions.{versions_at}
use Rattle.mvo_visible.specs.Changes.{changes_of, deciding}
use Rattle.mvo_visible.specs.Shown.{shown_by, shown_to, HasOwnInFront}
use Rattle.mvo_representation.specs.Laws.{VersionsStandFor}
use Rattle.mvo_standing.specs.Together.{StandTogether}

-- ---- what a work holds
-- The work of an Active transaction holds just its operations, and their entries in the order of
-- the first look.
abbrev pub HoldsHistory : Type 0
HoldsHistory = (opening : Map) (steps : List Step) (s : State) (g : GivenState)
    (works : WorksById) (t : ℕ) (r : ActiveTx) → StandTogether opening steps s g works
    → active_of t s.active ≡ Some r → IsWorkOf r.history (works t)

-- ---- an operation
-- with it may come these rows: those that others show in its entry to the begin, and where the
-- entry is kept, any
abbrev pub MayComeWith : State → ℕ → WorkContent → Op → List RowData → Type 0
MayComeWith s t w op rows = has_entry (entries_in w.looked) (entry_of op) ≡ false
    → rows ≡ rows_shown (entry_of op) (seen_by s.base s.stamped t)

-- An operation that may come is told what the state answers.
abbrev pub TellsAnswer : Type 0
TellsAnswer = (opening : Map) (steps : List Step) (s : State) (g : GivenState)
    (works : WorksById) (t : ℕ) (op : Op) (rows : List RowData)
    → StandTogether opening steps s g works → why_not_do s t op ≡ None
    → MayComeWith s t (works t) op rows
    → answer_kept (with_looked (works t).looked (entry_of op) rows) (works t).history op
    ≡ answer_in s t op

-- these works, but this one of t
abbrev pub AreWorksWith : WorksById → ℕ → WorkContent → WorksById → Type 0
AreWorksWith works t w more = (u : ℕ) → more u ≡ with_work works t w u

-- And so they stand together after it, where its work was told it.
abbrev pub GoesOnTold : Type 0
GoesOnTold = (opening : Map) (steps : List Step) (s : State) (g : GivenState)
    (works : WorksById) (t : ℕ) (op : Op) (rows : List RowData) (more : WorksById)
    → StandTogether opening steps s g works → why_not_do s t op ≡ None
    → MayComeWith s t (works t) op rows
    → AreWorksWith works t (after_op (works t) op rows) more
    → StandTogether opening (steps ++ steps_of s (Do t op) Accepted)
    (after_call s (Do t op) Accepted) (after_given g (works t) (Do t op) Took) more

-- ---- the rows that others show
-- At a key that has no entry its own snapshot shows what others do.
abbrev pub ShowsOthersRow : Type 0
ShowsOthersRow = (opening : Map) (steps : List Step) (s : State) (g : GivenState)
    (works : WorksById) (t : ℕ) (r : ActiveTx) (k : RowKey)
    → StandTogether opening steps s g works → active_of t s.active ≡ Some r
    → has_entry (entries_in (works t).looked) (Key k) ≡ false
    → row_at (snapshot s t) k ≡ row_at (seen_by s.base s.stamped t) k

-- And so it does in each range, where it wrote nothing.
abbrev pub ShowsOthersRange : Type 0
ShowsOthersRange = (opening : Map) (steps : List Step) (s : State) (g : GivenState)
    (works : WorksById) (t : ℕ) (r : ActiveTx) (table lo hi : ℕ)
    → StandTogether opening steps s g works → active_of t s.active ≡ Some r
    → written_keys (works t).history ≡ []
    → scan (snapshot s t) table lo hi ≡ scan (seen_by s.base s.stamped t) table lo hi

-- Who isn't in the table wrote nothing: with whatever begin, it is shown just what the words of
-- others show to that begin, and no version of its own stands in the way of a walk for it.
abbrev pub ShowsOthersToAbsent : Type 0
ShowsOthersToAbsent = (opening : Map) (s : State) (states : States) (slots : Slots)
    (lists : Lists) (places : Places) (n b : ℕ) (k : RowKey)
    → VersionsStandFor opening s states slots lists places → states n ≡ None
    → let vs = versions_at slots lists k in
    (shown_to states b n vs ≡ shown_by (deciding b (changes_of states vs)))
    × HasOwnInFront states b n vs

-- ---- works that begin, and that are over
-- One that begins has done nothing.
abbrev pub GoesOnBegun : Type 0
GoesOnBegun = (opening : Map) (steps : List Step) (s : State) (g : GivenState)
    (works more : WorksById) → StandTogether opening steps s g works → why_not_begin s ≡ None
    → AreWorksWith works (s.clock + 1) empty_work more
    → StandTogether opening (steps ++ steps_of s Begin Accepted) (after_call s Begin Accepted)
    (after_given g empty_work Begin Took) more

-- The work of one that isn't Active may be any.
abbrev pub GoesOnWithout : Type 0
GoesOnWithout = (opening : Map) (steps : List Step) (s : State) (g : GivenState)
    (works more : WorksById) (t : ℕ) (w : WorkContent) → StandTogether opening steps s g works
    → AllByRecursion (λ r. r.id ≢ t) s.active → IsWork w → AreWorksWith works t w more
    → StandTogether opening steps s g more
