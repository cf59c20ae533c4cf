-- What keeps the versions of each key in order, and what follows.
use Rattle.std.specs.Prelude.{ℕ, ◌≡◌, ◌≢◌, ◌+◌, ◌≤◌, true, Bool, is_none, length, List, None, Some}
use Rattle.std.specs.List.{AllByRecursion}
use Rattle.std.specs.FinMap as fin
use Rattle.mvo_types.specs.declared.row.RowKey.{RowKey}
use Rattle.mvo_types.specs.declared.ids.Stamp.{Stamp}
use Rattle.mvo_types.specs.RowData.{RowData}
use Rattle.mvo_types.specs.Keys.{Map}
use Rattle.mvo_model.specs.Trace.Phase.{Active as IsActive}
use Rattle.mvo_theory.specs.State.{State, ActiveTx, opened, active_of, snapshot}
use Rattle.mvo_theory.specs.Causes.{why_not_trim}
use Rattle.mvo_word.specs.declared.held.Held.{Held}
use Rattle.mvo_word.specs.declared.held.Held.TheVariants.{At, Infinity}
use Rattle.mvo_chain.specs.declared.version.Version.{Version}
use Rattle.mvo_chain.specs.declared.version.VersionNo.{VersionNo}
use Rattle.mvo_chain.specs.Slots.{Slots, version_at, IsHole, with_room, with_slot, with_change}
use Rattle.mvo_hash.specs.Lists.{Lists, IsNewNumber, is_among, number, numbers_of}
use Rattle.mvo_range.specs.Place.{PlaceNumbers as Places}
use Rattle.mvo_txn.specs.declared.state.TxState.TheVariants.{Active, Preparing, Committed, Aborted}
use Rattle.mvo_visible.specs.Words.{States, seen_of}
use Rattle.mvo_visible.specs.Shown.{AllHaveFallingStamps}
use Rattle.mvo_visible.specs.Fronts.{AllOwnInFront, DifferAt, with_new, with_less}
use Rattle.mvo_visible.specs.Laws.{SlotsDifferAt}
use Rattle.mvo_representation.specs.Words.{ends_of, stamp_in}
use Rattle.mvo_representation.specs.Versions.{AreVersionsOf}
use Rattle.mvo_representation.specs.Indexes.{all_versions, HasNumbers}
use Rattle.mvo_representation.specs.Steps.{MayEnd, IsUnnamed, fresh, ended_by}
use Rattle.mvo_representation.specs.Table.{phases_of}
use Rattle.mvo_representation.specs.Laws.{VersionsStandFor}
use Rattle.mvo_representation.specs.Order.{AllStandInOrder, with_fronts, comes_forward, is_put_by, AreWrittenBy, is_nothing, MayAbort, IsSeenAlike, IsFinished}

-- ---- what follows
-- Versions that stand in order have falling stamps, as a walk over them asks.
abbrev pub OrderFalls : Type 0
OrderFalls = (opening : Map) (s : State) (states : States) (slots : Slots)
    (lists : Lists) (places : Places) → VersionsStandFor opening s states slots lists places
    → AllStandInOrder s.start states slots lists → AllHaveFallingStamps states slots lists

-- What an Active transaction wrote stands in front of each put that is settled below its begin.
abbrev pub OrderHasOwnInFront : Type 0
OrderHasOwnInFront = (start : ℕ) (states : States) (slots : Slots) (lists : Lists) (t : ℕ)
    → states t ≡ Some Active → AllStandInOrder start states slots lists
    → AllOwnInFront states t t slots lists

-- ---- an operation
-- the slots have this at the number, and are the same at the others
pub record HaveNow (slots slots' : Slots) (n : ℕ) (v : Version) : Type 0 where
  pub others : SlotsDifferAt n slots slots'
  pub here : version_at slots' (number n) ≡ Some v

-- So it is where a version fills an empty slot.
abbrev pub AddedIsNow : Type 0
AddedIsNow = (slots : Slots) (number : VersionNo) (v : Version) → IsHole (with_room slots) number
    → (version_at slots number ≡ None)
    × HaveNow slots (with_slot (with_room slots) number (Some v)) number.0 v

-- And where one changes.
abbrev pub ChangedIsNow : Type 0
ChangedIsNow = (slots : Slots) (number : VersionNo) (v : Version) (change : Version → Version)
    → version_at slots number ≡ Some v
    → HaveNow slots (with_change slots number change) number.0 (change v)

-- An insert that is told inserted puts a new version in front.
abbrev pub InsertKeepsOrder : Type 0
InsertKeepsOrder = (opening : Map) (s : State) (states : States)
    (slots slots' : Slots) (lists : Lists) (places : Places) (r : ActiveTx) (row : RowData) (n : ℕ)
    → VersionsStandFor opening s states slots lists places → active_of r.id s.active ≡ Some r
    → fin.get (snapshot s r.id) row.key ≡ None → IsNewNumber lists n
    → HaveNow slots slots' n (fresh r.id row) → AllStandInOrder s.start states slots lists
    → AllStandInOrder s.start states slots' (with_new lists row.key n)

-- A delete ends a version that its transaction may end.
abbrev pub DeleteKeepsOrder : Type 0
DeleteKeepsOrder = (opening : Map) (s : State) (states : States)
    (slots slots' : Slots) (lists : Lists) (places : Places) (r : ActiveTx) (v : Version) (n : ℕ)
    → VersionsStandFor opening s states slots lists places → active_of r.id s.active ≡ Some r
    → version_at slots (number n) ≡ Some v
    → MayEnd s (phases_of states) r.id (all_versions slots) v
    → HaveNow slots slots' n (ended_by r.id v) → AllStandInOrder s.start states slots lists
    → AllStandInOrder s.start states slots' lists

-- An update ends such a version of the row's key, and puts a new one in front.
abbrev pub UpdateKeepsOrder : Type 0
UpdateKeepsOrder = (opening : Map) (s : State) (states : States)
    (slots between slots' : Slots) (lists : Lists) (places : Places) (r : ActiveTx) (v : Version)
    (row : RowData) (n m : ℕ)
    → VersionsStandFor opening s states slots lists places → active_of r.id s.active ≡ Some r
    → version_at slots (number n) ≡ Some v → row.key ≡ v.row.key
    → MayEnd s (phases_of states) r.id (all_versions slots) v
    → HaveNow slots between n (ended_by r.id v)
    → IsNewNumber lists m → HaveNow between slots' m (fresh r.id row)
    → AllStandInOrder s.start states slots lists
    → AllStandInOrder s.start states slots' (with_new lists row.key m)

-- ---- a draw of an end, and an abort
-- As a transaction draws its end, what it put, and what it ended whose put has no stamp, comes to
-- the front, in the order of writing.
abbrev pub DrawKeepsOrder : Type 0
DrawKeepsOrder = (opening : Map) (s : State) (states states' : States)
    (slots : Slots) (lists : Lists) (places : Places) (t : ℕ) (end' : Stamp) (ns : List ℕ)
    → VersionsStandFor opening s states slots lists places → states t ≡ Some Active
    → DifferAt t states states' → states' t ≡ Some (Preparing end') → end'.0 ≡ s.clock + 1
    → AreWrittenBy t slots ns → AllStandInOrder s.start states slots lists
    → AllStandInOrder s.start states' slots
    (with_fronts (comes_forward (ends_of (phases_of states)) t) slots lists ns)

-- It is the same whether that is told before the draw or after it.
abbrev pub ForwardIsSame : Type 0
ForwardIsSame = (states states' : States) (t : ℕ) (v : Version) → DifferAt t states states'
    → comes_forward (ends_of (phases_of states')) t v
    ≡ comes_forward (ends_of (phases_of states)) t v

-- A word has no stamp just where others see nothing in it.
abbrev pub UnstampedIsUnseen : Type 0
UnstampedIsUnseen = (states : States) (w : Held)
    → is_none (stamp_in (ends_of (phases_of states)) w) ≡ is_nothing (seen_of states w)

-- As an Active or Preparing one is aborted, what it put comes to the front.
abbrev pub AbortBringsOrder : Type 0
AbortBringsOrder = (opening : Map) (s : State) (states states' : States)
    (slots : Slots) (lists : Lists) (places : Places) (t : ℕ) (ns : List ℕ)
    → VersionsStandFor opening s states slots lists places → MayAbort (phases_of states) t
    → DifferAt t states states' → states' t ≡ Some Aborted → AreWrittenBy t slots ns
    → AllStandInOrder s.start states slots lists
    → AllStandInOrder s.start states' slots (with_fronts (is_put_by t) slots lists ns)

-- ---- other steps
-- Words and transactions change so that others see the same.
abbrev pub AlikeStayInOrder : Type 0
AlikeStayInOrder = (start : ℕ) (states states' : States) (slots slots' : Slots) (lists : Lists)
    → ((m : VersionNo) (w : Version) → version_at slots' m ≡ Some w
    → (v : Version) × (version_at slots m ≡ Some v) × IsSeenAlike states states' v w)
    → AllStandInOrder start states slots lists → AllStandInOrder start states' slots' lists

-- So it is where they are the same.
abbrev pub SameStayInOrder : Type 0
SameStayInOrder = (start : ℕ) (states states' : States) (slots slots' : Slots) (lists : Lists)
    → ((u : ℕ) → states' u ≡ states u)
    → ((m : VersionNo) → version_at slots' m ≡ version_at slots m)
    → AllStandInOrder start states slots lists → AllStandInOrder start states' slots' lists

-- A transaction begins.
abbrev pub BeginKeepsOrder : Type 0
BeginKeepsOrder = (opening : Map) (s : State) (states states' : States)
    (slots : Slots) (lists : Lists) (places : Places) (t : ℕ)
    → VersionsStandFor opening s states slots lists places → states t ≡ None
    → DifferAt t states states' → states' t ≡ Some Active
    → AllStandInOrder s.start states slots lists → AllStandInOrder s.start states' slots lists

-- A Preparing one commits.
abbrev pub CommitStaysInOrder : Type 0
CommitStaysInOrder = (start : ℕ) (states states' : States) (slots : Slots) (lists : Lists) (t : ℕ)
    (end' : Stamp)
    → DifferAt t states states' → states t ≡ Some (Preparing end')
    → states' t ≡ Some (Committed end') → AllStandInOrder start states slots lists
    → AllStandInOrder start states' slots lists

-- One that no word names leaves the table.
abbrev pub LeavingKeepsOrder : Type 0
LeavingKeepsOrder = (start : ℕ) (states states' : States) (slots : Slots) (lists : Lists) (t : ℕ)
    → DifferAt t states states' → states' t ≡ None → IsUnnamed t (all_versions slots)
    → AllStandInOrder start states slots lists → AllStandInOrder start states' slots lists

-- The start of the tale moves on.
abbrev pub TrimKeepsOrder : Type 0
TrimKeepsOrder = (opening : Map) (s : State) (states : States) (slots : Slots)
    (lists : Lists) (places : Places) (m : ℕ)
    → VersionsStandFor opening s states slots lists places → why_not_trim s m ≡ None
    → AllStandInOrder s.start states slots lists → AllStandInOrder m states slots lists

-- A version of a key is removed, or the slot of a number that no key has changes.
abbrev pub RemovalKeepsOrder : Type 0
RemovalKeepsOrder = (start : ℕ) (states : States) (slots : Slots) (lists : Lists) (key : RowKey)
    (n : ℕ) → AllStandInOrder start states slots lists
    → AllStandInOrder start states slots (with_less lists key n)

abbrev pub UnheldStaysInOrder : Type 0
UnheldStaysInOrder = (start : ℕ) (states : States) (slots slots' : Slots) (lists : Lists) (n : ℕ)
    → SlotsDifferAt n slots slots' → IsNewNumber lists n → AllStandInOrder start states slots lists
    → AllStandInOrder start states slots' lists

-- Where each key has one version at most, as when a core opens, they stand in order.
abbrev pub SingleStandInOrder : Type 0
SingleStandInOrder = (start : ℕ) (states : States) (slots : Slots) (lists : Lists)
    → ((key : RowKey) → length (numbers_of lists key) ≤ 1)
    → AllStandInOrder start states slots lists

-- So do those of a core that was just opened.
abbrev pub OpeningStandsInOrder : Type 0
OpeningStandsInOrder = (rows : Map) (mark : ℕ) (states : States) (slots : Slots) (lists : Lists)
    → AreVersionsOf (opened rows mark) (phases_of states) (all_versions slots)
    → HasNumbers slots lists
    → AllByRecursion
    (λ v. (v.begin ≡ At (record { 0 = mark })) × (v.end ≡ Infinity)) (all_versions slots)
    → AllStandInOrder mark states slots lists

-- A word of one that is Committed or Aborted is replaced.
abbrev pub FinishStaysInOrder : Type 0
FinishStaysInOrder = (start : ℕ) (states : States) (slots slots' : Slots) (lists : Lists)
    (t n : ℕ) (v w : Version)
    → phases_of states t ≢ IsActive → version_at slots (number n) ≡ Some v
    → HaveNow slots slots' n w
    → IsFinished (ends_of (phases_of states)) t v.begin w.begin
    → IsFinished (ends_of (phases_of states)) t v.end w.end
    → AllStandInOrder start states slots lists → AllStandInOrder start states slots' lists

-- ---- the key index, as versions come to the front
-- A version that has a number is among those of its key, and the index has the same numbers.
abbrev pub FrontsKeepNumbers : Type 0
FrontsKeepNumbers = (test : Version → Bool) (slots : Slots) (lists : Lists) (ns : List ℕ)
    → HasNumbers slots lists → HasNumbers slots (with_fronts test slots lists ns)

abbrev pub NumbersAreAmong : Type 0
NumbersAreAmong = (slots : Slots) (lists : Lists) (n : ℕ) (v : Version) → HasNumbers slots lists
    → version_at slots (number n) ≡ Some v → is_among n (numbers_of lists v.row.key) ≡ true

-- No key has the number of an empty slot.
abbrev pub HolesAreFresh : Type 0
HolesAreFresh = (slots : Slots) (lists : Lists) (n : ℕ) → HasNumbers slots lists
    → version_at slots (number n) ≡ None → IsNewNumber lists n
