-- The laws of the representation.
use Rattle.std.specs.Prelude.{is_some, true, ◌≡◌, ℕ, ◌<◌, ◌≤◌, List, None, Some}
use Rattle.std.specs.FinMap as fin
use Rattle.mvo_types.specs.declared.row.RowKey.{RowKey}
use Rattle.mvo_types.specs.declared.op.Op.{Op}
use Rattle.mvo_types.specs.RowData.{ContentData}
use Rattle.mvo_types.specs.Keys.{Map}
use Rattle.mvo_model.specs.History.{net_write}
use Rattle.mvo_theory.specs.Entries.{entry_of}
use Rattle.mvo_theory.specs.State.{State, ActiveTx, opened, active_of, history_of_active, snapshot}
use Rattle.mvo_theory.specs.Ranges.{shows, is_row_of}
use Rattle.mvo_theory.specs.Dependencies.{dependencies, counts_for}
use Rattle.mvo_theory.specs.Phases.{phase_in}
use Rattle.mvo_theory.specs.Causes.{change_of, conflict}
use Rattle.mvo_theory.specs.Calls.{Call, Result, MayCome, after_call}
use Rattle.mvo_shared.specs.Standing.{IsStanding}
use Rattle.mvo_chain.specs.declared.version.Version.{Version}
use Rattle.mvo_chain.specs.declared.version.VersionNo.{VersionNo}
use Rattle.mvo_chain.specs.Slots.{Slots, version_at}
use Rattle.mvo_hash.specs.Lists.{Lists}
use Rattle.mvo_range.specs.Place.{PlaceNumbers as Places}
use Rattle.mvo_visible.specs.Words.{States}
use Rattle.mvo_visible.specs.Causes.{cause_of}
use Rattle.mvo_visible.specs.Versions.{versions_at}
use Rattle.mvo_visible.specs.Changes.{changes_of}
use Rattle.mvo_visible.specs.Shown.{shown_to}
use Rattle.mvo_types.specs.declared.entry.Entry.{Entry}
use Rattle.mvo_types.specs.declared.entry.Entry.TheVariants.{Key, Range}
use Rattle.mvo_validate.specs.Between.{stamp_between}
use Rattle.mvo_validate.specs.Entries.{versions_in}
use Rattle.mvo_representation.specs.Words.{ends_of, with_open, IsShownAt, is_met}
use Rattle.mvo_representation.specs.Versions.{AreVersionsOf, loaded}
use Rattle.mvo_representation.specs.Indexes.{all_versions, HasNumbers, HasPlaces}
use Rattle.mvo_representation.specs.Steps.{MayEnd, IsAfterCall}
use Rattle.mvo_representation.specs.Table.{phases_of, content_shown, place_with, end_awaited, IsShown}

-- What a core has stands for a state, whatever steps led there.
pub record VersionsStandFor (opening : Map) (s : State) (states : States)
    (slots : Slots) (lists : Lists) (places : Places) : Type 0 where
  pub kept : IsStanding opening s
  pub versions : AreVersionsOf s (phases_of states) (all_versions slots)
  pub numbers : HasNumbers slots lists
  pub order : HasPlaces (all_versions slots) places

-- The versions that a core is opened over are those of the opened state.
abbrev pub OpensSo : Type 0
OpensSo = (rows : Map) (mark : ℕ)
    → AreVersionsOf (opened rows mark) (phase_in (opened rows mark)) (loaded rows mark)

-- Each call, whatever it comes to, keeps the versions those of the state.
abbrev pub EachCallKeeps : Type 0
EachCallKeeps = (opening : Map) (s : State) (c : Call) (r : Result)
    (old new : List Version) → IsStanding opening s → MayCome s c r
    → AreVersionsOf s (phase_in s) old → IsAfterCall s (phase_in s) c r old new
    → AreVersionsOf (after_call s c r) (phase_in (after_call s c r)) new

-- What an Active transaction is shown is what its snapshot has.
abbrev pub ShowsSnapshot : Type 0
ShowsSnapshot = (opening : Map) (s : State) (states : States) (slots : Slots)
    (lists : Lists) (places : Places) (r : ActiveTx) (k : RowKey)
    → VersionsStandFor opening s states slots lists places → active_of r.id s.active ≡ Some r
    → content_shown slots (shown_to states r.id r.id (versions_at slots lists k)).version
    ≡ fin.get (snapshot s r.id) k

-- It depends then on whom the rule names, and on no other.
abbrev pub DependsSo : Type 0
DependsSo = (opening : Map) (s : State) (states : States) (slots : Slots)
    (lists : Lists) (places : Places) (op : Op) (r : ActiveTx) (k : RowKey)
    → VersionsStandFor opening s states slots lists places → active_of r.id s.active ≡ Some r
    → entry_of op ≡ Key k → dependencies s op r
    ≡ with_open r.depends_on
    (end_awaited states (shown_to states r.id r.id (versions_at slots lists k)).depends_on)

-- The version that is shown stands there, and it is the transaction's own newest one or another's.
abbrev pub ShownIsThere : Type 0
ShownIsThere = (opening : Map) (s : State) (states : States) (slots : Slots)
    (lists : Lists) (places : Places) (r : ActiveTx) (k : RowKey) (number : VersionNo)
    → VersionsStandFor opening s states slots lists places → active_of r.id s.active ≡ Some r
    → (shown_to states r.id r.id (versions_at slots lists k)).version ≡ Some number
    → IsShown s states slots r.id k number

-- Where its End tells no cause, the transaction may end it.
abbrev pub FreeMayBeEnded : Type 0
FreeMayBeEnded = (opening : Map) (s : State) (states : States) (slots : Slots)
    (lists : Lists) (places : Places) (r : ActiveTx) (k : RowKey) (number : VersionNo)
    → VersionsStandFor opening s states slots lists places → active_of r.id s.active ≡ Some r
    → (shown : IsShown s states slots r.id k number)
    → cause_of states r.id shown.version.end ≡ None
    → MayEnd s (phases_of states) r.id (all_versions slots) shown.version

-- The End of another's version that is shown tells the state's cause.
abbrev pub TellsCause : Type 0
TellsCause = (opening : Map) (s : State) (states : States) (slots : Slots)
    (lists : Lists) (places : Places) (r : ActiveTx) (number : VersionNo) (v : Version)
    (stamp : ℕ)
    → VersionsStandFor opening s states slots lists places → active_of r.id s.active ≡ Some r
    → version_at slots number ≡ Some v
    → net_write v.row.key (history_of_active r.id s.active) ≡ None
    → IsShownAt (ends_of (phases_of states)) r.id v.row.key (all_versions slots) v stamp
    → conflict s r.id v.row.key ≡ cause_of states r.id v.end

-- What the check of an entry names, between a begin and an end, is what the state names.
abbrev pub NamesChange : Type 0
NamesChange = (opening : Map) (s : State) (states : States) (slots : Slots)
    (lists : Lists) (places : Places) (begin end' : ℕ) (entry : Entry)
    → VersionsStandFor opening s states slots lists places → s.start ≤ begin → begin < end'
    → stamp_between begin end' (changes_of states (versions_in slots lists places entry))
    ≡ change_of s.stamped begin end' entry

-- Each row of a snapshot has its place in the ordered index.
abbrev pub RowsArePlaced : Type 0
RowsArePlaced = (opening : Map) (s : State) (states : States) (slots : Slots)
    (lists : Lists) (places : Places) (r : ActiveTx) (k : RowKey) (h : ContentData)
    → VersionsStandFor opening s states slots lists places → active_of r.id s.active ≡ Some r
    → fin.get (snapshot s r.id) k ≡ Some h → is_some (fin.get places (place_with k h)) ≡ true

-- A scan meets just the keys that count for it.
abbrev pub MeetsWhatCounts : Type 0
MeetsWhatCounts = (opening : Map) (s : State) (states : States)
    (slots : Slots) (lists : Lists) (places : Places) (r : ActiveTx) (table lo hi : ℕ)
    (q : RowKey)
    → VersionsStandFor opening s states slots lists places → active_of r.id s.active ≡ Some r
    → is_met (ends_of (phases_of states)) s.start r.id
    (is_row_of (shows (Range table lo hi)) q) (all_versions slots)
    ≡ counts_for (Range table lo hi) q r.id s.base s.stamped
