-- The laws of a core that stands for the shadow of a state.
use Rattle.std.specs.Prelude.{◌≡◌, ◌↔◌, true, is_some, List, None, Some}
use Rattle.std.specs.FinMap as fin
use Rattle.mvo_types.specs.declared.row.RowKey.{RowKey}
use Rattle.mvo_types.specs.RowData.{ContentData}
use Rattle.mvo_types.specs.Keys.{Map}
use Rattle.mvo_model.specs.History.{net_write}
use Rattle.mvo_theory.specs.State.{State, ActiveTx, active_of, seen_by}
use Rattle.mvo_shared.specs.Standing.{IsStanding}
use Rattle.mvo_shared.specs.Shadow.{shadow}
use Rattle.mvo_chain.specs.declared.version.Version.{Version}
use Rattle.mvo_chain.specs.Slots.{Slots}
use Rattle.mvo_hash.specs.Lists.{Lists}
use Rattle.mvo_range.specs.Place.{PlaceNumbers as Places}
use Rattle.mvo_txn.specs.Txns.{Txns}
use Rattle.mvo_deps.specs.declared.node.Node.{Node}
use Rattle.mvo_visible.specs.Words.{States}
use Rattle.mvo_visible.specs.Versions.{versions_at}
use Rattle.mvo_visible.specs.Changes.{changes_of, deciding}
use Rattle.mvo_visible.specs.Shown.{shown_by, shown_to}
use Rattle.mvo_representation.specs.Words.{Phases}
use Rattle.mvo_representation.specs.Table.{content_shown, place_with}
use Rattle.mvo_representation.specs.Versions.{AreVersionsOf}
use Rattle.mvo_representation.specs.Dependencies.{HasDependencies}
use Rattle.mvo_representation.specs.WordLists.{WordLists, HasWordLists}
use Rattle.mvo_representation.specs.Laws.{VersionsStandFor}

-- Versions are the shadow's just where they are the state's.
abbrev pub VersionsAreAlike : Type 0
VersionsAreAlike = (s : State) (table : Phases) (vs : List Version)
    → AreVersionsOf (shadow s) table vs ↔ AreVersionsOf s table vs

-- So is the transaction table, with the dependencies that it keeps, whatever else is kept there.
abbrev pub DependenciesAreAlike : Type 0 → Type 0
DependenciesAreAlike P = (s : State) (table : Txns (Node P))
    → HasDependencies (shadow s) table ↔ HasDependencies s table

-- And so are the words that each unfinished transaction still has to replace.
abbrev pub WordListsAreAlike : Type 0
WordListsAreAlike = (s : State) (slots : Slots) (lists : WordLists)
    → HasWordLists (shadow s) slots lists ↔ HasWordLists s slots lists

-- So what a core has stands for the shadow just where it stands for the state.
abbrev pub StandsAlike : Type 0
StandsAlike = (opening : Map) (s : State) (states : States) (slots : Slots) (lists : Lists)
    (places : Places) → IsStanding opening s → IsStanding opening (shadow s)
    → VersionsStandFor opening (shadow s) states slots lists places
    ↔ VersionsStandFor opening s states slots lists places

-- What the words of others show an Active transaction at a key is the row that their writes leave
-- there, whatever it wrote itself.
abbrev pub OthersShow : Type 0
OthersShow = (opening : Map) (s : State) (states : States) (slots : Slots) (lists : Lists)
    (places : Places) (r : ActiveTx) (k : RowKey)
    → VersionsStandFor opening s states slots lists places → active_of r.id s.active ≡ Some r
    → let change = deciding r.id (changes_of states (versions_at slots lists k)) in
    content_shown slots (shown_by change).version ≡ fin.get (seen_by s.base s.stamped r.id) k

-- Each such row has its place in the ordered index, so a scan finds it there.
abbrev pub OthersArePlaced : Type 0
OthersArePlaced = (opening : Map) (s : State) (states : States) (slots : Slots) (lists : Lists)
    (places : Places) (r : ActiveTx) (k : RowKey) (h : ContentData)
    → VersionsStandFor opening s states slots lists places → active_of r.id s.active ≡ Some r
    → fin.get (seen_by s.base s.stamped r.id) k ≡ Some h
    → is_some (fin.get places (place_with k h)) ≡ true

-- Who didn't write the key is shown just what the words of others show it.
abbrev pub ShowsOthersUnlessWritten : Type 0
ShowsOthersUnlessWritten = (opening : Map) (s : State) (states : States) (slots : Slots)
    (lists : Lists) (places : Places) (r : ActiveTx) (k : RowKey)
    → VersionsStandFor opening s states slots lists places → active_of r.id s.active ≡ Some r
    → net_write k r.history ≡ None → let vs = versions_at slots lists k in
    shown_to states r.id r.id vs ≡ shown_by (deciding r.id (changes_of states vs))
