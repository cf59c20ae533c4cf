-- What keeps the list of the versions that a transaction has put or ended.
use Rattle.std.specs.Prelude.{ℕ, ◌≡◌, List, [], ◌∷◌, ◌++◌, None, Some}
use Rattle.std.specs.FinMap as fin
use Rattle.mvo_types.specs.RowData.{RowData}
use Rattle.mvo_types.specs.Keys.{Map}
use Rattle.mvo_theory.specs.State.{State, ActiveTx, active_of, snapshot}
use Rattle.mvo_chain.specs.declared.version.Version.{Version}
use Rattle.mvo_chain.specs.Slots.{Slots, version_at}
use Rattle.mvo_hash.specs.Lists.{Lists, number}
use Rattle.mvo_range.specs.Place.{PlaceNumbers as Places}
use Rattle.mvo_visible.specs.Words.{States}
use Rattle.mvo_representation.specs.Indexes.{all_versions}
use Rattle.mvo_representation.specs.Steps.{MayEnd, IsUnnamed, fresh, ended_by}
use Rattle.mvo_representation.specs.Table.{phases_of}
use Rattle.mvo_representation.specs.Laws.{VersionsStandFor}
use Rattle.mvo_representation.specs.Order.{AreWrittenBy, own_words}
use Rattle.mvo_representation.specs.OrderLaws.{HaveNow}

-- One that no word names has written nothing.
abbrev pub NothingIsWritten : Type 0
NothingIsWritten =
    (t : ℕ) (slots : Slots) → IsUnnamed t (all_versions slots) → AreWrittenBy t slots []

-- No word names one that isn't in the table.
abbrev pub AbsentIsUnnamed : Type 0
AbsentIsUnnamed = (opening : Map) (s : State) (states : States)
    (slots : Slots) (lists : Lists) (places : Places) (t : ℕ)
    → VersionsStandFor opening s states slots lists places → states t ≡ None
    → IsUnnamed t (all_versions slots)

-- An insert that is told inserted adds its version.
abbrev pub InsertIsWritten : Type 0
InsertIsWritten = (opening : Map) (s : State) (states : States)
    (slots slots' : Slots) (lists : Lists) (places : Places) (r : ActiveTx) (row : RowData) (n : ℕ)
    (ns : List ℕ)
    → VersionsStandFor opening s states slots lists places → active_of r.id s.active ≡ Some r
    → fin.get (snapshot s r.id) row.key ≡ None → version_at slots (number n) ≡ None
    → HaveNow slots slots' n (fresh r.id row) → AreWrittenBy r.id slots ns
    → AreWrittenBy r.id slots' (ns ++ n ∷ [])

-- A delete adds the version that it ends.
abbrev pub DeleteIsWritten : Type 0
DeleteIsWritten = (opening : Map) (s : State) (states : States)
    (slots slots' : Slots) (lists : Lists) (places : Places) (r : ActiveTx) (v : Version) (n : ℕ)
    (ns : List ℕ)
    → VersionsStandFor opening s states slots lists places → active_of r.id s.active ≡ Some r
    → version_at slots (number n) ≡ Some v
    → MayEnd s (phases_of states) r.id (all_versions slots) v
    → HaveNow slots slots' n (ended_by r.id v) → AreWrittenBy r.id slots ns
    → AreWrittenBy r.id slots' (ns ++ n ∷ [])

-- An update adds the version that it ends, and then the one that it puts.
abbrev pub UpdateIsWritten : Type 0
UpdateIsWritten = (opening : Map) (s : State) (states : States)
    (slots between slots' : Slots) (lists : Lists) (places : Places) (r : ActiveTx) (v : Version)
    (row : RowData) (n m : ℕ) (ns : List ℕ)
    → VersionsStandFor opening s states slots lists places → active_of r.id s.active ≡ Some r
    → version_at slots (number n) ≡ Some v → row.key ≡ v.row.key
    → MayEnd s (phases_of states) r.id (all_versions slots) v
    → HaveNow slots between n (ended_by r.id v)
    → version_at between (number m) ≡ None → HaveNow between slots' m (fresh r.id row)
    → AreWrittenBy r.id slots ns → AreWrittenBy r.id slots' ((ns ++ n ∷ []) ++ m ∷ [])

-- A step that leaves the words of the transaction leaves the list.
abbrev pub OthersKeepWritten : Type 0
OthersKeepWritten = (t : ℕ) (slots slots' : Slots) (ns : List ℕ)
    → ((n : ℕ) → own_words t (version_at slots' (number n))
    ≡ own_words t (version_at slots (number n)))
    → AreWrittenBy t slots ns → AreWrittenBy t slots' ns
