-- What others show a transaction in a range.
use Rattle.std.specs.Prelude.{ℕ, ◌≡◌, ◌+◌, Bool, true, false, List}
use Rattle.mvo_types.specs.declared.row.RowKey.{RowKey}
use Rattle.mvo_types.specs.RowData.{RowData}
use Rattle.mvo_model.specs.History.{History}
use Rattle.mvo_txn.specs.Txns.{Txns, state_of}
use Rattle.mvo_deps.specs.declared.node.Node.{Node}
use Rattle.mvo_visible.specs.Words.{States}
use Rattle.mvo_visible.specs.Versions.{versions_at}
use Rattle.mvo_visible.specs.Shown.{AreVersionsInOrder, shown_to}
use Rattle.mvo_versions.specs.Data.{VersionsData}
use Rattle.mvo_standing.specs.Scans.{ShownAtKeys, rows_of_places, places_of_range}
use Rattle.mvo_core.specs.declared.kept_transaction.KeptTransaction.{KeptTransaction}
use Rattle.mvo_core.specs.Own.{has_writes}

-- which version a reader with this id is shown at each key as of the begin b
abbrev pub shown_as_of : States → VersionsData → ℕ → ℕ → ShownAtKeys
shown_as_of states vs b reader k =
    (shown_to states b reader (versions_at vs.slots vs.lists k)).version

-- these rows are shown to it in the range, where the versions of each key stand in order for it
abbrev pub AreShownAsOf : States → VersionsData → ℕ → ℕ → ℕ → ℕ → ℕ → List RowData → Type 0
AreShownAsOf states vs b reader of lo hi rows =
    ((k : RowKey) → AreVersionsInOrder states b reader (versions_at vs.slots vs.lists k))
    → rows ≡ rows_of_places vs.slots (shown_as_of states vs b reader)
    (places_of_range vs.places of lo hi)

-- What others show: to one that has written, what is shown to nobody as of its begin, since the
-- next timestamp is nobody's id; to another just these rows, which it is shown itself.
abbrev pub AreOthersFor : Bool → Txns (Node KeptTransaction) → VersionsData → ℕ → ℕ → ℕ → ℕ
    → List RowData → List RowData → Type 0
AreOthersFor true table vs t of lo hi rows others =
    AreShownAsOf (state_of table) vs t (table.clock + 1) of lo hi others
AreOthersFor false table vs t of lo hi rows others = others ≡ rows

abbrev pub AreOthersShown : History → Txns (Node KeptTransaction) → VersionsData → ℕ → ℕ → ℕ
    → ℕ → List RowData → List RowData → Type 0
AreOthersShown ts table vs t of lo hi rows others =
    AreOthersFor (has_writes ts) table vs t of lo hi rows others
