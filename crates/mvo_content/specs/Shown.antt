-- The rows that an entry shows, as a list.
use Rattle.std.specs.Prelude.{◌≡◌, if◌then◌else◌, List, [], ◌∷◌}
use Rattle.std.specs.FinMap as fin
use Rattle.mvo_types.specs.RowData.{RowData, content_of}
use Rattle.mvo_types.specs.Keys.{Map}
use Rattle.mvo_types.specs.declared.entry.Entry.{Entry}
use Rattle.mvo_shared.specs.Kept.{rows_shown, map_of_rows}
use Rattle.mvo_content.specs.declared.rows_shown.RowsShown.{RowsShown}
use Rattle.mvo_content.specs.declared.rows_shown.RowsShown.TheVariants.{Nothing, One, Many}

abbrev pub rows_in : RowsShown → List RowData
rows_in Nothing = []
rows_in (One r) = r ∷ []
rows_in (Many v) = v.items

-- these can be what others show in the entry: as a map they show just themselves there
abbrev pub AreRowsOf : Entry → List RowData → Type 0
AreRowsOf e rows = rows ≡ rows_shown e (map_of_rows rows)

-- with the row, unless one stands at its key
abbrev pub with_first : Map → RowData → Map
with_first m r = if fin.contains_key m r.key then m else fin.insert m r.key (content_of r)
