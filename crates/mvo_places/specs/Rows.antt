-- The rows that the files of an image make up.
use Rattle.std.specs.Prelude.{List, map, fold}
use Rattle.std.specs.List.{flat_map}
use Rattle.std.specs.FinMap as rows
use Rattle.mvo_types.specs.declared.row.RowKey.{RowKey}
use Rattle.mvo_types.specs.Keys.{Map}
use Rattle.mvo_types.specs.RowData.{ContentData, content_of}
use Rattle.mvo_model.specs.History.{after_effect}
use Rattle.mvo_group.specs.Data.{RecordData, GroupData}
use Rattle.mvo_pair.specs.Data.{Numbered, key_of}

-- a live record as the row at its key
abbrev pub live_row_of : Numbered → RowKey × ContentData
live_row_of l = (key_of l, content_of l.1.row)

-- the live records of some pairs as rows at their keys
abbrev pub live_rows_in : List (List Numbered) → List (RowKey × ContentData)
live_rows_in lives = flat_map (λ live. map live_row_of live) lives

-- the rows of the live records
abbrev pub rows_of : List (List Numbered) → Map
rows_of lives = rows.from_entries (live_rows_in lives)

-- the rows after a committed transaction
abbrev pub after_record : Map → RecordData → Map
after_record m r = fold (λ n w. after_effect w.0 w.1 n) m r.writes

-- the rows after the transactions of some groups, in order
abbrev pub after_groups : Map → List GroupData → Map
after_groups m gs = fold after_record m (flat_map (λ g. g.records) gs)
