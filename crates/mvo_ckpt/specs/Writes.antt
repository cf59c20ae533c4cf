-- The writes of groups, and what they leave.
use Rattle.std.specs.Prelude.{ℕ, Bool, if◌then◌else◌, List, [], ◌∷◌, map, Option, Some, None}
use Rattle.std.specs.List.{flat_map, filter_map, list_any}
use Rattle.std.specs.Ordering.{eq_by_cmp}
use Rattle.mvo_types.specs.declared.row.RowKey.{RowKey}
use Rattle.mvo_types.specs.RowData.{row_with}
use Rattle.mvo_types.specs.Keys.{key_cmp}
use Rattle.mvo_types.specs.Write.{Write, Effect}
use Rattle.mvo_types.specs.Write.Effect.{Put, Delete}
use Rattle.mvo_group.specs.Data.{RecordData, GroupData}
use Rattle.mvo_pair.specs.Data.{EntryData}

-- a write, with the end of the transaction that made it
abbrev pub Stamped : Type 0
Stamped = ℕ × Write

abbrev pub stamped : ℕ → List Write → List Stamped
stamped end ws = map (λ w. (end, w)) ws

-- the writes of transactions, in their order
abbrev pub writes_in : List RecordData → List Stamped
writes_in rs = flat_map (λ r. stamped r.end r.writes) rs

-- the writes of groups, in their order
abbrev pub writes_of : List GroupData → List Stamped
writes_of gs = flat_map (λ g. writes_in g.records) gs

-- whether the write is one of the key
abbrev pub is_write_at : RowKey → Stamped → Bool
is_write_at k w = eq_by_cmp key_cmp k w.1.0

-- whether one of the writes is
abbrev pub is_written : List Stamped → RowKey → Bool
is_written ws k = list_any (is_write_at k) ws

-- those that no later one is of the same key
abbrev pub last_writes : List Stamped → List Stamped
last_writes [] = []
last_writes (w ∷ ws) = if is_written ws w.1.0 then last_writes ws else (w ∷ last_writes ws)

-- the later one, if there is one
abbrev pub later_write : Option Stamped → Option Stamped → Option Stamped
later_write (Some w) first = Some w
later_write None first = first

-- the last write of a key
abbrev pub last_write : List Stamped → RowKey → Option Stamped
last_write [] k = None
last_write (w ∷ ws) k = later_write (last_write ws k) (if is_write_at k w then Some w else None)

-- the record of a put: its row, and the end of its transaction
abbrev pub record_by : ℕ → RowKey → Effect → Option EntryData
record_by end k (Put h) = Some (record { begin = end; row = row_with k h })
record_by end k Delete = None

abbrev pub record_of : Stamped → Option EntryData
record_of w = record_by w.0 w.1.0 w.1.1

-- the key of a delete
abbrev pub gone_by : RowKey → Effect → Option RowKey
gone_by k (Put h) = None
gone_by k Delete = Some k

abbrev pub gone_at : Stamped → Option RowKey
gone_at w = gone_by w.1.0 w.1.1

-- the rows that the groups leave, each with the end of its last writer
abbrev pub records_of : List GroupData → List EntryData
records_of gs = filter_map record_of (last_writes (writes_of gs))

-- the keys at which they leave none
abbrev pub gone_of : List GroupData → List RowKey
gone_of gs = filter_map gone_at (last_writes (writes_of gs))
