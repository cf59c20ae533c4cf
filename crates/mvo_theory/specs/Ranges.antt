-- What an entry shows of rows, and the rows that writes put and end.
use Rattle.std.specs.Prelude.{◌≡◌, Bool, ◌&&◌, cond, List, [], ◌∷◌, ◌++◌, Option, None, Some}
use Rattle.std.specs.List.{AllByRecursion}
use Rattle.std.specs.Ordering.{eq_by_cmp}
use Rattle.std.specs.FinMap as map
use Rattle.mvo_types.specs.declared.row.RowKey.{RowKey}
use Rattle.mvo_types.specs.RowData.{ContentData, row_with}
use Rattle.mvo_types.specs.Keys.{Map, key_cmp}
use Rattle.mvo_types.specs.Write.{Write, content_after}
use Rattle.mvo_types.specs.RowLists.{is_within}
use Rattle.mvo_model.specs.History.{History, write_of, after_write}
use Rattle.mvo_types.specs.declared.entry.Entry.{Entry}
use Rattle.mvo_theory.specs.Entries.{entry_of}
use Rattle.mvo_types.specs.declared.entry.Entry.TheVariants.{Key, Range}

-- a row with its key
abbrev pub Row : Type 0
Row = RowKey × ContentData

-- whether a row shows in the entry: it is at the key, or in the range
abbrev pub shows : Entry → Row → Bool
shows (Key k) r = eq_by_cmp key_cmp r.0 k
shows (Range table lo hi) r = is_within table lo hi (row_with r.0 r.1)

-- what stands at the key q, if it passes the test
abbrev pub pass : (Row → Bool) → RowKey → Option ContentData → Option ContentData
pass p q None = None
pass p q (Some h) = cond (p (q, h)) (Some h) None

-- the rows agree on the entry: at each key the same shows in it
abbrev pub AgreeOn : Entry → Map → Map → Type 0
AgreeOn e m n = (q : RowKey) → pass (shows e) q (map.get m q) ≡ pass (shows e) q (map.get n q)

-- the rows agree on the entry of each operation
abbrev pub AllAgreeOn : History → Map → Map → Type 0
AllAgreeOn ts m n = AllByRecursion (λ o. AgreeOn (entry_of o.0) m n) ts

abbrev pub row_of : RowKey → Option ContentData → List Row
row_of k None = []
row_of k (Some h) = (k, h) ∷ []

-- the row that a write on these rows ends, and the one that it puts
abbrev pub changed_by : Option Write → Map → List Row
changed_by None m = []
changed_by (Some w) m = row_of w.0 (map.get m w.0) ++ row_of w.0 (content_after w.1)

-- the footprint of operations on these rows: the rows that their writing answers end and put, in
-- order, each on the rows that those before it leave
abbrev pub footprint_of : History → Map → List Row
footprint_of [] m = []
footprint_of (t ∷ ts) m =
    changed_by (write_of t.0 t.1) m ++ footprint_of ts (after_write (write_of t.0 t.1) m)

abbrev pub put_by : Option Write → List Row
put_by None = []
put_by (Some w) = row_of w.0 (content_after w.1)

-- the rows that the writing answers put, also those that a later one replaces
abbrev pub puts : History → List Row
puts [] = []
puts (t ∷ ts) = put_by (write_of t.0 t.1) ++ puts ts

-- a row of the key q that passes the test
abbrev pub is_row_of : (Row → Bool) → RowKey → Row → Bool
is_row_of p q r = eq_by_cmp key_cmp q r.0 && p r
