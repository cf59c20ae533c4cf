-- The places of live records after a merge.
use Rattle.std.specs.Prelude.{ℕ, Bool, false, ◌==◌, ◌||◌, List, map, filter, Option, Some, None, if◌then◌else◌}
use Rattle.std.specs.List.{enumerate_from, IsDistinct}
use Rattle.std.specs.FinMap.{get, insert}
use Rattle.std.specs.Ordering.{eq_by_cmp}
use Rattle.mvo_types.specs.declared.row.RowKey.{RowKey}
use Rattle.mvo_types.specs.Keys.{key_cmp}
use Rattle.mvo_pair.specs.Data.{EntryData, Numbered, key_of}
use Rattle.mvo_places.specs.declared.record_place.RecordPlace.{RecordPlace}
use Rattle.mvo_places.specs.Places.{PlaceMap, with_live}

-- no two records have one key
abbrev pub HaveOwnKeys : List EntryData → Type 0
HaveOwnKeys es = IsDistinct (eq_by_cmp key_cmp) (map (λ e. e.row.key) es)

-- whether it is a place in one of two data files
abbrev pub lies_in : ℕ → ℕ → Option RecordPlace → Bool
lies_in left right None = false
lies_in left right (Some p) = (p.data_file == left) || (p.data_file == right)

-- with another place of the key, where its place is in one of the two
abbrev pub with_one : ℕ → ℕ → RowKey → RecordPlace → PlaceMap → PlaceMap
with_one left right key place at =
    if lies_in left right (get at key) then insert at key place else at

-- the records, by number, whose keys have their places in one of the two data files
abbrev pub lying_in : ℕ → ℕ → PlaceMap → List EntryData → List Numbered
lying_in left right at es =
    filter (λ l. lies_in left right (get at (key_of l))) (enumerate_from 0 es)

-- their places are in another data file
abbrev pub moved : ℕ → ℕ → ℕ → List EntryData → PlaceMap → PlaceMap
moved left right file es at = with_live file (lying_in left right at es) at
