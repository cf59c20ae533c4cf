-- The rows of a range, place by place, where this version is shown at each key.
use Rattle.std.specs.Prelude.{ℕ, ◌≡◌, ◌==◌, ◌++◌, true, is_some, if◌then◌else◌, List, [], ◌∷◌, map, filter, Option, None, Some}
use Rattle.std.specs.Option.{option_map, option_to_list}
use Rattle.std.specs.FinMap as fin
use Rattle.mvo_types.specs.declared.row.RowKey.{RowKey}
use Rattle.mvo_types.specs.RowData.{RowData, ContentData}
use Rattle.mvo_types.specs.Keys.{Map, row_at}
use Rattle.mvo_model.specs.Serial.{scan}
use Rattle.mvo_theory.specs.State.{State, ActiveTx, active_of, seen_by}
use Rattle.mvo_chain.specs.declared.version.Version.{Version}
use Rattle.mvo_chain.specs.declared.version.VersionNo.{VersionNo}
use Rattle.mvo_chain.specs.Slots.{Slots, version_at}
use Rattle.mvo_hash.specs.Lists.{Lists}
use Rattle.mvo_range.specs.declared.sort_place.SortPlace.{SortPlace}
use Rattle.mvo_range.specs.Place.{PlaceNumbers as Places, is_between}
use Rattle.mvo_validate.specs.Entries.{key_at}
use Rattle.mvo_visible.specs.Words.{States}
use Rattle.mvo_visible.specs.Versions.{versions_at}
use Rattle.mvo_visible.specs.Changes.{changes_of, deciding}
use Rattle.mvo_visible.specs.Shown.{shown_by}
use Rattle.mvo_representation.specs.Table.{place_with}
use Rattle.mvo_representation.specs.Laws.{VersionsStandFor}

-- which version is shown at each key, if one is
abbrev pub ShownAtKeys : Type 0
ShownAtKeys = RowKey → Option VersionNo

-- the row of the version, if there is one
abbrev pub row_of_version : Slots → Option VersionNo → Option RowData
row_of_version slots None = None
row_of_version slots (Some n) = option_map (λ v. v.row) (version_at slots n)

-- its row, if it has this sort
abbrev pub row_if_sorted : ℕ → Option Version → Option RowData
row_if_sorted sort None = None
row_if_sorted sort (Some v) = if v.row.sort == sort then Some v.row else None

abbrev pub sorted_row_of : Slots → ℕ → Option VersionNo → Option RowData
sorted_row_of slots sort None = None
sorted_row_of slots sort (Some n) = row_if_sorted sort (version_at slots n)

-- the row that is shown at a place
abbrev pub row_at_sort_place : Slots → ShownAtKeys → SortPlace → Option RowData
row_at_sort_place slots shown p = sorted_row_of slots p.sort (shown (key_at p))

abbrev pub rows_of_places : Slots → ShownAtKeys → List SortPlace → List RowData
rows_of_places slots shown [] = []
rows_of_places slots shown (p ∷ ps) =
    option_to_list (row_at_sort_place slots shown p) ++ rows_of_places slots shown ps

-- the places of a range, in order
abbrev pub places_of_range : Places → ℕ → ℕ → ℕ → List SortPlace
places_of_range places table lo hi =
    map (λ e. e.0) (filter (is_between table lo hi) (fin.entries places))

-- the rows that are shown are those of the map, and each row of the map has its place
pub record ShowsMap (slots : Slots) (places : Places) (shown : ShownAtKeys) (m : Map) : Type 0 where
  pub rows : (k : RowKey) → row_of_version slots (shown k) ≡ row_at m k
  pub placed : (k : RowKey) (h : ContentData) → fin.get m k ≡ Some h
      → is_some (fin.get places (place_with k h)) ≡ true

-- Where what is shown at each key is the row of a map, and each row of it has its place, the rows
-- that are shown at the places of a range are the map's scan of it.
abbrev pub PlacesShowScan : Type 0
PlacesShowScan = (slots : Slots) (places : Places) (shown : ShownAtKeys) (m : Map)
    (table lo hi : ℕ) → ShowsMap slots places shown m
    → rows_of_places slots shown (places_of_range places table lo hi) ≡ scan m table lo hi

-- ---- what others show
-- at each key, to the begin
abbrev pub others_shown : States → Slots → Lists → ℕ → ShownAtKeys
others_shown states slots lists b k =
    (shown_by (deciding b (changes_of states (versions_at slots lists k)))).version

-- So what the words of others show an Active transaction in a range is the scan of what their
-- writes leave, whatever it wrote itself.
abbrev pub OthersAreScanned : Type 0
OthersAreScanned = (opening : Map) (s : State) (states : States) (slots : Slots) (lists : Lists)
    (places : Places) (r : ActiveTx) (table lo hi : ℕ)
    → VersionsStandFor opening s states slots lists places → active_of r.id s.active ≡ Some r
    → rows_of_places slots (others_shown states slots lists r.id)
    (places_of_range places table lo hi)
    ≡ scan (seen_by s.base s.stamped r.id) table lo hi
