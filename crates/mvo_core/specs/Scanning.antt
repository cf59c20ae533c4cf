-- What a scan sees among versions.
use Rattle.std.specs.Prelude.{ℕ, ◌≡◌, ◌==◌, nat_lt, nat_le, Bool, true, false, not, ◌&&◌, if◌then◌else◌, List, [], ◌∷◌, ◌++◌, map, filter, Option, None, Some}
use Rattle.std.specs.List.{AllByRecursion, list_any}
use Rattle.std.specs.Option.{option_to_list}
use Rattle.std.specs.FinMap as fin
use Rattle.mvo_types.specs.declared.ids.TxId.{TxId}
use Rattle.mvo_types.specs.declared.row.RowKey.{RowKey}
use Rattle.mvo_types.specs.RowData.{RowData}
use Rattle.mvo_chain.specs.declared.version.Version.{Version}
use Rattle.mvo_chain.specs.declared.version.VersionNo.{VersionNo}
use Rattle.mvo_chain.specs.Slots.{Slots, version_at}
use Rattle.mvo_hash.specs.Lists.{number, numbers_of}
use Rattle.mvo_range.specs.declared.sort_place.SortPlace.{SortPlace}
use Rattle.mvo_range.specs.Place.{PlaceNumbers as Places, is_between}
use Rattle.mvo_visible.specs.declared.outcome.Shown.{Shown}
use Rattle.mvo_visible.specs.declared.seen.Seen.{Seen}
use Rattle.mvo_visible.specs.declared.seen.Seen.TheVariants.{Nothing, Settled, Speculative}
use Rattle.mvo_visible.specs.Words.{States, seen_of}
use Rattle.mvo_visible.specs.Versions.{versions_at}
use Rattle.mvo_visible.specs.Shown.{AreVersionsInOrder, shown_to}
use Rattle.mvo_validate.specs.Entries.{key_at}
use Rattle.mvo_deps.specs.Data.{is_id_among}
use Rattle.mvo_versions.specs.Data.{VersionsData}

-- ---- one version
-- its row, if it has this sort
abbrev pub row_at_sort : ℕ → Option Version → Option RowData
row_at_sort sort None = None
row_at_sort sort (Some v) = if v.row.sort == sort then Some v.row else None

abbrev pub row_with_sort : Slots → ℕ → Option VersionNo → Option RowData
row_with_sort slots sort None = None
row_with_sort slots sort (Some n) = row_at_sort sort (version_at slots n)

-- a change with a stamp below this one, and one with at most it
abbrev pub is_change_below : Seen → ℕ → Bool
is_change_below Nothing b = false
is_change_below (Settled at) b = nat_lt at.0 b
is_change_below (Speculative at by) b = nat_lt at.0 b

abbrev pub is_change_up_to : Seen → ℕ → Bool
is_change_up_to Nothing b = false
is_change_up_to (Settled at) b = nat_le at.0 b
is_change_up_to (Speculative at by) b = nat_le at.0 b

-- a scan with the begin b meets the version: another put it below the begin, and it isn't ended up
-- to the start
abbrev pub is_met_by : States → ℕ → ℕ → ℕ → Option Version → Bool
is_met_by states start b sort None = false
is_met_by states start b sort (Some v) =
    (v.row.sort == sort)
    && (is_change_below (seen_of states v.begin) b
    && not (is_change_up_to (seen_of states v.end) start))

-- ---- one place
abbrev pub shown_at : States → VersionsData → ℕ → SortPlace → Shown
shown_at states vs t p = shown_to states t t (versions_at vs.slots vs.lists (key_at p))

-- the row that the transaction is shown there
abbrev pub row_at_place : States → VersionsData → ℕ → SortPlace → Option RowData
row_at_place states vs t p = row_with_sort vs.slots p.sort (shown_at states vs t p).version

-- whether a scan of it meets a version there
abbrev pub is_met_at_place : States → VersionsData → ℕ → ℕ → SortPlace → Bool
is_met_at_place states vs start t p =
    list_any (λ n. is_met_by states start t p.sort (version_at vs.slots (number n)))
    (numbers_of vs.lists (key_at p))

-- ---- the places of a range, in order
abbrev pub places_within : Places → ℕ → ℕ → ℕ → List SortPlace
places_within places table lo hi =
    map (λ e. e.0) (filter (is_between table lo hi) (fin.entries places))

-- the rows at these places
abbrev pub rows_at_places : States → VersionsData → ℕ → List SortPlace → List RowData
rows_at_places states vs t [] = []
rows_at_places states vs t (p ∷ ps) =
    option_to_list (row_at_place states vs t p) ++ rows_at_places states vs t ps

-- with whom the rules name at a place, where a scan meets a version there
abbrev pub with_named : Bool → List TxId → Option TxId → List TxId
with_named met on None = on
with_named met on (Some id) = if is_id_among id on then on else (if met then on ++ id ∷ [] else on)

-- these are just those whom the rules name at the places of the range, where a scan meets a version
pub record AreNamedAt (states : States) (vs : VersionsData) (start t table lo hi : ℕ)
    (ps : List SortPlace) (on : List TxId) : Type 0 where
  pub each :
      AllByRecursion
      (λ p. (id : TxId) → is_met_at_place states vs start t p ≡ true
      → (shown_at states vs t p).depends_on ≡ Some id → is_id_among id on ≡ true) ps
  pub only :
      AllByRecursion
      (λ id. (p : SortPlace) × (is_between table lo hi (p, 0) ≡ true)
      × (is_met_at_place states vs start t p ≡ true)
      × ((shown_at states vs t p).depends_on ≡ Some id)) on

-- what a scan sees, where the versions of each key stand in order
pub record IsSeen (states : States) (vs : VersionsData) (start t table lo hi : ℕ)
    (rows : List RowData) (on : List TxId) : Type 0 where
  pub rows' : rows ≡ rows_at_places states vs t (places_within vs.places table lo hi)
  pub named :
      AreNamedAt states vs start t table lo hi (places_within vs.places table lo hi) on

abbrev pub IsScanned : States → VersionsData → ℕ → ℕ → ℕ → ℕ → ℕ
    → List RowData → List TxId → Type 0
IsScanned states vs start t table lo hi rows on =
    ((k : RowKey) → AreVersionsInOrder states t t (versions_at vs.slots vs.lists k))
    → IsSeen states vs start t table lo hi rows on
