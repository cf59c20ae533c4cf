-- Places of live records, by key.
use Rattle.std.specs.Prelude.{◌≡◌, ℕ, ◌+◌, ◌-◌, ◌*◌, ◌/◌, ◌%◌, ◌<◌, List, [], ◌∷◌, ◌++◌, length, map, fold, take, Some, nat_eq, refl}
use Rattle.std.specs.List.{AllByRecursion, IsDistinct, enumerate_from}
use Rattle.std.specs.List.Sorted.{IsStrictlyIncreasing}
use Rattle.std.specs.Coded.{Coded, code_by, coded×, coded_ℕ}
use Rattle.std.specs.FinMap as map
use Rattle.mvo_types.specs.declared.row.RowKey.{RowKey}
use Rattle.mvo_types.specs.declared.limits.TheConstants.{MAX_PAIR_RECORDS}
use Rattle.mvo_types.specs.Keys.{key_cmp, coded_key}
use Rattle.mvo_hash.specs.Table.{KeyNumbers, Table}
use Rattle.mvo_pair.specs.Data.{EntryData, Numbered, key_of, AreApart}
use Rattle.mvo_pair.specs.declared.pair.Pair.{Pair}
use Rattle.mvo_places.specs.declared.record_place.RecordPlace.{RecordPlace}

-- ---- a finite map from keys to places

abbrev pub place : ℕ → ℕ → RecordPlace
place file number = record { data_file = file; number = number }

abbrev pub coded_record_place : Coded RecordPlace
coded_record_place =
    code_by (ℕ × ℕ) (coded× coded_ℕ coded_ℕ) (λ p. (p.data_file, p.number))
    (λ x. place x.0 x.1) (λ _. refl)

abbrev pub PlaceMap : Type 0
PlaceMap = map.FinMap key_cmp RecordPlace

abbrev pub coded_places : Coded PlaceMap
coded_places = map.code coded_key coded_record_place

-- the place of each key, and how many more keys can be put before every key is moved
pub record PlaceTable : Type 0 where
  pub at : PlaceMap
  pub room : ℕ

abbrev pub coded_place_table : Coded PlaceTable
coded_place_table =
    code_by (PlaceMap × ℕ) (coded× coded_places coded_ℕ) (λ t. (t.at, t.room))
    (λ x. record { at = x.0; room = x.1 }) (λ _. refl)

abbrev pub no_places : PlaceTable
no_places = record { at = map.empty; room = 0 }

-- ---- a place as one number

abbrev pub number_of : RecordPlace → ℕ
number_of p = p.data_file * MAX_PAIR_RECORDS + p.number

abbrev pub place_numbered : ℕ → RecordPlace
place_numbered n = place (n / MAX_PAIR_RECORDS) (n % MAX_PAIR_RECORDS)

abbrev pub placed_by : RowKey × ℕ → RowKey × RecordPlace
placed_by e = (e.0, place_numbered e.1)

-- the numbers of a map as places
abbrev pub numbers_as_places : KeyNumbers → PlaceMap
numbers_as_places numbers = map.from_entries (map placed_by (map.entries numbers))

abbrev pub place_table_of : Table → PlaceTable
place_table_of t = record { at = numbers_as_places t.numbers; room = t.room }

-- each number is one that a pair may have
pub record AreSmall (places : PlaceMap) : Type 0 where
  pub each : (k : RowKey) (p : RecordPlace) → map.get places k ≡ Some p
      → p.number < MAX_PAIR_RECORDS

-- ---- the places of live records

abbrev pub places_in : ℕ → List Numbered → List (RowKey × RecordPlace)
places_in file live = map (λ l. (key_of l, place file l.0)) live

-- the places of the live records of some pairs
abbrev pub record_places : List Pair → List (List Numbered) → List (RowKey × RecordPlace)
record_places [] lives = []
record_places (p ∷ ps) [] = []
record_places (p ∷ ps) (live ∷ lives) = places_in p.data_file live ++ record_places ps lives

abbrev pub file_of : Pair → ℕ
file_of p = p.data_file

-- the numbers of live records rise
abbrev pub Rise : List Numbered → Type 0
Rise live = IsStrictlyIncreasing (map (λ l. l.0) live)

-- Each pair has its live records. No two pairs have one data file, no two live records one key, the
-- numbers in each pair rise; and each key has the place of its live record.
pub record ArePlaces (ps : List Pair) (lives : List (List Numbered)) (places : PlaceMap)
    : Type 0 where
  pub each : length ps ≡ length lives
  pub files : IsDistinct nat_eq (map file_of ps)
  pub apart : AreApart lives
  pub rise : AllByRecursion Rise lives
  pub are : places ≡ map.from_entries (record_places ps lives)

-- ---- changes of places

-- with the places of a pair's live records
abbrev pub with_live : ℕ → List Numbered → PlaceMap → PlaceMap
with_live file live at = fold (λ m l. map.insert m (key_of l) (place file l.0)) at live

-- without these keys
abbrev pub without_keys : List RowKey → PlaceMap → PlaceMap
without_keys ks at = fold (λ m k. map.remove m k) at ks

-- the places after a checkpoint: those of its records, in the data file of its pair, and none of
-- the keys at which it leaves no row
abbrev pub taken_places : ℕ → List EntryData → List RowKey → PlaceMap → PlaceMap
taken_places file es gone at = with_live file (enumerate_from 0 es) (without_keys gone at)

-- The places with the first so many of these changes, which are made one after another: first keys
-- lose their places, and then records get theirs.
abbrev pub taken_upto : ℕ → List EntryData → List RowKey → ℕ → PlaceMap → PlaceMap
taken_upto file es gone count at =
    taken_places file (take (count - length gone) es) (take count gone) at
