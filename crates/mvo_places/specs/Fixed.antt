-- Keys that were there at an opening, with their numbers, and those that came later beside them.
use Rattle.std.specs.Prelude.{ℕ, ◌%◌, List, [], ◌∷◌, cond, nat_lt, Option, None, Some, map, IsSome}
use Rattle.std.specs.Option.{option_map}
use Rattle.std.specs.List.{AllByRecursion, filter_map}
use Rattle.std.specs.Int.{w32, w64, from_le_bytes}
use Rattle.std.specs.Ordering.{eq_by_cmp}
use Rattle.std.specs.Coded.{Coded, coded×, coded_option, coded_list, coded_ℕ}
use Rattle.std.specs.FinMap as finite_map
use Rattle.mvo_types.specs.declared.row.RowKey.{RowKey}
use Rattle.mvo_types.specs.Keys.{key_cmp, coded_key}
use Rattle.mvo_hash.specs.Table.{KeyNumbers, Table}
use Rattle.mvo_places.specs.declared.fixed_key.TheConstants.{GONE}
use Rattle.mvo_places.specs.declared.record_place.RecordPlace.{RecordPlace}
use Rattle.mvo_places.specs.Places.{place_numbered, numbers_as_places, PlaceTable}
use Rattle.mvo_places.specs.Falling.{PlaceList}

-- ---- a key in 13 bytes

-- the key, and its number where the byte of the table says that it has one
abbrev pub key_and_number : ℕ → List ℕ → List ℕ → RowKey × Option ℕ
key_and_number table key number = (
  record { table = table % GONE; key = from_le_bytes w64 key },
  cond (nat_lt table GONE) (Some (from_le_bytes w32 number)) None,
)

-- ---- keys that stay, with numbers that may go

-- each key with its number, or none where it was removed
abbrev pub Numbers : Type 0
Numbers = List (RowKey × Option ℕ)

abbrev pub coded_numbers : Coded Numbers
coded_numbers = coded_list (coded× coded_key (coded_option coded_ℕ))

-- the keys with this number at one of them, where it is there
abbrev pub with_number : Numbers → RowKey → Option ℕ → Numbers
with_number es key number = map (λ e. (e.0, cond (eq_by_cmp key_cmp key e.0) number e.1)) es

-- each key has a number
abbrev pub AllLive : Numbers → Type 0
AllLive es = AllByRecursion (λ e. IsSome e.1) es

abbrev pub live_place : RowKey × Option ℕ → Option (RowKey × RecordPlace)
live_place e = option_map (λ n. (e.0, place_numbered n)) e.1

-- the places of the keys that have numbers
abbrev pub places_of_live : Numbers → PlaceList
places_of_live es = filter_map live_place es

-- ---- beside keys that came later

abbrev pub with_or_without : KeyNumbers → RowKey → Option ℕ → KeyNumbers
with_or_without m key None = finite_map.remove m key
with_or_without m key (Some n) = finite_map.insert m key n

-- the numbers of later keys, under those of the keys that were there
abbrev pub numbers_over : Numbers → KeyNumbers → KeyNumbers
numbers_over [] later = later
numbers_over (e ∷ es) later = with_or_without (numbers_over es later) e.0 e.1

abbrev pub table_over : Numbers → Table → PlaceTable
table_over es later =
    record { at = numbers_as_places (numbers_over es later.numbers); room = later.room }
