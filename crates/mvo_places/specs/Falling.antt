-- Keys that lie one behind another, each below the one before it.
use Rattle.std.specs.Prelude.{◌≡◌, ◌≤◌, List, None, map, IfSome}
use Rattle.std.specs.List.{IsDistinct, last_or}
use Rattle.std.specs.List.Sorted.{IsStrictlySortedBy}
use Rattle.std.specs.Ordering.{eq_by_cmp}
use Rattle.std.specs.Coded.{Coded, coded×, coded_list}
use Rattle.std.specs.declared.cmp.Ordering.{Ordering}
use Rattle.std.specs.declared.cmp.Ordering.TheVariants.{Less}
use Rattle.mvo_types.specs.declared.row.RowKey.{RowKey}
use Rattle.mvo_types.specs.declared.limits.TheConstants.{MAX_TABLE}
use Rattle.mvo_types.specs.Keys.{key_cmp, coded_key}
use Rattle.mvo_places.specs.declared.record_place.RecordPlace.{RecordPlace}
use Rattle.mvo_places.specs.Places.{coded_record_place}

-- keys with their places
abbrev pub PlaceList : Type 0
PlaceList = List (RowKey × RecordPlace)

abbrev pub coded_place_list : Coded PlaceList
coded_place_list = coded_list (coded× coded_key coded_record_place)

abbrev pub keys : {V : Type 0} → List (RowKey × V) → List RowKey
keys es = map (λ e. e.0) es

-- the order in which a greater key comes first
abbrev pub falling_cmp : RowKey → RowKey → Ordering
falling_cmp a b = key_cmp b a

-- each key is below those before it
abbrev pub Falls : {V : Type 0} → List (RowKey × V) → Type 0
Falls es = IsStrictlySortedBy falling_cmp (keys es)

-- the key is below the last one, where there is one
abbrev pub IsBelowLast : List RowKey → RowKey → Type 0
IsBelowLast ks key = IfSome (last_or None ks) (λ last. key_cmp key last ≡ Less)

-- the key has a table that there can be, and is below the last one
abbrev pub MayStandLast : {V : Type 0} → List (RowKey × V) → RowKey → Type 0
MayStandLast es key = (key.table ≤ MAX_TABLE) × IsBelowLast (keys es) key

-- no two keys are equal
abbrev pub HaveDistinctKeys : {V : Type 0} → List (RowKey × V) → Type 0
HaveDistinctKeys es = IsDistinct (eq_by_cmp key_cmp) (keys es)
