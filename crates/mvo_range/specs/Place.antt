-- Places in order, and the entries of a range.
use Rattle.std.specs.Prelude.{ℕ, ◌<◌, ◌^◌, Bool, ◌&&◌, ◌==◌, nat_le, List, fold, refl}
use Rattle.std.specs.Ordering.{nat_cmp, ordering_then, is_lt}
use Rattle.std.specs.declared.cmp.Ordering.{Ordering}
use Rattle.std.specs.Coded.{Coded, code_by, coded×, coded_ℕ}
use Rattle.std.specs.FinMap as map
use Rattle.mvo_range.specs.declared.sort_place.SortPlace.{SortPlace}

-- by table, then by sort, then by key
abbrev pub place_cmp : SortPlace → SortPlace → Ordering
place_cmp a b =
    ordering_then (nat_cmp a.table b.table)
    (ordering_then (nat_cmp a.sort b.sort) (nat_cmp a.key b.key))

abbrev pub coded_place : Coded SortPlace
coded_place =
    code_by (ℕ × (ℕ × ℕ)) (coded× coded_ℕ (coded× coded_ℕ coded_ℕ))
    (λ p. (p.table, (p.sort, p.key)))
    (λ t. record { table = t.0; sort = t.1.0; key = t.1.1 }) (λ _. refl)

-- a finite map from places to numbers
abbrev pub PlaceNumbers : Type 0
PlaceNumbers = map.FinMap place_cmp ℕ

abbrev pub coded_place_numbers : Coded PlaceNumbers
coded_place_numbers = map.code coded_place coded_ℕ

-- the map after each entry was added in turn
abbrev pub all_added : List (SortPlace × ℕ) → PlaceNumbers
all_added es = fold (λ m e. map.insert m e.0 e.1) map.empty es

-- whether an entry is of the table and has a sort from lo to hi
abbrev pub is_between : ℕ → ℕ → ℕ → SortPlace × ℕ → Bool
is_between table lo hi e = (e.0.table == table) && (nat_le lo e.0.sort && nat_le e.0.sort hi)

-- whether an entry stands behind a place of its table and has a sort of at most hi
abbrev pub is_between_after : SortPlace → ℕ → SortPlace × ℕ → Bool
is_between_after place hi e =
    (e.0.table == place.table) && (is_lt (place_cmp place e.0) && nat_le e.0.sort hi)

-- an entry's key is one of 64 bits
abbrev pub HasKey : SortPlace × ℕ → Type 0
HasKey e = e.0.key < 2 ^ 64
