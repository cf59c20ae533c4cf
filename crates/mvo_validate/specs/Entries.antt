-- What an entry looks at.
use Rattle.std.specs.Prelude.{ℕ, ◌==◌, Bool, true, List, filter, Option, None, Some}
use Rattle.std.specs.List.{flat_map}
use Rattle.std.specs.FinMap as fin
use Rattle.mvo_types.specs.declared.row.RowKey.{RowKey}
use Rattle.mvo_chain.specs.Slots.{Slots}
use Rattle.mvo_hash.specs.Lists.{Lists}
use Rattle.mvo_range.specs.declared.sort_place.SortPlace.{SortPlace}
use Rattle.mvo_range.specs.Place.{PlaceNumbers, is_between}
use Rattle.mvo_visible.specs.Versions.{NumberedVersion, versions_at}
use Rattle.mvo_types.specs.declared.entry.Entry.{Entry}
use Rattle.mvo_types.specs.declared.entry.Entry.TheVariants.{Key, Range}

-- whether a version has the sort, if one is asked for
abbrev pub has_sort : Option ℕ → NumberedVersion → Bool
has_sort None e = true
has_sort (Some sort) e = e.1.row.sort == sort

-- the versions of a key, or those of them with a sort
abbrev pub versions_of_sort : Slots → Lists → RowKey → Option ℕ → List NumberedVersion
versions_of_sort slots lists key sort = filter (has_sort sort) (versions_at slots lists key)

abbrev pub key_at : SortPlace → RowKey
key_at place = record { table = place.table; key = place.key }

-- the versions at a place: those of its key that have its sort
abbrev pub versions_of_place : Slots → Lists → SortPlace × ℕ → List NumberedVersion
versions_of_place slots lists e = versions_of_sort slots lists (key_at e.0) (Some e.0.sort)

-- the versions that an entry looks at: those of its key, or those at the places of its range
abbrev pub versions_in : Slots → Lists → PlaceNumbers → Entry → List NumberedVersion
versions_in slots lists places (Key key) = versions_of_sort slots lists key None
versions_in slots lists places (Range table lo hi) =
    flat_map (versions_of_place slots lists) (filter (is_between table lo hi) (fin.entries places))
