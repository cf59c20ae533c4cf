-- What the two indexes hold of the versions by number.
use Rattle.std.specs.Prelude.{ℕ, ◌≡◌, ◌==◌, Bool, false, cond, is_some, List, [], ◌∷◌, slice_index_or, Option, None, Some}
use Rattle.std.specs.List.{list_any}
use Rattle.std.specs.Ordering.{eq_by_cmp}
use Rattle.std.specs.FinMap as fin
use Rattle.mvo_types.specs.declared.row.RowKey.{RowKey}
use Rattle.mvo_types.specs.Keys.{key_cmp}
use Rattle.mvo_theory.specs.Sound.{how_many}
use Rattle.mvo_theory.specs.State.{State}
use Rattle.mvo_chain.specs.declared.version.Version.{Version}
use Rattle.mvo_chain.specs.Slots.{Slots}
use Rattle.mvo_hash.specs.Lists.{Lists, numbers_of}
use Rattle.mvo_range.specs.declared.sort_place.SortPlace.{SortPlace}
use Rattle.mvo_range.specs.Place.{PlaceNumbers as Places, place_cmp}
use Rattle.mvo_representation.specs.Words.{Phases}
use Rattle.mvo_representation.specs.Versions.{AreVersionsOf}
use Rattle.mvo_representation.specs.Nodes.{Nodes, HasNodes, HasDrawnDependents}

-- the versions, by number
abbrev pub all_versions : Slots → List Version
all_versions [] = []
all_versions (None ∷ ss) = all_versions ss
all_versions (Some v ∷ ss) = v ∷ all_versions ss

-- the versions with these numbers
abbrev pub and_found : Option Version → List Version → List Version
and_found None vs = vs
and_found (Some v) vs = v ∷ vs

abbrev pub versions_numbered : Slots → List ℕ → List Version
versions_numbered slots [] = []
versions_numbered slots (n ∷ ns) =
    and_found (slice_index_or slots n None) (versions_numbered slots ns)

-- whether the slot has a version of the key
abbrev pub is_of_key : RowKey → Option Version → Bool
is_of_key k None = false
is_of_key k (Some v) = eq_by_cmp key_cmp k v.row.key

-- the key index has the number of each version of the key, once
pub record HasNumbers (slots : Slots) (lists : Lists) : Type 0 where
  pub at : (k : RowKey) (n : ℕ)
      → how_many (λ m. m == n) (numbers_of lists k)
      ≡ cond (is_of_key k (slice_index_or slots n None)) 1 0

-- where a version stands in the order of sorts
abbrev pub version_place : Version → SortPlace
version_place v = record { table = v.row.key.table; sort = v.row.sort; key = v.row.key.key }

abbrev pub is_at_place : SortPlace → Version → Bool
is_at_place p v = eq_by_cmp place_cmp p (version_place v)

-- the ordered index has just the places of the versions
pub record HasPlaces (vs : List Version) (places : Places) : Type 0 where
  pub at : (p : SortPlace) → is_some (fin.get places p) ≡ list_any (is_at_place p) vs

-- the table, the dependencies, the versions and the indexes are those of the state
pub record Represents (s : State) (table : Phases) (nodes : Nodes) (slots : Slots) (lists : Lists)
    (places : Places) : Type 0 where
  pub versions : AreVersionsOf s table (all_versions slots)
  pub dependencies : HasNodes s nodes
  pub drawn : HasDrawnDependents s nodes
  pub numbers : HasNumbers slots lists
  pub order : HasPlaces (all_versions slots) places
