-- Runs: versions of a key that have one sort and stand side by side.
use Rattle.std.specs.Prelude.{◌≡◌, ℕ, zero, suc, ◌+◌, ◌-◌, ◌≤◌, ◌^◌, Bool, false, not, ◌&&◌, ◌||◌, cond, List, [], ◌∷◌, length, slice_index_or, Option, None, Some}
use Rattle.std.specs.Option.{option_map}
use Rattle.std.specs.FinMap as fin
use Rattle.mvo_chain.specs.declared.version.VersionNo.{VersionNo}
use Rattle.mvo_chain.specs.Slots.{Slots}
use Rattle.mvo_hash.specs.Lists.{Lists, numbers_of, newest_of}
use Rattle.mvo_range.specs.declared.sort_place.SortPlace.{SortPlace}
use Rattle.mvo_range.specs.Place.{PlaceNumbers as Places}
use Rattle.mvo_validate.specs.Entries.{key_at}
use Rattle.mvo_representation.specs.Indexes.{HasNumbers, version_place}
use Rattle.mvo_versions.specs.Data.{VersionsData}
use Rattle.mvo_versions.specs.Changes.{is_number_at, is_one_at}

-- how many runs there are of numbers that pass, where the one in front of them all passes or not
abbrev pub runs_behind : Bool → (ℕ → Bool) → List ℕ → ℕ
runs_behind front p [] = 0
runs_behind front p (n ∷ ns) = cond (p n && not front) 1 0 + runs_behind (p n) p ns

-- whether there is a number, and it passes
abbrev pub passes : (ℕ → Bool) → Option ℕ → Bool
passes p None = false
passes p (Some n) = p n

-- how many runs of versions at the place there are among those of its key
abbrev pub runs_at : Slots → Lists → SortPlace → ℕ
runs_at slots lists p = runs_behind false (is_number_at slots p) (numbers_of lists (key_at p))

-- the entry of a place with so many runs
abbrev pub runs_entry : ℕ → Option ℕ
runs_entry zero = None
runs_entry (suc n) = Some (suc n)

-- The entry of each place says how many runs of versions stand there, and there are no more slots
-- than numbers.
pub record AreCounted (v : VersionsData) : Type 0 where
  pub numbers : HasNumbers v.slots v.lists
  pub runs : (p : SortPlace) → fin.get v.places p ≡ runs_entry (runs_at v.slots v.lists p)
  pub small : length v.slots ≤ 2 ^ 32

-- ---- what the places are where a run comes or goes
abbrev pub or_none : Option ℕ → ℕ
or_none None = 0
or_none (Some n) = n

abbrev pub count_at : Places → SortPlace → ℕ
count_at places p = or_none (fin.get places p)

-- the places where this one has so many runs
abbrev pub with_count : Places → SortPlace → ℕ → Places
with_count places p zero = fin.remove places p
with_count places p (suc n) = fin.insert places p (suc n)

abbrev pub one_more : Places → SortPlace → Places
one_more places p = with_count places p (count_at places p + 1)

abbrev pub one_less : Places → SortPlace → Places
one_less places p = with_count places p (count_at places p - 1)

-- whether the newest version of its key stands at the place
abbrev pub is_newest_at : Slots → Lists → SortPlace → Bool
is_newest_at slots lists p =
    passes (is_number_at slots p) (newest_of (numbers_of lists (key_at p)))

-- where the version with the number stands, if there is one
abbrev pub place_at : Slots → Option VersionNo → Option SortPlace
place_at slots None = None
place_at slots (Some n) = option_map version_place (slice_index_or slots n.0 None)

-- the place of the newer one, where the older one stands there too
abbrev pub if_at : Slots → Option VersionNo → Option SortPlace → Option SortPlace
if_at slots older None = None
if_at slots older (Some p) = cond (is_one_at slots p older) (Some p) None

abbrev pub joined_place : Slots → Option VersionNo → Option VersionNo → Option SortPlace
joined_place slots newer older = if_at slots older (place_at slots newer)

abbrev pub less_joined : Places → Option SortPlace → Places
less_joined places None = places
less_joined places (Some p) = one_less places p

-- the places once a version at this one goes from between its neighbours
abbrev pub left : Slots → Places → SortPlace → Option VersionNo → Option VersionNo → Places
left slots places p newer older =
    cond (is_one_at slots p newer || is_one_at slots p older) places
    (less_joined (one_less places p) (joined_place slots newer older))

-- the places once a version at this one comes in front of one that stands there too, or doesn't
abbrev pub entered : Bool → Places → SortPlace → Places
entered joins places p = cond joins places (one_more places p)
