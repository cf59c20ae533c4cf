-- What the calls do with the versions.
use Rattle.std.specs.Prelude.{◌≡◌, ◌⊎◌, ℕ, slice_index_or, is_some, Bool, false, Option, None, Some}
use Rattle.std.specs.FinMap as fin
use Rattle.mvo_types.specs.RowData.{RowData}
use Rattle.mvo_types.specs.Keys.{Map}
use Rattle.mvo_chain.specs.declared.version.Version.{Version}
use Rattle.mvo_chain.specs.declared.version.VersionNo.{VersionNo}
use Rattle.mvo_chain.specs.Slots.{Slots, version_at, with_room, with_slot, with_change, IsHole}
use Rattle.mvo_hash.specs.Lists.{IsNewNumber}
use Rattle.mvo_visible.specs.Fronts.{with_new, with_front, with_less}
use Rattle.mvo_representation.specs.Steps.{fresh}
use Rattle.mvo_range.specs.declared.sort_place.SortPlace.{SortPlace}
use Rattle.mvo_range.specs.Place.{PlaceNumbers as Places}
use Rattle.mvo_representation.specs.Indexes.{all_versions, is_at_place}
use Rattle.mvo_representation.specs.Versions.{loaded}
use Rattle.mvo_versions.specs.Data.{VersionsData}

-- the versions of these rows, put at the mark
abbrev pub AreLoaded : Map → ℕ → VersionsData → Type 0
AreLoaded rows mark v = all_versions v.slots ≡ loaded rows mark

-- the transaction puts the row: a version with a new number, in front of those of its key
pub record IsPut (old new : VersionsData) (row : RowData) (t : ℕ) (n : VersionNo) : Type 0 where
  pub hole : IsHole (with_room old.slots) n
  pub slots : new.slots ≡ with_slot (with_room old.slots) n (Some (fresh t row))
  pub unused : IsNewNumber old.lists n.0
  pub lists : new.lists ≡ with_new old.lists row.key n.0

-- nothing changes, but that there may be one more empty slot
pub record IsRoomed (old new : VersionsData) : Type 0 where
  pub slots : (new.slots ≡ old.slots) ⊎ (new.slots ≡ with_room old.slots)
  pub lists : new.lists ≡ old.lists
  pub places : new.places ≡ old.places

-- the words of one version change
pub record IsReworded (old new : VersionsData) (n : VersionNo)
    (change : Version → Version) : Type 0 where
  pub slots : new.slots ≡ with_change old.slots n change
  pub lists : new.lists ≡ old.lists
  pub places : new.places ≡ old.places

-- each place has an entry in both, or in neither: an entry's number is for the versions alone
pub record HaveSamePlaces (old new : Places) : Type 0 where
  pub at : (p : SortPlace) → is_some (fin.get new p) ≡ is_some (fin.get old p)

-- the version comes to the front of its key
pub record IsInFront (old new : VersionsData) (n : VersionNo) : Type 0 where
  pub slots : new.slots ≡ old.slots
  pub lists : (v : Version) → version_at old.slots n ≡ Some v
      → new.lists ≡ with_front old.lists v.row.key n.0
  pub places : HaveSamePlaces old.places new.places

-- whether the version with the number stands at the place
abbrev pub is_slot_at : SortPlace → Option Version → Bool
is_slot_at place None = false
is_slot_at place (Some v) = is_at_place place v

abbrev pub is_number_at : Slots → SortPlace → ℕ → Bool
is_number_at slots place n = is_slot_at place (slice_index_or slots n None)

-- whether there is such a version, and it stands at the place
abbrev pub is_one_at : Slots → SortPlace → Option VersionNo → Bool
is_one_at slots place None = false
is_one_at slots place (Some n) = is_number_at slots place n.0

-- the version is gone
pub record IsTakenOut (old new : VersionsData) (n : VersionNo) : Type 0 where
  pub slots : new.slots ≡ with_slot old.slots n None
  pub lists : (v : Version) → version_at old.slots n ≡ Some v
      → new.lists ≡ with_less old.lists v.row.key n.0
