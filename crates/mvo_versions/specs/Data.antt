-- Versions with both their indexes.
use Rattle.mvo_chain.specs.Slots.{Slots}
use Rattle.mvo_hash.specs.Lists.{Lists}
use Rattle.mvo_range.specs.Place.{PlaceNumbers as Places}
use Rattle.mvo_representation.specs.Indexes.{all_versions, HasNumbers, HasPlaces}

-- the versions by number, the numbers of each key, newest first, and the places in order of sorts
pub record VersionsData : Type 0 where
  pub slots : Slots
  pub lists : Lists
  pub places : Places

-- each version stands once under its key, and the places are just those of the versions
pub record AreIndexed (v : VersionsData) : Type 0 where
  pub numbers : HasNumbers v.slots v.lists
  pub order : HasPlaces (all_versions v.slots) v.places
