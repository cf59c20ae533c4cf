-- A core stands for a state by the places that have an entry, whatever the entries' numbers are.
use Rattle.std.proofs.Common.{List, ◌∙◌}
use Rattle.mvo_types.specs.Keys.{Map}
use Rattle.mvo_model.specs.Trace.{Step}
use Rattle.mvo_theory.specs.State.{State}
use Rattle.mvo_range.specs.Place.{PlaceNumbers as Places}
use Rattle.mvo_versions.specs.Changes.{HaveSamePlaces}
use Rattle.mvo_core.specs.Readers.{Readers}
use Rattle.mvo_core.specs.Data.{CoreData}
use Rattle.mvo_core.specs.Standing.{StandsAmong}

pub stands_by_places : (rs : Readers) (opening : Map) (steps : List Step) (s : State) (c : CoreData) (places : Places) → HaveSamePlaces c.versions.places places → StandsAmong rs opening steps s c → StandsAmong rs opening steps s (record c { versions = record c.versions { places = places } })
stands_by_places rs opening steps s c places alike h = record {
  kept = h.kept;
  versions = record {
    kept = h.versions.kept;
    versions = h.versions.versions;
    numbers = h.versions.numbers;
    order = record { at = λ p. alike.at p ∙ h.versions.order.at p };
  };
  dependencies = h.dependencies;
  order = h.order;
  works = h.works;
  words = h.words;
  tale = h.tale;
  places = h.places;
  stages = h.stages;
  marks = h.marks;
  grouped = h.grouped;
  start = h.start;
  over = h.over;
  beside = h.beside;
}
