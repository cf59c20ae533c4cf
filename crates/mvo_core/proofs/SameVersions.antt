-- Where the same versions stand under the same keys, the core stands for the same state.
use Rattle.std.proofs.Common.{◌≡◌, List, refl, sym, ap, subst, ⊎_elim}
use Rattle.std.specs.Prelude.{map}
use Rattle.mvo_types.specs.Keys.{Map}
use Rattle.mvo_model.specs.Trace.{Step}
use Rattle.mvo_theory.specs.State.{State}
use Rattle.mvo_chain.specs.declared.version.VersionNo.{VersionNo}
use Rattle.mvo_chain.specs.Slots.{version_at}
use Rattle.mvo_hash.specs.Lists.{number}
use Rattle.mvo_txn.specs.Txns.{state_of}
use Rattle.mvo_visible.specs.Versions.{versions_by}
use Rattle.mvo_versions.specs.Data.{VersionsData, AreIndexed}
use Rattle.mvo_versions.proofs.Indexing.{room_same, room_versions}
use Rattle.mvo_representation.specs.Indexes.{all_versions}
use Rattle.mvo_representation.specs.Order.{AllStandInOrder, StandInOrder}
use Rattle.mvo_representation.specs.Table.{phases_of}
use Rattle.mvo_representation.specs.Versions.{AreVersionsOf}
use Rattle.mvo_representation.proofs.OrderAborts.{same_stay_in_order}
use Rattle.mvo_representation.proofs.WordsSaid.{room_keeps_lists}
use Rattle.mvo_core.specs.Readers.{Readers}
use Rattle.mvo_core.specs.Data.{CoreData}
use Rattle.mvo_core.specs.Looking.{HasSameVersions}
use Rattle.mvo_core.specs.Standing.{words_in, StandsAmong}

module _ (old new : VersionsData) (w : HasSameVersions old new) where
  pub same_all : all_versions new.slots ≡ all_versions old.slots
  same_all = ⊎_elim (λ e. ap all_versions e) (λ e. subst (λ ss. all_versions ss ≡ all_versions old.slots) (sym e) (room_versions old.slots)) w.slots

  pub same_at : (m : VersionNo) → version_at new.slots m ≡ version_at old.slots m
  same_at m = ⊎_elim (λ e. ap (λ ss. version_at ss m) e) (λ e. subst (λ ss. version_at ss m ≡ version_at old.slots m) (sym e) (room_same old.slots m.0)) w.slots

module _ (rs : Readers) (opening : Map) (steps : List Step) (s : State) (c : CoreData) (h : StandsAmong rs opening steps s c) (v : VersionsData) (w : HasSameVersions c.versions v) (indexed : AreIndexed v) where
  roomy_order : AllStandInOrder s.start (state_of c.table) v.slots c.versions.lists
  roomy_order = same_stay_in_order s.start (state_of c.table) (state_of c.table) c.versions.slots v.slots c.versions.lists (λ u. refl) (same_at c.versions v w) h.order

  pub stands_same_versions : StandsAmong rs opening steps s (record c { versions = v })
  stands_same_versions = record {
    kept = h.kept;
    versions = record {
      kept = h.versions.kept;
      versions = subst (AreVersionsOf s (phases_of (state_of c.table))) (sym (same_all c.versions v w)) h.versions.versions;
      numbers = indexed.numbers;
      order = indexed.order;
    };
    dependencies = h.dependencies;
    order = λ k. subst (λ ns. StandInOrder s.start (phases_of (state_of c.table)) (versions_by v.slots (map number ns))) (sym (w.numbers k)) (roomy_order k);
    works = h.works;
    words = room_keeps_lists s c.versions.slots v.slots (words_in c.table) (same_at c.versions v w) h.words;
    tale = h.tale;
    places = h.places;
    stages = h.stages;
    marks = h.marks;
    grouped = h.grouped;
    start = h.start;
    over = h.over;
    beside = h.beside;
  }
