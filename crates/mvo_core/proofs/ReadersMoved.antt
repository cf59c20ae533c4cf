-- What is kept of a read-only transaction changes, and its place in the tale: the core stands for the same state of the others.
use Rattle.std.proofs.Common.{◌≡◌, ◌≢◌, ℕ, false, List, Some, sym, ap, ◌∙◌, subst, ⊎_elim, [], ◌++◌, append-nil}
use Rattle.std.specs.List.{AllByRecursion}
use Rattle.std.proofs.lemmas.Bool.{cases_eq}
use Rattle.mvo_types.specs.Keys.{Map}
use Rattle.mvo_model.specs.Trace.{Step}
use Rattle.mvo_theory.specs.State.{State, ActiveTx, StampedTx}
use Rattle.mvo_theory.proofs.Each.{each_both, each_weaker}
use Rattle.mvo_txn.specs.Txns.{Txns, state_of}
use Rattle.mvo_deps.specs.declared.node.Node.{Node}
use Rattle.mvo_tale.specs.declared.tale_place.TalePlace.{TalePlace}
use Rattle.mvo_tale.specs.Slots.{open_end_at}
use Rattle.mvo_representation.specs.Laws as representation
use Rattle.mvo_representation.specs.Order.{AllStandInOrder}
use Rattle.mvo_representation.specs.WordLists.{HasWordLists}
use Rattle.mvo_theory.specs.Calls.{Run, trace_of, after_run}
use Rattle.mvo_readonly.specs.WholeCauses.WholeCall.{CoreCall}
use Rattle.mvo_readonly.specs.WholeCalls.{core_calls, after_whole_call}
use Rattle.mvo_readonly.proofs.WholeRuns.{whole_after_call}
use Rattle.mvo_core.specs.declared.kept_transaction.KeptTransaction.{KeptTransaction}
use Rattle.mvo_core.specs.Data.{CoreData, own_of}
use Rattle.mvo_core.specs.Keeping.{IsWritten}
use Rattle.mvo_core.specs.Readers.{Readers}
use Rattle.mvo_core.specs.Standing.{StandsAmong, HasWorks, IsKeptActive, IsKeptPreparing}
use Rattle.mvo_core.specs.WholeStanding.{readers_of, HasSameWordList, ReadersMove, ReaderGoesOn}
use Rattle.mvo_core.proofs.OwnChanged.{IsOwnChanged, own_changed, words_stay}

module _ (before : Readers) (opening : Map) (steps : List Step) (s : State) (c : CoreData) (h : StandsAmong before opening steps s c) (t : ℕ) (table : Txns (Node KeptTransaction)) (tale : List TalePlace)
    (apart : AllByRecursion (λ x. x.settled ≡ false → x.id ≢ t) s.stamped) (written : IsWritten c.table table t HasSameWordList) (opens : (q d : ℕ) → open_end_at c.tale q ≡ Some d → open_end_at tale q ≡ Some d) where
  change : IsOwnChanged c.table table t HasSameWordList
  change = own_changed c.table table t HasSameWordList written

  states : state_of c.table ≡ state_of table
  states = λ i u. sym (change.states u) i

  one : (r : ActiveTx) → IsKeptActive c.table r → IsKeptActive table r
  one r w =
      ⊎_elim
      (λ is.
      record { own = change.after; kept = ap (own_of table) is ∙ change.is })
      (λ ne. record { own = w.own; kept = change.beside r.id ne ∙ w.kept })
      (cases_eq r.id t)

  still : (x : StampedTx) → (x.settled ≡ false → x.id ≢ t) → (x.settled ≡ false → IsKeptPreparing c.table c.tale x) → x.settled ≡ false → IsKeptPreparing table tale x
  still x ne w open' = let p = w open' in record {
    own = p.own;
    kept = change.beside x.id (ne open') ∙ p.kept;
    history = p.history;
    checked = p.checked;
    valid = p.valid;
    place = opens p.own.place x.end p.place;
  }

  works : HasWorks s table tale
  works = record {
    active = each_weaker (IsKeptActive c.table) (IsKeptActive table) one s.active h.works.active;
    preparing = each_both (λ x. x.settled ≡ false → x.id ≢ t) (λ x. x.settled ≡ false → IsKeptPreparing c.table c.tale x) (λ x. x.settled ≡ false → IsKeptPreparing table tale x) still s.stamped apart h.works.preparing;
  }

pub readers_moved : ReadersMove
readers_moved before after opening steps s c t table tale h apart written opens has places stages grouped = record {
  kept = h.kept;
  versions = subst (λ st. representation.VersionsStandFor opening s st c.versions.slots c.versions.lists c.versions.places) (states before opening steps s c h t table tale apart written opens) h.versions;
  dependencies = (change before opening steps s c h t table tale apart written opens).dependencies s h.dependencies;
  order = subst (λ st. AllStandInOrder s.start st c.versions.slots c.versions.lists) (states before opening steps s c h t table tale apart written opens) h.order;
  works = works before opening steps s c h t table tale apart written opens;
  words = subst (HasWordLists s c.versions.slots)
      (sym (words_stay c.table table t HasSameWordList (change before opening steps s c h t table tale apart written opens) (change before opening steps s c h t table tale apart written opens).changed.words)) h.words;
  tale = has;
  places = places;
  stages = stages;
  marks = h.marks;
  grouped = grouped;
  start = h.start;
  over = h.over;
  beside = h.beside;
}

-- ---- a call that is none of the core's
pub nothing_called : (rs : Readers) (opening : Map) (own : List Step) (s : State) (cs : Run) (new : CoreData) → cs ≡ [] → StandsAmong rs opening own s new → StandsAmong rs opening (own ++ trace_of s cs) (after_run s cs) new
nothing_called rs opening own s cs new e h =
    subst (λ (xs : Run). StandsAmong rs opening (own ++ trace_of s xs) (after_run s xs) new) (sym e)
    (subst (λ (ys : List Step). StandsAmong rs opening ys s new) (sym (append-nil own)) h)

pub reader_goes_on : ReaderGoesOn
reader_goes_on opening steps own w c call r t table h none may apart written readers stages = record {
  may = may;
  stands = record {
    core = nothing_called (readers_of (after_whole_call w (CoreCall call) r)) opening own w.core (core_calls w (CoreCall call) r) (record c { table = table }) none
        (readers_moved (readers_of w) (readers_of (after_whole_call w (CoreCall call) r)) opening own w.core c t table c.tale h.core apart written (λ q d e. e) h.core.tale
        (record { drawn = h.core.places.drawn; readers = readers }) stages h.core.grouped);
    kept = whole_after_call opening steps own w (CoreCall call) r may h.kept;
  };
}
