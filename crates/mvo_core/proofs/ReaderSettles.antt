-- A read-only transaction is settled: it waits, or it is committed at its begin, and its commit is stored at the place that it has in the tale.
use Rattle.std.proofs.Common.{◌≡◌, ◌≢◌, ◌≤◌, ◌∙◌, ℕ, Bool, true, false, not, List, [], ◌∷◌, ◌++◌, Option, None, Some, refl, sym, ap, subst}
use Rattle.std.specs.Prelude.{◌==◌, slice_set, MatchOption}
use Rattle.std.specs.Option.{is_some, option_map}
use Rattle.std.specs.List.{AllByRecursion}
use Rattle.std.proofs.lemmas.Bool.{eq-eqb, true≢false, false≢true}
use Rattle.mvo_types.specs.declared.ids.TxId.{TxId}
use Rattle.mvo_types.specs.declared.refusal.Refusal.{Refusal}
use Rattle.mvo_types.specs.declared.refusal.Refusal.TheVariants.{NotValidated}
use Rattle.mvo_types.specs.Causes.{first_cause, or_next, when}
use Rattle.mvo_types.specs.Keys.{Map}
use Rattle.mvo_model.specs.Trace.{Step, history_of}
use Rattle.mvo_model.specs.Trace.Step.{Aborts}
use Rattle.mvo_theory.specs.State.{State, ActiveTx, StampedTx, preparing_of, history_of_active}
use Rattle.mvo_theory.specs.Changes.{without_id}
use Rattle.mvo_theory.specs.Steps.{after_abort, after_abort_of}
use Rattle.mvo_theory.specs.Calls.{IsRefusal, trace_of, after_run}
use Rattle.mvo_theory.specs.Calls.Call.{Settle}
use Rattle.mvo_theory.specs.Calls.Result.{Accepted, Refused}
use Rattle.mvo_theory.proofs.Cases.{found_is}
use Rattle.mvo_theory.proofs.Each.{each_always, each_both, each_filter}
use Rattle.mvo_theory.proofs.Who.{active_holds}
use Rattle.mvo_readonly.specs.ReadAt.{WritesNothing}
use Rattle.mvo_readonly.specs.Whole.{ReaderStage, WholeState, stage_of}
use Rattle.mvo_readonly.specs.Whole.ReaderStage.{Preparing as IsPreparing, Committed as IsCommitted}
use Rattle.mvo_readonly.specs.WholeCauses.{MayComeWhole, MayComeAtStage, unless_prepared, why_not_reader, awaited_by_reader}
use Rattle.mvo_readonly.specs.WholeCauses.WholeCall.{CoreCall}
use Rattle.mvo_readonly.specs.WholeCalls.{unless_awaited, core_at_stage, with_stage, settled_unless, readers_at_stage, committed_unless, committed_at_stage}
use Rattle.mvo_readonly.proofs.ReaderCalls.{in_core}
use Rattle.mvo_readonly.proofs.Stages.{core_stands, found_active}
use Rattle.mvo_readonly.proofs.Tales.{never_due}
use Rattle.mvo_readonly.proofs.WholeRuns.{whole_after_call}
use Rattle.mvo_txn.specs.declared.state.TxState.TheVariants.{Active, Aborted}
use Rattle.mvo_txn.specs.Txns as txns
use Rattle.mvo_txn.specs.Txns.{Txns, state_of, IsUnended}
use Rattle.mvo_deps.specs.declared.node.Node.{Node}
use Rattle.mvo_deps.specs.Data as deps
use Rattle.mvo_deps.specs.Nodes.{data_of, IsReported}
use Rattle.mvo_deps.specs.Graph.{KeepsGraphAtAbort}
use Rattle.mvo_deps.specs.Waiting.{HasNoneOpen, IsLeastOpen}
use Rattle.mvo_tale.specs.declared.tale_place.TalePlace.{TalePlace}
use Rattle.mvo_tale.specs.declared.tale_place.TalePlace.TheVariants.{Settled}
use Rattle.mvo_tale.specs.Kept.{HasTale}
use Rattle.mvo_tale.specs.Next.{AreGroupedTo}
use Rattle.mvo_tale.specs.Others.{others_places}
use Rattle.mvo_tale.specs.Slots.{ends, AreRising, open_end_at, reading_begin_at, pending_end_at}
use Rattle.mvo_tale.specs.Stored.{StoredCommit}
use Rattle.mvo_tale.specs.ReaderPlaces.{read_commit}
use Rattle.mvo_tale.specs.WholePlaces.{HasReaders, HasWholeTale}
use Rattle.mvo_tale.proofs.ReadingMoves.{reading_elsewhere, reading_not_open, open_elsewhere}
use Rattle.mvo_tale.proofs.ReadingPlaces.{grouped_read}
use Rattle.mvo_tale.proofs.Rising.{same_end, ends_settled}
use Rattle.mvo_tale.proofs.WholePlaces.{whole_settled}
use Rattle.mvo_representation.specs.Laws as representation
use Rattle.mvo_representation.specs.Order.{AllStandInOrder, is_put_by}
use Rattle.mvo_representation.specs.WordLists.{HasWordLists}
use Rattle.mvo_versions.specs.Data.{VersionsData}
use Rattle.mvo_shared.specs.Held.{empty_work}
use Rattle.mvo_content.specs.Works.{WorksData, HasWorkFor}
use Rattle.mvo_core.specs.declared.answers.Settlement.TheVariants as settlement
use Rattle.mvo_core.specs.declared.kept_transaction.KeptTransaction.{KeptTransaction}
use Rattle.mvo_core.specs.declared.kept_transaction.TransactionKind.TheVariants.{Other, Committed as KindCommitted}
use Rattle.mvo_core.specs.Aborting.{tale_left}
use Rattle.mvo_core.specs.Causes.{why_not_preparing}
use Rattle.mvo_core.specs.Data.{CoreData, own_of}
use Rattle.mvo_core.specs.Fronts.{AreInFront}
use Rattle.mvo_core.specs.Keeping.{IsWritten, HasEndedAs}
use Rattle.mvo_core.specs.Own.{is_own_valid, own_place}
use Rattle.mvo_core.specs.Readers.{Readers, HaveStages, HasTalePlaces}
use Rattle.mvo_core.specs.Standing.{StandsAmong, HasWorks, IsKeptActive, IsKeptPreparing, words_in}
use Rattle.mvo_core.specs.WholeEnds.{reader_settled_as}
use Rattle.mvo_core.specs.WholeStanding.{readers_of, StandsWhole, LeadsWhole}
use Rattle.mvo_core.proofs.CausesTold.{first_append}
use Rattle.mvo_core.proofs.OwnChanged.{IsOwnChanged, own_changed, words_stay}
use Rattle.mvo_core.proofs.ReaderAborted.{reader_kept, reader_apart, place_reading}
use Rattle.mvo_core.proofs.ReaderCalled.{state_is, not_preparing}
use Rattle.mvo_core.proofs.ReaderChecks.{reader_stays}
use Rattle.mvo_core.proofs.ReaderOwn.{IsOwnOfReader, reading_pending, stages_moved}
use Rattle.mvo_core.proofs.ReaderWaits.{reader_awaited_told}
use Rattle.mvo_core.proofs.Reporting.{own_same}
use Rattle.mvo_core.proofs.Rest.{not_preparing_too}
use Rattle.mvo_core.proofs.Undone.{stands_undone}
use Rattle.mvo_core.proofs.WorksHeld.{stands_without_work}

-- ---- it is Committed, once it is Aborted for the others
module _ (before : Readers) (opening : Map) (steps : List Step) (s : State) (c : CoreData) (h : StandsAmong before opening steps s c) (t : ℕ) (table : Txns (Node KeptTransaction)) (tale : List TalePlace)
    (apart : AllByRecursion (λ x. x.settled ≡ false → x.id ≢ t) s.stamped) (gone : AllByRecursion (λ r. r.id ≢ t) s.active) (written : IsWritten c.table table t (HasEndedAs KindCommitted)) (opens : (q d : ℕ) → open_end_at c.tale q ≡ Some d → open_end_at tale q ≡ Some d) where
  change : IsOwnChanged c.table table t (HasEndedAs KindCommitted)
  change = own_changed c.table table t (HasEndedAs KindCommitted) written

  states : state_of c.table ≡ state_of table
  states = λ i u. sym (change.states u) i

  one : (r : ActiveTx) → r.id ≢ t → IsKeptActive c.table r → IsKeptActive table r
  one r ne w = record { own = w.own; kept = change.beside r.id ne ∙ w.kept }

  still : (x : StampedTx) → (x.settled ≡ false → x.id ≢ t) → (x.settled ≡ false → IsKeptPreparing c.table c.tale x) → x.settled ≡ false → IsKeptPreparing table tale x
  still x ne w open' = let p = w open' in record {
    own = p.own;
    kept = change.beside x.id (ne open') ∙ p.kept;
    history = p.history;
    checked = p.checked;
    valid = p.valid;
    place = opens p.own.place x.end p.place;
  }

  works : HasWorks s table tale
  works = record {
    active = each_both (λ r. r.id ≢ t) (IsKeptActive c.table) (IsKeptActive table) one s.active gone h.works.active;
    preparing = each_both (λ x. x.settled ≡ false → x.id ≢ t) (λ x. x.settled ≡ false → IsKeptPreparing c.table c.tale x) (λ x. x.settled ≡ false → IsKeptPreparing table tale x) still s.stamped apart h.works.preparing;
  }

  handed_over : (after : Readers) → HasTale s (others_places tale) → HasTalePlaces after s.start s.clock tale → HaveStages after.unfinished table tale → AreGroupedTo tale c.grouped c.closed → StandsAmong after opening steps s (record c { table = table; tale = tale })
  handed_over after has places stages grouped = record {
    kept = h.kept;
    versions = subst (λ st. representation.VersionsStandFor opening s st c.versions.slots c.versions.lists c.versions.places) states h.versions;
    dependencies = change.dependencies s h.dependencies;
    order = subst (λ st. AllStandInOrder s.start st c.versions.slots c.versions.lists) states h.order;
    works = works;
    words = subst (HasWordLists s c.versions.slots) (sym (words_stay c.table table t (HasEndedAs KindCommitted) change (ap (λ v. v.words) change.changed.writes))) h.words;
    tale = has;
    places = places;
    stages = stages;
    marks = h.marks;
    grouped = grouped;
    start = h.start;
    over = h.over;
    beside = h.beside;
  }

gone_in : (t : ℕ) (rs : List ActiveTx) → AllByRecursion (λ r. r.id ≢ t) (without_id t rs)
gone_in t rs = each_filter (λ r. not (r.id == t)) (λ r. Unit {0}) (λ r. r.id ≢ t) (λ r e u q. false≢true (sym (ap not (eq-eqb r.id t q)) ∙ e)) rs (each_always (λ r. Unit {0}) (λ r. tt) rs)

none_id : (n : ℕ) → ◌≡◌ {A = Option ℕ} (Some n) None → ⊥
none_id n q = cc

same_id : (n m : ℕ) → ◌≡◌ {A = Option ℕ} (Some n) (Some m) → n ≡ m
same_id n m q = cc

whom_at : (other : TxId) (o : Option StampedTx) → Some other.0 ≡ option_map (λ x. x.id) o → (x : StampedTx) × (o ≡ Some x) × (other.0 ≡ x.id)
whom_at other None q = absurd (none_id other.0 q)
whom_at other (Some x) q = (x, refl, same_id other.0 x.id q)

none_at : (o : Option StampedTx) → None ≡ option_map (λ x. x.id) o → o ≡ None
none_at None q = refl
none_at (Some x) q = absurd (none_id x.id (sym q))

-- ---- it is Preparing
module _ (opening : Map) (steps own : List Step) (w : WholeState) (c : CoreData) (h : StandsWhole opening steps own w c) (t : TxId) (n : ℕ) (v : Bool) (is : stage_of t.0 w.readers ≡ Some (IsPreparing n v)) (none : why_not_preparing c.table t.0 ≡ None) where
  abbrev s : State
  s = w.core

  abbrev p : ReaderStage
  p = IsPreparing n v

  here : IsOwnOfReader c.tale t.0 (own_of c.table t.0) p
  here = reader_kept (readers_of w) opening own s c h.core t.0 p is

  active : state_of c.table t.0 ≡ Some Active
  active = state_is opening steps own w c h t.0 p is

  valid_is : is_own_valid (own_of c.table t.0) ≡ v
  valid_is = ap is_own_valid here.kept ∙ here.checked.1

  why : (b : Bool) → is_own_valid (own_of c.table t.0) ≡ b → why_not_reader s p (Settle t.0) ≡ when (not b) NotValidated
  why b e =
      first_append (unless_prepared s t.0 p) (when (not v) NotValidated ∷ [])
      ∙ ap (λ a. or_next a (first_cause (when (not v) NotValidated ∷ []))) (sym (not_preparing opening steps own w c h t.0 p is) ∙ none)
      ∙ ap (λ (d : Bool). first_cause (when (not d) NotValidated ∷ [])) (sym valid_is ∙ e)
      ∙ one_cause (when (not b) NotValidated)
    where
      one_cause : (o : Option Refusal) → first_cause (o ∷ []) ≡ o
      one_cause None = refl
      one_cause (Some r) = refl

  -- ---- it isn't validated
  pub reader_unvalidated : is_own_valid (own_of c.table t.0) ≡ false → LeadsWhole opening steps own w (CoreCall (Settle t.0)) (Refused NotValidated) c
  reader_unvalidated e =
      reader_stays opening steps own w c h (Settle t.0) (Refused NotValidated) (ap (core_at_stage s (Settle t.0) (Refused NotValidated)) is)
      (subst (λ o. MayComeAtStage w (Settle t.0) o (Refused NotValidated)) (sym is) (subst (λ o. IsRefusal false o NotValidated) (sym (why false e)) refl))
      (subst (λ (o : Option ReaderStage). HasReaders s.start (readers_at_stage s (Settle t.0) (Refused NotValidated) o w.readers) (committed_at_stage s (Settle t.0) (Refused NotValidated) o w.committed_readers) c.tale) (sym is) h.core.places.readers)
      (subst (λ (o : Option ReaderStage). HaveStages (readers_at_stage s (Settle t.0) (Refused NotValidated) o w.readers) c.table c.tale) (sym is) h.core.stages)

  module _ (valid : is_own_valid (own_of c.table t.0) ≡ true) where
    may : MayComeWhole w (CoreCall (Settle t.0)) Accepted
    may = subst (λ o. MayComeAtStage w (Settle t.0) o Accepted) (sym is) (why true valid, tt)

    told : (whom : Option TxId) → MatchOption whom (HasNoneOpen c.table (data_of c.table t).on) (IsLeastOpen c.table (data_of c.table t).on) → option_map (λ id. id.0) whom ≡ option_map (λ x. x.id) (awaited_by_reader s t.0)
    told whom m = reader_awaited_told opening own s c.table t whom h.core.kept h.core.dependencies active m

    -- ---- it waits
    pub reader_waits : (other : TxId) → IsLeastOpen c.table (data_of c.table t).on other → LeadsWhole opening steps own w (CoreCall (Settle t.0)) Accepted c
    reader_waits other least =
        let x = whom_at other (awaited_by_reader s t.0) (told (Some other) least) in
        reader_stays opening steps own w c h (Settle t.0) Accepted (ap (core_at_stage s (Settle t.0) Accepted) is ∙ ap (unless_awaited t.0) x.1) may
        (subst (λ (o : Option ReaderStage). HasReaders s.start (readers_at_stage s (Settle t.0) Accepted o w.readers) (committed_at_stage s (Settle t.0) Accepted o w.committed_readers) c.tale) (sym is)
        (subst (λ (a : Option StampedTx). HasReaders s.start (settled_unless t.0 w.readers a) (committed_unless s t.0 w.committed_readers a) c.tale) (sym x.1) h.core.places.readers))
        (subst (λ (o : Option ReaderStage). HaveStages (readers_at_stage s (Settle t.0) Accepted o w.readers) c.table c.tale) (sym is)
        (subst (λ (a : Option StampedTx). HaveStages (settled_unless t.0 w.readers a) c.table c.tale) (sym x.1) h.core.stages))

    pub reader_waits_for : (other : TxId) → IsLeastOpen c.table (data_of c.table t).on other → settlement.Waiting other ≡ reader_settled_as t.0 (awaited_by_reader s t.0)
    reader_waits_for other least =
        let x = whom_at other (awaited_by_reader s t.0) (told (Some other) least) in
        ap (λ (m : ℕ). settlement.Waiting (record { 0 = m })) x.2 ∙ sym (ap (reader_settled_as t.0) x.1)

    -- ---- it is committed
    module _ (free : HasNoneOpen c.table (data_of c.table t).on) where
      awaits : awaited_by_reader s t.0 ≡ None
      awaits = none_at (awaited_by_reader s t.0) (told None free)

      pub reader_commits_as : reader_settled_as t.0 None ≡ reader_settled_as t.0 (awaited_by_reader s t.0)
      reader_commits_as = sym (ap (reader_settled_as t.0) awaits)

      -- it wrote nothing
      pub idle : WritesNothing (history_of_active t.0 s.active)
      idle =
          let at = core_stands steps own s t.0 w.readers p is h.kept.readers in
          let found = found_active s t.0 (in_core opening steps own w t.0 p is h.kept) in
          let r = found.0 in
          let i = found_is t.0 s.active r found.1 in
          let tells : history_of t.0 own ≡ r.history = subst (λ (u : ℕ). history_of u own ≡ r.history) i.0 (active_holds (λ q. history_of q.id own ≡ q.history) t.0 s.active r found.1 h.kept.kept.after_trace.active).0 in
          subst WritesNothing (tells ∙ sym i.1) at.2

      abbrev place : ℕ
      place = own_place (own_of c.table t.0)

      abbrev entry : StoredCommit
      entry = read_commit s t.0

      abbrev stored : List TalePlace
      stored = slice_set c.tale place (Settled entry)

      abbrev then' : State
      then' = after_abort s t.0

      abbrev after : Readers
      after = record { unfinished = with_stage t.0 IsCommitted w.readers; committed = w.committed_readers ++ (record { id = t.0; history = history_of_active t.0 s.active }) ∷ [] }

      reading : reading_begin_at c.tale place ≡ Some t.0
      reading = place_reading (readers_of w) opening own s c h.core t.0 p is refl

      module _ (rising : AreRising (ends c.tale)) (untold table last : Txns (Node KeptTransaction)) (aborted : untold ≡ txns.table_after_change c.table t.0 Aborted) (reported : IsReported (deps.after_dependency_abort t) untold table t)
          (graph : KeepsGraphAtAbort untold table t) (versions : VersionsData) (front : AreInFront (is_put_by t.0) c.versions versions (words_in table t.0)) (written : IsWritten table last t.0 (HasEndedAs KindCommitted))
          (works : WorksData) (taken : HasWorkFor c.works works t.0 empty_work) where
        base : StandsAmong (readers_of w) opening (own ++ Aborts t.0 ∷ []) then' (record c { versions = versions; table = table; tale = c.tale })
        base = stands_undone (readers_of w) opening own s c h.core t (subst IsUnended (sym active) tt) untold table aborted reported graph versions c.tale front
            (sym (ap (λ o. tale_left o Other c.tale place) active))

        none_prepares : preparing_of t.0 s.stamped ≡ None
        none_prepares = not_preparing_too (readers_of w) opening own s c h.core t.0 active

        apart : AllByRecursion (λ x. x.settled ≡ false → x.id ≢ t.0) then'.stamped
        apart = subst (λ (o : Option StampedTx). AllByRecursion (λ x. x.settled ≡ false → x.id ≢ t.0) (after_abort_of s t.0 o).stamped) (sym none_prepares) (reader_apart (readers_of w) opening own s c h.core t.0 p is active)

        gone : AllByRecursion (λ r. r.id ≢ t.0) then'.active
        gone = subst (λ (o : Option StampedTx). AllByRecursion (λ r. r.id ≢ t.0) (after_abort_of s t.0 o).active) (sym none_prepares) (gone_in t.0 s.active)

        changed : IsOwnChanged table last t.0 (HasEndedAs KindCommitted)
        changed = own_changed table last t.0 (HasEndedAs KindCommitted) written

        whole : HasWholeTale (record { core = then'; readers = after.unfinished; committed_readers = after.committed }) stored
        whole = whole_settled (record { core = then'; readers = w.readers; committed_readers = w.committed_readers }) entry place c.tale rising reading refl idle (record { others = base.tale; readers = base.places.readers })

        pending : pending_end_at c.tale place ≡ Some t.0
        pending = reading_pending c.tale place t.0 reading

        places : HasTalePlaces after then'.start then'.clock stored
        places = record {
          drawn = subst (AllByRecursion (λ d. d ≤ then'.clock)) (sym (ends_settled c.tale place entry pending)) base.places.drawn;
          readers = whole.readers;
        }

        stages : HaveStages after.unfinished last stored
        stages = stages_moved w.readers c.table last c.tale stored t.0 p IsCommitted is
            (λ u ne. changed.beside u ne ∙ own_same (deps.after_dependency_abort t) c.table untold table t Aborted aborted reported u)
            (λ u m ne k. reading_elsewhere c.tale place m u (Settled entry) (λ i. ne (same_end u t.0 (sym k ∙ ap (λ (d : ℕ). reading_begin_at c.tale d) (sym i) ∙ reading))) k)
            (record { own = changed.after; kept = changed.is; kind = changed.changed.kind; checked = tt; place = λ e. absurd (true≢false e) }) h.core.stages

        grouped : AreGroupedTo stored c.grouped c.closed
        grouped = grouped_read c.tale c.grouped c.closed place entry (ap is_some reading) (never_due 0 1 (history_of_active t.0 s.active) idle) base.grouped

        stored_there : StandsAmong after opening (own ++ Aborts t.0 ∷ []) then' (record c { versions = versions; table = last; tale = stored })
        stored_there = handed_over (readers_of w) opening (own ++ Aborts t.0 ∷ []) then' (record c { versions = versions; table = table; tale = c.tale }) base t.0 last stored apart gone written
            (λ q d k. open_elsewhere c.tale place q d (Settled entry) (reading_not_open c.tale place q t.0 d reading k) k) after whole.others places stages grouped

        settled : StandsAmong after opening (own ++ Aborts t.0 ∷ []) then' (record c { versions = versions; table = last; tale = stored; works = works })
        settled = stands_without_work after opening (own ++ Aborts t.0 ∷ []) then' (record c { versions = versions; table = last; tale = stored }) stored_there works t.0 gone taken

        pub reader_settles : LeadsWhole opening steps own w (CoreCall (Settle t.0)) Accepted (record c { versions = versions; table = last; tale = stored; works = works })
        reader_settles = record {
          may = may;
          stands = record {
            core = subst (λ (o : Option ReaderStage). StandsAmong (record { unfinished = readers_at_stage s (Settle t.0) Accepted o w.readers; committed = committed_at_stage s (Settle t.0) Accepted o w.committed_readers }) opening
                (own ++ trace_of s (core_at_stage s (Settle t.0) Accepted o)) (after_run s (core_at_stage s (Settle t.0) Accepted o)) (record c { versions = versions; table = last; tale = stored; works = works })) (sym is)
                (subst (λ (a : Option StampedTx). StandsAmong (record { unfinished = settled_unless t.0 w.readers a; committed = committed_unless s t.0 w.committed_readers a }) opening
                (own ++ trace_of s (unless_awaited t.0 a)) (after_run s (unless_awaited t.0 a)) (record c { versions = versions; table = last; tale = stored; works = works })) (sym awaits) settled);
            kept = whole_after_call opening steps own w (CoreCall (Settle t.0)) Accepted may h.kept;
          };
        }
