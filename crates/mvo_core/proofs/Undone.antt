-- A transaction is aborted: what the core stands for then.
use Rattle.std.proofs.Common.{◌≡◌, ◌≢◌, ◌⊎◌, inl, inr, ℕ, ◌<◌, true, false, not, List, [], ◌∷◌, ◌++◌, Option, None, Some, refl, sym, ap, ◌∙◌, subst}
use Rattle.std.specs.Prelude.{◌==◌, filter, slice_set}
use Rattle.std.specs.Option.{is_some}
use Rattle.std.proofs.lemmas.Bool.{eq-eqb, false≢true}
use Rattle.mvo_types.specs.declared.ids.TxId.{TxId}
use Rattle.mvo_types.specs.declared.ids.Stamp.{Stamp}
use Rattle.mvo_types.specs.Keys.{Map}
use Rattle.mvo_model.specs.Trace.{Step}
use Rattle.mvo_model.specs.Trace.Phase.{Active as ActivePhase, Preparing as PreparingPhase}
use Rattle.mvo_model.specs.Trace.Step.{Aborts}
use Rattle.mvo_theory.specs.State.{State, StampedTx, preparing_of}
use Rattle.mvo_theory.specs.Changes.{active_with_flag, with_flag, not_at}
use Rattle.mvo_theory.specs.Steps.{after_abort_of, after_abort}
use Rattle.mvo_theory.specs.Calls.{MayCome}
use Rattle.mvo_theory.specs.Calls.Call.{Rollback}
use Rattle.mvo_theory.specs.Calls.Result.{Accepted}
use Rattle.mvo_theory.proofs.Each.{each_filter, each_map}
use Rattle.mvo_txn.specs.declared.state.TxState.{TxState}
use Rattle.mvo_txn.specs.declared.state.TxState.TheVariants.{Active, Preparing, Committed, Aborted}
use Rattle.mvo_txn.specs.Txns as txns
use Rattle.mvo_txn.specs.Txns.{Txns, state_of, IsUnended}
use Rattle.mvo_deps.specs.declared.node.Node.{Node}
use Rattle.mvo_deps.specs.Data as deps
use Rattle.mvo_deps.specs.Nodes.{IsReported}
use Rattle.mvo_deps.specs.Graph.{KeepsGraphAtAbort}
use Rattle.mvo_tale.specs.declared.tale_place.TalePlace.{TalePlace}
use Rattle.mvo_tale.specs.declared.tale_place.TalePlace.TheVariants.{Empty}
use Rattle.mvo_tale.specs.Slots.{open_end_at}
use Rattle.mvo_tale.proofs.Moving.{grouped_left}
use Rattle.mvo_tale.proofs.ReadingMoves.{reading_closed, reading_elsewhere, reading_not_open}
use Rattle.mvo_tale.proofs.Rising.{open_pending}
use Rattle.mvo_representation.specs.Table.{phase_as, phases_of}
use Rattle.mvo_representation.specs.Order.{MayAbort, is_put_by, with_fronts}
use Rattle.mvo_representation.specs.WordLists.{HasWordLists}
use Rattle.mvo_representation.proofs.Facts.{found_holds}
use Rattle.mvo_versions.specs.Data.{VersionsData}
use Rattle.mvo_core.specs.Readers.{Readers, HaveStages, reader_in}
use Rattle.mvo_core.specs.declared.kept_transaction.KeptTransaction.{KeptTransaction}
use Rattle.mvo_core.specs.Data.{CoreData, own_of}
use Rattle.mvo_core.specs.Own.{own_place}
use Rattle.mvo_core.specs.Standing.{IsKeptActive, IsKeptPreparing, HasWorks, words_in, StandsAmong}
use Rattle.mvo_core.specs.declared.kept_transaction.TransactionKind.TheVariants.{Other}
use Rattle.mvo_core.specs.Causes.{why_not_undo, kind_kept}
use Rattle.mvo_core.specs.Aborting.{HasOpenPlace, tale_left}
use Rattle.mvo_core.specs.Fronts.{numbers_in, AreInFront}
use Rattle.mvo_core.proofs.SamePlaces.{stands_by_places}
use Rattle.mvo_core.proofs.Carried.{works_carried}
use Rattle.mvo_core.proofs.CausesTold.{not_undone_is}
use Rattle.mvo_readonly.specs.Whole.{stage_of}
use Rattle.mvo_core.proofs.ReaderOwn.{reading_place}
use Rattle.mvo_core.proofs.ReaderStages.{KeepsReading, stages_same, stages_told}
use Rattle.mvo_core.proofs.ReaderTales.{places_left}
use Rattle.mvo_core.proofs.Reporting.{own_same, says_same, words_same, stands_now, others_stand}
use Rattle.mvo_core.proofs.Rest.{HasRest, not_preparing_too, preparing_there, stands_then}
use Rattle.mvo_core.proofs.KeptTale.{tale_left_among}
use Rattle.mvo_core.proofs.TaleMoves.{open_left}
use Rattle.mvo_core.proofs.EndLaws.{abort_in_table, abort_in_order, abort_in_lists, lists_are_written, fronts_in_numbers}

-- ---- one that is Active or Preparing
pub may_undo : (o : Option TxState) → IsUnended o → why_not_undo o ≡ None
may_undo None h = absurd h
may_undo (Some Active) h = refl
may_undo (Some (Preparing e)) h = refl
may_undo (Some (Committed e)) h = absurd h
may_undo (Some Aborted) h = absurd h

may_abort : (o : Option TxState) → IsUnended o → (phase_as o ≡ ActivePhase) ⊎ ((e : ℕ) × (phase_as o ≡ PreparingPhase e))
may_abort None h = absurd h
may_abort (Some Active) h = inl refl
may_abort (Some (Preparing e)) h = inr (e.0, refl)
may_abort (Some (Committed e)) h = absurd h
may_abort (Some Aborted) h = absurd h

pub was_state : (o : Option TxState) → IsUnended o → (state : TxState) × (o ≡ Some state)
was_state None h = absurd h
was_state (Some state) h = (state, refl)

apart_at : (e : ℕ) (y : StampedTx) → not_at e y ≡ true → y.end ≢ e
apart_at e y h q = false≢true (sym (ap not (eq-eqb y.end e q)) ∙ h)

module _ (rs : Readers) (opening : Map) (steps : List Step) (s : State) (c : CoreData) (h : StandsAmong rs opening steps s c) where
  -- ---- what is kept of a Preparing one
  pub record IsKeptOfPreparing (t : ℕ) (x : StampedTx) : Type 0 where
    pub found : preparing_of t s.stamped ≡ Some x
    pub is : x.id ≡ t
    pub unsettled : x.settled ≡ false
    pub own : KeptTransaction
    pub kept : own_of c.table t ≡ Some own
    pub same : IsKeptPreparing c.table c.tale x
    pub own_is : same.own ≡ own

  pub kept_of_preparing : (t : ℕ) (x : StampedTx) → preparing_of t s.stamped ≡ Some x → IsKeptOfPreparing t x
  kept_of_preparing t x f =
      let p = found_holds (λ y. y.settled ≡ false → IsKeptPreparing c.table c.tale y) t s.stamped x f h.works.preparing in
      let k = p.0 p.2 in
      record {
        found = f;
        is = p.1;
        unsettled = p.2;
        own = k.own;
        kept = ap (own_of c.table) (sym p.1) ∙ k.kept;
        same = k;
        own_is = refl;
      }

  -- its place in the tale is open
  pub place_open : (t : ℕ) (x : StampedTx) → preparing_of t s.stamped ≡ Some x → open_end_at c.tale (own_place (own_of c.table t)) ≡ Some x.end
  place_open t x f = let k = kept_of_preparing t x f in ap (λ o. open_end_at c.tale (own_place o)) k.kept ∙ ap (λ own. open_end_at c.tale own.place) (sym k.own_is) ∙ k.same.place

  pub has_open_place : (t : ℕ) → HasOpenPlace (state_of c.table t) (kind_kept (own_of c.table t)) c.tale (own_place (own_of c.table t))
  has_open_place t = go (state_of c.table t) refl
    where
      go : (o : Option TxState) → state_of c.table t ≡ o → HasOpenPlace o (kind_kept (own_of c.table t)) c.tale (own_place (own_of c.table t))
      go None was e = absurd (false≢true e)
      go (Some Active) was e = reading_place c.tale t (own_of c.table t) (stage_of t rs.unfinished) (h.stages t) e
      go (Some (Preparing d)) was e = let x = preparing_there rs opening steps s c h t d was in ap is_some (open_pending c.tale (own_place (own_of c.table t)) x.0.end (place_open t x.0 x.1))
      go (Some (Committed d)) was e = absurd (false≢true e)
      go (Some Aborted) was e = absurd (false≢true e)

  -- ---- what the state has beside versions and dependencies
  module _ (t : ℕ) (table : Txns (Node KeptTransaction)) (w : HasWorks s table c.tale) (g : HaveStages rs.unfinished table c.tale) where
    abbrev place : ℕ
    place = own_place (own_of c.table t)

    rest_of_active : HasRest rs (after_abort_of s t None) table c.tale c
    rest_of_active = record {
      works = record {
        active = each_filter (λ r. not (r.id == t)) (IsKeptActive table) (IsKeptActive table) (λ r e p. p) s.active w.active;
        preparing = w.preparing;
      };
      tale = h.tale;
      places = h.places;
      stages = g;
      marks = h.marks;
      grouped = h.grouped;
      start = h.start;
    }

    rest_of_preparing : (e : Stamp) (x : StampedTx) → preparing_of t s.stamped ≡ Some x → HasRest rs (after_abort_of s t (Some x)) table (tale_left (Some (Preparing e)) Other c.tale place) c
    rest_of_preparing e x f = record {
      works = record {
        active = each_map (active_with_flag t x.end) (IsKeptActive table) (IsKeptActive table) (λ r p. record { own = p.own; kept = p.kept }) s.active w.active;
        preparing = each_map (with_flag t x.end) (λ y. y.settled ≡ false → IsKeptPreparing table left y) (λ y. y.settled ≡ false → IsKeptPreparing table left y)
            (λ y p open'. let q = p open' in record { own = q.own; kept = q.kept; history = q.history; checked = q.checked; valid = q.valid; place = q.place })
            (filter (not_at x.end) s.stamped)
            (each_filter (not_at x.end) (λ y. y.settled ≡ false → IsKeptPreparing table c.tale y) (λ y. y.settled ≡ false → IsKeptPreparing table left y)
            (λ y ne p open'. let q = p open' in record {
              own = q.own;
              kept = q.kept;
              history = q.history;
              checked = q.checked;
              valid = q.valid;
              place = open_left c.tale place q.own.place x.end y.end at q.place (apart_at x.end y ne);
            })
            s.stamped w.preparing);
      };
      tale = tale_left_among s c.tale h.versions.kept.started h.versions.kept.sound.rising h.tale place t x.end at (found_holds (λ y. s.start < y.end) t s.stamped x f h.versions.kept.started.later).0;
      places = places_left rs s.start s.clock c.tale h.places place (ap is_some at);
      stages = stages_told rs.unfinished table c.tale left keeps g;
      marks = h.marks;
      grouped = grouped_left c.tale c.grouped c.closed place (ap is_some at) h.grouped;
      start = h.start;
    } where
      left : List TalePlace
      left = tale_left (Some (Preparing e)) Other c.tale place

      at : open_end_at c.tale place ≡ Some x.end
      at = place_open t x f

      -- it isn't the place of one that reads
      keeps : KeepsReading c.tale left
      keeps q b k = reading_closed (slice_set c.tale place Empty) q b (reading_elsewhere c.tale place q b Empty (λ is. reading_not_open c.tale q place b x.end k at (sym is)) k)

    pub rest_aborted : (o : Option TxState) → state_of c.table t ≡ o → IsUnended o → HasRest rs (after_abort s t) table (tale_left o Other c.tale place) c
    rest_aborted None was un = absurd un
    rest_aborted (Some Active) was un = subst (λ o. HasRest rs (after_abort_of s t o) table c.tale c) (sym (not_preparing_too rs opening steps s c h t was)) rest_of_active
    rest_aborted (Some (Preparing e)) was un =
        let x = preparing_there rs opening steps s c h t e was in
        subst (λ o. HasRest rs (after_abort_of s t o) table (tale_left (Some (Preparing e)) Other c.tale place) c) (sym x.1) (rest_of_preparing e x.0 x.1)
    rest_aborted (Some (Committed e)) was un = absurd un
    rest_aborted (Some Aborted) was un = absurd un

  -- ---- the core
  module _ (t : TxId) (unended : IsUnended (state_of c.table t.0)) (untold table : Txns (Node KeptTransaction)) (is : untold ≡ txns.table_after_change c.table t.0 Aborted) (told : IsReported (deps.after_dependency_abort t) untold table t) (graph : KeepsGraphAtAbort untold table t) where
    pub may : MayCome s (Rollback t.0) Accepted
    may = (sym (not_undone_is rs opening steps s c h t.0) ∙ may_undo (state_of c.table t.0) unended, tt)

    open' : MayAbort (phases_of (state_of c.table)) t.0
    open' = may_abort (state_of c.table t.0) unended

    abbrev numbers : List ℕ
    numbers = numbers_in (words_in table t.0)

    same_words : words_in c.table ≡ words_in table
    same_words = words_same (deps.after_dependency_abort t) c.table untold table t Aborted is told

    works : HasWorks s table c.tale
    works = works_carried s c.table table c.tale (says_same (deps.after_dependency_abort t) c.table untold table t Aborted is told) h.works

    here : state_of table t.0 ≡ Some Aborted
    here = let was = was_state (state_of c.table t.0) unended in stands_now (deps.after_dependency_abort t) c.table untold table t Aborted is told was.0 was.1

    undone : StandsAmong rs opening (steps ++ Aborts t.0 ∷ []) (after_abort s t.0) (record c {
      versions = record c.versions { lists = with_fronts (is_put_by t.0) c.versions.slots c.versions.lists numbers };
      table = table;
      tale = tale_left (state_of c.table t.0) Other c.tale (own_place (own_of c.table t.0));
    })
    undone = stands_then rs opening steps s c h (Rollback t.0) Accepted table (with_fronts (is_put_by t.0) c.versions.slots c.versions.lists numbers) (tale_left (state_of c.table t.0) Other c.tale (own_place (own_of c.table t.0))) tt (λ g ws. refl) may refl
        (fronts_in_numbers (is_put_by t.0) c.versions.slots c.versions.lists numbers h.versions.numbers)
        (abort_in_table opening s c.table untold table t h.versions.kept h.dependencies unended is told graph)
        (abort_in_order opening s (state_of c.table) (state_of table) c.versions.slots c.versions.lists c.versions.places t.0 numbers h.versions open'
        (others_stand (deps.after_dependency_abort t) c.table untold table t Aborted is told) here
        (subst (λ (ws : ℕ → List Rattle.mvo_work.specs.declared.word_place.WordPlace.WordPlace). Rattle.mvo_representation.specs.Order.AreWrittenBy t.0 c.versions.slots (numbers_in (ws t.0))) same_words
        (lists_are_written opening s (state_of c.table) c.versions.slots c.versions.lists c.versions.places (words_in c.table) t.0 h.versions open' h.words))
        h.order)
        (subst (HasWordLists (after_abort s t.0) c.versions.slots) same_words
        (abort_in_lists opening s (state_of c.table) c.versions.slots c.versions.lists c.versions.places (words_in c.table) t.0 h.versions open' h.words))
        (rest_aborted t.0 table works (stages_same rs.unfinished c.table table c.tale (λ u. ap reader_in (own_same (deps.after_dependency_abort t) c.table untold table t Aborted is told u)) h.stages) (state_of c.table t.0) refl unended)

    pub stands_undone : (versions : VersionsData) (tale : List TalePlace) → AreInFront (is_put_by t.0) c.versions versions (words_in table t.0) → tale ≡ tale_left (state_of c.table t.0) Other c.tale (own_place (own_of c.table t.0))
        → StandsAmong rs opening (steps ++ Aborts t.0 ∷ []) (after_abort s t.0) (record c { versions = versions; table = table; tale = tale })
    stands_undone versions tale front left =
        subst (λ (p : VersionsData × List TalePlace). StandsAmong rs opening (steps ++ Aborts t.0 ∷ []) (after_abort s t.0) (record c { versions = p.0; table = table; tale = p.1 }))
        (λ i. (record { slots = sym front.slots i; lists = sym front.lists i; places = versions.places }, sym left i))
        (stands_by_places rs opening _ _ _ versions.places front.places undone)
