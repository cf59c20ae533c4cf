-- A transaction is aborted, a read-only one or another: what the core stands for then.
use Rattle.std.proofs.Common.{◌≡◌, ◌≢◌, ◌≤◌, ◌∙◌, ℕ, Bool, true, false, not, cond, List, [], ◌∷◌, ◌++◌, Option, None, Some, refl, sym, ap, subst}
use Rattle.std.specs.Prelude.{◌==◌, ◌&&◌, slice_set, IsSome}
use Rattle.std.specs.Option.{is_some}
use Rattle.std.specs.List.{AllByRecursion}
use Rattle.std.proofs.lemmas.Bool.{eq-eqb, true≢false}
use Rattle.mvo_types.specs.declared.ids.TxId.{TxId}
use Rattle.mvo_types.specs.Keys.{Map}
use Rattle.mvo_model.specs.Trace.{Step}
use Rattle.mvo_model.specs.Trace.Step.{Aborts}
use Rattle.mvo_theory.specs.State.{State, StampedTx, preparing_of}
use Rattle.mvo_theory.specs.Steps.{after_abort_of, after_abort}
use Rattle.mvo_readonly.specs.Whole.{ReaderStage, stage_of}
use Rattle.mvo_readonly.specs.Whole.ReaderStage.{Reading as IsReading, Preparing as IsPreparing, Committed as IsCommitted, Aborted as IsAborted}
use Rattle.mvo_readonly.specs.WholeCalls.{with_stage}
use Rattle.mvo_txn.specs.declared.state.TxState.{TxState}
use Rattle.mvo_txn.specs.declared.state.TxState.TheVariants.{Active, Preparing, Committed, Aborted}
use Rattle.mvo_txn.specs.Txns as txns
use Rattle.mvo_txn.specs.Txns.{Txns, state_of, IsUnended}
use Rattle.mvo_deps.specs.declared.node.Node.{Node}
use Rattle.mvo_deps.specs.Data as deps
use Rattle.mvo_deps.specs.Nodes.{IsReported}
use Rattle.mvo_deps.specs.Graph.{KeepsGraphAtAbort}
use Rattle.mvo_tale.specs.declared.tale_place.TalePlace.{TalePlace}
use Rattle.mvo_tale.specs.declared.tale_place.TalePlace.TheVariants.{Empty}
use Rattle.mvo_tale.specs.Slots.{ends, AreRising, reading_begin_at, closed_up}
use Rattle.mvo_tale.specs.WholePlaces.{has_ended, HasWholeTale}
use Rattle.mvo_tale.proofs.Gone.{ends_closed}
use Rattle.mvo_tale.proofs.ReadingMoves.{reading_closed, reading_elsewhere, reading_not_open, open_elsewhere}
use Rattle.mvo_tale.proofs.ReadingPlaces.{grouped_reading_left}
use Rattle.mvo_tale.proofs.Rising.{same_end}
use Rattle.mvo_tale.proofs.WholePlaces.{whole_left}
use Rattle.mvo_representation.specs.Order.{is_put_by}
use Rattle.mvo_versions.specs.Data.{VersionsData}
use Rattle.mvo_core.specs.declared.kept_transaction.KeptTransaction.{KeptTransaction}
use Rattle.mvo_core.specs.declared.kept_transaction.TransactionKind.TheVariants.{Other, Aborted as KindAborted}
use Rattle.mvo_core.specs.Aborting.{has_reading_place, tale_left, with_unfinished}
use Rattle.mvo_core.specs.Causes.{kind_kept, is_read_only, is_read_only_kind}
use Rattle.mvo_core.specs.Data.{CoreData, own_of}
use Rattle.mvo_core.specs.Fronts.{AreInFront}
use Rattle.mvo_core.specs.Keeping.{IsWritten, HasEndedAs, HasEndedIf}
use Rattle.mvo_core.specs.Own.{own_place}
use Rattle.mvo_core.specs.Readers.{Readers, reader_in, kind_at, HasStage, HaveStages, HasTalePlaces}
use Rattle.mvo_core.specs.Standing.{StandsAmong, words_in}
use Rattle.mvo_core.specs.WholeStanding.{HasSameWordList}
use Rattle.mvo_core.proofs.CausesTold.{kind_is, may_write}
use Rattle.mvo_core.proofs.OwnChanged.{IsOwnChanged, own_changed}
use Rattle.mvo_core.proofs.ReaderOwn.{IsOwnOfReader, reader_own, kind_unended, stages_moved}
use Rattle.mvo_core.proofs.ReaderTales.{each_emptied}
use Rattle.mvo_core.proofs.ReadersMoved.{readers_moved}
use Rattle.mvo_core.proofs.Reporting.{own_same}
use Rattle.mvo_core.proofs.Rest.{not_preparing_too, preparing_there}
use Rattle.mvo_core.proofs.TaleMoves.{open_closed}
use Rattle.mvo_core.proofs.Undone.{place_open, stands_undone}

-- ---- one that is none of the Preparing ones
no_stamped : (x : StampedTx) → ◌≡◌ {A = Option StampedTx} (Some x) None → ⊥
no_stamped x e = cc

pub none_preparing : (t : ℕ) (xs : List StampedTx) → preparing_of t xs ≡ None → AllByRecursion (λ x. x.settled ≡ false → x.id ≢ t) xs
none_preparing t [] e = tt
none_preparing t (x ∷ xs) e = (here, none_preparing t xs (go ((x.id == t) && not x.settled) e))
  where
    here : x.settled ≡ false → x.id ≢ t
    here open' is =
        let test : ((x.id == t) && not x.settled) ≡ true = ap (λ (b : Bool). b && not x.settled) (eq-eqb x.id t is) ∙ ap not open' in
        no_stamped x (sym (ap (λ (b : Bool). cond b (Some x) (preparing_of t xs)) test) ∙ e)

    go : (b : Bool) → cond b (Some x) (preparing_of t xs) ≡ None → preparing_of t xs ≡ None
    go true k = absurd (no_stamped x k)
    go false k = k

read_only_stage : (p : ReaderStage) → is_read_only_kind (kind_at p) ≡ true
read_only_stage IsReading = refl
read_only_stage (IsPreparing n v) = refl
read_only_stage IsCommitted = refl
read_only_stage IsAborted = refl

-- ---- what is kept of a read-only one that hasn't ended
module _ (rs : Readers) (opening : Map) (steps : List Step) (s : State) (c : CoreData) (h : StandsAmong rs opening steps s c) (t : ℕ) (p : ReaderStage) (is : stage_of t rs.unfinished ≡ Some p) where
  pub reader_kept : IsOwnOfReader c.tale t (own_of c.table t) p
  reader_kept = reader_own c.tale t (own_of c.table t) p (subst (HasStage c.tale t (reader_in (own_of c.table t))) is (h.stages t))

  pub reader_is_read_only : is_read_only (own_of c.table t) ≡ true
  reader_is_read_only = ap is_read_only reader_kept.kept ∙ ap is_read_only_kind reader_kept.kind ∙ read_only_stage p

  module _ (going : has_ended p ≡ false) where
    pub place_reading : reading_begin_at c.tale (own_place (own_of c.table t)) ≡ Some t
    place_reading = ap (λ o. reading_begin_at c.tale (own_place o)) reader_kept.kept ∙ reader_kept.place going

    pub kind_reading : has_reading_place (kind_kept (own_of c.table t)) ≡ true
    kind_reading = ap (λ o. has_reading_place (kind_kept o)) reader_kept.kept ∙ ap has_reading_place reader_kept.kind ∙ kind_unended p going

    -- for the table it is Active
    pub reader_active : IsUnended (state_of c.table t) → state_of c.table t ≡ Some Active
    reader_active = go (state_of c.table t) refl
      where
        go : (o : Option TxState) → state_of c.table t ≡ o → IsUnended o → o ≡ Some Active
        go None was un = absurd un
        go (Some Active) was un = refl
        go (Some (Preparing e)) was un =
            let x = preparing_there rs opening steps s c h t e was in
            absurd (reading_not_open c.tale (own_place (own_of c.table t)) (own_place (own_of c.table t)) t x.0.end place_reading (place_open rs opening steps s c h t x.0 x.1) refl)
        go (Some (Committed e)) was un = absurd un
        go (Some Aborted) was un = absurd un

  pub reader_apart : state_of c.table t ≡ Some Active → AllByRecursion (λ x. x.settled ≡ false → x.id ≢ t) s.stamped
  reader_apart was = none_preparing t s.stamped (not_preparing_too rs opening steps s c h t was)

-- ---- it is aborted
module _ (rs : Readers) (opening : Map) (steps : List Step) (s : State) (c : CoreData) (h : StandsAmong rs opening steps s c) (t : TxId) (unended : IsUnended (state_of c.table t.0)) (untold table : Txns (Node KeptTransaction)) (is : untold ≡ txns.table_after_change c.table t.0 Aborted)
    (told : IsReported (deps.after_dependency_abort t) untold table t) (graph : KeepsGraphAtAbort untold table t) (versions : VersionsData) (tale : List TalePlace) (front : AreInFront (is_put_by t.0) c.versions versions (words_in table t.0))
    (left : tale ≡ tale_left (state_of c.table t.0) (kind_kept (own_of c.table t.0)) c.tale (own_place (own_of c.table t.0))) (last : Txns (Node KeptTransaction)) (ended : HasEndedIf (is_read_only (own_of c.table t.0)) KindAborted table last t.0) where
  -- where it is another
  pub other_aborted : stage_of t.0 rs.unfinished ≡ None → StandsAmong rs opening (steps ++ Aborts t.0 ∷ []) (after_abort s t.0) (record c { versions = versions; table = last; tale = tale })
  other_aborted other =
      let same : last ≡ table = subst (λ b. HasEndedIf b KindAborted table last t.0) (may_write rs opening steps s c h t.0 other) ended in
      subst (λ (x : Txns (Node KeptTransaction)). StandsAmong rs opening (steps ++ Aborts t.0 ∷ []) (after_abort s t.0) (record c { versions = versions; table = x; tale = tale })) (sym same)
      (stands_undone rs opening steps s c h t unended untold table is told graph versions tale front
      (left ∙ ap (λ k. tale_left (state_of c.table t.0) k c.tale (own_place (own_of c.table t.0))) (kind_is rs opening steps s c h t.0 other)))

  module _ (rising : AreRising (ends c.tale)) (p : ReaderStage) (at : stage_of t.0 rs.unfinished ≡ Some p) (going : has_ended p ≡ false) where
    abbrev place : ℕ
    place = own_place (own_of c.table t.0)

    abbrev emptied : List TalePlace
    emptied = closed_up (slice_set c.tale place Empty)

    abbrev then' : State
    then' = after_abort s t.0

    abbrev after : Readers
    after = with_unfinished rs (with_stage t.0 IsAborted rs.unfinished)

    active : state_of c.table t.0 ≡ Some Active
    active = reader_active rs opening steps s c h t.0 p at going unended

    reading : reading_begin_at c.tale place ≡ Some t.0
    reading = place_reading rs opening steps s c h t.0 p at going

    base : StandsAmong rs opening (steps ++ Aborts t.0 ∷ []) then' (record c { versions = versions; table = table; tale = c.tale })
    base = stands_undone rs opening steps s c h t unended untold table is told graph versions c.tale front (sym (ap (λ o. tale_left o Other c.tale place) active))

    tale_is : tale ≡ emptied
    tale_is = left ∙ ap (λ o. tale_left o (kind_kept (own_of c.table t.0)) c.tale place) active ∙ ap (λ (b : Bool). cond b emptied c.tale) (kind_reading rs opening steps s c h t.0 p at going)

    written : IsWritten table last t.0 (HasEndedAs KindAborted)
    written = subst (λ b. HasEndedIf b KindAborted table last t.0) (reader_is_read_only rs opening steps s c h t.0 p at) ended

    change : IsOwnChanged table last t.0 (HasEndedAs KindAborted)
    change = own_changed table last t.0 (HasEndedAs KindAborted) written

    same_work : IsWritten table last t.0 HasSameWordList
    same_work = record {
      before = written.before;
      after = written.after;
      was = written.was;
      is = written.is;
      changed = record { words = ap (λ w. w.words) written.changed.writes };
    }

    apart : AllByRecursion (λ x. x.settled ≡ false → x.id ≢ t.0) then'.stamped
    apart = subst (λ (o : Option StampedTx). AllByRecursion (λ x. x.settled ≡ false → x.id ≢ t.0) (after_abort_of s t.0 o).stamped) (sym (not_preparing_too rs opening steps s c h t.0 active))
        (reader_apart rs opening steps s c h t.0 p at active)

    whole : HasWholeTale (record { core = then'; readers = after.unfinished; committed_readers = rs.committed }) emptied
    whole = whole_left (record { core = then'; readers = rs.unfinished; committed_readers = rs.committed }) t.0 place c.tale rising reading (record { others = base.tale; readers = base.places.readers })

    places : HasTalePlaces after then'.start then'.clock emptied
    places = record {
      drawn = subst (AllByRecursion (λ d. d ≤ then'.clock)) (sym (ends_closed (slice_set c.tale place Empty))) (each_emptied (λ d. d ≤ then'.clock) c.tale place base.places.drawn);
      readers = whole.readers;
    }

    stages : HaveStages after.unfinished last emptied
    stages = stages_moved rs.unfinished c.table last c.tale emptied t.0 p IsAborted at
        (λ u ne. change.beside u ne ∙ own_same (deps.after_dependency_abort t) c.table untold table t Aborted is told u)
        (λ u n ne k. reading_closed (slice_set c.tale place Empty) n u (reading_elsewhere c.tale place n u Empty (λ i. ne (same_end u t.0 (sym k ∙ ap (λ (m : ℕ). reading_begin_at c.tale m) (sym i) ∙ reading))) k))
        (record { own = change.after; kept = change.is; kind = change.changed.kind; checked = tt; place = λ e. absurd (true≢false e) }) h.stages

    pub reader_aborted : StandsAmong after opening (steps ++ Aborts t.0 ∷ []) then' (record c { versions = versions; table = last; tale = tale })
    reader_aborted = subst (λ (xs : List TalePlace). StandsAmong after opening (steps ++ Aborts t.0 ∷ []) then' (record c { versions = versions; table = last; tale = xs })) (sym tale_is)
        (readers_moved rs after opening (steps ++ Aborts t.0 ∷ []) then' (record c { versions = versions; table = table; tale = c.tale }) t.0 last emptied base apart same_work
        (λ q d k. open_closed (slice_set c.tale place Empty) q d (open_elsewhere c.tale place q d Empty (reading_not_open c.tale place q t.0 d reading k) k))
        whole.others places stages (grouped_reading_left c.tale c.grouped c.closed place (ap is_some reading) base.grouped))

-- of one that is read-only something is kept
pub read_only_some : (o : Option KeptTransaction) → is_read_only o ≡ true → IsSome o
read_only_some None e = absurd (true≢false (sym e))
read_only_some (Some own) e = refl
