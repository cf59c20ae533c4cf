-- A call that collects; and what waits where a transaction draws its end, is settled or is aborted.
use Rattle.std.proofs.Common.{◌≡◌, ℕ, ◌+◌, ◌<◌, List, ◌++◌, length, None, Some, sym, ap, ◌∙◌, subst, arith}
use Rattle.std.specs.Prelude.{Result, Ok, Err, OnOk, IfErr}
use Rattle.mvo_types.specs.declared.limits.TheConstants.{MAX_STAMP}
use Rattle.mvo_types.specs.declared.ids.TxId.{TxId}
use Rattle.mvo_types.specs.declared.ids.Stamp.{Stamp}
use Rattle.mvo_types.specs.declared.refusal.Refusal.{Refusal}
use Rattle.mvo_types.specs.declared.row.RowKey.{RowKey}
use Rattle.mvo_types.specs.Keys.{Map}
use Rattle.mvo_model.specs.Trace.{Step}
use Rattle.mvo_theory.specs.State.{State}
use Rattle.mvo_txn.specs.declared.state.TxState.{TxState}
use Rattle.mvo_txn.specs.declared.state.TxState.TheVariants.{Preparing, Committed, Aborted}
use Rattle.mvo_txn.specs.Txns as txns
use Rattle.mvo_txn.specs.Txns.{Txns, state_of, spent_clock, IsUnended}
use Rattle.mvo_deps.specs.declared.node.Node.{Node}
use Rattle.mvo_deps.specs.Data as deps
use Rattle.mvo_deps.specs.Data.{without_dependents}
use Rattle.mvo_deps.specs.Nodes.{IsReported}
use Rattle.mvo_versions.specs.Data.{VersionsData}
use Rattle.mvo_representation.specs.Words.{end_in, ends_of, change_below, standing}
use Rattle.mvo_representation.specs.Table.{phase_as, phases_of}
use Rattle.mvo_representation.specs.Indexes.{all_versions}
use Rattle.mvo_representation.specs.Order.{is_put_by}
use Rattle.mvo_representation.proofs.Decided.{none_end}
use Rattle.mvo_collect.specs.declared.collection.Collection.{Collection}
use Rattle.mvo_collect.specs.declared.collection.Collection.TheVariants.{Collected, Nothing}
use Rattle.mvo_collect.specs.Garbage.{horizon}
use Rattle.mvo_collect.specs.Waiting.{WaitingData, AreWaiting}
use Rattle.mvo_collect.specs.Collecting.{IsCollection}
use Rattle.mvo_collect.specs.Laws.{VersionsStand, IsCountedSo, IsFreeBegin, waiting_drawn, end_numbers}
use Rattle.mvo_collect.proofs.Awaited.{draw_keeps_waiting}
use Rattle.mvo_collect.proofs.Collections.{collection_stands, collection_counts}
use Rattle.mvo_collect.proofs.Needed.{ends_are_listed}
use Rattle.mvo_collect.proofs.Same.{collect_shows_same}
use Rattle.mvo_core.specs.Readers.{Readers}
use Rattle.mvo_core.specs.declared.kept_transaction.KeptTransaction.{KeptTransaction}
use Rattle.mvo_core.specs.Causes.{why_not_active}
use Rattle.mvo_core.specs.Collecting.{IsTaken}
use Rattle.mvo_content.specs.Done.{DoneData}
use Rattle.mvo_core.specs.Data.{CoreData}
use Rattle.mvo_core.specs.Own.{done_in}
use Rattle.mvo_core.specs.Fronts.{comes_at_draw, AreInFront}
use Rattle.mvo_core.specs.Keeping.{IsWritten, IsWrittenThen, IsPlacedInTale, HasHandedOver}
use Rattle.mvo_core.specs.Standing.{words_in, StandsAmong}
use Rattle.mvo_core.proofs.Drawing.{clock_written, was_active, others, here, over_limit, none_refusal}
use Rattle.mvo_core.proofs.OwnChanged.{IsOwnChanged, own_changed}
use Rattle.mvo_core.proofs.Reporting.{stands_now, others_stand}
use Rattle.mvo_core.proofs.Undone.{was_state}
use Rattle.mvo_core.proofs.Waits.{clock_changed, alike_written, waits_alike, waits_beside, waits_roomy_ended}

-- ---- what the versions, the table and what waits are tied to
module _ (rs : Readers) (opening : Map) (steps : List Step) (s : State) (c : CoreData) (h : StandsAmong rs opening steps s c) where
  pub stands_with : (w : WaitingData) → AreWaiting c.table.clock (state_of c.table) c.versions.slots w → VersionsStand opening s (state_of c.table) c.versions (words_in c.table) w
  stands_with w waits = record {
    versions = h.versions;
    over = h.over;
    order = h.order;
    lists = h.words;
    waiting = subst (λ (n : ℕ). AreWaiting n (state_of c.table) c.versions.slots w) h.dependencies.stands.clock waits;
  }

  -- ---- a call that collects
  module _ (w : WaitingData) (waits : AreWaiting c.table.clock (state_of c.table) c.versions.slots w) (r : Collection) (new : VersionsData) (w' : WaitingData) (is : IsCollection c.start c.versions w r new w') where
    is_here : IsCollection s.start c.versions w r new w'
    is_here = subst (λ (n : ℕ). IsCollection n c.versions w r new w') (sym h.start) is

    left : VersionsStand opening s (state_of c.table) new (words_in c.table) w'
    left = collection_stands opening s (state_of c.table) c.versions new (words_in c.table) w w' r (stands_with w waits) is_here

    pub collected_stands : StandsAmong rs opening steps s (record c { versions = new })
    collected_stands = record {
      kept = h.kept;
      versions = left.versions;
      dependencies = h.dependencies;
      order = left.order;
      works = h.works;
      words = left.lists;
      tale = h.tale;
      places = h.places;
      stages = h.stages;
      marks = h.marks;
      grouped = h.grouped;
      start = h.start;
      over = h.over;
      beside = h.beside;
    }

    pub collected_waits : AreWaiting c.table.clock (state_of c.table) new.slots w'
    collected_waits = subst (λ (n : ℕ). AreWaiting n (state_of c.table) new.slots w') (sym h.dependencies.stands.clock) left.waiting

    pub collected_counts : IsCountedSo (horizon s) c.versions.slots new.slots r
    collected_counts = collection_counts opening s (state_of c.table) c.versions new (words_in c.table) w w' r (stands_with w waits) is_here

    pub collected_shows : (b : ℕ) (k : RowKey) → IsFreeBegin s (state_of c.table) c.versions.slots b
        → standing (change_below (ends_of (phases_of (state_of c.table))) b k (all_versions new.slots))
        ≡ standing (change_below (ends_of (phases_of (state_of c.table))) b k (all_versions c.versions.slots))
    collected_shows b k free = go r is_here
      where
        go : (x : Collection) → IsCollection s.start c.versions w x new w'
            → standing (change_below (ends_of (phases_of (state_of c.table))) b k (all_versions new.slots))
            ≡ standing (change_below (ends_of (phases_of (state_of c.table))) b k (all_versions c.versions.slots))
        go Collected q = collect_shows_same opening s (state_of c.table) c.versions new (words_in c.table) w q.0 b k (stands_with w waits) q.1 free
        go Nothing q = ap (λ (v : VersionsData). standing (change_below (ends_of (phases_of (state_of c.table))) b k (all_versions v.slots))) q.0

pub taken_so : (start : ℕ) (old new : VersionsData) (w w' : WaitingData) (r : Collection) → IsCollection start old w r new w' → IsTaken start old r new
taken_so start old new w w' Collected q = (q.0, q.1)
taken_so start old new w w' Nothing q = q.0

-- ---- a transaction draws its end
module _ (rs : Readers) (opening : Map) (steps : List Step) (s : State) (c : CoreData) (h : StandsAmong rs opening steps s c) (t : TxId) (none : why_not_active c.table t.0 ≡ None) (place : ℕ) (last : place ≡ length c.tale) (e : Stamp) (drawn : e.0 ≡ c.table.clock + 1) (versions : VersionsData)
    (front : AreInFront (comes_at_draw (state_of c.table) t.0) c.versions versions (words_in c.table t.0)) where
  module _ (taken : DoneData) (same : taken.history ≡ done_in c.works t.0) (placed : Txns (Node KeptTransaction)) (written : IsWritten c.table placed t.0 (IsPlacedInTale place taken)) where
    change : IsOwnChanged c.table placed t.0 (IsPlacedInTale (length c.tale) taken)
    change = own_changed c.table placed t.0 (IsPlacedInTale (length c.tale) taken) (subst (λ (n : ℕ). IsWritten c.table placed t.0 (IsPlacedInTale n taken)) last written)

    same_clock : placed.clock ≡ c.table.clock
    same_clock = clock_written c.table placed t.0 (IsPlacedInTale place taken) written

    end_is : e ≡ record { 0 = placed.clock + 1 }
    end_is = λ i. record { 0 = (drawn ∙ ap (λ (n : ℕ). n + 1) (sym same_clock)) i }

    prepared_waits : (w roomy w' : WaitingData) → roomy ≡ record w { ended_room = roomy.ended_room }
        → w' ≡ record roomy { ended = roomy.ended ++ waiting_drawn e (end_numbers (words_in c.table t.0)); ended_room = w'.ended_room }
        → AreWaiting c.table.clock (state_of c.table) c.versions.slots w
        → AreWaiting (placed.clock + 1) (state_of (txns.table_after_prepare placed t.0)) versions.slots w'
    prepared_waits w roomy w' room is waits =
        let states' = state_of (txns.table_after_prepare placed t.0) in
        let ns = end_numbers (words_in c.table t.0) in
        let roomy_waits = waits_roomy_ended c.table.clock (state_of c.table) c.versions.slots w roomy roomy.ended_room room waits in
        let now = draw_keeps_waiting opening s (state_of c.table) states' c.versions (words_in c.table) roomy t.0 e ns (stands_with rs opening steps s c h roomy roomy_waits)
        (was_active rs opening steps s c h t none) (others rs opening steps s c h t none taken same placed change)
        (subst (λ (x : Stamp). states' t.0 ≡ Some (Preparing x)) (sym end_is) (here rs opening steps s c h t none taken same placed change))
        (drawn ∙ ap (λ (n : ℕ). n + 1) h.dependencies.stands.clock)
        (λ n x at named. ends_are_listed s c.versions.slots (words_in c.table) t.0 n x h.words at named) in
        let clock : s.clock + 1 ≡ placed.clock + 1 = ap (λ (n : ℕ). n + 1) (sym (same_clock ∙ h.dependencies.stands.clock)) in
        waits_roomy_ended (placed.clock + 1) states' versions.slots (record roomy { ended = roomy.ended ++ waiting_drawn e ns }) w' w'.ended_room
        is
        (subst (λ ss. AreWaiting (placed.clock + 1) states' ss (record roomy { ended = roomy.ended ++ waiting_drawn e ns })) (sym front.slots)
        (subst (λ (n : ℕ). AreWaiting n states' c.versions.slots (record roomy { ended = roomy.ended ++ waiting_drawn e ns })) clock now))

  pub drawn_waits : (taken : DoneData) → taken.history ≡ done_in c.works t.0 → c.table.clock < MAX_STAMP → (w roomy w' : WaitingData) → roomy ≡ record w { ended_room = roomy.ended_room }
      → w' ≡ record roomy { ended = roomy.ended ++ waiting_drawn e (end_numbers (words_in c.table t.0)); ended_room = w'.ended_room }
      → AreWaiting c.table.clock (state_of c.table) c.versions.slots w
      → (result : Result Stamp Refusal) (table : Txns (Node KeptTransaction)) → OnOk result (IsWrittenThen c.table table t.0 (IsPlacedInTale place taken) (λ x. txns.table_after_prepare x t.0)) → IfErr result (λ why. spent_clock c.table.clock ≡ Some why)
      → AreWaiting table.clock (state_of table) versions.slots w'
  drawn_waits taken same lt w roomy w' room is waits (Ok d) table made spent =
      subst (λ (x : Txns (Node KeptTransaction)). AreWaiting x.clock (state_of x) versions.slots w') (sym made.is) (prepared_waits taken same made.between made.written w roomy w' room is waits)
  drawn_waits taken same lt w roomy w' room is waits (Err why) table made spent =
      absurd (none_refusal why (sym (ap (λ b. Rattle.std.proofs.Common.cond b (Some Rattle.mvo_types.specs.declared.refusal.Refusal.TheVariants.ClockSpent) None) (over_limit MAX_STAMP c.table.clock lt)) ∙ spent))

-- ---- one stands otherwise, and is reported
reported_clock : (f : deps.DependencyData → deps.DependencyData) (old untold new : Txns (Node KeptTransaction)) (t : TxId) (state : TxState) → untold ≡ txns.table_after_change old t.0 state → IsReported f untold new t → new.clock ≡ old.clock
reported_clock f old untold new t state is told = told.clock ∙ clock_changed untold t.0 without_dependents ∙ ap (λ (x : Txns (Node KeptTransaction)). x.clock) is

-- it is aborted
pub aborted_waits : (old untold table : Txns (Node KeptTransaction)) (t : TxId) (v new : VersionsData) (w : WaitingData) (ws : List Rattle.mvo_work.specs.declared.word_place.WordPlace.WordPlace) → IsUnended (state_of old t.0)
    → untold ≡ txns.table_after_change old t.0 Aborted → IsReported (deps.after_dependency_abort t) untold table t → AreInFront (is_put_by t.0) v new ws
    → AreWaiting old.clock (state_of old) v.slots w → AreWaiting table.clock (state_of table) new.slots w
aborted_waits old untold table t v new w ws unended is told front h =
    let was = was_state (state_of old t.0) unended in
    let now = stands_now (deps.after_dependency_abort t) old untold table t Aborted is told was.0 was.1 in
    let clock = reported_clock (deps.after_dependency_abort t) old untold table t Aborted is told in
    subst (λ ss. AreWaiting table.clock (state_of table) ss w) (sym front.slots)
    (waits_beside old table t.0 v.slots w (omega (arith, clock)) (others_stand (deps.after_dependency_abort t) old untold table t Aborted is told)
    (λ e q. absurd (none_end e (ap (λ o. end_in (phase_as o)) (sym now) ∙ q))) h)

-- it is settled
pub committed_waits : (old untold table : Txns (Node KeptTransaction)) (t : TxId) (e : Stamp) (v : VersionsData) (w : WaitingData) → state_of old t.0 ≡ Some (Preparing e)
    → IsWrittenThen old untold t.0 HasHandedOver (λ x. txns.table_after_change x t.0 (Committed e)) → IsReported deps.after_dependency_commit untold table t
    → AreWaiting old.clock (state_of old) v.slots w → AreWaiting table.clock (state_of table) v.slots w
committed_waits old untold table t e v w was written told h =
    let handed = written.between in
    let alike = alike_written old handed t.0 HasHandedOver written.written in
    let before : state_of handed t.0 ≡ Some (Preparing e) = alike.states t.0 ∙ was in
    let now = stands_now deps.after_dependency_commit handed untold table t (Committed e) written.is told (Preparing e) before in
    let clock = reported_clock deps.after_dependency_commit handed untold table t (Committed e) written.is told in
    waits_beside handed table t.0 v.slots w (omega (arith, clock)) (others_stand deps.after_dependency_commit handed untold table t (Committed e) written.is told)
    (λ d q. ap (λ o. end_in (phase_as o)) before ∙ sym (ap (λ o. end_in (phase_as o)) now) ∙ q)
    (waits_alike old handed v.slots w alike h)
