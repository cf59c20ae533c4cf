-- A Preparing transaction is settled: what the core stands for then.
use Rattle.std.proofs.Common.{◌≡◌, ◌≢◌, ℕ, ◌<◌, Bool, true, false, not, cond, List, ◌++◌, append-nil, Option, None, Some, map, refl, sym, ap, ◌∙◌, subst, arith}
use Rattle.std.specs.Prelude.{◌==◌, ◌||◌, slice_set, MatchOption}
use Rattle.std.specs.Option.{is_some, option_map}
use Rattle.std.specs.List.{AllByRecursion}
use Rattle.std.proofs.lemmas.Bool.{eq-eqb, ne_eqb, false≢true}
use Rattle.mvo_types.specs.declared.ids.TxId.{TxId}
use Rattle.mvo_types.specs.declared.ids.Stamp.{Stamp}
use Rattle.mvo_types.specs.declared.refusal.Refusal.{Refusal}
use Rattle.mvo_types.specs.declared.refusal.Refusal.TheVariants.{NotValidated}
use Rattle.mvo_types.specs.Keys.{Map}
use Rattle.mvo_model.specs.Trace.{Step}
use Rattle.mvo_theory.specs.State.{State, StampedTx, preparing_of}
use Rattle.mvo_types.specs.Causes.{when}
use Rattle.mvo_theory.specs.Causes.{was_valid, why_not_settle, awaited, end_at, end_of}
use Rattle.mvo_theory.specs.Changes.{with_settled, after_commit}
use Rattle.mvo_theory.specs.Steps.{after_commit_of, after_settle_unless, after_settle}
use Rattle.mvo_theory.specs.Calls.{IsRefusal, MayCome, steps_unless}
use Rattle.mvo_theory.specs.Calls.Call.{Settle}
use Rattle.mvo_theory.specs.Calls.Result.{Accepted, Refused}
use Rattle.mvo_theory.proofs.Commits.{split_at}
use Rattle.mvo_theory.proofs.Each.{each_both, each_map, each_weaker}
use Rattle.mvo_theory.proofs.OriginEnds.{alone_at}
use Rattle.mvo_theory.specs.Sound.{IsRising, IsPlaced}
use Rattle.mvo_txn.specs.declared.state.TxState.TheVariants.{Preparing, Committed}
use Rattle.mvo_txn.specs.Txns as txns
use Rattle.mvo_txn.specs.Txns.{Txns, state_of, IsPreparingState as StandsPreparing}
use Rattle.mvo_deps.specs.declared.node.Node.{Node}
use Rattle.mvo_deps.specs.Data as deps
use Rattle.mvo_deps.specs.Nodes.{IsReported, data_of}
use Rattle.mvo_deps.specs.Graph.{KeepsGraphAtCommit}
use Rattle.mvo_deps.specs.Waiting.{IsLeastOpen, HasNoneOpen}
use Rattle.mvo_tale.specs.declared.tale_place.TalePlace.{TalePlace}
use Rattle.mvo_tale.specs.declared.tale_place.TalePlace.TheVariants.{Settled}
use Rattle.mvo_tale.specs.Stored.{StoredCommit}
use Rattle.mvo_tale.specs.Kept.{IsTale}
use Rattle.mvo_tale.specs.Others.{ends_at_begin, others_places}
use Rattle.mvo_tale.specs.Slots.{open_end_at}
use Rattle.mvo_tale.proofs.Moving.{grouped_settled}
use Rattle.mvo_tale.proofs.ReadingMoves.{reading_elsewhere, reading_not_open}
use Rattle.mvo_representation.specs.WordLists.{HasWordLists}
use Rattle.mvo_representation.proofs.Facts.{found_holds}
use Rattle.mvo_representation.proofs.Unsettled.{alone}
use Rattle.mvo_readonly.specs.Whole.{stage_of}
use Rattle.mvo_core.specs.Readers.{Readers, reader_in}
use Rattle.mvo_core.specs.declared.kept_transaction.KeptTransaction.{KeptTransaction}
use Rattle.mvo_core.specs.declared.answers.Settlement.TheVariants as settlement
use Rattle.mvo_core.specs.Data.{CoreData, own_of}
use Rattle.mvo_core.specs.Own.{is_own_valid, own_place, own_history}
use Rattle.mvo_core.specs.Standing.{IsKeptActive, IsKeptPreparing, HasWorks, words_in, StandsAmong}
use Rattle.mvo_core.specs.Causes.{why_not_preparing}
use Rattle.mvo_core.specs.Aborting.{IsGivenUp}
use Rattle.mvo_core.specs.Keeping.{IsWrittenThen, HasHandedOver}
use Rattle.mvo_core.specs.Steps.{settled_as, LeadsAmong}
use Rattle.mvo_core.proofs.EndCauses.{not_settled_is, other_prepared, or_first, or_last}
use Rattle.mvo_core.proofs.EndLaws.{awaited_told, commit_in_table, commit_in_order, commit_in_lists}
use Rattle.mvo_core.proofs.GivenUp.{settle_given_up}
use Rattle.mvo_core.proofs.OwnChanged.{IsOwnChanged, own_changed, words_stay}
use Rattle.mvo_core.proofs.ReaderStages.{AreSameReaders, KeepsReading, stages_kept, same_reader, readers_but}
use Rattle.mvo_core.proofs.ReaderTales.{places_stored}
use Rattle.mvo_core.proofs.Reporting.{own_same, words_same, stands_now, others_stand}
use Rattle.mvo_core.proofs.Rest.{HasRest, preparing_there, stands_then}
use Rattle.mvo_core.proofs.KeptTale.{tale_settled_among}
use Rattle.mvo_core.proofs.TaleMoves.{IsCommitOf, open_beside}
use Rattle.mvo_core.proofs.Undone.{IsKeptOfPreparing, kept_of_preparing, place_open}

or_parts : (a b : Bool) → (a || b) ≡ false → (a ≡ false) × (b ≡ false)
or_parts true b h = absurd (false≢true (sym h))
or_parts false b h = (refl, h)

apart_by : (a b : ℕ) → (a == b) ≡ false → a ≢ b
apart_by a b h q = false≢true (sym h ∙ eq-eqb a b q)

-- it is refused before it is looked whether it is validated
pub settle_refused : (rs : Readers) (opening : Map) (steps : List Step) (s : State) (c : CoreData) → StandsAmong rs opening steps s c → (t : ℕ) → stage_of t rs.unfinished ≡ None → (r : Refusal) (new : CoreData) → why_not_preparing c.table t ≡ Some r → IsGivenUp c t r new
    → LeadsAmong rs opening steps s (Settle t) (Refused r) new
settle_refused rs opening steps s c h t other r new why left = settle_given_up rs opening steps s c new h t other r left
    (sym (not_settled_is rs opening steps s c h t other) ∙ or_first (why_not_preparing c.table t) (when (not (was_valid (preparing_of t s.stamped))) NotValidated) r why)

module _ (rs : Readers) (opening : Map) (steps : List Step) (s : State) (c : CoreData) (h : StandsAmong rs opening steps s c) (t : TxId) (none : why_not_preparing c.table t.0 ≡ None) (other : stage_of t.0 rs.unfinished ≡ None) where
  -- ---- it is Preparing
  abbrev pub prepared : (e : Stamp) × (state_of c.table t.0 ≡ Some (Preparing e))
  prepared = other_prepared rs opening steps s c h t.0 other none

  pub found : (x : StampedTx) × (preparing_of t.0 s.stamped ≡ Some x) × (x.end ≡ prepared.0.0)
  found = preparing_there rs opening steps s c h t.0 prepared.0 prepared.1

  pub valid_is : is_own_valid (own_of c.table t.0) ≡ was_valid (preparing_of t.0 s.stamped)
  valid_is =
      let x = found in
      let k = kept_of_preparing rs opening steps s c h t.0 x.0 x.1 in
      ap is_own_valid k.kept ∙ ap (λ own. own.valid) (sym k.own_is) ∙ k.same.valid ∙ sym (ap was_valid x.1)

  why : (b : Bool) → is_own_valid (own_of c.table t.0) ≡ b → why_not_settle s t.0 ≡ when (not b) NotValidated
  why b v =
      sym (not_settled_is rs opening steps s c h t.0 other)
      ∙ or_last (why_not_preparing c.table t.0) (when (not (was_valid (preparing_of t.0 s.stamped))) NotValidated) none
      ∙ ap (λ (d : Bool). when (not d) NotValidated) (sym valid_is ∙ v)

  -- ---- it isn't validated
  pub unvalidated_leads : is_own_valid (own_of c.table t.0) ≡ false → LeadsAmong rs opening steps s (Settle t.0) (Refused NotValidated) c
  unvalidated_leads v = record {
    may = subst (λ o. IsRefusal false o NotValidated) (sym (why false v)) refl;
    stands = subst (λ ys. StandsAmong rs opening ys s c) (sym (append-nil steps)) h;
  }

  may : is_own_valid (own_of c.table t.0) ≡ true → MayCome s (Settle t.0) Accepted
  may v = (why true v, tt)

  -- ---- it waits
  told : (whom : Option TxId) → MatchOption whom (HasNoneOpen c.table (data_of c.table t).on) (IsLeastOpen c.table (data_of c.table t).on) → option_map (λ id. id.0) whom ≡ option_map (λ x. x.id) (awaited s t.0)
  told whom m = awaited_told opening s c.table t whom h.versions.kept h.dependencies (subst StandsPreparing (sym prepared.1) refl) m

  none_id : (n : ℕ) → ◌≡◌ {A = Option ℕ} (Some n) None → ⊥
  none_id n q = cc

  same_id : (n m : ℕ) → ◌≡◌ {A = Option ℕ} (Some n) (Some m) → n ≡ m
  same_id n m q = cc

  whom_at : (other : TxId) (o : Option StampedTx) → Some other.0 ≡ option_map (λ x. x.id) o → (x : StampedTx) × (o ≡ Some x) × (other.0 ≡ x.id)
  whom_at other None q = absurd (none_id other.0 q)
  whom_at other (Some x) q = (x, refl, same_id other.0 x.id q)

  none_at : (o : Option StampedTx) → None ≡ option_map (λ x. x.id) o → o ≡ None
  none_at None q = refl
  none_at (Some x) q = absurd (none_id x.id (sym q))

  pub waits_leads : (other : TxId) → IsLeastOpen c.table (data_of c.table t).on other → is_own_valid (own_of c.table t.0) ≡ true → LeadsAmong rs opening steps s (Settle t.0) Accepted c
  waits_leads other least v =
      let x = whom_at other (awaited s t.0) (told (Some other) least) in
      record {
        may = may v;
        stands = subst (λ o. StandsAmong rs opening (steps ++ steps_unless t.0 (end_of s t.0) o) (after_settle_unless s t.0 o) c) (sym x.1)
            (subst (λ ys. StandsAmong rs opening ys s c) (sym (append-nil steps)) h);
      }

  pub waits_for : (other : TxId) → IsLeastOpen c.table (data_of c.table t).on other → settlement.Waiting other ≡ settled_as s t.0 (awaited s t.0)
  waits_for other least =
      let x = whom_at other (awaited s t.0) (told (Some other) least) in
      ap (λ (n : ℕ). settlement.Waiting (record { 0 = n })) x.2 ∙ sym (ap (settled_as s t.0) x.1)

  -- ---- it is committed
  pub commits_as : HasNoneOpen c.table (data_of c.table t).on → (end' : Stamp) → state_of c.table t.0 ≡ Some (Preparing end') → settlement.Committed end' ≡ settled_as s t.0 (awaited s t.0)
  commits_as least end' was =
      let x = preparing_there rs opening steps s c h t.0 end' was in
      ap (λ (n : ℕ). settlement.Committed (record { 0 = n })) (sym x.2 ∙ sym (ap end_at x.1)) ∙ sym (ap (settled_as s t.0) (none_at (awaited s t.0) (told None least)))

  module _ (end' : Stamp) (was : state_of c.table t.0 ≡ Some (Preparing end')) where
    abbrev there : (x : StampedTx) × (preparing_of t.0 s.stamped ≡ Some x) × (x.end ≡ end'.0)
    there = preparing_there rs opening steps s c h t.0 end' was

    abbrev x : StampedTx
    x = there.0

    abbrev place : ℕ
    place = own_place (own_of c.table t.0)

    kept : IsKeptOfPreparing rs opening steps s c h t.0 x
    kept = kept_of_preparing rs opening steps s c h t.0 x there.1

    pub place_there : open_end_at c.tale place ≡ Some end'.0
    place_there = place_open rs opening steps s c h t.0 x there.1 ∙ ap (λ (n : ℕ). Some n) there.2

    module _ (untold table : Txns (Node KeptTransaction)) (handed : IsWrittenThen c.table untold t.0 HasHandedOver (λ y. txns.table_after_change y t.0 (Committed end'))) (tells : IsReported deps.after_dependency_commit untold table t)
        (graph : KeepsGraphAtCommit untold table t) (entry : StoredCommit) (id : entry.id ≡ t.0) (ends : entry.end ≡ end'.0) (history : entry.history ≡ own_history (own_of c.table t.0)) where
      abbrev taken : Txns (Node KeptTransaction)
      taken = handed.between

      change : IsOwnChanged c.table taken t.0 HasHandedOver
      change = own_changed c.table taken t.0 HasHandedOver handed.written

      beside : (u : ℕ) → u ≢ t.0 → own_of table u ≡ own_of c.table u
      beside u ne = own_same deps.after_dependency_commit taken untold table t (Committed end') handed.is tells u ∙ change.beside u ne

      at : open_end_at c.tale place ≡ Some entry.end
      at = place_there ∙ ap (λ (n : ℕ). Some n) (sym ends)

      x_ends : x.end ≡ entry.end
      x_ends = there.2 ∙ sym ends

      history_is : x.history ≡ entry.history
      history_is = sym (history ∙ ap own_history kept.kept ∙ ap (λ own. own.taken.history) (sym kept.own_is) ∙ kept.same.history)

      -- ---- what is kept of the others
      active_beside : AllByRecursion (λ r. r.id ≢ t.0) s.active
      active_beside = each_weaker (λ r. AllByRecursion (λ y. y.id ≢ r.id) s.stamped) (λ r. r.id ≢ t.0)
          (λ r k q. (found_holds (λ y. y.id ≢ r.id) t.0 s.stamped x there.1 k).0 (kept.is ∙ sym q)) s.active h.versions.kept.numbered.apart

      works_after : HasWorks (after_commit s t.0 x.end) table (slice_set c.tale place (Settled entry))
      works_after = record {
        active = each_both (λ r. r.id ≢ t.0) (IsKeptActive c.table) (IsKeptActive table) (λ r ne w. record { own = w.own; kept = beside r.id ne ∙ w.kept }) s.active active_beside h.works.active;
        preparing = each_map (with_settled x.end) (λ y. (y.settled ≡ false → (y.id == t.0) ≡ (y.end == x.end)) × (y.settled ≡ false → IsKeptPreparing c.table c.tale y)) (λ y. y.settled ≡ false → IsKeptPreparing table (slice_set c.tale place (Settled entry)) y)
            (λ y p o.
            let parts = or_parts y.settled (y.end == x.end) o in
            let w = p.1 parts.0 in
            record {
              own = w.own;
              kept = beside y.id (apart_by y.id t.0 (p.0 parts.0 ∙ parts.1)) ∙ w.kept;
              history = w.history;
              checked = λ v. w.checked v ∙ sym (ap (λ (b : Bool). cond b 0 y.checked) parts.1);
              valid = w.valid;
              place = open_beside c.tale place w.own.place (Settled entry) entry.end y.end at w.place (λ q. apart_by y.end x.end parts.1 (q ∙ sym x_ends));
            })
            s.stamped
            (each_both (λ y. y.settled ≡ false → (y.id == t.0) ≡ (y.end == x.end)) (λ y. y.settled ≡ false → IsKeptPreparing c.table c.tale y) (λ y. (y.settled ≡ false → (y.id == t.0) ≡ (y.end == x.end)) × (y.settled ≡ false → IsKeptPreparing c.table c.tale y)) (λ y a b. (a, b)) s.stamped
            (alone s h.versions.kept.single h.versions.kept.sound.rising t.0 x there.1) h.works.preparing);
      }

      -- ---- the read-only ones are as they were
      own_after : own_of table t.0 ≡ Some change.after
      own_after = own_same deps.after_dependency_commit taken untold table t (Committed end') handed.is tells t.0 ∙ change.is

      readers : AreSameReaders c.table table
      readers = readers_but c.table table t.0 beside
          (ap reader_in own_after ∙ same_reader change.before change.after change.changed.kind change.changed.place change.changed.checked change.changed.valid ∙ sym (ap reader_in change.was))

      keeps : KeepsReading c.tale (slice_set c.tale place (Settled entry))
      keeps q b k = reading_elsewhere c.tale place q b (Settled entry) (λ is. reading_not_open c.tale q place b entry.end k at (sym is)) k

      -- it ends above its begin
      apart : ends_at_begin entry ≡ false
      apart =
          let placed = found_holds (IsPlaced s.stamped s.clock) t.0 s.stamped x there.1 h.versions.kept.sound.placed in
          let begun = placed.0.begun in
          let named = kept.is in
          ne_eqb entry.id entry.end (λ q. omega (arith, begun, named, id, x_ends, q))

      is_commit : AllByRecursion (IsCommitOf entry) s.stamped
      is_commit =
          let p = split_at t.0 s.stamped x there.1 in
          each_weaker (λ y. y.end ≡ x.end → (y.id ≡ entry.id) × (y.history ≡ entry.history)) (IsCommitOf entry) (λ y g q. g (q ∙ sym x_ends)) s.stamped
          (subst (AllByRecursion (λ y. y.end ≡ x.end → (y.id ≡ entry.id) × (y.history ≡ entry.history))) (sym p.2)
          (alone_at p.0 p.1 x (subst IsRising p.2 h.versions.kept.sound.rising) (λ y. (y.id ≡ entry.id) × (y.history ≡ entry.history)) (kept.is ∙ sym id, history_is)))

      rest : HasRest rs (after_commit s t.0 x.end) table (slice_set c.tale place (Settled entry)) c
      rest = record {
        works = works_after;
        tale = subst (λ (n : ℕ). IsTale s.start s.marks.closed s.past (map (with_settled n) s.stamped) (others_places (slice_set c.tale place (Settled entry)))) (sym x_ends)
            (tale_settled_among s c.tale h.versions.kept.started h.versions.kept.sound.rising h.tale place entry at apart
            (subst (λ (n : ℕ). s.start < n) x_ends (found_holds (λ y. s.start < y.end) t.0 s.stamped x there.1 h.versions.kept.started.later).0) is_commit);
        places = places_stored rs s.start s.clock c.tale h.places place entry at apart;
        stages = stages_kept rs.unfinished c.table table c.tale (slice_set c.tale place (Settled entry)) readers keeps h.stages;
        marks = h.marks;
        grouped = grouped_settled c.tale c.grouped c.closed place entry (ap is_some at) h.grouped;
        start = h.start;
      }

      after_is : HasNoneOpen c.table (data_of c.table t).on → after_settle s t.0 ≡ after_commit s t.0 x.end
      after_is least = ap (after_settle_unless s t.0) (none_at (awaited s t.0) (told None least)) ∙ ap (after_commit_of s t.0) there.1

      before : state_of taken t.0 ≡ Some (Preparing end')
      before = change.states t.0 ∙ was

      here : state_of table t.0 ≡ Some (Committed end')
      here = stands_now deps.after_dependency_commit taken untold table t (Committed end') handed.is tells (Preparing end') before

      others : (u : ℕ) → u ≢ t.0 → state_of table u ≡ state_of c.table u
      others u ne = others_stand deps.after_dependency_commit taken untold table t (Committed end') handed.is tells u ne ∙ change.states u

      same_words : words_in c.table ≡ words_in table
      same_words = sym (words_stay c.table taken t.0 HasHandedOver change change.changed.words) ∙ words_same deps.after_dependency_commit taken untold table t (Committed end') handed.is tells

      stands_committed : HasNoneOpen c.table (data_of c.table t).on → is_own_valid (own_of c.table t.0) ≡ true
          → StandsAmong rs opening (steps ++ Rattle.mvo_theory.specs.Calls.steps_of s (Settle t.0) Accepted) (after_settle s t.0) (record c { table = table; tale = slice_set c.tale place (Settled entry) })
      stands_committed least v = stands_then rs opening steps s c h (Settle t.0) Accepted table c.versions.lists (slice_set c.tale place (Settled entry)) tt (λ g ws. refl) (may v) refl h.versions.numbers
          (subst (λ z. Rattle.mvo_representation.specs.Dependencies.HasDependencies z table) (ap (after_commit_of s t.0) there.1 ∙ sym (after_is least))
          (commit_in_table opening s taken untold table t end' h.versions.kept (change.dependencies s h.dependencies) before handed.is tells graph))
          (commit_in_order s.start (state_of c.table) (state_of table) c.versions.slots c.versions.lists t.0 end' others was here h.order)
          (subst (λ z. HasWordLists z c.versions.slots (words_in table)) (sym (after_is least))
          (subst (HasWordLists (after_commit s t.0 x.end) c.versions.slots) same_words
          (commit_in_lists opening s (state_of c.table) c.versions.slots c.versions.lists c.versions.places (words_in c.table) t.0 x h.versions there.1 h.words)))
          (subst (λ z. HasRest rs z table (slice_set c.tale place (Settled entry)) c) (sym (after_is least)) rest)

      pub commits_leads : HasNoneOpen c.table (data_of c.table t).on → is_own_valid (own_of c.table t.0) ≡ true → (tale : List TalePlace) → tale ≡ slice_set c.tale (own_place (own_of c.table t.0)) (Settled entry)
          → LeadsAmong rs opening steps s (Settle t.0) Accepted (record c { table = table; tale = tale })
      commits_leads least v tale left = record {
        may = may v;
        stands = subst (λ (p : List TalePlace). StandsAmong rs opening (steps ++ Rattle.mvo_theory.specs.Calls.steps_of s (Settle t.0) Accepted) (after_settle s t.0) (record c { table = table; tale = p })) (sym left) (stands_committed least v);
      }
