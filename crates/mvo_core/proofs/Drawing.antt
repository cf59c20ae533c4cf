-- An Active transaction draws its end: what the core stands for then.
use Rattle.std.proofs.Common.{◌≡◌, ◌≢◌, inl, ℕ, ◌+◌, ◌<◌, ◌≤◌, Bool, true, false, not, cond, List, [], ◌∷◌, ◌++◌, append-nil, length, Option, None, Some, refl, sym, ap, ◌∙◌, subst, arith}
use Rattle.std.specs.Prelude.{◌==◌, nat_le, Result, Ok, Err, OnOk, IfErr}
use Rattle.std.specs.Option.{option_map}
use Rattle.std.specs.List.{AllByRecursion}
use Rattle.std.proofs.lemmas.Bool.{eq-eqb, false≢true, le-leb, leb-true}
use Rattle.mvo_types.specs.declared.limits.TheConstants.{MAX_STAMP}
use Rattle.mvo_types.specs.declared.ids.TxId.{TxId}
use Rattle.mvo_types.specs.declared.ids.Stamp.{Stamp}
use Rattle.mvo_types.specs.declared.refusal.Refusal.{Refusal}
use Rattle.mvo_types.specs.declared.refusal.Refusal.TheVariants.{ClockSpent, OutOfMemory}
use Rattle.mvo_types.specs.Keys.{Map}
use Rattle.mvo_model.specs.Trace.{Step}
use Rattle.mvo_theory.specs.State.{State, ActiveTx, active_of}
use Rattle.mvo_types.specs.Causes.{when}
use Rattle.mvo_theory.specs.Causes.{why_not_precommit}
use Rattle.mvo_theory.specs.Changes.{to_stamped, after_prepare}
use Rattle.mvo_theory.specs.Steps.{after_precommit_of, after_precommit}
use Rattle.mvo_theory.specs.Calls.{IsRefusal}
use Rattle.mvo_theory.specs.Calls as theory
use Rattle.mvo_theory.specs.Calls.Call.{Precommit}
use Rattle.mvo_theory.specs.Calls.Result.{Accepted, Refused}
use Rattle.mvo_theory.proofs.Each.{each_append, each_both, each_filter, each_weaker}
use Rattle.mvo_theory.proofs.Who.{active_holds, id_of}
use Rattle.mvo_txn.specs.declared.state.TxState.TheVariants.{Active, Preparing}
use Rattle.mvo_txn.specs.Txns as txns
use Rattle.mvo_txn.specs.Txns.{Txns, state_of, kept_of, spent_clock}
use Rattle.mvo_deps.specs.declared.node.Node.{Node}
use Rattle.mvo_deps.proofs.Looks.{kept_restated, state_now, state_restated}
use Rattle.mvo_tale.specs.declared.tale_place.TalePlace.{TalePlace}
use Rattle.mvo_tale.specs.declared.tale_place.TalePlace.TheVariants.{Open}
use Rattle.mvo_tale.specs.Slots.{ends, open_end_at}
use Rattle.mvo_tale.proofs.Moving.{grouped_opened}
use Rattle.mvo_tale.proofs.ReadingMoves.{reading_behind}
use Rattle.mvo_representation.specs.Table.{phase_as, phases_of}
use Rattle.mvo_representation.specs.Order.{AreWrittenBy as HasWritten, MayAbort, with_fronts}
use Rattle.mvo_representation.specs.WordLists.{HasWordLists}
use Rattle.mvo_representation.proofs.Tabled.{active_is}
use Rattle.mvo_versions.specs.Data.{VersionsData}
use Rattle.mvo_readonly.specs.Whole.{stage_of}
use Rattle.mvo_core.specs.Readers.{Readers, reader_in}
use Rattle.mvo_core.specs.declared.kept_transaction.KeptTransaction.{KeptTransaction}
use Rattle.mvo_shared.specs.Held.{empty_work}
use Rattle.mvo_content.specs.Done.{DoneData}
use Rattle.mvo_content.specs.Works.{WorksData, HasWorkFor}
use Rattle.mvo_core.specs.Data.{CoreData, own_of}
use Rattle.mvo_core.specs.Own.{done_in}
use Rattle.mvo_core.specs.Standing.{IsKeptActive, IsKeptPreparing, HasWorks, own_words_of, words_in, StandsAmong}
use Rattle.mvo_core.specs.Causes.{why_not_active}
use Rattle.mvo_core.specs.Aborting.{IsGivenUp}
use Rattle.mvo_core.specs.Fronts.{comes_at_draw, numbers_in, AreInFront}
use Rattle.mvo_core.specs.Keeping.{IsWritten, IsWrittenThen, IsPlacedInTale, with_own_at}
use Rattle.mvo_core.specs.Steps.{came, LeadsAmong}
use Rattle.mvo_core.proofs.SamePlaces.{stands_by_places}
use Rattle.mvo_core.proofs.CausesTold.{stands_active}
use Rattle.mvo_core.proofs.EndCauses.{not_precommitted_is, or_first, or_last}
use Rattle.mvo_core.proofs.EndLaws.{precommit_in_table, draw_in_order, precommit_in_lists, lists_are_written, fronts_in_numbers}
use Rattle.mvo_core.proofs.GivenUp.{precommit_given_up}
use Rattle.mvo_core.proofs.OwnChanged.{IsOwnChanged, own_changed, words_stay, others_changed}
use Rattle.mvo_core.proofs.ReaderStages.{AreSameReaders, stages_kept}
use Rattle.mvo_core.proofs.ReaderTales.{places_later, places_with}
use Rattle.mvo_core.proofs.Rest.{HasRest, stands_then}
use Rattle.mvo_core.proofs.KeptTale.{tale_opened_among}
use Rattle.mvo_core.proofs.TaleMoves.{open_behind, open_last}
use Rattle.mvo_core.proofs.WorksHeld.{work_held, stands_taken_work}

-- ---- numbers
pub over_limit : (m n : ℕ) → n < m → nat_le m n ≡ false
over_limit m n lt = go (nat_le m n) refl
  where
    go : (b : Bool) → nat_le m n ≡ b → b ≡ false
    go true e = absurd (let le = leb-true m n e in omega arith)
    go false e = refl

pub none_refusal : (r : Refusal) → ◌≡◌ {A = Option Refusal} None (Some r) → ⊥
none_refusal r q = cc

not_true : (b : Bool) → not b ≡ true → b ≡ true → ⊥
not_true b h e = false≢true (sym (ap not e) ∙ h)

-- ---- what is written of one leaves the clock
pub clock_written : (old new : Txns (Node KeptTransaction)) (t : ℕ) (change : KeptTransaction → KeptTransaction → Type 0) → IsWritten old new t change → new.clock ≡ old.clock
clock_written old new t change w = ap (λ x. x.clock) w.is ∙ go (kept_of old t)
  where
    go : (o : Option (Node KeptTransaction)) → (with_own_at o old t w.after).clock ≡ old.clock
    go None = refl
    go (Some node) = refl

-- it is refused before the clock is looked at
pub precommit_refused : (rs : Readers) (opening : Map) (steps : List Step) (s : State) (c : CoreData) → StandsAmong rs opening steps s c → (t : ℕ) → stage_of t rs.unfinished ≡ None → (r : Refusal) (new : CoreData) → why_not_active c.table t ≡ Some r → IsGivenUp c t r new
    → LeadsAmong rs opening steps s (Precommit t) (Refused r) new
precommit_refused rs opening steps s c h t other r new why left = precommit_given_up rs opening steps s c new h t other r left
    (sym (not_precommitted_is rs opening steps s c h t other) ∙ or_first (why_not_active c.table t) (when (nat_le MAX_STAMP c.table.clock) ClockSpent) r why)

module _ (rs : Readers) (opening : Map) (steps : List Step) (s : State) (c : CoreData) (h : StandsAmong rs opening steps s c) where
  -- the ends that were drawn are up to the clock
  pub ends_below : (e : ℕ) → e ≡ c.table.clock + 1 → AllByRecursion (λ earlier. earlier < e) (ends c.tale)
  ends_below e is =
      let clock = h.dependencies.stands.clock in
      each_weaker (λ (earlier : ℕ). earlier ≤ s.clock) (λ (earlier : ℕ). earlier < e) (λ earlier le. omega (arith, le, clock, is)) (ends c.tale)
      h.places.drawn

  module _ (t : TxId) (none : why_not_active c.table t.0 ≡ None) where
    pub was_active : state_of c.table t.0 ≡ Some Active
    was_active = stands_active c.table t.0 none

    why : stage_of t.0 rs.unfinished ≡ None → (b : Bool) → nat_le MAX_STAMP c.table.clock ≡ b → why_not_precommit s t.0 ≡ when b ClockSpent
    why other b e =
        sym (not_precommitted_is rs opening steps s c h t.0 other)
        ∙ or_last (why_not_active c.table t.0) (when (nat_le MAX_STAMP c.table.clock) ClockSpent) none
        ∙ ap (λ (d : Bool). when d ClockSpent) e

    -- ---- the clock is spent, or memory is
    pub clock_spent_leads : stage_of t.0 rs.unfinished ≡ None → MAX_STAMP ≤ c.table.clock → LeadsAmong rs opening steps s (Precommit t.0) (Refused ClockSpent) c
    clock_spent_leads other le = record {
      may = subst (λ o. IsRefusal true o ClockSpent) (sym (why other true (le-leb MAX_STAMP c.table.clock le))) refl;
      stands = subst (λ ys. StandsAmong rs opening ys s c) (sym (append-nil steps)) h;
    }

    pub memory_spent_leads : stage_of t.0 rs.unfinished ≡ None → c.table.clock < MAX_STAMP → LeadsAmong rs opening steps s (Precommit t.0) (Refused OutOfMemory) c
    memory_spent_leads other lt = record {
      may = subst (λ o. IsRefusal true o OutOfMemory) (sym (why other false (over_limit MAX_STAMP c.table.clock lt))) refl;
      stands = subst (λ ys. StandsAmong rs opening ys s c) (sym (append-nil steps)) h;
    }

    -- ---- it is Active
    abbrev found : (r : ActiveTx) × (active_of t.0 s.active ≡ Some r)
    found = active_is s t.0 (sym (h.dependencies.stands.phases t.0) ∙ ap phase_as was_active)

    abbrev r : ActiveTx
    r = found.0

    module _ (taken : DoneData) (same : taken.history ≡ done_in c.works t.0) (placed : Txns (Node KeptTransaction)) (change : IsOwnChanged c.table placed t.0 (IsPlacedInTale (length c.tale) taken)) where
      pub still_active : state_of placed t.0 ≡ Some Active
      still_active = change.states t.0 ∙ was_active

      deps : Rattle.mvo_representation.specs.Dependencies.HasDependencies s placed
      deps = change.dependencies s h.dependencies

      clock : placed.clock ≡ s.clock
      clock = deps.stands.clock

      abbrev end' : Stamp
      end' = record { 0 = placed.clock + 1 }

      end_is : placed.clock + 1 ≡ s.clock + 1
      end_is = ap (λ (n : ℕ). n + 1) clock

      abbrev table : Txns (Node KeptTransaction)
      table = txns.table_after_prepare placed t.0

      abbrev tale : List TalePlace
      tale = c.tale ++ Open end' ∷ []

      own_drawn : (u : ℕ) → own_of table u ≡ own_of placed u
      own_drawn u = ap (option_map (λ n. n.own)) (kept_restated placed.seats t.0 (Preparing end') u)

      its_id : r.id ≡ t.0
      its_id = id_of t.0 s.active r found.1

      its_own : active_of r.id s.active ≡ Some r
      its_own = subst (λ (n : ℕ). active_of n s.active ≡ Some r) (sym its_id) found.1

      pub here : state_of table t.0 ≡ Some (Preparing end')
      here = state_now placed.seats t.0 (Preparing end') Active t.0 refl still_active

      pub others : (u : ℕ) → u ≢ t.0 → state_of table u ≡ state_of c.table u
      others u ne = state_restated placed.seats t.0 (Preparing end') u ne ∙ change.states u

      same_words : words_in c.table ≡ words_in table
      same_words = sym ((λ i u. own_words_of (own_drawn u i)) ∙ words_stay c.table placed t.0 (IsPlacedInTale (length c.tale) taken) change (ap (λ w. w.words) change.changed.writes))

      -- ---- what is kept of each
      beside : (u : ℕ) → u ≢ t.0 → own_of table u ≡ own_of c.table u
      beside u ne = own_drawn u ∙ change.beside u ne

      new_one : IsKeptPreparing table tale (to_stamped (s.clock + 1) r)
      new_one = record {
        own = change.after;
        kept = ap (own_of table) its_id ∙ own_drawn t.0 ∙ change.is;
        history = ap (λ w. w.history) change.changed.took ∙ same ∙ (work_held rs opening steps s c h t.0 r found.1).history;
        checked = λ v. change.changed.checked;
        valid = change.changed.valid;
        place = ap (open_end_at tale) change.changed.is ∙ open_last c.tale end' ∙ ap (λ (n : ℕ). Some n) end_is;
      }

      not_its : AllByRecursion (λ y. y.id ≢ t.0) s.stamped
      not_its = subst (λ (n : ℕ). AllByRecursion (λ y. y.id ≢ n) s.stamped) its_id
          (active_holds (λ q. AllByRecursion (λ y. y.id ≢ q.id) s.stamped) t.0 s.active r found.1 h.versions.kept.numbered.apart).0

      works : HasWorks (after_prepare s r (s.clock + 1)) table tale
      works = record {
        active = each_filter (λ q. not (q.id == r.id)) (IsKeptActive c.table) (IsKeptActive table)
            (λ q e w. record { own = w.own; kept = beside q.id (λ is. not_true (q.id == r.id) e (eq-eqb q.id r.id (is ∙ sym its_id))) ∙ w.kept }) s.active h.works.active;
        preparing = each_append (λ y. y.settled ≡ false → IsKeptPreparing table tale y) s.stamped (to_stamped (s.clock + 1) r ∷ [])
            (each_both (λ y. y.id ≢ t.0) (λ y. y.settled ≡ false → IsKeptPreparing c.table c.tale y) (λ y. y.settled ≡ false → IsKeptPreparing table tale y)
            (λ y ne w o. let p = w o in record {
              own = p.own;
              kept = beside y.id ne ∙ p.kept;
              history = p.history;
              checked = p.checked;
              valid = p.valid;
              place = open_behind c.tale (Open end') p.own.place y.end p.place;
            }) s.stamped not_its h.works.preparing)
            (λ o. new_one, tt);
      }

      readers : stage_of t.0 rs.unfinished ≡ None → AreSameReaders c.table table
      readers other u = ap reader_in (own_drawn u) ∙ others_changed c.table placed t.0 (IsPlacedInTale (length c.tale) taken) change rs.unfinished c.tale h.stages other change.changed.kind u

      rest : stage_of t.0 rs.unfinished ≡ None → HasRest rs (after_prepare s r (s.clock + 1)) table tale c
      rest other = record {
        works = works;
        tale = tale_opened_among s c.tale h.versions.kept.started h.versions.kept.sound.rising h.tale end' (to_stamped (s.clock + 1) r) refl (sym end_is);
        places = places_with rs s.start (s.clock + 1) c.tale (places_later rs s.start s.clock c.tale h.places (s.clock + 1) (omega arith)) end' (omega (arith, end_is));
        stages = stages_kept rs.unfinished c.table table c.tale tale (readers other) (λ q b k. reading_behind c.tale (Open end') q b k) h.stages;
        marks = h.marks;
        grouped = grouped_opened c.tale c.grouped c.closed end' h.grouped;
        start = h.start;
      }

      -- ---- the core
      abbrev numbers : List ℕ
      numbers = numbers_in (words_in c.table t.0)

      abbrev lists : Rattle.mvo_hash.specs.Lists.Lists
      lists = with_fronts (comes_at_draw (state_of c.table) t.0) c.versions.slots c.versions.lists numbers

      open' : MayAbort (phases_of (state_of c.table)) t.0
      open' = inl (ap phase_as was_active)

      written : HasWritten t.0 c.versions.slots numbers
      written = lists_are_written opening s (state_of c.table) c.versions.slots c.versions.lists c.versions.places (words_in c.table) t.0 h.versions open' h.words

      state_then : after_precommit s t.0 ≡ after_prepare s r (s.clock + 1)
      state_then = ap (after_precommit_of s) found.1

      drawn : stage_of t.0 rs.unfinished ≡ None → why_not_precommit s t.0 ≡ None → StandsAmong rs opening (steps ++ theory.steps_of s (Precommit t.0) Accepted) (after_precommit s t.0) (record c { versions = record c.versions { lists = lists }; table = table; tale = tale })
      drawn other free = stands_then rs opening steps s c h (Precommit t.0) Accepted table lists tale tt (λ g ws. refl) (free, tt) refl
          (fronts_in_numbers (comes_at_draw (state_of c.table) t.0) c.versions.slots c.versions.lists numbers h.versions.numbers)
          (precommit_in_table opening s placed t.0 h.versions.kept deps still_active)
          (draw_in_order opening s (state_of c.table) (state_of table) c.versions.slots c.versions.lists c.versions.places t.0 end' numbers h.versions was_active others here end_is written h.order)
          (subst (λ z. HasWordLists z c.versions.slots (words_in table)) (sym state_then)
          (subst (HasWordLists (after_prepare s r (s.clock + 1)) c.versions.slots) same_words
          (precommit_in_lists opening s (state_of c.table) c.versions.slots c.versions.lists c.versions.places (words_in c.table) r h.versions its_own h.words)))
          (subst (λ z. HasRest rs z table tale c) (sym state_then) (rest other))

      stands_drawn : stage_of t.0 rs.unfinished ≡ None → why_not_precommit s t.0 ≡ None → (versions : VersionsData) (new : List TalePlace) → AreInFront (comes_at_draw (state_of c.table) t.0) c.versions versions (words_in c.table t.0) → new ≡ tale
          → StandsAmong rs opening (steps ++ theory.steps_of s (Precommit t.0) Accepted) (after_precommit s t.0) (record c { versions = versions; table = table; tale = new })
      stands_drawn other free versions new front is =
          subst (λ (p : VersionsData × List TalePlace). StandsAmong rs opening (steps ++ theory.steps_of s (Precommit t.0) Accepted) (after_precommit s t.0) (record c { versions = p.0; table = table; tale = p.1 }))
          (λ i. (record { slots = sym front.slots i; lists = sym front.lists i; places = versions.places }, sym is i))
          (stands_by_places rs opening _ _ _ versions.places front.places (drawn other free))

    -- by what the table answers: with the clock below its limit, the end
    module _ (place : ℕ) (last : place ≡ length c.tale) (e : Stamp) (drawn : e.0 ≡ c.table.clock + 1) (tale : List TalePlace) (opened : tale ≡ c.tale ++ Open e ∷ []) (versions : VersionsData) (front : AreInFront (comes_at_draw (state_of c.table) t.0) c.versions versions (words_in c.table t.0)) (lt : c.table.clock < MAX_STAMP) (other : stage_of t.0 rs.unfinished ≡ None)
        (taken : DoneData) (same : taken.history ≡ done_in c.works t.0) (works : WorksData) (left : HasWorkFor c.works works t.0 empty_work) where
      free : why_not_precommit s t.0 ≡ None
      free = why other false (over_limit MAX_STAMP c.table.clock lt)

      pub unspent : spent_clock c.table.clock ≡ None
      unspent = ap (λ (b : Bool). cond b (Some ClockSpent) None) (over_limit MAX_STAMP c.table.clock lt)

      pub draw_leads : (result : Result Stamp Refusal) (table : Txns (Node KeptTransaction)) → OnOk result (IsWrittenThen c.table table t.0 (IsPlacedInTale place taken) (λ x. txns.table_after_prepare x t.0)) → IfErr result (λ why. spent_clock c.table.clock ≡ Some why)
          → LeadsAmong rs opening steps s (Precommit t.0) (came result) (record c { versions = versions; table = table; tale = tale; works = works })
      draw_leads (Ok d) new w spent =
          let placed = w.between in
          let change = own_changed c.table placed t.0 (IsPlacedInTale (length c.tale) taken) (subst (λ (n : ℕ). IsWritten c.table placed t.0 (IsPlacedInTale n taken)) last w.written) in
          let same_clock = clock_written c.table placed t.0 (IsPlacedInTale place taken) w.written in
          let tale_is : tale ≡ c.tale ++ Open (record { 0 = placed.clock + 1 }) ∷ [] = opened ∙ ap (λ (n : ℕ). c.tale ++ Open (record { 0 = n }) ∷ []) (drawn ∙ ap (λ (n : ℕ). n + 1) (sym same_clock)) in
          record {
            may = (free, tt);
            stands = subst (λ x. StandsAmong rs opening (steps ++ theory.steps_of s (Precommit t.0) Accepted) (after_precommit s t.0) (record c { versions = versions; table = x; tale = tale; works = works })) (sym w.is)
                (stands_taken_work rs opening (steps ++ theory.steps_of s (Precommit t.0) Accepted) (after_precommit s t.0) (record c { versions = versions; table = txns.table_after_prepare placed t.0; tale = tale })
                (stands_drawn taken same placed change other free versions tale front tale_is) works t.0 (record { 0 = placed.clock + 1 }) (here taken same placed change) left);
          }
      draw_leads (Err r) new w spent = absurd (none_refusal r (sym unspent ∙ spent))
