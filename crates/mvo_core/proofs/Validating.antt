-- The next entry of a Preparing transaction is checked: what the core stands for then.
use Rattle.std.proofs.Common.{◌≡◌, ◌≢◌, ℕ, ◌+◌, ◌<◌, ◌≤◌, Bool, true, false, cond, List, length, Option, None, Some, refl, sym, ap, ◌∙◌, subst, ⊎_elim}
use Rattle.std.specs.Prelude.{IsSome, ◌==◌, ◌||◌, nat_le, slice_get}
use Rattle.std.specs.Option.{is_some, option_map}
use Rattle.std.specs.List.{AllByRecursion}
use Rattle.std.proofs.lemmas.Bool.{eq-eqb, ne_eqb, cases_eq}
use Rattle.mvo_types.specs.declared.ids.Stamp.{Stamp}
use Rattle.mvo_types.specs.declared.refusal.Refusal.{Refusal}
use Rattle.mvo_types.specs.declared.refusal.Refusal.TheVariants.{ValidationFailed}
use Rattle.mvo_types.specs.Keys.{Map}
use Rattle.mvo_model.specs.Trace.{Step}
use Rattle.mvo_types.specs.declared.entry.Entry.{Entry}
use Rattle.mvo_theory.specs.Entries.{entries}
use Rattle.mvo_theory.specs.State.{State, StampedTx, preparing_of}
use Rattle.mvo_theory.specs.Causes.{next_differs, entry_differs, differs, change_of, why_not_validate}
use Rattle.mvo_theory.specs.Changes.{with_check, after_check}
use Rattle.mvo_theory.specs.Steps.{after_validate_of, after_validate, is_valid_now, is_valid_at}
use Rattle.mvo_theory.specs.Calls.Call.{Validate}
use Rattle.mvo_theory.specs.Calls.Result.{Accepted, Refused}
use Rattle.mvo_theory.proofs.Each.{each_both, each_map, each_weaker}
use Rattle.mvo_txn.specs.declared.state.TxState.TheVariants.{Preparing}
use Rattle.mvo_txn.specs.Txns.{Txns, state_of}
use Rattle.mvo_deps.specs.declared.node.Node.{Node}
use Rattle.mvo_visible.specs.Shown.{AllHaveFallingStamps}
use Rattle.mvo_representation.specs.Order.{AllStandInOrder}
use Rattle.mvo_representation.specs.WordLists.{HasWordLists}
use Rattle.mvo_representation.proofs.Facts.{found_holds}
use Rattle.mvo_representation.proofs.Unsettled.{alone, found_itself, some_same}
use Rattle.mvo_readonly.specs.Whole.{stage_of}
use Rattle.mvo_tale.specs.Others.{others_places}
use Rattle.mvo_core.proofs.ReaderStages.{stages_same}
use Rattle.mvo_core.specs.Readers.{Readers}
use Rattle.mvo_core.specs.declared.kept_transaction.KeptTransaction.{KeptTransaction}
use Rattle.mvo_core.specs.declared.answers.Validation.TheVariants as validation
use Rattle.mvo_core.specs.Data.{CoreData, own_of}
use Rattle.mvo_core.specs.Own.{done_in, is_own_valid, own_entry, own_check, is_last_check, checked_as}
use Rattle.mvo_core.specs.Standing.{IsKeptActive, IsKeptPreparing, words_in, StandsAmong}
use Rattle.mvo_core.specs.Causes.{why_not_preparing, is_read_only}
use Rattle.mvo_core.specs.Checking.{change_between, change_for, entries_to_check}
use Rattle.mvo_core.specs.Aborting.{IsGivenUp}
use Rattle.mvo_core.specs.Keeping.{IsWritten, IsCounted}
use Rattle.mvo_core.specs.Steps.{LeadsAmong}
use Rattle.mvo_core.proofs.EndCauses.{not_validated_is, other_prepared, or_first, or_last}
use Rattle.mvo_core.proofs.EndLaws.{change_named, stamps_fall, check_in_table, check_in_lists}
use Rattle.mvo_core.proofs.GivenUp.{validate_given_up}
use Rattle.mvo_core.proofs.OwnChanged.{IsOwnChanged, own_changed, words_stay, others_changed}
use Rattle.mvo_core.proofs.Rest.{HasRest, preparing_there, stands_then}
use Rattle.mvo_core.proofs.KeptTale.{tale_checked}
use Rattle.mvo_core.proofs.Undone.{IsKeptOfPreparing, kept_of_preparing}
use Rattle.mvo_core.proofs.Carried.{some_own}
use Rattle.mvo_core.proofs.CausesTold.{may_write}

-- ---- what is found, and what is refused
failed_by : (o : Option Stamp) → differs (option_map (λ stamp. stamp.0) o) ≡ option_map ValidationFailed o
failed_by None = refl
failed_by (Some stamp) = refl

-- it is refused before it is looked whether the entry differs
pub validate_refused : (rs : Readers) (opening : Map) (steps : List Step) (s : State) (c : CoreData) → StandsAmong rs opening steps s c → (t : ℕ) → stage_of t rs.unfinished ≡ None → (r : Refusal) (new : CoreData) → why_not_preparing c.table t ≡ Some r → IsGivenUp c t r new
    → LeadsAmong rs opening steps s (Validate t) (Refused r) new
validate_refused rs opening steps s c h t other r new why left = validate_given_up rs opening steps s c new h t other r left
    (sym (not_validated_is rs opening steps s c h t other) ∙ or_first (why_not_preparing c.table t) (next_differs s.stamped (preparing_of t s.stamped)) r why)

module _ (rs : Readers) (opening : Map) (steps : List Step) (s : State) (c : CoreData) (h : StandsAmong rs opening steps s c) where
  -- the stamps of the versions of each key fall
  pub fall : AllHaveFallingStamps (state_of c.table) c.versions.slots c.versions.lists
  fall = stamps_fall opening s (state_of c.table) c.versions.slots c.versions.lists c.versions.places h.versions h.order

  -- ---- what its next entry differs by
  module _ (t : ℕ) (e : Stamp) (x : StampedTx) (found : preparing_of t s.stamped ≡ Some x) (ends : x.end ≡ e.0) (unvalid : x.valid ≡ false) where
    begins : (s.start ≤ x.id) × (x.id ≡ t) × (x.settled ≡ false)
    begins = let p = found_holds (λ y. y.settled ≡ false → s.start ≤ y.id) t s.stamped x found h.versions.versions.begun_stamped in (p.0 p.2, p.1, p.2)

    begun : x.id < x.end
    begun = (found_holds (Rattle.mvo_theory.specs.Sound.IsPlaced s.stamped s.clock) t s.stamped x found h.versions.kept.sound.placed).0.begun

    named_at : (o : Option Entry) → differs (change_between (state_of c.table) c.versions t e.0 o) ≡ entry_differs s.stamped x o
    named_at None = refl
    named_at (Some entry) =
        ap differs (change_named opening s (state_of c.table) c.versions.slots c.versions.lists c.versions.places t e.0 entry h.versions
        (subst (λ (n : ℕ). s.start ≤ n) begins.1 begins.0) (subst (λ (n : ℕ). t < n) ends (subst (λ (n : ℕ). n < x.end) begins.1 begun))
        ∙ ap (λ (n : ℕ). change_of s.stamped n e.0 entry) (sym begins.1)
        ∙ ap (λ (n : ℕ). change_of s.stamped x.id n entry) (sym ends))

    next_entry : own_entry (own_of c.table t) ≡ slice_get (entries x.history) x.checked
    next_entry =
        let k = kept_of_preparing rs opening steps s c h t x found in
        ap own_entry k.kept
        ∙ ap (λ own. slice_get (entries own.taken.history) own.checked) (sym k.own_is)
        ∙ ap (λ ts. slice_get (entries ts) k.same.own.checked) k.same.history
        ∙ ap (slice_get (entries x.history)) (k.same.checked unvalid)

    differs_by : differs (change_between (state_of c.table) c.versions t e.0 (own_entry (own_of c.table t))) ≡ next_differs s.stamped (preparing_of t s.stamped)
    differs_by =
        named_at (own_entry (own_of c.table t))
        ∙ ap (entry_differs s.stamped x) next_entry
        ∙ sym (ap (next_differs s.stamped) found ∙ ap (λ (b : Bool). cond b None (entry_differs s.stamped x (slice_get (entries x.history) x.checked))) unvalid)

  module _ (t : ℕ) (none : why_not_preparing c.table t ≡ None) (other : stage_of t rs.unfinished ≡ None) where
    abbrev prepared : (e : Stamp) × (state_of c.table t ≡ Some (Preparing e))
    prepared = other_prepared rs opening steps s c h t other none

    abbrev found : (x : StampedTx) × (preparing_of t s.stamped ≡ Some x) × (x.end ≡ prepared.0.0)
    found = preparing_there rs opening steps s c h t prepared.0 prepared.1

    abbrev x : StampedTx
    x = found.0

    kept : IsKeptOfPreparing rs opening steps s c h t x
    kept = kept_of_preparing rs opening steps s c h t x found.1

    valid_is : is_own_valid (own_of c.table t) ≡ x.valid
    valid_is = ap is_own_valid kept.kept ∙ ap (λ own. own.valid) (sym kept.own_is) ∙ kept.same.valid

    why : (o : Option Refusal) → next_differs s.stamped (preparing_of t s.stamped) ≡ o → why_not_validate s t ≡ o
    why o e = sym (not_validated_is rs opening steps s c h t other) ∙ or_last (why_not_preparing c.table t) (next_differs s.stamped (preparing_of t s.stamped)) none ∙ e

    pub own_there : IsSome (own_of c.table t)
    own_there = ap is_some kept.kept

    -- ---- it is valid
    module _ (valid : is_own_valid (own_of c.table t) ≡ true) where
      x_valid : x.valid ≡ true
      x_valid = sym valid_is ∙ valid

      same_state : after_validate s t ≡ s
      same_state = ap (after_validate_of s) found.1 ∙ ap (λ (b : Bool). cond b s (after_check s x.end (nat_le (length (entries x.history)) (x.checked + 1)))) x_valid

      none_differs : next_differs s.stamped (preparing_of t s.stamped) ≡ None
      none_differs = ap (next_differs s.stamped) found.1 ∙ ap (λ (b : Bool). cond b None (entry_differs s.stamped x (slice_get (entries x.history) x.checked))) x_valid

      rest_same : HasRest rs s c.table c.tale c
      rest_same = record { works = h.works; tale = h.tale; places = h.places; stages = h.stages; marks = h.marks; grouped = h.grouped; start = h.start }

      pub valid_leads : LeadsAmong rs opening steps s (Validate t) Accepted c
      valid_leads = record {
        may = (why None none_differs, tt);
        stands = stands_then rs opening steps s c h (Validate t) Accepted c.table c.versions.lists c.tale tt (λ g ws. refl) (why None none_differs, tt) refl h.versions.numbers
            (check_in_table s c.table t h.dependencies) h.order (check_in_lists s c.versions.slots (words_in c.table) t h.words)
            (subst (λ z. HasRest rs z c.table c.tale c) (sym same_state) rest_same);
      }

      pub valid_answers : validation.Valid ≡ cond (is_valid_now s t) validation.Valid validation.More
      valid_answers = sym (ap (λ (b : Bool). cond b validation.Valid validation.More) (ap is_valid_at found.1 ∙ ap (λ (b : Bool). b || nat_le (length (entries x.history)) (x.checked + 1)) x_valid))

    -- ---- it isn't yet
    module _ (unvalid : is_own_valid (own_of c.table t) ≡ false) where
      x_unvalid : x.valid ≡ false
      x_unvalid = sym valid_is ∙ unvalid

      named : (r : Option Stamp) → option_map (λ stamp. stamp.0) r ≡ change_for (state_of c.table t) (state_of c.table) c.versions t (own_entry (own_of c.table t)) → next_differs s.stamped (preparing_of t s.stamped) ≡ option_map ValidationFailed r
      named r is =
          sym (differs_by t prepared.0 x found.1 found.2 x_unvalid)
          ∙ sym (ap differs (is ∙ ap (λ o. change_for o (state_of c.table) c.versions t (own_entry (own_of c.table t))) prepared.1))
          ∙ failed_by r

      -- the entry differs
      pub differs_leads : (stamp : Stamp) (new : CoreData) → Some stamp.0 ≡ change_for (state_of c.table t) (state_of c.table) c.versions t (own_entry (own_of c.table t)) → IsGivenUp c t (ValidationFailed stamp) new
          → LeadsAmong rs opening steps s (Validate t) (Refused (ValidationFailed stamp)) new
      differs_leads stamp new is left = validate_given_up rs opening steps s c new h t other (ValidationFailed stamp) left (why (Some (ValidationFailed stamp)) (named (Some stamp) is))

      -- it is as it was
      abbrev last : Bool
      last = nat_le (length (entries x.history)) (x.checked + 1)

      abbrev count : ℕ
      count = entries_to_check (done_in c.works t) (own_of c.table t)

      count_is : count ≡ length (entries x.history)
      count_is =
          ap (entries_to_check (done_in c.works t)) kept.kept
          ∙ ap (λ (b : Bool). length (entries (cond b (done_in c.works t) kept.own.taken.history))) (sym (ap is_read_only kept.kept) ∙ may_write rs opening steps s c h t other)
          ∙ ap (λ (own : KeptTransaction). length (entries own.taken.history)) (sym kept.own_is)
          ∙ ap (λ ts. length (entries ts)) kept.same.history

      last_is : (own : KeptTransaction) → own_of c.table t ≡ Some own → is_last_check count own ≡ last
      last_is own w =
          ap (λ (n : ℕ). nat_le n (own.checked + 1)) count_is
          ∙ ap (λ (o : KeptTransaction). nat_le (length (entries x.history)) (o.checked + 1)) (some_own own kept.own (sym w ∙ kept.kept) ∙ sym kept.own_is)
          ∙ ap (λ (n : ℕ). nat_le (length (entries x.history)) (n + 1)) (kept.same.checked x_unvalid)

      state_then : after_validate s t ≡ after_check s x.end last
      state_then = ap (after_validate_of s) found.1 ∙ ap (λ (b : Bool). cond b s (after_check s x.end last)) x_unvalid

      pub counts_as : own_check count (own_of c.table t) ≡ cond (is_valid_now s t) validation.Valid validation.More
      counts_as =
          ap (own_check count) kept.kept
          ∙ ap checked_as (last_is kept.own kept.kept)
          ∙ sym (ap (λ (b : Bool). cond b validation.Valid validation.More) (ap is_valid_at found.1 ∙ ap (λ (b : Bool). b || last) x_unvalid))

      module _ (table : Txns (Node KeptTransaction)) (counted : IsWritten c.table table t (IsCounted count)) where
        change : IsOwnChanged c.table table t (IsCounted count)
        change = own_changed c.table table t (IsCounted count) counted

        before_is : change.before ≡ kept.same.own
        before_is = some_own change.before kept.own (sym change.was ∙ kept.kept) ∙ sym kept.own_is

        last_before : is_last_check count change.before ≡ last
        last_before = last_is change.before change.was

        same_end : (x.end == x.end) ≡ true
        same_end = eq-eqb x.end x.end refl

        now_valid : (with_check x.end last x).valid ≡ last
        now_valid = ap (λ (b : Bool). cond b last x.valid) same_end

        own_checked : IsKeptPreparing table c.tale (with_check x.end last x)
        own_checked = record {
          own = change.after;
          kept = ap (own_of table) kept.is ∙ change.is;
          history = ap (λ w. w.history) change.changed.taken ∙ ap (λ own. own.taken.history) before_is ∙ kept.same.history;
          checked = λ v.
              change.changed.checked
              ∙ ap (λ (b : Bool). cond b change.before.checked (change.before.checked + 1)) (last_before ∙ sym now_valid ∙ v)
              ∙ ap (λ own. own.checked + 1) before_is
              ∙ ap (λ (n : ℕ). n + 1) (kept.same.checked x_unvalid)
              ∙ sym (ap (λ (b : Bool). cond b (x.checked + 1) x.checked) same_end);
          valid = change.changed.valid ∙ last_before ∙ sym now_valid;
          place = ap (Rattle.mvo_tale.specs.Slots.open_end_at c.tale) (change.changed.place ∙ ap (λ own. own.place) before_is) ∙ kept.same.place;
        }

        beside_checked : (y : StampedTx) → (y.end == x.end) ≡ false → y.id ≢ t → IsKeptPreparing c.table c.tale y → IsKeptPreparing table c.tale (with_check x.end last y)
        beside_checked y apart ne w = record {
          own = w.own;
          kept = change.beside y.id ne ∙ w.kept;
          history = w.history;
          checked = λ v. w.checked (sym (ap (λ (b : Bool). cond b last y.valid) apart) ∙ v) ∙ sym (ap (λ (b : Bool). cond b (y.checked + 1) y.checked) apart);
          valid = w.valid ∙ sym (ap (λ (b : Bool). cond b last y.valid) apart);
          place = w.place;
        }

        abbrev Alone : StampedTx → Type 0
        Alone y = (y.settled ≡ false → (y.id == t) ≡ (y.end == x.end)) × (y.settled ≡ false → preparing_of y.id s.stamped ≡ Some y)

        one_checked : (y : StampedTx) → Alone y → (y.settled ≡ false → IsKeptPreparing c.table c.tale y) → y.settled ≡ false → IsKeptPreparing table c.tale (with_check x.end last y)
        one_checked y a w o =
            ⊎_elim
            (λ is. subst (λ (z : StampedTx). IsKeptPreparing table c.tale (with_check x.end last z)) (some_same x y (sym found.1 ∙ sym (ap (λ (n : ℕ). preparing_of n s.stamped) is) ∙ a.1 o)) own_checked)
            (λ ne. beside_checked y (sym (a.0 o) ∙ ne_eqb y.id t ne) ne (w o))
            (cases_eq y.id t)

        rest_checked : HasRest rs (after_check s x.end last) table c.tale c
        rest_checked = record {
          works = record {
            active = each_both (λ r. r.id ≢ t) (IsKeptActive c.table) (IsKeptActive table) (λ r ne w. record { own = w.own; kept = change.beside r.id ne ∙ w.kept }) s.active active_beside h.works.active;
            preparing = each_map (with_check x.end last) (λ y. Alone y × (y.settled ≡ false → IsKeptPreparing c.table c.tale y)) (λ y. y.settled ≡ false → IsKeptPreparing table c.tale y) (λ y p o. one_checked y p.0 p.1 o) s.stamped
                (each_both Alone (λ y. y.settled ≡ false → IsKeptPreparing c.table c.tale y) (λ y. Alone y × (y.settled ≡ false → IsKeptPreparing c.table c.tale y)) (λ y a b. (a, b)) s.stamped
                (each_both (λ y. y.settled ≡ false → (y.id == t) ≡ (y.end == x.end)) (λ y. y.settled ≡ false → preparing_of y.id s.stamped ≡ Some y) Alone (λ y a b. (a, b)) s.stamped
                (alone s h.versions.kept.single h.versions.kept.sound.rising t x found.1) (found_itself s h.versions.kept.single))
                h.works.preparing);
          };
          tale = tale_checked s (others_places c.tale) h.versions.kept.started h.versions.kept.sound.rising h.tale x.end last;
          places = h.places;
          stages = stages_same rs.unfinished c.table table c.tale (others_changed c.table table t (IsCounted count) change rs.unfinished c.tale h.stages other change.changed.kind) h.stages;
          marks = h.marks;
          grouped = h.grouped;
          start = h.start;
        } where
          active_beside : AllByRecursion (λ r. r.id ≢ t) s.active
          active_beside = each_weaker (λ r. AllByRecursion (λ y. y.id ≢ r.id) s.stamped) (λ r. r.id ≢ t)
              (λ r k q. (found_holds (λ y. y.id ≢ r.id) t s.stamped x found.1 k).0 (kept.is ∙ sym q)) s.active h.versions.kept.numbered.apart

        same_states : state_of c.table ≡ state_of table
        same_states = λ i u. sym (change.states u) i

        pub counted_leads : None ≡ change_for (state_of c.table t) (state_of c.table) c.versions t (own_entry (own_of c.table t)) → LeadsAmong rs opening steps s (Validate t) Accepted (record c { table = table })
        counted_leads is = record {
          may = (why None (named None is), tt);
          stands = stands_then rs opening steps s c h (Validate t) Accepted table c.versions.lists c.tale tt (λ g ws. refl) (why None (named None is), tt) refl h.versions.numbers
              (change.dependencies (after_validate s t) (check_in_table s c.table t h.dependencies))
              (subst (λ states. AllStandInOrder s.start states c.versions.slots c.versions.lists) same_states h.order)
              (subst (HasWordLists (after_validate s t) c.versions.slots) (sym (words_stay c.table table t (IsCounted count) change (ap (λ w. w.words) change.changed.writes))) (check_in_lists s c.versions.slots (words_in c.table) t h.words))
              (subst (λ z. HasRest rs z table c.tale c) (sym state_then) rest_checked);
        }
