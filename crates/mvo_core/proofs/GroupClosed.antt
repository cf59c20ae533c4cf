-- A group is closed: what the core stands for then.
use Rattle.std.proofs.Common.{◌≡◌, ◌<◌, ◌≤◌, ℕ, Bool, true, false, List, [], ◌∷◌, Option, None, Some, refl, sym, ap, ◌∙◌, subst, arith}
use Rattle.std.specs.Prelude.{◌==◌, ◌↔◌, IsTrue, Result, Ok, Err, min}
use Rattle.std.proofs.Math.Nat.{min-le_left, min-le_right}
use Rattle.std.specs.Option.{SomeIff}
use Rattle.std.specs.Result.{IsErrAnd}
use Rattle.std.specs.List.{AllByRecursion}
use Rattle.std.proofs.lemmas.Bool.{eq-eqb, eqb-false, ne_eqb, true≢false}
use Rattle.mvo_types.specs.declared.ids.Stamp.{Stamp}
use Rattle.mvo_types.specs.declared.refusal.Refusal.{Refusal}
use Rattle.mvo_types.specs.declared.refusal.Refusal.TheVariants.{NothingToDo, RingFull, OutOfMemory}
use Rattle.mvo_types.specs.Keys.{Map}
use Rattle.mvo_model.specs.Trace.{Step}
use Rattle.mvo_group.specs.Data.{GroupData, group_of}
use Rattle.mvo_group.specs.Rules.{KeepsRules}
use Rattle.mvo_theory.specs.State.{State, Marks}
use Rattle.mvo_theory.specs.Marks.{IsClosedAt, low_water}
use Rattle.mvo_theory.specs.Groups.{IsNextGroup}
use Rattle.mvo_theory.specs.Changes.{after_close}
use Rattle.mvo_types.specs.Causes.{when, first_cause}
use Rattle.mvo_theory.specs.Causes.{why_not_close}
use Rattle.mvo_theory.specs.Calls.{IsRefusal}
use Rattle.mvo_theory.specs.Calls.Call.{Close}
use Rattle.mvo_theory.specs.Calls.Result.{Accepted}
use Rattle.mvo_theory.proofs.Finishing.{kept_closed}
use Rattle.mvo_theory.proofs.Groups.{closed_at_low, closed_below_low, next_group_closes}
use Rattle.mvo_shared.proofs.Standing.{standing_of}
use Rattle.mvo_txn.specs.Txns.{state_of, IsLowWater}
use Rattle.mvo_tale.specs.declared.next_records.NextRecords.{NextRecords}
use Rattle.mvo_tale.specs.declared.tale_place.TalePlace.{TalePlace}
use Rattle.mvo_tale.specs.Forgetting.{forgotten}
use Rattle.mvo_tale.specs.Slots.{open_ends}
use Rattle.mvo_tale.specs.Others.{others_places}
use Rattle.mvo_tale.specs.Records.{fits}
use Rattle.mvo_tale.specs.Next.{AreNextRecords}
use Rattle.mvo_tale.proofs.KeptPlaces.{tale_closed}
use Rattle.mvo_representation.specs.DependencyLaws.{CloseInTable}
use Rattle.mvo_representation.specs.WordLaws.{CloseKeepsLists}
use Rattle.mvo_representation.specs.Indexes.{all_versions}
use Rattle.mvo_representation.specs.Table.{phases_of}
use Rattle.mvo_representation.proofs.TableSteps.{table_closed}
use Rattle.mvo_representation.proofs.WordsKept.{close_keeps_lists}
use Rattle.mvo_representation.proofs.Reworded.{kept_after_close}
use Rattle.mvo_core.specs.Readers.{Readers, no_readers}
use Rattle.mvo_core.specs.declared.kept_transaction.KeptTransaction.{KeptTransaction}
use Rattle.mvo_core.specs.declared.answers.Closed.{Closed}
use Rattle.mvo_core.specs.Data.{CoreData}
use Rattle.mvo_core.specs.Standing.{words_in, StandsAmong}
use Rattle.mvo_core.specs.Closing.{IsClosedAmong, IsNotClosedAmong, HasClosedAmong}
use Rattle.mvo_standing.proofs.Fits.{fits_alike}
use Rattle.mvo_content.specs.Works.{works_in}
use Rattle.mvo_standing.proofs.Beside.{called_beside}
use Rattle.mvo_core.proofs.GoesBeside.{called_beside_so}
use Rattle.mvo_core.proofs.KeptTale.{opens_above_among, next_group_among}
use Rattle.mvo_core.proofs.Trimmed.{stands_forgotten, low_water_told}
use Rattle.rtrb.specs.declared.producer.Producer.{Producer}

close_in_table : CloseInTable KeptTransaction
close_in_table = table_closed

close_in_lists : CloseKeepsLists
close_in_lists = close_keeps_lists

-- ---- causes
-- why no group is closed, by the low-water and the mark of the group that was closed last
why_at : ℕ → ℕ → Bool → Option Refusal
why_at low closed full = first_cause (when (low == closed) NothingToDo ∷ when full RingFull ∷ [])

nothing_at : (low closed : ℕ) (full : Bool) → (low == closed) ≡ true → why_at low closed full ≡ Some NothingToDo
unfolding why_at
nothing_at low closed full q = ap (λ (b : Bool). first_cause (when b NothingToDo ∷ when full RingFull ∷ [])) q

moved_at : (low closed : ℕ) (full : Bool) → (low == closed) ≡ false → why_at low closed full ≡ first_cause (when full RingFull ∷ [])
unfolding why_at
moved_at low closed full q = ap (λ (b : Bool). first_cause (when b NothingToDo ∷ when full RingFull ∷ [])) q

-- whether no slot is free
pub full_is : (b : Bool) (n : ℕ) → (IsTrue b ↔ (n ≡ 0)) → (n == 0) ≡ b
full_is true n v = eq-eqb n 0 (v.0 refl)
full_is false n v = ne_eqb n 0 (λ z. true≢false (sym (v.1 z)))

module _ (rs : Readers) (opening : Map) (steps : List Step) (s : State) (c : CoreData) (h : StandsAmong rs opening steps s c) (low : ℕ) (told : IsLowWater c.table low) where
  low_is : low ≡ low_water s
  low_is = low_water_told opening s c.table low h.versions.kept h.dependencies.stands told

  why_is : (full : Bool) → why_not_close s full ≡ why_at low c.closed full
  unfolding why_at
  why_is full =
      ap (λ (m : Marks). why_at (low_water s) m.closed full) h.marks
      ∙ ap (λ (n : ℕ). why_at n c.closed full) (sym low_is)

  pub closes : (low == c.closed) ≡ false → why_not_close s false ≡ None
  closes ne = why_is false ∙ moved_at low c.closed false ne

  -- ---- what the records of the next group need
  pub ends_above : AllByRecursion (λ e. low < e) (open_ends c.tale)
  ends_above = subst (λ (n : ℕ). AllByRecursion (λ e. n < e) (open_ends c.tale)) (sym low_is) (opens_above_among s c.tale h.versions.kept.started h.versions.kept.sound.rising h.tale (low_water s) (closed_at_low opening steps s h.kept).above)

  pub above_closed : IsClosedAt s.marks.closed s → (low == c.closed) ≡ false → c.closed < low
  above_closed closed moved =
      let le : c.closed ≤ low = subst (λ (n : ℕ). c.closed ≤ n) (sym low_is) (subst (λ (m : Marks). m.closed ≤ low_water s) h.marks (closed_below_low s.marks.closed s closed)) in
      less c.closed low le (eqb-false low c.closed moved)
    where
      less : (a b : ℕ) → a ≤ b → (b ≡ a → ⊥) → a < b
      less a b le ne = omega (arith, le, ne)

  pub low_drawn : low ≤ s.clock
  low_drawn = subst (λ (n : ℕ). n ≤ s.clock) (sym low_is) (closed_at_low opening steps s h.kept).drawn

  -- ---- the group
  module _ (n : NextRecords) (are : AreNextRecords c.tale c.closed low n) where
    in_state : AreNextRecords c.tale s.marks.closed (low_water s) n
    in_state = subst (λ (m : Marks). AreNextRecords c.tale m.closed (low_water s) n) (sym h.marks) (subst (λ (l : ℕ). AreNextRecords c.tale c.closed l n) low_is are)

    next_is : IsNextGroup fits s (record { prev = s.marks.closed; mark = n.mark.0; commits = in_state.taken })
    next_is = next_group_among s c.tale h.versions.kept.started h.versions.kept.sound.rising h.tale h.places.readers.idle n in_state

    -- the new mark is the lowest that a group may have
    module _ (up : c.closed < n.mark.0) (moved : (low == c.closed) ≡ false) where
      up_in_state : s.marks.closed ≤ n.mark.0
      up_in_state = subst (λ (m : Marks). m.closed ≤ n.mark.0) (sym h.marks) (omega (arith, up))

      with_group : StandsAmong rs opening steps (after_close s n.mark.0) (record c { closed = n.mark.0; grouped = n.next })
      with_group = record {
        kept = kept_closed opening steps s n.mark.0 h.kept;
        versions = record {
          kept = standing_of opening steps (after_close s n.mark.0) (kept_closed opening steps s n.mark.0 h.kept);
          versions = kept_after_close s (phases_of (state_of c.table)) (all_versions c.versions.slots) n.mark.0 h.versions.versions;
          numbers = h.versions.numbers;
          order = h.versions.order;
        };
        dependencies = close_in_table s c.table n.mark.0 h.dependencies;
        order = h.order;
        works = record { active = h.works.active; preparing = h.works.preparing };
        words = close_in_lists s c.versions.slots (words_in c.table) n.mark.0 h.words;
        tale = tale_closed s n.mark.0 (others_places c.tale) up_in_state h.tale;
        places = h.places;
        stages = h.stages;
        marks = ap (λ (m : Marks). record { opening = m.opening; closed = n.mark.0 }) h.marks;
        grouped = are.next;
        start = h.start;
        over = h.over;
        beside = called_beside_so opening steps (after_close s n.mark.0) (works_in c.works)
            (called_beside opening steps s (works_in c.works) h.beside (Close fits (record { prev = s.marks.closed; mark = n.mark.0; commits = in_state.taken }) false) Accepted fits_alike (closes moved, next_is) (λ g ws. refl));
      }

      -- and what is both in a group and trimmed is forgotten
      pub stands_closed : StandsAmong rs opening steps (after_close s n.mark.0) (record c { tale = forgotten (min c.start n.mark.0) c.tale; closed = n.mark.0; grouped = n.next })
      stands_closed = stands_forgotten rs opening steps (after_close s n.mark.0) (record c { closed = n.mark.0; grouped = n.next }) with_group (min c.start n.mark.0)
          (subst (λ (m : ℕ). min c.start n.mark.0 ≤ m) (sym h.start) (min-le_left c.start n.mark.0)) (min-le_right c.start n.mark.0)

      pub closed_now : (prev : Stamp) → prev.0 ≡ c.closed → KeepsRules (group_of c.closed n.mark.0 n.records.items)
          → (tale : List TalePlace) → tale ≡ forgotten (min c.start n.mark.0) c.tale
          → IsClosedAmong rs opening steps s (record { prev = prev; mark = n.mark }) (record c { tale = tale; closed = n.mark.0; grouped = n.next }) (group_of c.closed n.mark.0 n.records.items)
      closed_now prev was rules tale left = record {
        commits = in_state.taken;
        next = subst (λ (m : Marks). IsNextGroup fits s (record { prev = m.closed; mark = n.mark.0; commits = in_state.taken })) h.marks next_is;
        records = in_state.records;
        rules = rules;
        prev = sym was;
        mark = refl;
        stands = subst (λ (xs : List TalePlace). StandsAmong rs opening steps (after_close s n.mark.0) (record c { tale = xs; closed = n.mark.0; grouped = n.next })) (sym left) stands_closed;
      }

    -- and all are settled up to its mark
    pub all_settled : IsClosedAt s.marks.closed s → IsClosedAt n.mark.0 (after_close s n.mark.0)
    all_settled closed =
        let q = next_group_closes opening steps s fits (record { prev = s.marks.closed; mark = n.mark.0; commits = in_state.taken }) h.kept closed next_is in
        record { drawn = q.closed.drawn; above = q.closed.above }

  -- ---- whether it is refused
  pub not_moved : (full : Bool) → (low == c.closed) ≡ true → IsNotClosedAmong rs opening steps s full NothingToDo c
  not_moved full q = record { refused = subst (λ o. IsRefusal true o NothingToDo) (sym (why_is full ∙ nothing_at low c.closed full q)) refl; stands = h }

  moved_is : (full b : Bool) → (low == c.closed) ≡ false → full ≡ b → first_cause (when b RingFull ∷ []) ≡ why_not_close s full
  moved_is full b ne f = sym (why_is full ∙ moved_at low c.closed full ne ∙ ap (λ (x : Bool). first_cause (when x RingFull ∷ [])) f)

  pub no_slot : (full : Bool) → (low == c.closed) ≡ false → full ≡ true → IsNotClosedAmong rs opening steps s full RingFull c
  no_slot full ne f = record { refused = subst (λ o. IsRefusal true o RingFull) (moved_is full true ne f) refl; stands = h }

  pub no_memory : (full : Bool) → (low == c.closed) ≡ false → full ≡ false → IsNotClosedAmong rs opening steps s full OutOfMemory c
  no_memory full ne f = record { refused = subst (λ o. IsRefusal true o OutOfMemory) (moved_is full false ne f) refl; stands = h }

-- ---- what the code learns
pub made : (o : Option GroupData) (x g : GroupData) → SomeIff o (KeepsRules g) g → o ≡ Some x → KeepsRules g × (g ≡ x)
made o x g h e = let k : SomeIff (Some x) (KeepsRules g) g = subst (λ (v : Option GroupData). SomeIff v (KeepsRules g) g) e h in (k.0, sym k.1)

pub spent_for : {A P : Type 0} (rs : Readers) (opening : Map) (steps : List Step) (s : State) (ring ring2 : Producer GroupData A P) (c : CoreData) → HasClosedAmong rs opening steps s ring (Err OutOfMemory) c ring2
    → (r : Result Closed Refusal) → IsErrAnd r (λ e. e ≡ OutOfMemory) → HasClosedAmong rs opening steps s ring r c ring2
spent_for rs opening steps s ring ring2 c h (Ok a) e = absurd e
spent_for rs opening steps s ring ring2 c h (Err r) e = subst (λ (v : Refusal). HasClosedAmong rs opening steps s ring (Err v) c ring2) (sym e) h
