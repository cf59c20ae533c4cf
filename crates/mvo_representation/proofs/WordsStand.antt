-- Once a word is finished, others see the same, and what the core has stands for the same state.
use Rattle.std.proofs.Common.{◌≡◌, ◌≢◌, ℕ, ◌<◌, zero, suc, Bool, true, cond, ◌||◌, List, [], ◌∷◌, ◌++◌, length, Option, None, Some, refl, sym, ap, ◌∙◌, subst, arith, ◌⊎◌, inl, inr}
use Rattle.std.specs.Prelude.{slice_index_or, slice_set}
use Rattle.std.specs.List.{AllByRecursion, list_any}
use Rattle.std.proofs.lemmas.Bool.{cases_eq}
use Rattle.std.proofs.lemmas.List.{get_or-set_same, get_or-set_other}
use Rattle.std.specs.Ordering.{eq_by_cmp}
use Rattle.mvo_types.specs.declared.row.RowKey.{RowKey}
use Rattle.mvo_types.specs.Keys.{Map, key_cmp}
use Rattle.mvo_model.specs.Trace.Phase.{Active}
use Rattle.mvo_theory.specs.State.{State, ActiveTx, StampedTx, EndedTx, Outcome, preparing_of, ended_of, is_active_as, is_preparing_as, is_ended_as}
use Rattle.mvo_theory.specs.State.Outcome.{Committed as Commits, Aborted as Aborts}
use Rattle.mvo_theory.specs.Phases.{phase_in, phase_by, ended_as}
use Rattle.mvo_theory.specs.Sound.{IsSingle}
use Rattle.mvo_theory.proofs.Each.{each_weaker}
use Rattle.mvo_theory.proofs.Finds.{find_none, count_some}
use Rattle.mvo_theory.proofs.Single.{active_found, preparing_found}
use Rattle.mvo_theory.proofs.Who.{active_holds}
use Rattle.mvo_chain.specs.declared.version.Version.{Version}
use Rattle.mvo_chain.specs.Slots.{Slots, version_at}
use Rattle.mvo_hash.specs.Lists.{Lists, number}
use Rattle.mvo_range.specs.Place.{PlaceNumbers as Places, place_cmp}
use Rattle.mvo_visible.specs.Words.{States, names}
use Rattle.mvo_work.specs.declared.word_place.WordPlace.{WordPlace}
use Rattle.mvo_work.specs.declared.word_place.WordPlace.TheVariants.{Begin, End}
use Rattle.mvo_representation.specs.Words.{Phases, ends_of, end_in}
use Rattle.mvo_representation.specs.Versions.{IsKnown, AreVersionsOf}
use Rattle.mvo_representation.specs.Indexes.{all_versions, is_of_key, is_at_place, HasNumbers, HasPlaces}
use Rattle.mvo_representation.specs.Laws.{VersionsStandFor}
use Rattle.mvo_representation.specs.Steps.{IsOneChanged}
use Rattle.mvo_representation.specs.Table.{phases_of}
use Rattle.mvo_representation.specs.Order.{word_of_stamp}
use Rattle.mvo_representation.specs.Order.HasSameWords.{Same}
use Rattle.mvo_representation.specs.OrderLaws.{HaveNow}
use Rattle.mvo_representation.specs.WordLists.{number_at_word, word_at, names_at, finished}
use Rattle.mvo_representation.specs.WordLaws.{FinishedIsAlike, FinishedStands}
use Rattle.mvo_representation.proofs.Indexed.{there-at}
use Rattle.mvo_representation.proofs.Finish.{kept_word}
use Rattle.mvo_representation.proofs.OrderSteps.{live}
use Rattle.mvo_representation.proofs.Slots.{slot_changed, some_version}
use Rattle.mvo_representation.proofs.WordPlaces.{names_here}
use Rattle.mvo_representation.proofs.WordsSaid.{ended_not_active, active_there}
use Rattle.mvo_representation.proofs.WordsFinished.{row_stays, begin_alike, end_alike, begin_names, end_names, end_stays}

-- ---- others see the same
pub ended_phase : (s : State) (u : EndedTx) → IsSingle s → ended_of u.id s.ended ≡ Some u → phase_in s u.id ≡ ended_as u.outcome
ended_phase s u h e =
    ap (λ (a : Option ActiveTx). phase_by a (preparing_of u.id s.stamped) (ended_of u.id s.ended)) (active_found u.id s.active ∙ find_none (is_active_as u.id) s.active (let l = count_some (is_ended_as u.id) s.ended u e in let o = h.once u.id in omega arith))
    ∙ ap (λ (b : Option StampedTx). phase_by None b (ended_of u.id s.ended)) (preparing_found u.id s.stamped ∙ find_none (is_preparing_as u.id) s.stamped (let l = count_some (is_ended_as u.id) s.ended u e in let o = h.once u.id in omega arith))
    ∙ ap (phase_by None None) e

not_active_ended : (s : State) (u : EndedTx) (t : ℕ) → IsSingle s → ended_of u.id s.ended ≡ Some u → phase_in s t ≡ Active → t ≢ u.id
not_active_ended s u t h e a i =
    let r = active_there s t a in
    let w = active_holds (λ q. q.id ≢ u.id) t s.active r.0 r.1 (ended_not_active s u.id u h e) in
    w.0 (w.1 ∙ i)

pub finished_is_alike : FinishedIsAlike
finished_is_alike opening s states slots lists places u p v h e at name = record {
  begin = begin_alike (ends_of (phases_of states)) u.id p v mine;
  end = end_alike (ends_of (phases_of states)) u.id p v mine;
  active = λ t a. let d = not_active_ended s u t h.kept.single e (sym (h.versions.phases t) ∙ a) in Same a (begin_names (ends_of (phases_of states)) u.id t p v mine d) (end_names (ends_of (phases_of states)) u.id t p v mine d);
}
  where
    mine : names u.id (word_at p v) ≡ true
    mine = sym (names_here slots u.id p v at) ∙ name

-- slots that have the same at each number have the same versions
same_versions : (a b : Slots) → ((m : ℕ) → slice_index_or a m None ≡ slice_index_or b m None) → all_versions a ≡ all_versions b
same_versions [] [] f = refl
same_versions [] (None ∷ b) f = same_versions [] b (λ m. f (suc m))
same_versions [] (Some v ∷ b) f = absurd (none v (f zero))
  where
    none : (v : Version) → ◌≡◌ {A = Option Version} None (Some v) → ⊥
    none v q = cc
same_versions (None ∷ a) [] f = same_versions a [] (λ m. f (suc m))
same_versions (Some v ∷ a) [] f = absurd (none v (f zero))
  where
    none : (v : Version) → ◌≡◌ {A = Option Version} (Some v) None → ⊥
    none v q = cc
same_versions (None ∷ a) (None ∷ b) f = same_versions a b (λ m. f (suc m))
same_versions (None ∷ a) (Some v ∷ b) f = absurd (none v (f zero))
  where
    none : (v : Version) → ◌≡◌ {A = Option Version} None (Some v) → ⊥
    none v q = cc
same_versions (Some v ∷ a) (None ∷ b) f = absurd (none v (f zero))
  where
    none : (v : Version) → ◌≡◌ {A = Option Version} (Some v) None → ⊥
    none v q = cc
same_versions (Some v ∷ a) (Some w ∷ b) f = ap (λ (x : Version). x ∷ all_versions a) (some_version v w (f zero)) ∙ ap (λ vs. w ∷ vs) (same_versions a b (λ m. f (suc m)))

in_range : (slots : Slots) (n : ℕ) (v : Version) → slice_index_or slots n None ≡ Some v → n < length slots
in_range [] zero v e = absurd (none v e)
  where
    none : (v : Version) → ◌≡◌ {A = Option Version} None (Some v) → ⊥
    none v q = cc
in_range [] (suc n) v e = absurd (none v e)
  where
    none : (v : Version) → ◌≡◌ {A = Option Version} None (Some v) → ⊥
    none v q = cc
in_range (o ∷ ss) zero v e = omega arith
in_range (o ∷ ss) (suc n) v e = let l = in_range ss n v e in omega (arith, l)

-- a version that changes is one of all
one_changed : (slots slots' : Slots) (n : ℕ) (v w : Version) → version_at slots (number n) ≡ Some v → HaveNow slots slots' n w → IsOneChanged v w (all_versions slots) (all_versions slots')
one_changed slots slots' n v w at now = subst (IsOneChanged v w (all_versions slots)) (same_versions (slice_set slots n (Some w)) slots' (λ m. same m (cases_eq m n))) (slot_changed slots n v w at)
  where
    same : (m : ℕ) → (m ≡ n) ⊎ (m ≡ n → ⊥) → slice_index_or (slice_set slots n (Some w)) m None ≡ slice_index_or slots' m None
    same m (inl i) = ap (λ (j : ℕ). slice_index_or (slice_set slots n (Some w)) j None) i ∙ get_or-set_same slots n (Some w) None (in_range slots n v at) ∙ sym (ap (λ (j : ℕ). slice_index_or slots' j None) i ∙ now.here)
    same m (inr d) = get_or-set_other slots n m (Some w) None d ∙ sym (now.others (number m) d)

finished_versions : (opening : Map) (s : State) (states : States) (slots slots' : Slots) (lists : Lists) (places : Places) (u : EndedTx) (p : WordPlace) (v : Version) → VersionsStandFor opening s states slots lists places → ended_of u.id s.ended ≡ Some u → version_at slots (number_at_word p) ≡ Some v → names_at slots u.id p ≡ true → HaveNow slots slots' (number_at_word p).0 (finished (ends_of (phases_of states)) u.id p v) → AreVersionsOf s (phases_of states) (all_versions slots')
finished_versions opening s states slots slots' lists places u p v h e at name now =
    subst (AreVersionsOf s table) c.is (kept_word s table c.before v w c.after (subst (AreVersionsOf s table) (sym c.was) h.versions) (sym (row_stays (ends_of table) u.id p v))
    (record { stamp = sym (begin_alike (ends_of table) u.id p v mine); active = each_weaker (λ r. r.id ≢ u.id) (λ r. names r.id v.begin ≡ names r.id w.begin) (λ r d. sym (begin_names (ends_of table) u.id r.id p v mine d)) s.active apart })
    (record { stamp = sym (end_alike (ends_of table) u.id p v mine); active = each_weaker (λ r. r.id ≢ u.id) (λ r. names r.id v.end ≡ names r.id w.end) (λ r d. sym (end_names (ends_of table) u.id r.id p v mine d)) s.active apart })
    (end_stays (ends_of table) u.id p v mine)
    (known_begin p) (known_end p))
  where
    table : Phases
    table = phases_of states

    w : Version
    w = finished (ends_of table) u.id p v

    c : IsOneChanged v w (all_versions slots) (all_versions slots')
    c = one_changed slots slots' (number_at_word p).0 v w at now

    mine : names u.id (word_at p v) ≡ true
    mine = sym (names_here slots u.id p v at) ∙ name

    apart : AllByRecursion (λ r. r.id ≢ u.id) s.active
    apart = ended_not_active s u.id u h.kept.single e

    was : IsKnown s table v.begin × IsKnown s table v.end
    was = live slots (λ x. IsKnown s table x.begin × IsKnown s table x.end) h.versions.known (number_at_word p).0 v at

    known : (o : Outcome) → table u.id ≡ ended_as o → IsKnown s table (word_of_stamp (ends_of table u.id))
    known (Commits n) q = subst (λ (x : Option ℕ). IsKnown s table (word_of_stamp x)) (sym (ap end_in q)) (h.versions.committed u.id n q)
    known Aborts q = subst (λ (x : Option ℕ). IsKnown s table (word_of_stamp x)) (sym (ap end_in q)) tt

    known_new : IsKnown s table (word_of_stamp (ends_of table u.id))
    known_new = known u.outcome (h.versions.phases u.id ∙ ended_phase s u h.kept.single e)

    known_begin : (q : WordPlace) → IsKnown s table (finished (ends_of table) u.id q v).begin
    known_begin (Begin n) = known_new
    known_begin (End n) = was.0

    known_end : (q : WordPlace) → IsKnown s table (finished (ends_of table) u.id q v).end
    known_end (Begin n) = was.1
    known_end (End n) = known_new

-- the keys and the places are those that they were
numbers_alike : (slots slots' : Slots) (lists : Lists) (n : ℕ) (v w : Version) → version_at slots (number n) ≡ Some v → HaveNow slots slots' n w → w.row ≡ v.row → HasNumbers slots lists → HasNumbers slots' lists
numbers_alike slots slots' lists n v w at now row h = record { at = λ k m. h.at k m ∙ ap (λ (b : Bool). cond b 1 0) (sym (same k m (cases_eq m n))) }
  where
    same : (k : RowKey) (m : ℕ) → (m ≡ n) ⊎ (m ≡ n → ⊥) → is_of_key k (slice_index_or slots' m None) ≡ is_of_key k (slice_index_or slots m None)
    same k m (inl i) = ap (λ (j : ℕ). is_of_key k (version_at slots' (number j))) i ∙ ap (is_of_key k) now.here ∙ ap (λ r. eq_by_cmp key_cmp k r.key) row ∙ sym (ap (λ (j : ℕ). is_of_key k (version_at slots (number j))) i ∙ ap (is_of_key k) at)
    same k m (inr d) = ap (is_of_key k) (now.others (number m) d)

places_alike : (v w : Version) (old new : List Version) (places : Places) → IsOneChanged v w old new → w.row ≡ v.row → HasPlaces old places → HasPlaces new places
places_alike v w old new places c row h = record {
  at = λ q. h.at q
      ∙ ap (list_any (is_at_place q)) (sym c.was) ∙ there-at q c.before v c.after
      ∙ ap (λ r. eq_by_cmp place_cmp q (record { table = r.key.table; sort = r.sort; key = r.key.key }) || list_any (is_at_place q) (c.before ++ c.after)) (sym row)
      ∙ sym (there-at q c.before w c.after) ∙ ap (list_any (is_at_place q)) c.is;
}

pub finished_stands : FinishedStands
finished_stands opening s states slots slots' lists places u p v h e at name now = record {
  kept = h.kept;
  versions = finished_versions opening s states slots slots' lists places u p v h e at name now;
  numbers = numbers_alike slots slots' lists (number_at_word p).0 v (finished (ends_of (phases_of states)) u.id p v) at now (row_stays (ends_of (phases_of states)) u.id p v) h.numbers;
  order = places_alike v (finished (ends_of (phases_of states)) u.id p v) (all_versions slots) (all_versions slots') places (one_changed slots slots' (number_at_word p).0 v (finished (ends_of (phases_of states)) u.id p v) at now) (row_stays (ends_of (phases_of states)) u.id p v) h.order;
}
