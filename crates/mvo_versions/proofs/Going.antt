-- A version that changes its words, comes to the front, or goes.
use Rattle.std.proofs.Common.{◌≡◌, ℕ, ◌+◌, ◌-◌, ◌≤◌, ◌^◌, Bool, true, false, cond, not, List, [], ◌∷◌, Option, None, Some, Result, Ok, Err, IsSome, IfSome, refl, sym, ap, ◌∙◌, subst, arith, ◌⊎◌, inl, inr}
use Rattle.std.specs.Prelude.{◌==◌, is_some, slice_index_or, slice_set}
use Rattle.std.specs.Option.{option_map}
use Rattle.std.specs.Result.{OnOk, OnErr}
use Rattle.std.specs.List.{list_any}
use Rattle.std.specs.Ordering.{eq_by_cmp}
use Rattle.std.specs.FinMap as fin
use Rattle.std.proofs.lemmas.Bool.{eq-eqb, cases_eq, true≢false}
use Rattle.std.proofs.lemmas.List.{length-set, get_or-set_same, get_or-set_other}
use Rattle.std.proofs.lemmas.Map.Views.{tells_apart}
use Rattle.mvo_types.proofs.Maps.{exact_keys, keys_total}
use Rattle.mvo_types.specs.declared.row.RowKey.{RowKey}
use Rattle.mvo_types.specs.RowData.{RowData}
use Rattle.mvo_types.specs.Keys.{key_cmp}
use Rattle.mvo_theory.specs.Sound.{how_many}
use Rattle.mvo_chain.specs.declared.version.Version.{Version}
use Rattle.mvo_chain.specs.declared.version.VersionNo.{VersionNo}
use Rattle.mvo_chain.specs.Slots.{Slots, version_at, with_slot, with_change}
use Rattle.mvo_hash.specs.Lists.{Lists, or_empty, with_numbers, numbers_of, newest_of, without_number, is_among, newer_of, IsHeld, IsNewer, IsOlder}
use Rattle.mvo_range.specs.declared.sort_place.SortPlace.{SortPlace}
use Rattle.mvo_range.specs.Place.{PlaceNumbers as Places}
use Rattle.mvo_range.proofs.Places.{places_total}
use Rattle.std.proofs.lemmas.Cmp.{eq_by_cmp_equiv}
use Rattle.mvo_validate.specs.Entries.{key_at}
use Rattle.mvo_visible.specs.Fronts.{with_front, with_less}
use Rattle.mvo_representation.specs.Indexes.{all_versions, is_at_place, is_of_key, version_place, HasNumbers}
use Rattle.mvo_versions.specs.Data.{VersionsData}
use Rattle.mvo_versions.specs.Changes.{is_slot_at, is_number_at, HaveSamePlaces, IsInFront}
use Rattle.mvo_versions.specs.Runs.{runs_at, runs_entry, or_none, is_newest_at, place_at, left, entered, AreCounted}
use Rattle.mvo_versions.proofs.Counting.{one, runs_alike, without_absent, newest_is}
use Rattle.mvo_versions.proofs.Entries.{same, Has, entered_has, left_is, left_has, fewer}
use Rattle.mvo_versions.proofs.Indexing.{set_itself, number_among, key_of_itself, reworded_numbers, front_numbers, less_numbers, inside_of, slot_there}
use Rattle.mvo_versions.proofs.Counted.{indexed, AreNeighbours, goes_runs, front_runs}

abbrev pub with_all : Slots → Lists → Places → VersionsData
with_all slots lists places = record { slots = slots; lists = lists; places = places }

-- what is there, is there
abbrev Found : VersionsData → VersionNo → Type 0
Found v n = (w : Version) × (version_at v.slots n ≡ Some w)

pub found : (v : VersionsData) (n : VersionNo) → IsSome (version_at v.slots n) → Found v n
found v n h = go (version_at v.slots n) refl h
  where
    go : (o : Option Version) → version_at v.slots n ≡ o → IsSome o → Found v n
    go None e q = absurd (true≢false (sym q))
    go (Some w) e q = (w, e)

told : (v : VersionsData) (n : VersionNo) (P : Version → Type 0) (w : Version) → version_at v.slots n ≡ Some w → IfSome (version_at v.slots n) P → P w
told v n P w e h = subst (λ o. IfSome o P) e h

-- it is held by its key
pub is_held : (v : VersionsData) (n : VersionNo) → IsSome (version_at v.slots n) → HasNumbers v.slots v.lists → IsHeld v.lists n.0
is_held v n s h = let f = found v n s in (f.0.row.key, number_among v.slots v.lists n.0 f.0 h f.1)

pub live_among : (v : VersionsData) (n : VersionNo) (p : SortPlace) → IsSome (version_at v.slots n) → IfSome (version_at v.slots n) (λ w. p ≡ version_place w) → AreCounted v → is_among n.0 (numbers_of v.lists (key_at p)) ≡ true
live_among v n p s i h =
    let f = found v n s in
    ap (λ q. is_among n.0 (numbers_of v.lists (key_at q))) (told v n (λ w. p ≡ version_place w) f.0 f.1 i) ∙ number_among v.slots v.lists n.0 f.0 h.numbers f.1

-- ---- words
reworded_runs : (slots : Slots) (lists : Lists) (n : ℕ) (v w : Version) (q : SortPlace) → slice_index_or slots n None ≡ Some v → v.row ≡ w.row → runs_at (slice_set slots n (Some w)) lists q ≡ runs_at slots lists q
reworded_runs slots lists n v w q e r = runs_alike _ _ false (numbers_of lists (key_at q)) (λ m a. go m (cases_eq m n))
  where
    go : (m : ℕ) → (m ≡ n) ⊎ (m ≡ n → ⊥) → is_number_at (slice_set slots n (Some w)) q m ≡ is_number_at slots q m
    go m (inl i) =
        ap (λ j. is_number_at (slice_set slots n (Some w)) q j) i
        ∙ ap (is_slot_at q) (get_or-set_same slots n (Some w) None (inside_of slots n v e))
        ∙ ap (λ (row : RowData). same q (record { table = row.key.table; sort = row.sort; key = row.key.key })) (sym r)
        ∙ ap (is_slot_at q) (sym e)
        ∙ ap (λ j. is_number_at slots q j) (sym i)
    go m (inr d) = ap (is_slot_at q) (get_or-set_other slots n m (Some w) None d)

pub reworded : (v : VersionsData) (n : VersionNo) (change : Version → Version) → ((w : Version) → (change w).row ≡ w.row) → AreCounted v → AreCounted (record v { slots = with_change v.slots n change })
reworded v n change alike h = go (version_at v.slots n) refl
  where
    unchanged : slice_index_or v.slots n.0 None ≡ None → slice_set v.slots n.0 None ≡ v.slots
    unchanged e = ap (slice_set v.slots n.0) (sym e) ∙ set_itself v.slots n.0

    go : (o : Option Version) → version_at v.slots n ≡ o → AreCounted (record v { slots = with_change v.slots n change })
    go None e = subst (λ ss. AreCounted (record v { slots = ss })) (sym (ap (λ o. slice_set v.slots n.0 (option_map change o)) e ∙ unchanged e)) h
    go (Some w) e = subst (λ ss. AreCounted (record v { slots = ss })) (sym (ap (λ o. slice_set v.slots n.0 (option_map change o)) e)) (record {
      numbers = reworded_numbers v.slots v.lists n.0 w (change w) e (sym (alike w)) h.numbers;
      runs = λ q. h.runs q ∙ ap runs_entry (sym (reworded_runs v.slots v.lists n.0 w (change w) q e (sym (alike w))));
      small = subst (λ l. l ≤ 2 ^ 32) (sym (length-set v.slots n.0 (Some (change w)))) h.small;
    })

-- ---- a version goes
near_from : (lists : Lists) (k : RowKey) (n : ℕ) (newer older : Option VersionNo) → is_among n (numbers_of lists k) ≡ true → IsNewer lists n (option_map (λ (m : VersionNo). m.0) newer) → IsOlder lists n (option_map (λ (m : VersionNo). m.0) older) → AreNeighbours lists k n newer older
near_from lists k n newer older a front back = record { front = front.at k a; back = back.at k a }

module _ (v : VersionsData) (n : VersionNo) (p : SortPlace) (k : RowKey) (newer older : Option VersionNo)
    (s : IsSome (version_at v.slots n)) (i : IfSome (version_at v.slots n) (λ w. p ≡ version_place w)) (ki : k ≡ key_at p)
    (front : IsNewer v.lists n.0 (option_map (λ (m : VersionNo). m.0) newer)) (back : IsOlder v.lists n.0 (option_map (λ (m : VersionNo). m.0) older))
    (h : AreCounted v) where
  w : Version
  w = (found v n s).0

  there : version_at v.slots n ≡ Some w
  unfolding w found
  there = (found v n s).1

  place_is : p ≡ version_place w
  place_is = told v n (λ w. p ≡ version_place w) w there i

  key_is : k ≡ w.row.key
  key_is = ki ∙ ap key_at place_is

  near : AreNeighbours v.lists w.row.key n.0 newer older
  near = near_from v.lists w.row.key n.0 newer older (number_among v.slots v.lists n.0 w h.numbers there) front back

  left_places : (places : Places) (f : SortPlace → ℕ) → Has places f → Has (left v.slots places p newer older) (λ q. f q - fewer (version_place w) (place_at v.slots newer) (place_at v.slots older) q)
  left_places places f has =
      subst (λ x. Has x (λ q. f q - fewer (version_place w) (place_at v.slots newer) (place_at v.slots older) q))
      (sym (ap (λ x. left v.slots places x newer older) place_is ∙ left_is v.slots places (version_place w) newer older))
      (left_has places f (version_place w) (place_at v.slots newer) (place_at v.slots older) has)

  pub went : (slots : Slots) (lists : Lists) (places : Places) → slots ≡ with_slot v.slots n None → lists ≡ with_less v.lists k n.0 → places ≡ left v.slots v.places p newer older → AreCounted (with_all slots lists places)
  went slots lists places ss ls ps =
      subst (λ x. AreCounted (with_all x lists places)) (sym ss)
      (subst (λ x. AreCounted (with_all (with_slot v.slots n None) x places)) (sym (ls ∙ ap (λ x. with_less v.lists x n.0) key_is))
      (subst (λ x. AreCounted (with_all (with_slot v.slots n None) (with_less v.lists w.row.key n.0) x)) (sym ps) (record {
        numbers = less_numbers v.slots v.lists n w there h.numbers;
        runs = λ q. left_places v.places (runs_at v.slots v.lists) h.runs q ∙ ap runs_entry (sym (goes_runs v.slots v.lists n w newer older q there h.numbers near));
        small = subst (λ l. l ≤ 2 ^ 32) (sym (length-set v.slots n.0 None)) h.small;
      })))

  -- it comes to the front, from behind another
  pub came_front : (joins : Bool) (lists : Lists) (between places : Places) → IsSome newer → joins ≡ is_newest_at v.slots v.lists p → lists ≡ with_front v.lists k n.0 → between ≡ entered joins v.places p → places ≡ left v.slots between p newer older → AreCounted (with_all v.slots lists places)
  came_front joins lists between places behind j ls bs ps =
      subst (λ x. AreCounted (with_all v.slots x places)) (sym (ls ∙ ap (λ x. with_front v.lists x n.0) key_is))
      (subst (λ x. AreCounted (with_all v.slots (with_front v.lists w.row.key n.0) x)) (sym (ps ∙ ap (λ x. left v.slots x p newer older) between_is)) (record {
        numbers = front_numbers v.slots v.lists n.0 w there h.numbers;
        runs = λ q. left_places (entered newest v.places (version_place w)) (λ r. runs_at v.slots v.lists r + cond newest 0 (one (same r (version_place w)))) (entered_has newest v.places (runs_at v.slots v.lists) (version_place w) h.runs) q
            ∙ ap runs_entry (sym (front_runs v.slots v.lists n w newer older q there h.numbers near behind));
        small = h.small;
      }))
    where
      newest : Bool
      newest = is_newest_at v.slots v.lists (version_place w)

      between_is : between ≡ entered newest v.places (version_place w)
      between_is = bs ∙ ap (λ x. entered x v.places p) (j ∙ ap (is_newest_at v.slots v.lists) place_is) ∙ ap (entered newest v.places) place_is

  -- the place of what is there has an entry
  pub has_entry : fin.get v.places p ≡ None → ⊥
  has_entry e = true≢false (sym (ap is_some (sym e) ∙ (indexed v h).order.at p ∙ ap (λ x. list_any (is_at_place x) (all_versions v.slots)) place_is ∙ slot_there (version_place w) v.slots n.0 (ap (is_slot_at (version_place w)) there ∙ place_of_itself)))
    where
      place_of_itself : same (version_place w) (version_place w) ≡ true
      place_of_itself = (eq_by_cmp_equiv places_total).refl (version_place w)

-- the places of the same versions are the same
pub same_places : (slots : Slots) (lists lists' : Lists) (places places' : Places) → AreCounted (with_all slots lists places) → AreCounted (with_all slots lists' places') → HaveSamePlaces places places'
same_places slots lists lists' places places' h i = record { at = λ p. (indexed (with_all slots lists' places') i).order.at p ∙ sym ((indexed (with_all slots lists places) h).order.at p) }

-- what is in front already stays there
front_list : (n : ℕ) (ns : List ℕ) → newest_of ns ≡ Some n → how_many (λ i. i == n) ns ≡ 1 → n ∷ without_number n ns ≡ ns
front_list n [] e once = absurd cc
front_list n (m ∷ ns) e once =
    let is : m ≡ n = ap or_none e in
    let rest : how_many (λ i. i == n) ns ≡ 0 = let c : one (m == n) ≡ 1 = ap one (eq-eqb m n is) in omega (arith, once, c) in
    ap (λ b. n ∷ cond (not b) (m ∷ without_number n ns) (without_number n ns)) (eq-eqb n m (sym is))
    ∙ ap (λ ms. n ∷ ms) (without_absent n ns rest) ∙ ap (λ i. i ∷ ns) (sym is)

put_itself : (lists : Lists) (k : RowKey) (ns : List ℕ) → (o : Option (List ℕ)) → fin.get lists k ≡ o → ns ≡ or_empty o → (n : ℕ) → newest_of ns ≡ Some n → with_numbers lists k ns ≡ lists
put_itself lists k [] o e i n f = absurd cc
put_itself lists k (m ∷ ns) None e i n f = absurd cc
put_itself lists k (m ∷ ns) (Some ms) e i n f = fin.same_map keys_total exact_keys (fin.insert lists k (m ∷ ns)) lists (λ q. fin.get-insert keys_total lists k (m ∷ ns) q ∙ go q (eq_by_cmp key_cmp q k) refl)
  where
    go : (q : RowKey) (b : Bool) → eq_by_cmp key_cmp q k ≡ b → cond b (Some (m ∷ ns)) (fin.get lists q) ≡ fin.get lists q
    go q true t = ap Some i ∙ sym e ∙ ap (fin.get lists) (sym (tells_apart exact_keys q k t))
    go q false t = refl

front_itself : (v : VersionsData) (n : VersionNo) (w : Version) → version_at v.slots n ≡ Some w → HasNumbers v.slots v.lists → newer_of n.0 (numbers_of v.lists w.row.key) ≡ None → v.lists ≡ with_front v.lists w.row.key n.0
front_itself v n w e h f =
    let ns = numbers_of v.lists w.row.key in
    let newest : newest_of ns ≡ Some n.0 = newest_is n.0 ns (number_among v.slots v.lists n.0 w h e) f in
    let once : how_many (λ i. i == n.0) ns ≡ 1 = h.at w.row.key n.0 ∙ ap (λ x. one (is_of_key w.row.key x)) e ∙ ap one (key_of_itself w.row.key) in
    sym (ap (with_numbers v.lists w.row.key) (front_list n.0 ns newest once) ∙ put_itself v.lists w.row.key ns (fin.get v.lists w.row.key) refl refl n.0 newest)

pub stays_front : (v : VersionsData) (n : VersionNo) → HasNumbers v.slots v.lists → IsNewer v.lists n.0 None → IsInFront v v n
stays_front v n h front = record {
  slots = refl;
  lists = λ w e. front_itself v n w e h (sym (front.at w.row.key (number_among v.slots v.lists n.0 w h e)));
  places = record { at = λ p. refl };
}

-- the key of the place is that of the version
pub key_there : (v : VersionsData) (n : VersionNo) (p : SortPlace) (k : RowKey) (w : Version) → IfSome (version_at v.slots n) (λ w. p ≡ version_place w) → k ≡ key_at p → version_at v.slots n ≡ Some w → k ≡ w.row.key
key_there v n p k w i ki e = ki ∙ ap key_at (told v n (λ u. p ≡ version_place u) w e i)

-- what is refused only without an entry isn't refused with one
pub made_anyway : {X E P Q : Type 0} (r : Result X E) → OnOk r P → OnErr r Q → (Q → ⊥) → P
made_anyway (Ok x) p q never = p
made_anyway (Err e) p q never = absurd (never q)
