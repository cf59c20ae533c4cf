-- The numbers of each key stay right where a version is put, changes its words, comes to the front,
-- or goes; and a version stands at a place where a number of its key does.
use Rattle.std.proofs.Common.{◌≡◌, ℕ, ◌+◌, ◌<◌, suc, zero, Bool, true, false, cond, not, eqb, ◌||◌, List, [], ◌∷◌, ◌++◌, length, Option, None, Some, refl, sym, ap, ◌∙◌, subst, arith, ◌⊎◌, inl, inr}
use Rattle.std.specs.Prelude.{◌==◌, slice_index_or, slice_get, slice_set}
use Rattle.std.specs.List.{list_any}
use Rattle.std.specs.Ordering.{eq_by_cmp}
use Rattle.std.specs.FinMap as fin
use Rattle.std.proofs.lemmas.Bool.{eq-eqb, eqb-true, ne_eqb, true≢false, cases_eq}
use Rattle.std.proofs.lemmas.List.{get_or-set_same, get_or-set_other, set-get_or}
use Rattle.std.proofs.lemmas.Map.Views.{tells_apart}
use Rattle.std.proofs.lemmas.Cmp.{eq_by_cmp_equiv}
use Rattle.mvo_types.proofs.Maps.{exact_keys, keys_total}
use Rattle.mvo_types.specs.declared.row.RowKey.{RowKey}
use Rattle.mvo_types.specs.Keys.{key_cmp}
use Rattle.mvo_theory.specs.Sound.{how_many}
use Rattle.mvo_chain.specs.declared.version.Version.{Version}
use Rattle.mvo_chain.specs.declared.version.VersionNo.{VersionNo}
use Rattle.mvo_chain.specs.Slots.{Slots, version_at, with_room, with_slot, with_change, hole_count}
use Rattle.std.specs.Option.{option_map}
use Rattle.mvo_hash.specs.Lists.{Lists, numbers_of, without_number, is_among, IsNewNumber}
use Rattle.mvo_range.specs.declared.sort_place.SortPlace.{SortPlace}
use Rattle.mvo_range.specs.Place.{PlaceNumbers as Places}
use Rattle.mvo_range.proofs.Places.{exact_places}
use Rattle.mvo_validate.specs.Entries.{key_at}
use Rattle.mvo_visible.specs.Fronts.{with_front, with_less}
use Rattle.mvo_representation.specs.Indexes.{all_versions, is_of_key, HasNumbers, version_place, is_at_place, HasPlaces}
use Rattle.mvo_representation.specs.Steps.{IsOneChanged}
use Rattle.mvo_representation.proofs.Slots.{room_made, slot_changed}
use Rattle.mvo_representation.proofs.Numbers.{numbers_gone, numbers_with}
use Rattle.mvo_representation.proofs.Indexed.{places_same}
use Rattle.mvo_versions.specs.Data.{VersionsData, AreIndexed}
use Rattle.mvo_versions.specs.Changes.{is_slot_at, is_number_at}
use Rattle.mvo_versions.proofs.Counting.{one}

-- ---- slots
pub set_itself : (slots : Slots) (n : ℕ) → slice_set slots n (slice_index_or slots n None) ≡ slots
set_itself slots n = set-get_or slots n None

-- what a hole is
pub hole_inside : (slots : Slots) (n : ℕ) → slice_get slots n ≡ Some None → n < length slots
hole_inside [] n e = absurd cc
hole_inside (x ∷ xs) zero e = omega arith
hole_inside (x ∷ xs) (suc n) e = let h = hole_inside xs n e in omega (arith, h)

pub hole_empty : (slots : Slots) (n : ℕ) → slice_get slots n ≡ Some None → slice_index_or slots n None ≡ None
hole_empty [] n e = refl
hole_empty (x ∷ xs) zero e = cc
hole_empty (x ∷ xs) (suc n) e = hole_empty xs n e

pub appended_same : (slots : Slots) (n : ℕ) → slice_index_or (slots ++ None ∷ []) n None ≡ slice_index_or slots n None
appended_same [] zero = refl
appended_same [] (suc n) = refl
appended_same (x ∷ xs) zero = refl
appended_same (x ∷ xs) (suc n) = appended_same xs n

-- a slot with room has the same versions
pub room_same : (slots : Slots) (n : ℕ) → slice_index_or (with_room slots) n None ≡ slice_index_or slots n None
room_same slots n = go (hole_count slots == 0)
  where
    go : (b : Bool) → slice_index_or (cond b (slots ++ None ∷ []) slots) n None ≡ slice_index_or slots n None
    go true = appended_same slots n
    go false = refl

pub room_versions : (slots : Slots) → all_versions (with_room slots) ≡ all_versions slots
room_versions slots = go (hole_count slots == 0)
  where
    go : (b : Bool) → all_versions (cond b (slots ++ None ∷ []) slots) ≡ all_versions slots
    go true = room_made slots
    go false = refl

-- what is filled and emptied again is as it was
pub emptied_again : (slots : Slots) (n : ℕ) (v : Version) → slice_get slots n ≡ Some None → slice_set (slice_set slots n (Some v)) n None ≡ slots
emptied_again [] n v e = refl
emptied_again (x ∷ xs) zero v e = ap (λ (y : Option Version). y ∷ xs) (inside x e)
  where
    inside : (x : Option Version) → ◌≡◌ {A = Option (Option Version)} (Some x) (Some None) → None ≡ x
    inside None q = refl
    inside (Some w) q = absurd cc
emptied_again (x ∷ xs) (suc n) v e = ap (λ ys. x ∷ ys) (emptied_again xs n v e)

pub inside_of : (slots : Slots) (n : ℕ) (v : Version) → slice_index_or slots n None ≡ Some v → n < length slots
inside_of [] n v e = absurd cc
inside_of (x ∷ xs) zero v e = omega arith
inside_of (x ∷ xs) (suc n) v e = let h = inside_of xs n v e in omega (arith, h)

-- ---- numbers
pub room_numbers : (slots : Slots) (lists : Lists) → HasNumbers slots lists → HasNumbers (with_room slots) lists
room_numbers slots lists h = record { at = λ k n. h.at k n ∙ ap (λ x. one (is_of_key k x)) (sym (room_same slots n)) }

pub none_of : (n : ℕ) (ns : List ℕ) → how_many (λ m. m == n) ns ≡ 0 → is_among n ns ≡ false
none_of n [] e = refl
none_of n (m ∷ ns) e = go (cases_eq m n) (none_of n ns)
  where
    go : (m ≡ n) ⊎ (m ≡ n → ⊥) → (how_many (λ m. m == n) ns ≡ 0 → is_among n ns ≡ false) → (eqb n m || is_among n ns) ≡ false
    go (inl q) again = absurd (let c : one (m == n) ≡ 1 = ap one (eq-eqb m n q) in omega (arith, e, c))
    go (inr d) again =
        ap (λ b. b || is_among n ns) (ne_eqb n m (λ q. d (sym q)))
        ∙ again (let c : one (m == n) ≡ 0 = ap one (ne_eqb m n d) in omega (arith, e, c))

some_of : (n : ℕ) (ns : List ℕ) → how_many (λ m. m == n) ns ≡ 1 → is_among n ns ≡ true
some_of n [] e = absurd (omega (arith, e))
some_of n (m ∷ ns) e = go (cases_eq m n) (some_of n ns)
  where
    go : (m ≡ n) ⊎ (m ≡ n → ⊥) → (how_many (λ m. m == n) ns ≡ 1 → is_among n ns ≡ true) → (eqb n m || is_among n ns) ≡ true
    go (inl q) again = ap (λ b. b || is_among n ns) (eq-eqb n m (sym q))
    go (inr d) again =
        ap (λ b. b || is_among n ns) (ne_eqb n m (λ q. d (sym q)))
        ∙ again (let c : one (m == n) ≡ 0 = ap one (ne_eqb m n d) in omega (arith, e, c))

-- no key has the number of an empty slot
pub empty_fresh : (slots : Slots) (lists : Lists) (n : ℕ) → HasNumbers slots lists → slice_index_or slots n None ≡ None → IsNewNumber lists n
empty_fresh slots lists n h e = record { at = λ k. none_of n (numbers_of lists k) (h.at k n ∙ ap (λ x. one (is_of_key k x)) e) }

pub key_of_itself : (k : RowKey) → eq_by_cmp key_cmp k k ≡ true
key_of_itself k = (eq_by_cmp_equiv keys_total).refl k

-- a version stands under its key
pub number_among : (slots : Slots) (lists : Lists) (n : ℕ) (v : Version) → HasNumbers slots lists → slice_index_or slots n None ≡ Some v → is_among n (numbers_of lists v.row.key) ≡ true
number_among slots lists n v h e = some_of n (numbers_of lists v.row.key) (h.at v.row.key n ∙ ap (λ x. one (is_of_key v.row.key x)) e ∙ ap one (key_of_itself v.row.key))

-- ---- words
-- a version whose row stays counts under the same key
pub reworded_numbers : (slots : Slots) (lists : Lists) (n : ℕ) (v w : Version) → slice_index_or slots n None ≡ Some v → v.row ≡ w.row → HasNumbers slots lists → HasNumbers (slice_set slots n (Some w)) lists
reworded_numbers slots lists n v w e r h = record { at = λ k m. h.at k m ∙ ap one (go k m (cases_eq m n)) }
  where
    go : (k : RowKey) (m : ℕ) → (m ≡ n) ⊎ (m ≡ n → ⊥) → is_of_key k (slice_index_or slots m None) ≡ is_of_key k (slice_index_or (slice_set slots n (Some w)) m None)
    go k m (inl q) =
        ap (λ i. is_of_key k (slice_index_or slots i None)) q
        ∙ ap (is_of_key k) e
        ∙ ap (λ row. eq_by_cmp key_cmp k row.key) r
        ∙ ap (is_of_key k) (sym (get_or-set_same slots n (Some w) None (inside_of slots n v e)))
        ∙ ap (λ i. is_of_key k (slice_index_or (slice_set slots n (Some w)) i None)) (sym q)
    go k m (inr d) = ap (is_of_key k) (sym (get_or-set_other slots n m (Some w) None d))

places_changed : (v w : Version) (old new : List Version) (places : Places) → v.row ≡ w.row → IsOneChanged v w old new → HasPlaces old places → HasPlaces new places
places_changed v w old new places r c h = subst (λ vs. HasPlaces vs places) c.is (places_same c.before v w c.after places r (subst (λ vs. HasPlaces vs places) (sym c.was) h))

pub reworded : (v : VersionsData) (n : VersionNo) (change : Version → Version) → ((w : Version) → (change w).row ≡ w.row) → AreIndexed v → AreIndexed (record v { slots = with_change v.slots n change })
reworded v n change same h = go (version_at v.slots n) refl
  where
    unchanged : slice_index_or v.slots n.0 None ≡ None → slice_set v.slots n.0 None ≡ v.slots
    unchanged e = ap (slice_set v.slots n.0) (sym e) ∙ set_itself v.slots n.0

    go : (o : Option Version) → version_at v.slots n ≡ o → AreIndexed (record v { slots = with_change v.slots n change })
    go None e = subst (λ ss. AreIndexed (record v { slots = ss })) (sym (ap (λ o. slice_set v.slots n.0 (option_map change o)) e ∙ unchanged e)) h
    go (Some w) e = subst (λ ss. AreIndexed (record v { slots = ss })) (sym (ap (λ o. slice_set v.slots n.0 (option_map change o)) e)) (record {
      numbers = reworded_numbers v.slots v.lists n.0 w (change w) e (sym (same w)) h.numbers;
      order = places_changed w (change w) (all_versions v.slots) (all_versions (slice_set v.slots n.0 (Some (change w)))) v.places (sym (same w)) (slot_changed v.slots n.0 w (change w) e) h.order;
    })

-- ---- the front
without_none : (n j : ℕ) (ns : List ℕ) → how_many (λ i. i == n) (without_number n ns) ≡ 0
without_none n j [] = refl
without_none n j (m ∷ ns) = go (cases_eq n m) (without_none n j ns)
  where
    go : (n ≡ m) ⊎ (n ≡ m → ⊥) → how_many (λ i. i == n) (without_number n ns) ≡ 0 → how_many (λ i. i == n) (cond (not (eqb n m)) (m ∷ without_number n ns) (without_number n ns)) ≡ 0
    go (inl q) z = ap (λ b. how_many (λ i. i == n) (cond (not b) (m ∷ without_number n ns) (without_number n ns))) (eq-eqb n m q) ∙ z
    go (inr d) z =
        ap (λ b. how_many (λ i. i == n) (cond (not b) (m ∷ without_number n ns) (without_number n ns))) (ne_eqb n m d)
        ∙ (let c : one (m == n) ≡ 0 = ap one (ne_eqb m n (λ q. d (sym q))) in omega (arith, z, c))

without_others : (n j : ℕ) (ns : List ℕ) → (j ≡ n → ⊥) → how_many (λ i. i == j) (without_number n ns) ≡ how_many (λ i. i == j) ns
without_others n j [] d = refl
without_others n j (m ∷ ns) d = go (cases_eq n m) (without_others n j ns d)
  where
    go : (n ≡ m) ⊎ (n ≡ m → ⊥) → how_many (λ i. i == j) (without_number n ns) ≡ how_many (λ i. i == j) ns → how_many (λ i. i == j) (cond (not (eqb n m)) (m ∷ without_number n ns) (without_number n ns)) ≡ one (m == j) + how_many (λ i. i == j) ns
    go (inl q) z =
        ap (λ b. how_many (λ i. i == j) (cond (not b) (m ∷ without_number n ns) (without_number n ns))) (eq-eqb n m q)
        ∙ (let c : one (m == j) ≡ 0 = ap one (ne_eqb m j (λ i. d (sym i ∙ sym q))) in omega (arith, z, c))
    go (inr e) z =
        ap (λ b. how_many (λ i. i == j) (cond (not b) (m ∷ without_number n ns) (without_number n ns))) (ne_eqb n m e)
        ∙ ap (λ x. one (m == j) + x) z

pub front_numbers : (slots : Slots) (lists : Lists) (n : ℕ) (v : Version) → slice_index_or slots n None ≡ Some v → HasNumbers slots lists → HasNumbers slots (with_front lists v.row.key n)
front_numbers slots lists n v e h = record { at = λ q m. ap (how_many (λ i. i == m)) (numbers_with lists v.row.key (n ∷ without_number n (numbers_of lists v.row.key)) q) ∙ go q m (eq_by_cmp key_cmp q v.row.key) refl ∙ h.at q m }
  where
    same : (m : ℕ) → (m ≡ n) ⊎ (m ≡ n → ⊥) → how_many (λ i. i == m) (n ∷ without_number n (numbers_of lists v.row.key)) ≡ how_many (λ i. i == m) (numbers_of lists v.row.key)
    same m (inl q) =
        ap (λ j. how_many (λ i. i == j) (n ∷ without_number n (numbers_of lists v.row.key))) q
        ∙ (let c : one (n == n) ≡ 1 = ap one (eq-eqb n n refl) in
        let z = without_none n n (numbers_of lists v.row.key) in
        let l : how_many (λ i. i == n) (numbers_of lists v.row.key) ≡ 1 = h.at v.row.key n ∙ ap (λ x. one (is_of_key v.row.key x)) e ∙ ap one (key_of_itself v.row.key) in
        omega (arith, c, z, l))
        ∙ ap (λ j. how_many (λ i. i == j) (numbers_of lists v.row.key)) (sym q)
    same m (inr d) =
        let c : one (n == m) ≡ 0 = ap one (ne_eqb n m (λ q. d (sym q))) in
        let o = without_others n m (numbers_of lists v.row.key) d in
        omega (arith, c, o)

    go : (q : RowKey) (m : ℕ) (b : Bool) → eq_by_cmp key_cmp q v.row.key ≡ b → how_many (λ i. i == m) (cond b (n ∷ without_number n (numbers_of lists v.row.key)) (numbers_of lists q)) ≡ how_many (λ i. i == m) (numbers_of lists q)
    go q m true k = same m (cases_eq m n) ∙ ap (λ j. how_many (λ i. i == m) (numbers_of lists j)) (sym (tells_apart exact_keys q v.row.key k))
    go q m false k = refl

-- ---- a version goes
-- where a version stands at the place, one of the key's numbers does, and where one does, it does
pub slot_there : (place : SortPlace) (slots : Slots) (n : ℕ) → is_number_at slots place n ≡ true → list_any (is_at_place place) (all_versions slots) ≡ true
slot_there place [] zero e = absurd (true≢false (sym e))
slot_there place [] (suc n) e = absurd (true≢false (sym e))
slot_there place (None ∷ xs) zero e = absurd (true≢false (sym e))
slot_there place (Some v ∷ xs) zero e = ap (λ b. b || list_any (is_at_place place) (all_versions xs)) e
slot_there place (None ∷ xs) (suc n) e = slot_there place xs n e
slot_there place (Some v ∷ xs) (suc n) e = ap (λ b. is_at_place place v || b) (slot_there place xs n e) ∙ or_true (is_at_place place v)
  where
    or_true : (b : Bool) → (b || true) ≡ true
    or_true true = refl
    or_true false = refl

record IsThere (place : SortPlace) (slots : Slots) : Type 0 where
  number : ℕ
  version : Version
  at : slice_index_or slots number None ≡ Some version
  place' : is_at_place place version ≡ true

there_slot : (place : SortPlace) (slots : Slots) → list_any (is_at_place place) (all_versions slots) ≡ true → IsThere place slots
there_slot place [] e = absurd (true≢false (sym e))
there_slot place (None ∷ xs) e = let h = there_slot place xs e in record { number = suc h.number; version = h.version; at = h.at; place' = h.place' }
there_slot place (Some v ∷ xs) e = go (is_at_place place v) refl e (there_slot place xs)
  where
    go : (b : Bool) → is_at_place place v ≡ b → (b || list_any (is_at_place place) (all_versions xs)) ≡ true → (list_any (is_at_place place) (all_versions xs) ≡ true → IsThere place xs) → IsThere place (Some v ∷ xs)
    go true q f again = record { number = zero; version = v; at = refl; place' = q }
    go false q f again = let h = again f in record { number = suc h.number; version = h.version; at = h.at; place' = h.place' }

among_any : (p : ℕ → Bool) (n : ℕ) (ns : List ℕ) → is_among n ns ≡ true → p n ≡ true → list_any p ns ≡ true
among_any p n [] e q = absurd (true≢false (sym e))
among_any p n (m ∷ ns) e q = go (eqb n m) refl e (among_any p n ns)
  where
    or_true : (b : Bool) → (b || true) ≡ true
    or_true true = refl
    or_true false = refl

    go : (b : Bool) → eqb n m ≡ b → (b || is_among n ns) ≡ true → (is_among n ns ≡ true → p n ≡ true → list_any p ns ≡ true) → (p m || list_any p ns) ≡ true
    go true f g again = ap (λ i. p i || list_any p ns) (sym (eqb-true n m f)) ∙ ap (λ b. b || list_any p ns) q
    go false f g again = ap (λ b. p m || b) (again g q) ∙ or_true (p m)

any_of : (p : ℕ → Bool) (ns : List ℕ) → list_any p ns ≡ true → (n : ℕ) × (p n ≡ true)
any_of p [] e = absurd (true≢false (sym e))
any_of p (m ∷ ns) e = go (p m) refl e (any_of p ns)
  where
    go : (b : Bool) → p m ≡ b → (b || list_any p ns) ≡ true → (list_any p ns ≡ true → (n : ℕ) × (p n ≡ true)) → (n : ℕ) × (p n ≡ true)
    go true q f again = (m, q)
    go false q f again = again f

pub at_key : (place : SortPlace) (v : Version) → is_at_place place v ≡ true → v.row.key ≡ key_at place
at_key place v e = sym (ap key_at (tells_apart exact_places place (version_place v) e))

pub found_at : (slots : Slots) (lists : Lists) (place : SortPlace) → HasNumbers slots lists → list_any (is_number_at slots place) (numbers_of lists (key_at place)) ≡ list_any (is_at_place place) (all_versions slots)
found_at slots lists place h = go (list_any (is_number_at slots place) (numbers_of lists (key_at place))) refl (list_any (is_at_place place) (all_versions slots)) refl
  where
    go : (a : Bool) → list_any (is_number_at slots place) (numbers_of lists (key_at place)) ≡ a → (b : Bool) → list_any (is_at_place place) (all_versions slots) ≡ b → a ≡ b
    go true e true f = refl
    go false e false f = refl
    go true e false f = let n = any_of (is_number_at slots place) (numbers_of lists (key_at place)) e in sym (slot_there place slots n.0 n.1) ∙ f
    go false e true f =
        let t = there_slot place slots f in
        sym e ∙ among_any (is_number_at slots place) t.number (numbers_of lists (key_at place))
        (ap (λ k. is_among t.number (numbers_of lists k)) (sym (at_key place t.version t.place')) ∙ number_among slots lists t.number t.version h t.at)
        (ap (is_slot_at place) t.at ∙ t.place')

pub less_numbers : (slots : Slots) (lists : Lists) (n : VersionNo) (w : Version) → version_at slots n ≡ Some w → HasNumbers slots lists → HasNumbers (with_slot slots n None) (with_less lists w.row.key n.0)
less_numbers slots lists n w e h = numbers_gone slots lists n.0 w (inside_of slots n.0 w e) e h
