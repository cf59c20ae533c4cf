-- The runs at each place where a version is put, changes its words, comes to the front, or goes.
use Rattle.std.proofs.Common.{◌≡◌, ℕ, ◌+◌, ◌-◌, ◌<◌, ◌≤◌, ◌^◌, Bool, true, false, cond, not, eqb, ◌||◌, List, [], ◌∷◌, length, Option, None, Some, IsSome, refl, sym, ap, ◌∙◌, subst, arith, inl, inr}
use Rattle.std.specs.Prelude.{◌==◌, ◌&&◌, is_some, slice_index_or, slice_set}
use Rattle.std.specs.List.{IsDistinct}
use Rattle.std.specs.Option.{option_map}
use Rattle.std.specs.Ordering.{eq_by_cmp}
use Rattle.std.proofs.lemmas.Bool.{eq-eqb, true≢false, or_left}
use Rattle.std.proofs.lemmas.List.{get_or-set_same, get_or-set_other}
use Rattle.std.proofs.lemmas.Map.Steps.{length-le_from_distinct_below}
use Rattle.std.proofs.lemmas.Map.Views.{tells_apart}
use Rattle.mvo_types.proofs.Maps.{exact_keys}
use Rattle.mvo_types.specs.declared.row.RowKey.{RowKey}
use Rattle.mvo_types.specs.Keys.{key_cmp}
use Rattle.mvo_theory.specs.Sound.{how_many}
use Rattle.mvo_chain.specs.declared.version.Version.{Version}
use Rattle.mvo_chain.specs.declared.version.VersionNo.{VersionNo}
use Rattle.mvo_chain.specs.Slots.{Slots, version_at, with_room, with_slot, IsHole}
use Rattle.mvo_hash.specs.Lists.{Lists, numbers_of, newest_of, without_number, is_among, newer_of, older_of, IsNewNumber}
use Rattle.mvo_hash.proofs.Chains.{all_apart}
use Rattle.mvo_range.specs.declared.sort_place.SortPlace.{SortPlace}
use Rattle.mvo_validate.specs.Entries.{key_at}
use Rattle.mvo_visible.specs.Fronts.{with_new, with_front, with_less}
use Rattle.mvo_representation.specs.Indexes.{is_of_key, HasNumbers, version_place}
use Rattle.mvo_representation.proofs.Numbers.{without_same, numbers_with}
use Rattle.mvo_versions.specs.Data.{VersionsData, AreIndexed}
use Rattle.mvo_versions.specs.Changes.{is_slot_at, is_number_at}
use Rattle.mvo_versions.specs.Runs.{runs_behind, runs_at, passes, count_at, is_newest_at, place_at, AreCounted}
use Rattle.mvo_versions.proofs.Counting.{one, runs_alike, in_front, passed_over, few_runs, any_runs, newer_among, newest_stays}
use Rattle.mvo_versions.proofs.Entries.{same, same_is, count_is, stands, one_at_place, one_at_passes, fewer}
use Rattle.mvo_versions.proofs.Indexing.{hole_inside, hole_empty, room_same, inside_of, none_of, empty_fresh, key_of_itself, at_key, found_at}

-- what counts stands under its key and at its place
pub indexed : (v : VersionsData) → AreCounted v → AreIndexed v
indexed v h = record {
  numbers = h.numbers;
  order = record {
    at = λ p. ap is_some (h.runs p) ∙ any_runs (is_number_at v.slots p) (numbers_of v.lists (key_at p)) ∙ found_at v.slots v.lists p h.numbers;
  };
}

-- ---- there are fewer runs than numbers
one_most : (b : Bool) → one b ≤ 1
one_most true = omega arith
one_most false = omega arith

distinct : (ns : List ℕ) → ((i : ℕ) → how_many (λ m. m == i) ns ≤ 1) → IsDistinct eqb ns
unfolding IsDistinct
distinct [] once = tt
distinct (n ∷ ns) once = (
  all_apart n ns (none_of n ns (let here : one (n == n) ≡ 1 = ap one (eq-eqb n n refl) in let most = once n in omega (arith, here, most))),
  distinct ns (λ i. let most = once i in omega (arith, most)),
)

pub once_each : (slots : Slots) (lists : Lists) (k : RowKey) → HasNumbers slots lists → (i : ℕ) → how_many (λ m. m == i) (numbers_of lists k) ≤ 1
once_each slots lists k h i = let e = h.at k i in let most = one_most (is_of_key k (slice_index_or slots i None)) in omega (arith, e, most)

-- what is among a key's numbers is that of a version of the key
pub key_number : (slots : Slots) (lists : Lists) (k : RowKey) (m : ℕ) → HasNumbers slots lists → is_among m (numbers_of lists k) ≡ true → is_of_key k (slice_index_or slots m None) ≡ true
key_number slots lists k m h a = go (is_of_key k (slice_index_or slots m None)) refl
  where
    go : (b : Bool) → is_of_key k (slice_index_or slots m None) ≡ b → b ≡ true
    go true e = refl
    go false e = absurd (true≢false (sym a ∙ none_of m (numbers_of lists k) (h.at k m ∙ ap one e)))

within : (slots : Slots) (lists : Lists) (k : RowKey) (m : ℕ) → HasNumbers slots lists → is_among m (numbers_of lists k) ≡ true → m < length slots
within slots lists k m h a = go (slice_index_or slots m None) refl (key_number slots lists k m h a)
  where
    go : (o : Option Version) → slice_index_or slots m None ≡ o → is_of_key k o ≡ true → m < length slots
    go None e t = absurd (true≢false (sym t))
    go (Some v) e t = inside_of slots m v e

pub few_at : (v : VersionsData) (p : SortPlace) → AreCounted v → count_at v.places p + 1 < 2 ^ 32
few_at v p h =
    let ns = numbers_of v.lists (key_at p) in
    let short : length ns ≤ length v.slots = length-le_from_distinct_below ns (length v.slots) (distinct ns (once_each v.slots v.lists (key_at p) h.numbers)) (λ m a. within v.slots v.lists (key_at p) m h.numbers a) in
    let few = few_runs (is_number_at v.slots p) false ns in
    let is = count_is v.places (runs_at v.slots v.lists) p h.runs in
    let small = h.small in
    omega (arith, short, few, is, small)

-- ---- which numbers stand at a place
abbrev at_place : Slots → SortPlace → ℕ → Bool
at_place slots q m = is_number_at slots q m

number_key : (slots : Slots) (lists : Lists) (k : RowKey) (q : SortPlace) (m : ℕ) → HasNumbers slots lists → is_among m (numbers_of lists k) ≡ true → is_number_at slots q m ≡ true → key_at q ≡ k
number_key slots lists k q m h a t = go (slice_index_or slots m None) (key_number slots lists k m h a) t
  where
    go : (o : Option Version) → is_of_key k o ≡ true → is_slot_at q o ≡ true → key_at q ≡ k
    go None e f = absurd (true≢false (sym e))
    go (Some v) e f = sym (at_key q v f) ∙ sym (tells_apart exact_keys k v.row.key e)

others_same : (slots : Slots) (n : ℕ) (o : Option Version) (q : SortPlace) (m : ℕ) → (m ≡ n → ⊥) → is_number_at (slice_set slots n o) q m ≡ is_number_at slots q m
others_same slots n o q m d = ap (is_slot_at q) (get_or-set_other slots n m o None d)

not_itself : (n : ℕ) (ns : List ℕ) (m : ℕ) → is_among n ns ≡ false → is_among m ns ≡ true → m ≡ n → ⊥
not_itself n ns m f a e = true≢false (sym a ∙ ap (λ i. is_among i ns) e ∙ f)

newest_alike : (p q : ℕ → Bool) (ns : List ℕ) → ((n : ℕ) → is_among n ns ≡ true → p n ≡ q n) → passes p (newest_of ns) ≡ passes q (newest_of ns)
newest_alike p q [] alike = refl
newest_alike p q (n ∷ ns) alike = alike n (or_left (eqb n n) (is_among n ns) (eq-eqb n n refl))

same_key : (q p : SortPlace) (k : RowKey) → key_at p ≡ k → eq_by_cmp key_cmp (key_at q) k ≡ false → same q p ≡ false
same_key q p k e d = go (same q p) refl
  where
    go : (b : Bool) → same q p ≡ b → b ≡ false
    go false f = refl
    go true f = absurd (true≢false (sym (ap (λ i. eq_by_cmp key_cmp i k) (ap key_at (same_is q p f) ∙ e) ∙ key_of_itself k) ∙ d))

no_more : (j s : Bool) → s ≡ false → cond j 0 (one s) ≡ 0
no_more true s e = refl
no_more false s e = ap one e

-- ---- a version comes
new_runs : (s h j : Bool) (r r' : ℕ) → (s ≡ true → h ≡ j) → r' + one (s && h) ≡ one s + r → r' ≡ r + cond j 0 (one s)
new_runs true true true r r' f e = omega (arith, e)
new_runs true true false r r' f e = absurd (true≢false (f refl))
new_runs true false true r r' f e = absurd (true≢false (sym (f refl)))
new_runs true false false r r' f e = omega (arith, e)
new_runs false h true r r' f e = omega (arith, e)
new_runs false h false r r' f e = omega (arith, e)

pub comes_runs : (slots : Slots) (lists : Lists) (n : VersionNo) (w : Version) (q : SortPlace) → IsHole (with_room slots) n → HasNumbers slots lists → runs_at (with_slot (with_room slots) n (Some w)) (with_new lists w.row.key n.0) q ≡ runs_at slots lists q + cond (is_newest_at slots lists (version_place w)) 0 (one (same q (version_place w)))
comes_runs slots lists n w q hole h =
    ap (runs_behind false (at_place filled q)) (numbers_with lists w.row.key (n.0 ∷ numbers_of lists w.row.key) (key_at q))
    ∙ go (eq_by_cmp key_cmp (key_at q) w.row.key) refl
  where
    filled : Slots
    filled = slice_set (with_room slots) n.0 (Some w)

    fresh : IsNewNumber lists n.0
    fresh = empty_fresh slots lists n.0 h (sym (room_same slots n.0) ∙ hole_empty (with_room slots) n.0 hole)

    alike : (k : RowKey) (m : ℕ) → is_among m (numbers_of lists k) ≡ true → is_number_at filled q m ≡ is_number_at slots q m
    alike k m a =
        others_same (with_room slots) n.0 (Some w) q m (not_itself n.0 (numbers_of lists k) m (fresh.at k) a)
        ∙ ap (is_slot_at q) (room_same slots m)

    itself : is_number_at filled q n.0 ≡ same q (version_place w)
    itself = ap (is_slot_at q) (get_or-set_same (with_room slots) n.0 (Some w) None (hole_inside (with_room slots) n.0 hole))

    joins : same q (version_place w) ≡ true → passes (at_place slots q) (newest_of (numbers_of lists w.row.key)) ≡ is_newest_at slots lists (version_place w)
    joins e = ap (λ i. passes (at_place slots i) (newest_of (numbers_of lists w.row.key))) (same_is q (version_place w) e)

    go : (b : Bool) → eq_by_cmp key_cmp (key_at q) w.row.key ≡ b → runs_behind false (at_place filled q) (cond b (n.0 ∷ numbers_of lists w.row.key) (numbers_of lists (key_at q))) ≡ runs_at slots lists q + cond (is_newest_at slots lists (version_place w)) 0 (one (same q (version_place w)))
    go true e =
        let ns = numbers_of lists w.row.key in
        new_runs (same q (version_place w)) (passes (at_place slots q) (newest_of ns)) (is_newest_at slots lists (version_place w)) (runs_at slots lists q) _ joins
        (ap (λ b. runs_behind false (at_place filled q) (n.0 ∷ ns) + one (b && passes (at_place slots q) (newest_of ns))) (sym itself)
        ∙ ap (λ b. runs_behind false (at_place filled q) (n.0 ∷ ns) + one (is_number_at filled q n.0 && b)) (sym (newest_alike (at_place filled q) (at_place slots q) ns (alike w.row.key)))
        ∙ in_front (at_place filled q) n.0 ns
        ∙ ap (λ b. one b + runs_behind false (at_place filled q) ns) itself
        ∙ ap (λ m. one (same q (version_place w)) + m) (runs_alike (at_place filled q) (at_place slots q) false ns (alike w.row.key))
        ∙ ap (λ k. one (same q (version_place w)) + runs_behind false (at_place slots q) (numbers_of lists k)) (sym (tells_apart exact_keys (key_at q) w.row.key e)))
    go false e =
        runs_alike (at_place filled q) (at_place slots q) false (numbers_of lists (key_at q)) (alike (key_at q))
        ∙ (let z = no_more (is_newest_at slots lists (version_place w)) (same q (version_place w)) (same_key q (version_place w) w.row.key refl e) in omega (arith, z))

-- ---- a version goes
less_runs : (x a b : Bool) (r w : ℕ) → w + (one (x && not a) + one (b && not x)) ≡ r + one (b && not a) → w ≡ r - cond x (one (not (a || b))) (one (a && b))
less_runs true true true r w e = omega (arith, e)
less_runs true true false r w e = omega (arith, e)
less_runs true false true r w e = omega (arith, e)
less_runs true false false r w e = omega (arith, e)
less_runs false true true r w e = omega (arith, e)
less_runs false true false r w e = omega (arith, e)
less_runs false false true r w e = omega (arith, e)
less_runs false false false r w e = omega (arith, e)

front_joined : (a b h : Bool) (r w r' : ℕ) → w + (one (true && not a) + one (b && not true)) ≡ r + one (b && not a) → r' + one (true && h) ≡ one true + w → r' ≡ (r + cond h 0 (one true)) - one (not (a || b))
front_joined true true true r w r' e g = omega (arith, e, g)
front_joined true true false r w r' e g = omega (arith, e, g)
front_joined true false true r w r' e g = omega (arith, e, g)
front_joined true false false r w r' e g = omega (arith, e, g)
front_joined false true true r w r' e g = omega (arith, e, g)
front_joined false true false r w r' e g = omega (arith, e, g)
front_joined false false true r w r' e g = omega (arith, e, g)
front_joined false false false r w r' e g = omega (arith, e, g)

front_apart : (a b j : Bool) (r w r' : ℕ) → w + (one (false && not a) + one (b && not false)) ≡ r + one (b && not a) → r' + 0 ≡ 0 + w → r' ≡ (r + cond j 0 (one false)) - one (a && b)
front_apart true true true r w r' e g = omega (arith, e, g)
front_apart true true false r w r' e g = omega (arith, e, g)
front_apart true false true r w r' e g = omega (arith, e, g)
front_apart true false false r w r' e g = omega (arith, e, g)
front_apart false true true r w r' e g = omega (arith, e, g)
front_apart false true false r w r' e g = omega (arith, e, g)
front_apart false false true r w r' e g = omega (arith, e, g)
front_apart false false false r w r' e g = omega (arith, e, g)

front_sum : (x a b h j : Bool) (r w r' : ℕ) → (x ≡ true → h ≡ j) → w + (one (x && not a) + one (b && not x)) ≡ r + one (b && not a) → r' + one (x && h) ≡ one x + w → r' ≡ (r + cond j 0 (one x)) - cond x (one (not (a || b))) (one (a && b))
front_sum true a b h j r w r' f e g = subst (λ i. r' ≡ (r + cond i 0 (one true)) - one (not (a || b))) (f refl) (front_joined a b h r w r' e g)
front_sum false a b h j r w r' f e g = front_apart a b j r w r' e g

-- the neighbours of a version, by number
pub record AreNeighbours (lists : Lists) (k : RowKey) (n : ℕ) (newer older : Option VersionNo) : Type 0 where
  pub front : option_map (λ (m : VersionNo). m.0) newer ≡ newer_of n (numbers_of lists k)
  pub back : option_map (λ (m : VersionNo). m.0) older ≡ older_of n (numbers_of lists k)

stands_as : (slots : Slots) (q : SortPlace) (o : Option VersionNo) (i : Option ℕ) → option_map (λ (m : VersionNo). m.0) o ≡ i → passes (at_place slots q) i ≡ stands q (place_at slots o)
stands_as slots q o i e = ap (passes (at_place slots q)) (sym e) ∙ sym (one_at_passes slots q o) ∙ one_at_place slots q o

-- a newer neighbour stands at no place of another key
other_newer : (slots : Slots) (lists : Lists) (k : RowKey) (n : ℕ) (q : SortPlace) → HasNumbers slots lists → eq_by_cmp key_cmp (key_at q) k ≡ false → passes (at_place slots q) (newer_of n (numbers_of lists k)) ≡ false
other_newer slots lists k n q h d = go (newer_of n (numbers_of lists k)) refl
  where
    at : (m : ℕ) → is_among m (numbers_of lists k) ≡ true → (b : Bool) → is_number_at slots q m ≡ b → b ≡ false
    at m a false e = refl
    at m a true e = absurd (true≢false (sym (ap (λ i. eq_by_cmp key_cmp i k) (number_key slots lists k q m h a e) ∙ key_of_itself k) ∙ d))

    go : (o : Option ℕ) → newer_of n (numbers_of lists k) ≡ o → passes (at_place slots q) o ≡ false
    go None e = refl
    go (Some m) e = elim (newer_among n None (numbers_of lists k) m e) [
      | inl c ↦ absurd cc
      | inr a ↦ at m a (is_number_at slots q m) refl
    ]

module _ (slots : Slots) (lists : Lists) (n : VersionNo) (w : Version) (newer older : Option VersionNo) (q : SortPlace) (e : version_at slots n ≡ Some w) (h : HasNumbers slots lists) (near : AreNeighbours lists w.row.key n.0 newer older) where
  itself_at : is_number_at slots q n.0 ≡ same q (version_place w)
  itself_at = ap (is_slot_at q) e

  once_there : how_many (λ i. i == n.0) (numbers_of lists w.row.key) ≡ 1
  once_there = h.at w.row.key n.0 ∙ ap (λ x. one (is_of_key w.row.key x)) e ∙ ap one (key_of_itself w.row.key)

  rest_sum : runs_behind false (at_place slots q) (without_number n.0 (numbers_of lists w.row.key)) + (one (same q (version_place w) && not (stands q (place_at slots newer))) + one (stands q (place_at slots older) && not (same q (version_place w)))) ≡ runs_behind false (at_place slots q) (numbers_of lists w.row.key) + one (stands q (place_at slots older) && not (stands q (place_at slots newer)))
  rest_sum =
      let ns = numbers_of lists w.row.key in
      let r = runs_behind false (at_place slots q) ns in
      let rest = runs_behind false (at_place slots q) (without_number n.0 ns) in
      subst (λ x. rest + (one (x && not (stands q (place_at slots newer))) + one (stands q (place_at slots older) && not x)) ≡ r + one (stands q (place_at slots older) && not (stands q (place_at slots newer)))) itself_at
      (subst (λ a. rest + (one (is_number_at slots q n.0 && not a) + one (stands q (place_at slots older) && not (is_number_at slots q n.0))) ≡ r + one (stands q (place_at slots older) && not a)) (stands_as slots q newer (newer_of n.0 ns) near.front)
      (subst (λ b. rest + (one (is_number_at slots q n.0 && not (passes (at_place slots q) (newer_of n.0 ns))) + one (b && not (is_number_at slots q n.0))) ≡ r + one (b && not (passes (at_place slots q) (newer_of n.0 ns)))) (stands_as slots q older (older_of n.0 ns) near.back)
      (passed_over (at_place slots q) n.0 None ns once_there)))

  -- none fewer at a place of another key
  pub none_elsewhere : eq_by_cmp key_cmp (key_at q) w.row.key ≡ false → fewer (version_place w) (place_at slots newer) (place_at slots older) q ≡ 0
  none_elsewhere d =
      ap (λ x. cond x (one (not (stands q (place_at slots newer) || stands q (place_at slots older)))) (one (stands q (place_at slots newer) && stands q (place_at slots older)))) (same_key q (version_place w) w.row.key refl d)
      ∙ ap (λ a. one (a && stands q (place_at slots older))) (sym (stands_as slots q newer (newer_of n.0 (numbers_of lists w.row.key)) near.front) ∙ other_newer slots lists w.row.key n.0 q h d)

  pub goes_runs : runs_at (with_slot slots n None) (with_less lists w.row.key n.0) q ≡ runs_at slots lists q - fewer (version_place w) (place_at slots newer) (place_at slots older) q
  goes_runs =
      ap (runs_behind false (at_place (slice_set slots n.0 None) q)) (numbers_with lists w.row.key (without_number n.0 (numbers_of lists w.row.key)) (key_at q))
      ∙ go (eq_by_cmp key_cmp (key_at q) w.row.key) refl
    where
      alike : (ns : List ℕ) → is_among n.0 ns ≡ false → (m : ℕ) → is_among m ns ≡ true → is_number_at (slice_set slots n.0 None) q m ≡ is_number_at slots q m
      alike ns f m a = others_same slots n.0 None q m (not_itself n.0 ns m f a)

      go : (b : Bool) → eq_by_cmp key_cmp (key_at q) w.row.key ≡ b → runs_behind false (at_place (slice_set slots n.0 None) q) (cond b (without_number n.0 (numbers_of lists w.row.key)) (numbers_of lists (key_at q))) ≡ runs_at slots lists q - fewer (version_place w) (place_at slots newer) (place_at slots older) q
      go true t =
          runs_alike (at_place (slice_set slots n.0 None) q) (at_place slots q) false (without_number n.0 (numbers_of lists w.row.key)) (alike (without_number n.0 (numbers_of lists w.row.key)) (none_of n.0 (without_number n.0 (numbers_of lists w.row.key)) (without_same n.0 (numbers_of lists w.row.key))))
          ∙ less_runs (same q (version_place w)) (stands q (place_at slots newer)) (stands q (place_at slots older)) (runs_behind false (at_place slots q) (numbers_of lists w.row.key)) (runs_behind false (at_place slots q) (without_number n.0 (numbers_of lists w.row.key))) rest_sum
          ∙ ap (λ k. runs_behind false (at_place slots q) (numbers_of lists k) - fewer (version_place w) (place_at slots newer) (place_at slots older) q) (sym (tells_apart exact_keys (key_at q) w.row.key t))
      go false d =
          runs_alike (at_place (slice_set slots n.0 None) q) (at_place slots q) false (numbers_of lists (key_at q)) (alike (numbers_of lists (key_at q)) (none_of n.0 (numbers_of lists (key_at q)) (h.at (key_at q) n.0 ∙ ap (λ x. one (is_of_key (key_at q) x)) e ∙ ap one d)))
          ∙ (let z = none_elsewhere d in omega (arith, z))

  -- it comes to the front, where it isn't
  pub front_runs : IsSome newer → runs_at slots (with_front lists w.row.key n.0) q ≡ (runs_at slots lists q + cond (is_newest_at slots lists (version_place w)) 0 (one (same q (version_place w)))) - fewer (version_place w) (place_at slots newer) (place_at slots older) q
  front_runs there =
      ap (runs_behind false (at_place slots q)) (numbers_with lists w.row.key (n.0 ∷ without_number n.0 (numbers_of lists w.row.key)) (key_at q))
      ∙ go (eq_by_cmp key_cmp (key_at q) w.row.key) refl
    where
      ns : List ℕ
      ns = numbers_of lists w.row.key

      some_number : (o : Option VersionNo) → IsSome o → is_some (option_map (λ (m : VersionNo). m.0) o) ≡ true
      some_number None i = absurd (true≢false (sym i))
      some_number (Some m) i = refl

      stays : newest_of (without_number n.0 ns) ≡ newest_of ns
      stays = newest_stays n.0 None ns refl (ap is_some (sym near.front) ∙ some_number newer there)

      joins : same q (version_place w) ≡ true → passes (at_place slots q) (newest_of ns) ≡ is_newest_at slots lists (version_place w)
      joins s = ap (λ i. passes (at_place slots i) (newest_of ns)) (same_is q (version_place w) s)

      first : runs_behind false (at_place slots q) (n.0 ∷ without_number n.0 ns) + one (same q (version_place w) && passes (at_place slots q) (newest_of ns)) ≡ one (same q (version_place w)) + runs_behind false (at_place slots q) (without_number n.0 ns)
      first =
          subst (λ x. runs_behind false (at_place slots q) (n.0 ∷ without_number n.0 ns) + one (x && passes (at_place slots q) (newest_of ns)) ≡ one x + runs_behind false (at_place slots q) (without_number n.0 ns)) itself_at
          (subst (λ o. runs_behind false (at_place slots q) (n.0 ∷ without_number n.0 ns) + one (is_number_at slots q n.0 && passes (at_place slots q) o) ≡ one (is_number_at slots q n.0) + runs_behind false (at_place slots q) (without_number n.0 ns)) stays
          (in_front (at_place slots q) n.0 (without_number n.0 ns)))

      go : (b : Bool) → eq_by_cmp key_cmp (key_at q) w.row.key ≡ b → runs_behind false (at_place slots q) (cond b (n.0 ∷ without_number n.0 ns) (numbers_of lists (key_at q))) ≡ (runs_at slots lists q + cond (is_newest_at slots lists (version_place w)) 0 (one (same q (version_place w)))) - fewer (version_place w) (place_at slots newer) (place_at slots older) q
      go true t =
          front_sum (same q (version_place w)) (stands q (place_at slots newer)) (stands q (place_at slots older)) (passes (at_place slots q) (newest_of ns)) (is_newest_at slots lists (version_place w)) (runs_behind false (at_place slots q) ns) (runs_behind false (at_place slots q) (without_number n.0 ns)) (runs_behind false (at_place slots q) (n.0 ∷ without_number n.0 ns)) joins rest_sum first
          ∙ ap (λ k. (runs_behind false (at_place slots q) (numbers_of lists k) + cond (is_newest_at slots lists (version_place w)) 0 (one (same q (version_place w)))) - fewer (version_place w) (place_at slots newer) (place_at slots older) q) (sym (tells_apart exact_keys (key_at q) w.row.key t))
      go false d =
          let z = none_elsewhere d in
          let y = no_more (is_newest_at slots lists (version_place w)) (same q (version_place w)) (same_key q (version_place w) w.row.key refl d) in
          omega (arith, z, y)
