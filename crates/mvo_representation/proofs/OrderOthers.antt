-- The opening and a finished word keep the versions of each key in order; versions at the front keep their numbers.
use Rattle.std.proofs.Common.{◌≡◌, ◌≢◌, ℕ, ◌+◌, ◌≤◌, suc, Bool, true, false, cond, eqb, ◌||◌, List, [], ◌∷◌, ◌++◌, Option, None, Some, refl, sym, ap, ◌∙◌, subst, arith, ◌⊎◌, inl, inr}
use Rattle.std.specs.Prelude.{◌==◌, ◌&&◌, slice_index_or, slice_set}
use Rattle.std.specs.List.{AllByRecursion}
use Rattle.std.specs.Option.{option_map}
use Rattle.std.specs.FinMap as fin
use Rattle.std.specs.Ordering.{eq_by_cmp}
use Rattle.std.specs.Cmp.{eq_by_cmp_equiv}
use Rattle.std.proofs.lemmas.Bool.{cases_eq, eqb-true, eq-eqb, ne_eqb, false≢true, true≢false, lt-ltb}
use Rattle.std.proofs.lemmas.List.{get_or-set_other}
use Rattle.mvo_types.proofs.Maps.{keys_total}
use Rattle.mvo_types.specs.declared.row.RowKey.{RowKey}
use Rattle.mvo_types.specs.RowData.{ContentData, content_of}
use Rattle.mvo_types.specs.Keys.{key_cmp}
use Rattle.mvo_types.specs.Write.Effect.{Put}
use Rattle.mvo_model.specs.Trace.Phase.{Active}
use Rattle.mvo_theory.specs.Sound.{how_many}
use Rattle.mvo_theory.proofs.Footprints.{or_left, or_right}
use Rattle.mvo_word.specs.declared.held.Held.{Held}
use Rattle.mvo_word.specs.declared.held.Held.TheVariants.{At, Infinity}
use Rattle.mvo_chain.specs.declared.version.Version.{Version}
use Rattle.mvo_chain.specs.Slots.{Slots, version_at}
use Rattle.mvo_hash.specs.Lists.{Lists, is_among, number, numbers_of, without_number}
use Rattle.mvo_visible.specs.Words.{States, names}
use Rattle.mvo_visible.specs.Fronts.{with_front}
use Rattle.mvo_representation.specs.Words.{Ends, ends_of, stamp_in, NetEffect, with_effect, is_clash, as_net_effect, is_up_to, is_standing, standing_effect}
use Rattle.mvo_representation.specs.Words.NetEffect.{Untouched, Removed, Puts, Clash}
use Rattle.mvo_representation.specs.Indexes.{all_versions, is_of_key, HasNumbers}
use Rattle.mvo_representation.specs.Table.{phases_of}
use Rattle.mvo_representation.specs.Order.{EachPair, MayPrecede, IsSeenAlike, with_front_if, word_of_stamp, IsFinished}
use Rattle.mvo_representation.specs.Order.HasSameWords.{Same}
use Rattle.mvo_representation.specs.OrderLaws.{OpeningStandsInOrder, FinishStaysInOrder, FrontsKeepNumbers, NumbersAreAmong, HolesAreFresh}
use Rattle.mvo_representation.proofs.Kept.{standing_effect-at}
use Rattle.mvo_representation.proofs.Numbers.{without_same, without_other}
use Rattle.mvo_representation.proofs.OrderLists.{On, OnOne, pairs_weaker}
use Rattle.mvo_representation.proofs.OrderSteps.{at_each, order_from, live, more_at, at_key, alike_stay_in_order}
use Rattle.mvo_representation.proofs.OrderEnds.{own_stamp}
use Rattle.mvo_representation.proofs.OrderBases.{stands_here}
use Rattle.mvo_representation.proofs.Slots.{some_version}
use Rattle.mvo_representation.proofs.WordPlaces.{one_name}
use Rattle.mvo_deps.proofs.Lists.{one}

-- ---- numbers
among_counts : (n : ℕ) (ns : List ℕ) → is_among n ns ≡ true → 1 ≤ how_many (λ m. m == n) ns
among_counts n [] e = absurd (false≢true e)
among_counts n (m ∷ ns) e = go (eqb n m) refl e (among_counts n ns)
  where
    go : (b : Bool) → eqb n m ≡ b → (b || is_among n ns) ≡ true → (is_among n ns ≡ true → 1 ≤ how_many (λ i. i == n) ns) → 1 ≤ one (m == n) + how_many (λ i. i == n) ns
    go true f g r = let c : one (m == n) ≡ 1 = ap one (eq-eqb m n (sym (eqb-true n m f))) in omega (arith, c)
    go false f g r = let l = r g in omega (arith, l)

counts_among : (n : ℕ) (ns : List ℕ) → 1 ≤ how_many (λ m. m == n) ns → is_among n ns ≡ true
counts_among n [] le = absurd (omega arith)
counts_among n (m ∷ ns) le = go (m == n) refl le (counts_among n ns)
  where
    go : (b : Bool) → (m == n) ≡ b → 1 ≤ one b + how_many (λ i. i == n) ns → (1 ≤ how_many (λ i. i == n) ns → is_among n ns ≡ true) → (eqb n m || is_among n ns) ≡ true
    go true e l r = or_left (eqb n m) (is_among n ns) (eq-eqb n m (sym (eqb-true m n e)))
    go false e l r = or_right (eqb n m) (is_among n ns) (r (omega (arith, l)))

pub numbers_are_among : NumbersAreAmong
numbers_are_among slots lists n v h e = counts_among n (numbers_of lists v.row.key) (let q = h.at v.row.key n in let w : one (is_of_key v.row.key (slice_index_or slots n None)) ≡ 1 = ap (λ o. one (is_of_key v.row.key o)) e ∙ ap one (same_keys v.row.key) in omega (arith, q, w))
  where
    same_keys : (k : RowKey) → eq_by_cmp key_cmp k k ≡ true
    same_keys k = (eq_by_cmp_equiv keys_total).refl k

pub holes_are_fresh : HolesAreFresh
holes_are_fresh slots lists n h e = record { at = λ k. go k (is_among n (numbers_of lists k)) refl }
  where
    go : (k : RowKey) (b : Bool) → is_among n (numbers_of lists k) ≡ b → is_among n (numbers_of lists k) ≡ false
    go k false f = f
    go k true f = absurd (let l = among_counts n (numbers_of lists k) f in let q = h.at k n in let w : one (is_of_key k (slice_index_or slots n None)) ≡ 0 = ap (λ o. one (is_of_key k o)) e in omega (arith, l, q, w))

front_counts : (n j : ℕ) (ns : List ℕ) → is_among n ns ≡ true → how_many (λ i. i == n) ns ≤ 1 → how_many (λ i. i == j) (n ∷ without_number n ns) ≡ how_many (λ i. i == j) ns
front_counts n j ns e le = elim (cases_eq j n) [
  | inl same ↦
      let c : one (n == j) ≡ 1 = ap one (eq-eqb n j (sym same)) in
      let z : how_many (λ i. i == j) (without_number n ns) ≡ 0 = ap (λ m. how_many (λ i. i == m) (without_number n ns)) same ∙ without_same n ns in
      let l = among_counts n ns e in
      let q : how_many (λ i. i == j) ns ≡ how_many (λ i. i == n) ns = ap (λ m. how_many (λ i. i == m) ns) same in
      omega (arith, c, z, l, q, le)
  | inr other ↦ let c : one (n == j) ≡ 0 = ap one (ne_eqb n j (λ i. other (sym i))) in let z = without_other n j ns other in omega (arith, c, z)
]

pub front_keeps_numbers : (slots : Slots) (lists : Lists) (n : ℕ) (v : Version) → version_at slots (number n) ≡ Some v → HasNumbers slots lists → HasNumbers slots (with_front lists v.row.key n)
front_keeps_numbers slots lists n v e h = record {
  at = λ k j. at_each (λ ns. how_many (λ m. m == j) ns ≡ one (is_of_key k (slice_index_or slots j None))) lists v.row.key (n ∷ without_number n (numbers_of lists v.row.key)) k
      (λ same. front_counts n j (numbers_of lists v.row.key) (numbers_are_among slots lists n v h e) (at_most n) ∙ h.at v.row.key j ∙ ap (λ (q : RowKey). one (is_of_key q (slice_index_or slots j None))) same) (h.at k j);
}
  where
    at_one : (b : Bool) → one b ≤ 1
    at_one true = omega arith
    at_one false = omega arith

    at_most : (m : ℕ) → how_many (λ i. i == m) (numbers_of lists v.row.key) ≤ 1
    at_most m = let q = h.at v.row.key m in let l = at_one (is_of_key v.row.key (slice_index_or slots m None)) in omega (arith, q, l)

pub fronts_keep_numbers : FrontsKeepNumbers
fronts_keep_numbers test slots lists [] h = h
fronts_keep_numbers test slots lists (n ∷ ns) h = fronts_keep_numbers test slots (with_front_if test lists n (version_at slots (number n))) ns (go (version_at slots (number n)) refl)
  where
    by : (b : Bool) (v : Version) → version_at slots (number n) ≡ Some v → HasNumbers slots (cond b (with_front lists v.row.key n) lists)
    by true v e = front_keeps_numbers slots lists n v e h
    by false v e = h

    go : (o : Option Version) → version_at slots (number n) ≡ o → HasNumbers slots (with_front_if test lists n o)
    go None e = h
    go (Some v) e = by (test v) v e

-- ---- a word that is finished
finished_stamp : (states : States) (t : ℕ) (old new : Held) → IsFinished (ends_of (phases_of states)) t old new → stamp_in (ends_of (phases_of states)) new ≡ stamp_in (ends_of (phases_of states)) old
finished_stamp states t old new (inl e) = ap (stamp_in (ends_of (phases_of states))) e
finished_stamp states t old new (inr e) = ap (stamp_in (ends_of (phases_of states))) e.1 ∙ of_stamp (ends_of (phases_of states) t) ∙ sym (own_stamp t states old e.0)
  where
    of_stamp : (o : Option ℕ) → stamp_in (ends_of (phases_of states)) (word_of_stamp o) ≡ o
    of_stamp None = refl
    of_stamp (Some e) = refl

finished_name : (states : States) (t u : ℕ) (old new : Held) → u ≢ t → IsFinished (ends_of (phases_of states)) t old new → names u new ≡ names u old
finished_name states t u old new d (inl e) = ap (names u) e
finished_name states t u old new d (inr e) = ap (names u) e.1 ∙ none (ends_of (phases_of states) t) ∙ sym (go (names u old) refl)
  where
    none : (o : Option ℕ) → names u (word_of_stamp o) ≡ false
    none None = refl
    none (Some x) = refl

    go : (b : Bool) → names u old ≡ b → names u old ≡ false
    go true f = absurd (d (one_name u t old f e.0))
    go false f = f

pub finish_stays_in_order : FinishStaysInOrder
finish_stays_in_order start states slots slots' lists t n v w still at now begin end order = alike_stay_in_order start states states slots slots' lists (λ m x e. go m.0 x e (cases_eq m.0 n)) order
  where
    apart : (u : ℕ) → phases_of states u ≡ Active → u ≢ t
    apart u act q = still (ap (phases_of states) (sym q) ∙ act)

    here : IsSeenAlike states states v w
    here = record { begin = finished_stamp states t v.begin w.begin begin; end = finished_stamp states t v.end w.end end; active = λ u act. Same act (finished_name states t u v.begin w.begin (apart u act) begin) (finished_name states t u v.end w.end (apart u act) end) }

    go : (m : ℕ) (x : Version) → version_at slots' (number m) ≡ Some x → (m ≡ n) ⊎ (m ≡ n → ⊥) → (y : Version) × (version_at slots (number m) ≡ Some y) × IsSeenAlike states states y x
    go m x e (inl same) = (v, ap (λ (i : ℕ). version_at slots (number i)) same ∙ at, subst (IsSeenAlike states states v) (some_version w x (sym now.here ∙ ap (λ (i : ℕ). version_at slots' (number i)) (sym same) ∙ e)) here)
    go m x e (inr other) = (x, sym (now.others (number m) other) ∙ e, record { begin = refl; end = refl; active = λ u act. Same act refl refl })

-- ---- a core that was just opened
-- each number stands once
each_once : (ns : List ℕ) → ((n : ℕ) → how_many (λ m. m == n) ns ≤ 1) → EachPair (λ a b. a ≢ b) ns
each_once [] h = tt
each_once (n ∷ ns) h = (
  others ns (let l = h n in let c : one (n == n) ≡ 1 = ap one (eq-eqb n n refl) in omega (arith, l, c)),
  each_once ns (λ m. let l = h m in omega (arith, l)),
)
  where
    others : (ms : List ℕ) → how_many (λ m. m == n) ms ≤ 0 → AllByRecursion (λ b. n ≢ b) ms
    others [] le = tt
    others (m ∷ ms) le = ((λ e. let c : one (m == n) ≡ 1 = ap one (eq-eqb m n (sym e)) in omega (arith, le, c)), others ms (omega (arith, le)))

two_standing : (ends : Ends) (start : ℕ) (k : RowKey) (slots : Slots) (a b : ℕ) (w v : Version) → a ≢ b → version_at slots (number a) ≡ Some w → version_at slots (number b) ≡ Some v → w.row.key ≡ k → v.row.key ≡ k → is_standing ends start w ≡ true → is_standing ends start v ≡ true → is_clash (standing_effect ends start k (all_versions slots)) ≡ true
two_standing ends start k slots a b w v d at at' kw kv on on' =
    let x = more_at slots a w at in
    let y = more_at (slice_set slots a None) b v (get_or-set_other slots a b None None (λ e. d (sym e)) ∙ at') in
    ap (λ vs. is_clash (standing_effect ends start k vs)) (sym x.with')
    ∙ ap is_clash (standing_effect-at ends start k x.before w x.after ∙ ap (λ e. with_effect e (standing_effect ends start k (x.before ++ x.after))) (stands_here ends start k w kw on)
    ∙ ap (λ vs. with_effect (Puts (content_of w.row)) (standing_effect ends start k vs)) (x.without ∙ sym y.with')
    ∙ ap (with_effect (Puts (content_of w.row))) (standing_effect-at ends start k y.before v y.after ∙ ap (λ e. with_effect e (standing_effect ends start k (y.before ++ y.after))) (stands_here ends start k v kv on')))
    ∙ clash (content_of w.row) (content_of v.row) (standing_effect ends start k (y.before ++ y.after))
  where
    clash : (h g : ContentData) (d : NetEffect) → is_clash (with_effect (Puts h) (with_effect (Puts g) d)) ≡ true
    clash h g Untouched = refl
    clash h g Removed = refl
    clash h g (Puts f) = refl
    clash h g Clash = refl

pub opening_stands_in_order : OpeningStandsInOrder
opening_stands_in_order rows mark states slots lists h numbers loaded key =
    order_from mark (phases_of states) slots (numbers_of lists key) (pairs_weaker (OnOne slots (λ x. x.row.key ≡ key)) (λ a b. a ≢ b) (On slots (MayPrecede mark (phases_of states))) pair (numbers_of lists key) (at_key slots lists key numbers) (each_once (numbers_of lists key) at_most))
  where
    at_one : (b : Bool) → one b ≤ 1
    at_one true = omega arith
    at_one false = omega arith

    at_most : (n : ℕ) → how_many (λ m. m == n) (numbers_of lists key) ≤ 1
    at_most n = let q = numbers.at key n in let l = at_one (is_of_key key (slice_index_or slots n None)) in omega (arith, q, l)

    stands : (n : ℕ) (v : Version) → version_at slots (number n) ≡ Some v → is_standing (ends_of (phases_of states)) mark v ≡ true
    stands n v e =
        let p = live slots (λ x. (x.begin ≡ At (record { 0 = mark })) × (x.end ≡ Infinity)) loaded n v e in
        ap (λ (w : Held). is_up_to mark (stamp_in (ends_of (phases_of states)) w) && cond (is_up_to mark (stamp_in (ends_of (phases_of states)) v.end)) false true) p.0
        ∙ ap (λ (w : Held). is_up_to mark (Some mark) && cond (is_up_to mark (stamp_in (ends_of (phases_of states)) w)) false true) p.1
        ∙ ap (λ (b : Bool). b && true) (lt-ltb mark (suc mark) (omega arith))

    no_clash : (o : Option ContentData) → is_clash (as_net_effect (option_map (λ h. Put h) o)) ≡ false
    no_clash None = refl
    no_clash (Some h) = refl

    pair : (a b : ℕ) → OnOne slots (λ x. x.row.key ≡ key) a → OnOne slots (λ x. x.row.key ≡ key) b → a ≢ b → On slots (MayPrecede mark (phases_of states)) a b
    pair a b ka kb d w v p q = absurd (true≢false (sym (two_standing (ends_of (phases_of states)) mark key slots a b w v d p q (ka w p) (kb v q) (stands a w p) (stands b v q)) ∙ ap is_clash (h.stood key) ∙ no_clash (fin.get rows key)))
