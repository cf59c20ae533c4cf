-- Keys that fall.
use Rattle.std.proofs.Common.{◌≡◌, ◌⊎◌, inl, inr, ⊎_elim, ℕ, zero, suc, ◌-◌, ◌<◌, ◌≤◌, Bool, true, false, List, [], ◌∷◌, ◌++◌, length, Option, None, Some, refl, sym, ap, subst, ◌∙◌, arith, get_or}
use Rattle.std.specs.Prelude.{slice_get, IfSome, IsTrue, nat_eq, ◌&&◌}
use Rattle.std.specs.Option.{option_map}
use Rattle.std.specs.List.{IsDistinct, last_or}
use Rattle.std.specs.List.Sorted.{IsStrictlySortedBy, IsPartitionedBy, IsPartitionPoint}
use Rattle.std.specs.Ordering.{eq_by_cmp, is_lt}
use Rattle.std.specs.declared.cmp.Ordering.{Ordering}
use Rattle.std.specs.declared.cmp.Ordering.TheVariants.{Less, Equal, Greater}
use Rattle.std.specs.FinMap.{find}
use Rattle.std.proofs.lemmas.Bool.{cond-true, cond-false, cases_order, eq-eqb}
use Rattle.std.proofs.lemmas.Cmp.{tied_itself}
use Rattle.std.proofs.lemmas.List.{map-append, length-map, get_or-map}
use Rattle.std.proofs.lemmas.List.Elements.{Contains-get_or}
use Rattle.std.proofs.lemmas.Map.Keys.{IsDistinct-from_sorted, Less-from_sorted}
use Rattle.mvo_types.specs.declared.row.RowKey.{RowKey}
use Rattle.mvo_types.specs.declared.limits.TheConstants.{MAX_TABLE}
use Rattle.mvo_types.specs.Keys.{key_cmp}
use Rattle.mvo_types.proofs.Maps.{keys_total}
use Rattle.mvo_places.specs.Falling.{keys, falling_cmp, Falls, IsBelowLast, MayStandLast, HaveDistinctKeys}
use Rattle.mvo_places.proofs.Members.{Among, among_append, among_map, all_among, all_from, among_from, contains_from}
use Rattle.mvo_places.proofs.Keys.{eq, key_same, eq_self, eq_flips}

-- ---- keys that fall are distinct

flipped : (xs : List RowKey) → IsDistinct (eq_by_cmp falling_cmp) xs → IsDistinct eq xs
unfolding IsDistinct
flipped [] differ = tt
flipped (x ∷ xs) differ = (all_from (λ y. eq x y ≡ false) xs (λ y a. eq_flips x y ∙ all_among (λ z. eq z x ≡ false) xs y differ.0 a), flipped xs differ.1)

pub falls_apart : {V : Type 0} (es : List (RowKey × V)) → Falls es → HaveDistinctKeys es
falls_apart es falls = flipped (keys es) (IsDistinct-from_sorted falling_cmp (keys es) falls)

-- ---- one more key

sorted_push : {K : Type 0} (c : K → K → Ordering) (ks : List K) (k : K) → IsStrictlySortedBy c ks → ((x : K) → Among ks x → c x k ≡ Less) → IsStrictlySortedBy c (ks ++ k ∷ [])
unfolding IsStrictlySortedBy
sorted_push c [] k sorted each = (tt, tt)
sorted_push c (x ∷ ks) k sorted each = (
  all_from (λ y. c x y ≡ Less) (ks ++ k ∷ []) (λ y a. ⊎_elim (λ (l : Among ks y). all_among (λ z. c x z ≡ Less) ks y sorted.0 l) (λ (r : Among (k ∷ []) y). last y r) (among_append ks (k ∷ []) y a)),
  sorted_push c ks k sorted.1 (λ y a. each y (inr a)),
)
  where
    last : (y : _) → Among (k ∷ []) y → c x y ≡ Less
    last y (inl e) = ap (c x) (sym e) ∙ each x (inl refl)
    last y (inr a) = absurd a

below_each : (o : Option RowKey) (ks : List RowKey) (key : RowKey) → IsStrictlySortedBy falling_cmp ks → IfSome (last_or o ks) (λ last. key_cmp key last ≡ Less) → (x : RowKey) → Among ks x → key_cmp key x ≡ Less
unfolding IsStrictlySortedBy
below_each o [] key sorted below x a = absurd a
below_each o (y ∷ ks) key sorted below x (inr a) = below_each (Some y) ks key sorted.1 below x a
below_each o (y ∷ []) key sorted below x (inl e) = subst (λ z. key_cmp key z ≡ Less) e below
below_each o (y ∷ z ∷ ks) key sorted below x (inl e) =
    subst (λ v. key_cmp key v ≡ Less) e
    (keys_total.trans key z y (below_each (Some y) (z ∷ ks) key sorted.1 below z (inl refl)) (all_among (λ v. key_cmp v y ≡ Less) (z ∷ ks) z sorted.0 (inl refl)))

pub falls_push : {V : Type 0} (es : List (RowKey × V)) (key : RowKey) (v : V) → Falls es → IsBelowLast (keys es) key → Falls (es ++ (key, v) ∷ [])
falls_push {V} es key v falls below =
    subst (λ (ks : List RowKey). IsStrictlySortedBy falling_cmp ks) (sym (map-append (λ (e : RowKey × V). e.0) es ((key, v) ∷ [])))
    (sorted_push falling_cmp (keys es) key falls (λ x a. below_each None (keys es) key falls below x a))

-- the last key
pub last_key : {V : Type 0} (es : List (RowKey × V)) → last_or None (keys es) ≡ option_map (λ e. e.0) (slice_get es (length es - 1))
last_key [] = refl
last_key {V} (e ∷ es) =
    let count : length es ≡ length (e ∷ es) - 1 = omega arith in
    behind e es ∙ ap (λ n. option_map (λ x. x.0) (slice_get (e ∷ es) n)) count
  where
    behind : (x : RowKey × V) (xs : List (RowKey × V)) → last_or (Some x.0) (keys xs) ≡ option_map (λ y. y.0) (slice_get (x ∷ xs) (length xs))
    behind x [] = refl
    behind x (y ∷ xs) =
        let count : suc (length xs) ≡ length (y ∷ xs) = omega arith in
        behind y xs ∙ ap (λ n. option_map (λ z. z.0) (slice_get (x ∷ y ∷ xs) n)) count

less : (o : Ordering) → is_lt o ≡ true → o ≡ Less
less Less is = refl
less Equal is = absurd cc
less Greater is = absurd cc

-- what stands at the last place tells whether a key is below it
pub may_follow : {V : Type 0} (es : List (RowKey × V)) (key x : RowKey) (v : V) (b : Bool) → Some (x, v) ≡ slice_get es (length es - 1) → b ≡ is_lt (key_cmp key x) → key.table ≤ MAX_TABLE → (IsTrue b → MayStandLast es key) × (MayStandLast es key → IsTrue b)
may_follow {V} es key x v b at test table =
    let last : last_or None (keys es) ≡ Some x = last_key es ∙ ap (option_map (λ (e : RowKey × V). e.0)) (sym at) in (
      λ t. (table, subst (λ (o : Option RowKey). IfSome o (λ last. key_cmp key last ≡ Less)) (sym last) (less (key_cmp key x) (sym test ∙ t))),
      λ m. test ∙ ap is_lt (subst (λ (o : Option RowKey). IfSome o (λ last. key_cmp key last ≡ Less)) last m.1),
    )

-- ---- a search

module _ {V : Type 0} (es : List (RowKey × V)) (falls : Falls es) (key : RowKey) where
  -- whether the key is below that of an entry
  abbrev pub below_entry : RowKey × V → Bool
  below_entry e = is_lt (key_cmp key e.0)

  -- the key of an entry is above those behind it
  above : (i j : ℕ) (d : RowKey × V) → i < j → j < length es → key_cmp (get_or es j d).0 (get_or es i d).0 ≡ Less
  above i j d before within =
      let ks : List RowKey = keys es in
      let long : length ks ≡ length es = length-map es (λ (e : RowKey × V). e.0) in
      let at : (n : ℕ) → n < length es → get_or ks n d.0 ≡ (get_or es n d).0 = λ n h. get_or-map (λ (e : RowKey × V). e.0) es n d d.0 h in
      subst (λ x. key_cmp (get_or es j d).0 x ≡ Less) (at i (omega (arith, before, within)))
      (subst (λ x. key_cmp x (get_or ks i d.0) ≡ Less) (at j within)
      (Less-from_sorted falling_cmp ks i j d.0 falls before (omega (arith, within, long))))

  pub parted : IsPartitionedBy below_entry es
  parted i j d upto within is = go (cases_order i j)
    where
      go : (i ≡ j) ⊎ ((i < j) ⊎ (j < i)) → below_entry (get_or es i d) ≡ true
      go (inr (inl before)) = ap is_lt (keys_total.trans key (get_or es j d).0 (get_or es i d).0 (less (key_cmp key (get_or es j d).0) is) (above i j d before within))
      go (inl same) = subst (λ n. below_entry (get_or es n d) ≡ true) (sym same) is
      go (inr (inr behind)) = absurd (omega (arith, behind, upto))

  -- a search ends where the key could stand
  module _ (i : ℕ) (point : IsPartitionPoint (λ e. below_entry e ≡ true) (λ e. below_entry e ≡ false) es i) where
    elsewhere : (k : ℕ) (d : RowKey × V) → k < length es → key ≡ (get_or es k d).0 → (i < length es) × ((get_or es i d).0 ≡ key)
    elsewhere k d within same = go (cases_order k i)
      where
        go : (k ≡ i) ⊎ ((k < i) ⊎ (i < k)) → (i < length es) × ((get_or es i d).0 ≡ key)
        go (inr (inl before)) =
            let is : is_lt (key_cmp key key) ≡ true = subst (λ x. is_lt (key_cmp key x) ≡ true) (sym same) (point.0 k d (omega arith) before) in
            let not : is_lt (key_cmp key key) ≡ false = ap is_lt (tied_itself keys_total key) in
            absurd cc
        go (inl at) = (subst (λ n. n < length es) at within, subst (λ n. (get_or es n d).0 ≡ key) at (sym same))
        go (inr (inr behind)) =
            let is : below_entry (get_or es i d) ≡ true = ap is_lt (subst (λ x. key_cmp x (get_or es i d).0 ≡ Less) (sym same) (above i k d behind within)) in
            let not : below_entry (get_or es i d) ≡ false = point.1 i d (omega arith) (omega (arith, behind, within)) in
            absurd cc

    pub nowhere : ((d : RowKey × V) → i < length es → (get_or es i d).0 ≡ key → ⊥) → find key_cmp key es ≡ None
    nowhere other = absent es (λ e a.
        let c = contains_from es e a in
        differs e.0 (λ same.
        let at = elsewhere c.0 e c.1 (same ∙ ap (λ (x : RowKey × V). x.0) (sym c.2)) in
        other e at.0 at.1))
      where
        differs : (x : RowKey) → (key ≡ x → ⊥) → eq key x ≡ false
        differs x not = go (eq key x) refl
          where
            go : (b : Bool) → eq key x ≡ b → b ≡ false
            go true is = absurd (not (key_same key x is))
            go false is = refl

        absent : (xs : List (RowKey × V)) → ((e : RowKey × V) → Among xs e → eq key e.0 ≡ false) → find key_cmp key xs ≡ None
        absent [] each = refl
        absent (x ∷ xs) each = cond-false (eq key x.0) (Some x.1) (find key_cmp key xs) (each x (inl refl)) ∙ absent xs (λ e a. each e (inr a))

-- what stands at the place of a key
pub found_at : {V : Type 0} (es : List (RowKey × V)) (key : RowKey) (i : ℕ) (d : RowKey × V) → HaveDistinctKeys es → i < length es → (get_or es i d).0 ≡ key → find key_cmp key es ≡ Some (get_or es i d).1
unfolding IsDistinct
found_at [] key i d apart within is = absurd (omega (arith, within))
found_at (e ∷ es) key zero d apart within is = cond-true (eq key e.0) (Some e.1) (find key_cmp key es) (ap (eq key) is ∙ eq_self key)
found_at {V} (e ∷ es) key (suc i) d apart within is =
    let there : Among (keys es) key = subst (λ x. Among (keys es) x) is (among_map (λ (x : RowKey × V). x.0) es (get_or es i d) (among_from es (get_or es i d) (Contains-get_or es i d (omega (arith, within))))) in
    cond-false (eq key e.0) (Some e.1) (find key_cmp key es) (eq_flips key e.0 ∙ all_among (λ y. eq e.0 y ≡ false) (keys es) key apart.0 there)
    ∙ found_at es key i d apart.1 (omega (arith, within)) is

-- no keys fall
pub falls_none : (V : Type 0) → Falls {V = V} []
unfolding IsStrictlySortedBy
falls_none V = tt

-- equal keys have equal parts
pub parts_differ : (x y : RowKey) (b : Bool) → b ≡ (nat_eq x.table y.table && nat_eq x.key y.key) → b ≡ false → x ≡ y → ⊥
parts_differ x y b is not same =
    let parts : (nat_eq y.table y.table && nat_eq y.key y.key) ≡ true = ap (λ c. c && nat_eq y.key y.key) (eq-eqb y.table y.table refl) ∙ eq-eqb y.key y.key refl in
    let both : true ≡ false = sym parts ∙ ap (λ (z : RowKey). nat_eq z.table y.table && nat_eq z.key y.key) (sym same) ∙ sym is ∙ not in
    absurd cc
