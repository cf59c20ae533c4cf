-- The rows that are shown place by place are the scan of what is shown.
use Rattle.std.proofs.Common.{◌≡◌, ℕ, Bool, true, false, cond, List, [], ◌∷◌, ◌++◌, map, filter, Option, None, Some, refl, sym, ap, ◌∙◌, subst, inl, inr}
use Rattle.std.specs.Prelude.{◌==◌, ◌&&◌, nat_le}
use Rattle.std.specs.List.{AllByRecursion}
use Rattle.std.specs.List.Sorted.{IsStrictlySortedBy, IsPermutation}
use Rattle.std.specs.Option.{option_map, option_to_list}
use Rattle.std.specs.Ordering.{nat_cmp, ordering_then, eq_by_cmp, is_lt, is_eq}
use Rattle.std.specs.Cmp.{eq_by_cmp_equiv}
use Rattle.std.specs.declared.cmp.Ordering.{Ordering}
use Rattle.std.specs.declared.cmp.Ordering.TheVariants.{Less, Equal, Greater}
use Rattle.std.specs.FinMap as fin
use Rattle.std.specs.FinMap.{is_sorted, entries_sorted}
use Rattle.std.specs.FinMap.Entries.{below_all}
use Rattle.std.proofs.Math.Dec.{T}
use Rattle.std.proofs.lemmas.Bool.{eqb-true, eq-eqb, and_parts, false≢true}
use Rattle.std.proofs.lemmas.List.Elements.{All-from_recursion, recursion_from_All}
use Rattle.std.proofs.lemmas.List.Sorted.{All-permutation, IsPermutation-sym}
use Rattle.std.proofs.lemmas.Map.Views.{tells_apart}
use Rattle.mvo_types.specs.declared.row.RowKey.{RowKey}
use Rattle.mvo_types.specs.RowData.{RowData, ContentData, row_with}
use Rattle.mvo_types.specs.RowLists.{is_within, rows_by_key, rows_within}
use Rattle.mvo_types.specs.Keys.{Map, key_cmp, row_at}
use Rattle.mvo_types.proofs.Maps.{exact_keys, keys_total}
use Rattle.mvo_types.proofs.Ordered.{Entries}
use Rattle.mvo_types.proofs.Ranges.{first, second}
use Rattle.mvo_model.specs.Serial.{scan_cmp, scan}
use Rattle.mvo_model.proofs.Scans.{less_of, nat_equal, same_table, scan_is, scan_total}
use Rattle.mvo_theory.proofs.Each.{each_weaker}
use Rattle.mvo_chain.specs.declared.version.Version.{Version}
use Rattle.mvo_chain.specs.declared.version.VersionNo.{VersionNo}
use Rattle.mvo_chain.specs.Slots.{Slots, version_at}
use Rattle.mvo_range.specs.declared.sort_place.SortPlace.{SortPlace}
use Rattle.mvo_range.specs.Place.{PlaceNumbers as Places, place_cmp, is_between}
use Rattle.mvo_range.proofs.Places.{exact_places}
use Rattle.mvo_validate.specs.Entries.{key_at}
use Rattle.mvo_representation.specs.Table.{place_with}
use Rattle.mvo_representation.proofs.RowsPlaced.{none_content}
use Rattle.mvo_representation.proofs.RangeCheckedBy.{some_there}
use Rattle.mvo_standing.specs.Scans.{ShownAtKeys, row_of_version, row_if_sorted, sorted_row_of, row_at_sort_place, rows_of_places, places_of_range, ShowsMap}
use Rattle.mvo_standing.proofs.SameRising.{IsIn, same_rising}

none_row : (r : RowData) → ◌≡◌ {A = Option RowData} None (Some r) → ⊥
none_row r q = cc

some_row : (a b : RowData) → ◌≡◌ {A = Option RowData} (Some a) (Some b) → a ≡ b
some_row a b q = cc

some_content : (a b : ContentData) → ◌≡◌ {A = Option ContentData} (Some a) (Some b) → a ≡ b
some_content a b q = cc

none_place : (n : ℕ) → ◌≡◌ {A = Option ℕ} None (Some n) → ⊥
none_place n q = cc

-- ---- the places of a range rise
abbrev pub of_range : ℕ → ℕ → ℕ → List (SortPlace × ℕ) → List SortPlace
of_range table lo hi es = map (λ e. e.0) (filter (is_between table lo hi) es)

below : (table lo hi : ℕ) (k : SortPlace) (es : List (SortPlace × ℕ)) → T (below_all place_cmp k es) → AllByRecursion (λ q. place_cmp k q ≡ Less) (of_range table lo hi es)
below table lo hi k [] s = tt
below table lo hi k (e ∷ es) s = go (is_between table lo hi e) (less_of _ (first _ _ s)) (below table lo hi k es (second _ _ s))
  where
    go : (b : Bool) → place_cmp k e.0 ≡ Less → AllByRecursion (λ q. place_cmp k q ≡ Less) (of_range table lo hi es)
        → AllByRecursion (λ q. place_cmp k q ≡ Less) (map (λ x. x.0) (cond b (e ∷ filter (is_between table lo hi) es) (filter (is_between table lo hi) es)))
    go true l r = (l, r)
    go false l r = r

rises : (table lo hi : ℕ) (es : List (SortPlace × ℕ)) → T (is_sorted place_cmp es) → IsStrictlySortedBy place_cmp (of_range table lo hi es)
unfolding IsStrictlySortedBy
rises table lo hi [] s = tt
rises table lo hi (e ∷ es) s = go (is_between table lo hi e) (below table lo hi e.0 es (first _ _ s)) (rises table lo hi es (second _ _ s))
  where
    go : (b : Bool) → AllByRecursion (λ q. place_cmp e.0 q ≡ Less) (of_range table lo hi es) → IsStrictlySortedBy place_cmp (of_range table lo hi es)
        → IsStrictlySortedBy place_cmp (map (λ x. x.0) (cond b (e ∷ filter (is_between table lo hi) es) (filter (is_between table lo hi) es)))
    go true l r = (l, r)
    go false l r = r

of_table : (table lo hi : ℕ) (es : List (SortPlace × ℕ)) → AllByRecursion (λ p. p.table ≡ table) (of_range table lo hi es)
of_table table lo hi [] = tt
of_table table lo hi (e ∷ es) = go (is_between table lo hi e) refl (of_table table lo hi es)
  where
    go : (b : Bool) → is_between table lo hi e ≡ b → AllByRecursion (λ p. p.table ≡ table) (of_range table lo hi es)
        → AllByRecursion (λ p. p.table ≡ table) (map (λ x. x.0) (cond b (e ∷ filter (is_between table lo hi) es) (filter (is_between table lo hi) es)))
    go true i r = (eqb-true e.0.table table (and_parts (e.0.table == table) (nat_le lo e.0.sort && nat_le e.0.sort hi) i).0, r)
    go false i r = r

-- ---- rows at places of one table compare as these
pub record IsAt (p : SortPlace) (row : RowData) : Type 0 where
  pub key : row.key ≡ key_at p
  pub sort : row.sort ≡ p.sort

less_at : (p q : SortPlace) (a b : RowData) → IsAt p a → IsAt q b → p.table ≡ q.table → place_cmp p q ≡ Less → scan_cmp a b ≡ Less
less_at p q a b x y e l =
    ap (λ (m : ℕ). ordering_then (nat_cmp m b.sort) (nat_cmp a.key.key b.key.key)) x.sort
    ∙ ap (λ (m : ℕ). ordering_then (nat_cmp p.sort m) (nat_cmp a.key.key b.key.key)) y.sort
    ∙ ap (λ (k : RowKey). ordering_then (nat_cmp p.sort q.sort) (nat_cmp k.key b.key.key)) x.key
    ∙ ap (λ (k : RowKey). ordering_then (nat_cmp p.sort q.sort) (nat_cmp p.key k.key)) y.key
    ∙ same_table (nat_cmp p.table q.table) (ordering_then (nat_cmp p.sort q.sort) (nat_cmp p.key q.key)) (nat_equal p.table q.table e) l

-- ---- elements of lists
module _ {X : Type 0} where
  in_left : (x : X) (xs ys : List X) → IsIn x xs → IsIn x (xs ++ ys)
  in_left x [] ys i = absurd i
  in_left x (y ∷ xs) ys (inl e) = inl e
  in_left x (y ∷ xs) ys (inr i) = inr (in_left x xs ys i)

  in_right : (x : X) (xs ys : List X) → IsIn x ys → IsIn x (xs ++ ys)
  in_right x [] ys i = i
  in_right x (y ∷ xs) ys i = inr (in_right x xs ys i)

  of_each : (P : X → Type 0) (xs : List X) → AllByRecursion P xs → (x : X) → IsIn x xs → P x
  of_each P [] h x i = absurd i
  of_each P (y ∷ ys) h x (inl e) = subst P (sym e) h.0
  of_each P (y ∷ ys) h x (inr i) = of_each P ys h.1 x i

  each_in : (xs : List X) → AllByRecursion (λ x. IsIn x xs) xs
  each_in [] = tt
  each_in (y ∷ ys) = (inl refl, each_weaker (λ x. IsIn x ys) (λ x. IsIn x (y ∷ ys)) (λ x i. inr i) ys (each_in ys))

  -- what is in a list is in what it is exchanged from
  in_permuted : (xs ys : List X) → IsPermutation xs ys → (x : X) → IsIn x ys → IsIn x xs
  in_permuted xs ys p =
      of_each (λ x. IsIn x xs) ys
      (recursion_from_All (λ x. IsIn x xs) ys (All-permutation (λ x. IsIn x xs) xs ys p (All-from_recursion (λ x. IsIn x xs) xs (each_in xs))))

  in_filter : (f : X → Bool) (x : X) (xs : List X) → f x ≡ true → IsIn x xs → IsIn x (filter f xs)
  in_filter f x [] e i = absurd i
  in_filter f x (y ∷ ys) e i = go (f y) refl i (λ j. in_filter f x ys e j)
    where
      go : (b : Bool) → f y ≡ b → IsIn x (y ∷ ys) → (IsIn x ys → IsIn x (filter f ys)) → IsIn x (cond b (y ∷ filter f ys) (filter f ys))
      go true q (inl s) again = inl s
      go true q (inr j) again = inr (again j)
      go false q (inl s) again = absurd (false≢true (sym q ∙ ap f (sym s) ∙ e))
      go false q (inr j) again = again j

  -- an element that passes
  pub record IsKept (f : X → Bool) (x : X) (xs : List X) : Type 0 where
    pub there : IsIn x xs
    pub passes : f x ≡ true

  kept : (f : X → Bool) (x : X) (xs : List X) → IsIn x (filter f xs) → IsKept f x xs
  kept f x [] i = absurd i
  kept f x (y ∷ ys) i = go (f y) refl i (λ j. kept f x ys j)
    where
      go : (b : Bool) → f y ≡ b → IsIn x (cond b (y ∷ filter f ys) (filter f ys)) → (IsIn x (filter f ys) → IsKept f x ys) → IsKept f x (y ∷ ys)
      go true q (inl s) again = record { there = inl s; passes = ap f s ∙ q }
      go true q (inr j) again = let w = again j in record { there = inr w.there; passes = w.passes }
      go false q j again = let w = again j in record { there = inr w.there; passes = w.passes }

-- ---- the rows of a map
abbrev whole : RowKey × ContentData → RowData
whole e = row_with e.0 e.1

-- what is found at a key is one of the rows
row_found : (k : RowKey) (h : ContentData) (es : Entries) → fin.find key_cmp k es ≡ Some h → IsIn (row_with k h) (map whole es)
row_found k h [] e = absurd (none_content h e)
row_found k h (x ∷ xs) e = go (eq_by_cmp key_cmp k x.0) refl e (λ f. row_found k h xs f)
  where
    go : (b : Bool) → eq_by_cmp key_cmp k x.0 ≡ b → cond b (Some x.1) (fin.find key_cmp k xs) ≡ Some h → (fin.find key_cmp k xs ≡ Some h → IsIn (row_with k h) (map whole xs))
        → IsIn (row_with k h) (whole x ∷ map whole xs)
    go true q f again = inl (ap (λ (j : RowKey). row_with j h) (tells_apart exact_keys k x.0 q) ∙ ap (row_with x.0) (sym (some_content x.1 h f)))
    go false q f again = inr (again f)

-- an entry of a list that has the row
pub record IsEntryOf (z : RowData) (es : Entries) : Type 0 where
  pub content : ContentData
  pub row : z ≡ row_with z.key content
  pub found : fin.find key_cmp z.key es ≡ Some content

above : (k : RowKey) (z : RowData) (es : Entries) → T (below_all key_cmp k es) → IsIn z (map whole es) → eq_by_cmp key_cmp z.key k ≡ false
above k z [] s i = absurd i
above k z (x ∷ xs) s (inl e) = (eq_by_cmp_equiv keys_total).symm z.key k ∙ ap (λ (r : RowData). eq_by_cmp key_cmp k r.key) e ∙ differ (key_cmp k x.0) (first _ _ s)
  where
    differ : (o : Ordering) → T (is_lt o) → is_eq o ≡ false
    differ Less h = refl
    differ Equal h = absurd h
    differ Greater h = absurd h
above k z (x ∷ xs) s (inr i) = above k z xs (second _ _ s) i

-- each of the rows is found at its key, since the keys rise
entry_of_row : (z : RowData) (es : Entries) → T (is_sorted key_cmp es) → IsIn z (map whole es) → IsEntryOf z es
entry_of_row z [] s i = absurd i
entry_of_row z (x ∷ xs) s (inl e) = record {
  content = x.1;
  row = e ∙ ap (λ (r : RowData). row_with r.key x.1) (sym e);
  found = ap (λ b. cond b (Some x.1) (fin.find key_cmp z.key xs))
      (ap (λ (r : RowData). eq_by_cmp key_cmp r.key x.0) e ∙ (eq_by_cmp_equiv keys_total).refl x.0);
}
entry_of_row z (x ∷ xs) s (inr i) =
    let w = entry_of_row z xs (second _ _ s) i in record {
      content = w.content;
      row = w.row;
      found = ap (λ b. cond b (Some x.1) (fin.find key_cmp z.key xs)) (above x.0 z xs (first _ _ s) i) ∙ w.found;
    }

module _ (m : Map) (table lo hi : ℕ) where
  -- a row of the range is one of the scan
  in_scan : (k : RowKey) (z : RowData) → row_at m k ≡ Some z → is_within table lo hi z ≡ true → IsIn z (scan m table lo hi)
  in_scan k z e inside = go (fin.get m k) refl e
    where
      go : (o : Option ContentData) → fin.get m k ≡ o → option_map (row_with k) o ≡ Some z → IsIn z (scan m table lo hi)
      go None q f = absurd (none_row z f)
      go (Some h) q f =
          let same : row_with k h ≡ z = some_row (row_with k h) z f in
          in_permuted (scan m table lo hi) (rows_within m table lo hi)
          (IsPermutation-sym (rows_within m table lo hi) (scan m table lo hi) (scan_is m table lo hi).same) z
          (in_filter (is_within table lo hi) z (rows_by_key m) inside
          (subst (λ (r : RowData). IsIn r (rows_by_key m)) same (row_found k h (fin.entries m) (sym (fin.get-entries m k) ∙ q))))

  -- a row of the scan stands at its key, and is of the range
  pub record IsScanned (z : RowData) : Type 0 where
    pub content : ContentData
    pub row : z ≡ row_with z.key content
    pub held : fin.get m z.key ≡ Some content
    pub inside : is_within table lo hi z ≡ true

  of_scan : (z : RowData) → IsIn z (scan m table lo hi) → IsScanned z
  of_scan z i =
      let w = kept (is_within table lo hi) z (rows_by_key m) (in_permuted (rows_within m table lo hi) (scan m table lo hi) (scan_is m table lo hi).same z i) in
      let e = entry_of_row z (fin.entries m) (entries_sorted m) w.there in
      record { content = e.content; row = e.row; held = fin.get-entries m z.key ∙ e.found; inside = w.passes }

-- ---- the places of the range
all_between : (table lo hi : ℕ) (es : List (SortPlace × ℕ)) → AllByRecursion (λ p. is_between table lo hi (p, 0) ≡ true) (of_range table lo hi es)
all_between table lo hi [] = tt
all_between table lo hi (e ∷ es) = go (is_between table lo hi e) refl (all_between table lo hi es)
  where
    go : (b : Bool) → is_between table lo hi e ≡ b → AllByRecursion (λ p. is_between table lo hi (p, 0) ≡ true) (of_range table lo hi es)
        → AllByRecursion (λ p. is_between table lo hi (p, 0) ≡ true) (map (λ x. x.0) (cond b (e ∷ filter (is_between table lo hi) es) (filter (is_between table lo hi) es)))
    go true i r = (i, r)
    go false i r = r

-- a row at a place of the range is of the range, and the other way round
within_at : (table lo hi : ℕ) (p : SortPlace) (z : RowData) → IsAt p z → is_between table lo hi (p, 0) ≡ true → is_within table lo hi z ≡ true
within_at table lo hi p z w e =
    ap (λ (k : RowKey). (k.table == table) && (nat_le lo z.sort && nat_le z.sort hi)) w.key
    ∙ ap (λ (n : ℕ). (p.table == table) && (nat_le lo n && nat_le n hi)) w.sort ∙ e

-- ---- places of the range
-- what is so at each place of the range is so at one that is there
pub each_entry : (P : SortPlace → Type 0) (table lo hi : ℕ) (p : SortPlace) (n : ℕ) (es : List (SortPlace × ℕ)) → is_between table lo hi (p, 0) ≡ true → fin.find place_cmp p es ≡ Some n
    → AllByRecursion P (map (λ e. e.0) (filter (is_between table lo hi) es)) → P p
each_entry P table lo hi p n [] inside e h = absurd (none_place n e)
each_entry P table lo hi p n (x ∷ xs) inside e h = go (eq_by_cmp place_cmp p x.0) refl e (is_between table lo hi x) refl h (λ r g. each_entry P table lo hi p n xs inside r g)
  where
    go : (b : Bool) → eq_by_cmp place_cmp p x.0 ≡ b → cond b (Some x.1) (fin.find place_cmp p xs) ≡ Some n
        → (i : Bool) → is_between table lo hi x ≡ i → AllByRecursion P (map (λ e. e.0) (cond i (x ∷ filter (is_between table lo hi) xs) (filter (is_between table lo hi) xs)))
        → (fin.find place_cmp p xs ≡ Some n → AllByRecursion P (map (λ e. e.0) (filter (is_between table lo hi) xs)) → P p) → P p
    go true q r true i g again = subst P (sym (tells_apart exact_places p x.0 q)) g.0
    go true q r false i g again = absurd (false≢true (sym i ∙ ap (λ (y : SortPlace). is_between table lo hi (y, 0)) (sym (tells_apart exact_places p x.0 q)) ∙ inside))
    go false q r true i g again = again r g.1
    go false q r false i g again = again r g

-- ---- the rows that are shown
module _ (slots : Slots) (places : Places) (shown : ShownAtKeys) (m : Map) (table lo hi : ℕ) (h : ShowsMap slots places shown m) where
  abbrev at : SortPlace → Option RowData
  at p = row_at_sort_place slots shown p

  abbrev here : List SortPlace → List RowData
  here ps = rows_of_places slots shown ps

  -- a row that is shown at a place is the map's, and has the sort of the place
  module _ (p : SortPlace) (z : RowData) where
    by_sort : (b : Bool) (v : Version) → (v.row.sort == p.sort) ≡ b → cond b (Some v.row) None ≡ Some z → ◌≡◌ {A = Option RowData} (Some v.row) (Some z) × (z.sort ≡ p.sort)
    by_sort true v q i = (i, ap (λ (x : RowData). x.sort) (sym (some_row v.row z i)) ∙ eqb-true v.row.sort p.sort q)
    by_sort false v q i = absurd (none_row z i)

    by_version : (o : Option Version) → row_if_sorted p.sort o ≡ Some z → (option_map (λ v. v.row) o ≡ Some z) × (z.sort ≡ p.sort)
    by_version None g = absurd (none_row z g)
    by_version (Some v) g = by_sort (v.row.sort == p.sort) v refl g

    by_number : (o : Option VersionNo) → sorted_row_of slots p.sort o ≡ Some z → (row_of_version slots o ≡ Some z) × (z.sort ≡ p.sort)
    by_number None g = absurd (none_row z g)
    by_number (Some n) g = by_version (version_at slots n) g

  at_is : (p : SortPlace) (z : RowData) → at p ≡ Some z → row_at m (key_at p) ≡ Some z
  at_is p z e = sym (h.rows (key_at p)) ∙ (by_number p z (shown (key_at p)) e).0

  key_is : (k : RowKey) (z : RowData) → row_at m k ≡ Some z → z.key ≡ k
  key_is k z e = go (fin.get m k) e
    where
      go : (o : Option ContentData) → option_map (row_with k) o ≡ Some z → z.key ≡ k
      go None q = absurd (none_row z q)
      go (Some c) q = ap (λ (x : RowData). x.key) (sym (some_row (row_with k c) z q))

  row_at_is : (p : SortPlace) (z : RowData) → at p ≡ Some z → IsAt p z
  row_at_is p z e = record { key = key_is (key_at p) z (at_is p z e); sort = (by_number p z (shown (key_at p)) e).1 }

  -- they rise as a scan's do
  rows_below : (p : SortPlace) (a : RowData) (ps : List SortPlace) → IsAt p a → AllByRecursion (λ q. q.table ≡ p.table) ps → AllByRecursion (λ q. place_cmp p q ≡ Less) ps → AllByRecursion (λ b. scan_cmp a b ≡ Less) (here ps)
  rows_below p a [] x of l = tt
  rows_below p a (q ∷ qs) x of l = go (at q) refl (rows_below p a qs x of.1 l.1)
    where
      go : (o : Option RowData) → at q ≡ o → AllByRecursion (λ b. scan_cmp a b ≡ Less) (here qs) → AllByRecursion (λ b. scan_cmp a b ≡ Less) (option_to_list o ++ here qs)
      go None e again = again
      go (Some b) e again = (less_at p q a b x (row_at_is q b e) (sym of.0) l.0, again)

  tables : (n k : ℕ) (ps : List SortPlace) → n ≡ k → AllByRecursion (λ q. q.table ≡ n) ps → AllByRecursion (λ q. q.table ≡ k) ps
  tables n k ps e all = subst (λ (x : ℕ). AllByRecursion (λ q. q.table ≡ x) ps) e all

  rows_rise_at : (ps : List SortPlace) → AllByRecursion (λ q. q.table ≡ table) ps → IsStrictlySortedBy place_cmp ps → IsStrictlySortedBy scan_cmp (here ps)
  unfolding IsStrictlySortedBy
  rows_rise_at [] of l = tt
  rows_rise_at (p ∷ ps) of l = go (at p) refl (rows_rise_at ps of.1 l.1)
    where
      go : (o : Option RowData) → at p ≡ o → IsStrictlySortedBy scan_cmp (here ps) → IsStrictlySortedBy scan_cmp (option_to_list o ++ here ps)
      go None e again = again
      go (Some a) e again = (rows_below p a ps (row_at_is p a e) (tables table p.table ps (sym of.0) of.1) l.0, again)

  rows_rise : IsStrictlySortedBy scan_cmp (here (places_of_range places table lo hi))
  rows_rise = rows_rise_at (places_of_range places table lo hi) (of_table table lo hi (fin.entries places)) (rises table lo hi (fin.entries places) (entries_sorted places))

  -- the map's row is shown at its place
  is_at : (p : SortPlace) (z : RowData) → z.sort ≡ p.sort → row_at m (key_at p) ≡ Some z → at p ≡ Some z
  is_at p z sort e = go (shown (key_at p)) (h.rows (key_at p) ∙ e)
    where
      with_version : (o : Option Version) → option_map (λ v. v.row) o ≡ Some z → row_if_sorted p.sort o ≡ Some z
      with_version None g = absurd (none_row z g)
      with_version (Some v) g =
          let same : v.row ≡ z = some_row v.row z g in
          ap (λ b. cond b (Some v.row) None) (eq-eqb v.row.sort p.sort (ap (λ (x : RowData). x.sort) same ∙ sort)) ∙ g

      go : (o : Option VersionNo) → row_of_version slots o ≡ Some z → sorted_row_of slots p.sort o ≡ Some z
      go None g = absurd (none_row z g)
      go (Some n) g = with_version (version_at slots n) g

  -- forth
  forth_at : (ps : List SortPlace) → AllByRecursion (λ p. is_between table lo hi (p, 0) ≡ true) ps → (z : RowData) → IsIn z (here ps) → IsIn z (scan m table lo hi)
  forth_at [] all z i = absurd i
  forth_at (p ∷ ps) all z i = go (at p) refl i (λ j. forth_at ps all.1 z j)
    where
      in_it : (b : RowData) → at p ≡ Some b → IsIn b (scan m table lo hi)
      in_it b e = in_scan m table lo hi (key_at p) b (at_is p b e) (within_at table lo hi p b (row_at_is p b e) all.0)

      go : (o : Option RowData) → at p ≡ o → IsIn z (option_to_list o ++ here ps) → (IsIn z (here ps) → IsIn z (scan m table lo hi)) → IsIn z (scan m table lo hi)
      go None e j again = again j
      go (Some b) e (inl q) again = subst (λ (x : RowData). IsIn x (scan m table lo hi)) (sym q) (in_it b e)
      go (Some b) e (inr j) again = again j

  -- back
  listed : (z : RowData) (ps : List SortPlace) → AllByRecursion (λ p. at p ≡ Some z → IsIn z (here ps)) ps
  listed z [] = tt
  listed z (p ∷ ps) = (
    (λ e. in_left z (option_to_list (at p)) (here ps) (subst (λ o. IsIn z (option_to_list o)) (sym e) (inl refl))),
    each_weaker (λ q. at q ≡ Some z → IsIn z (here ps)) (λ q. at q ≡ Some z → IsIn z (here (p ∷ ps))) (λ q g e. in_right z (option_to_list (at p)) (here ps) (g e)) ps (listed z ps),
  )

  back : (z : RowData) → IsIn z (scan m table lo hi) → IsIn z (here (places_of_range places table lo hi))
  back z i =
      let w = of_scan m table lo hi z i in
      let p : SortPlace = place_with z.key w.content in
      let sort : z.sort ≡ p.sort = ap (λ (x : RowData). x.sort) w.row in
      let there = some_there (fin.get places p) (h.placed z.key w.content w.held) in
      each_entry (λ q. at q ≡ Some z → IsIn z (here (places_of_range places table lo hi))) table lo hi p there.0 (fin.entries places)
      (sym (within_is p sort) ∙ w.inside)
      (sym (fin.get-entries places p) ∙ there.1)
      (listed z (places_of_range places table lo hi))
      (is_at p z sort (ap (option_map (row_with z.key)) w.held ∙ ap (λ (x : RowData). Some x) (sym w.row)))
    where
      within_is : (p : SortPlace) → z.sort ≡ p.sort → is_within table lo hi z ≡ ((z.key.table == table) && (nat_le lo p.sort && nat_le p.sort hi))
      within_is p e = ap (λ (n : ℕ). (z.key.table == table) && (nat_le lo n && nat_le n hi)) e

  -- the rows are those of the scan, in its order
  pub rows_are_scan : here (places_of_range places table lo hi) ≡ scan m table lo hi
  rows_are_scan =
      same_rising scan_cmp scan_total (here (places_of_range places table lo hi)) (scan m table lo hi)
      rows_rise (scan_is m table lo hi).rise
      (forth_at (places_of_range places table lo hi) (all_between table lo hi (fin.entries places))) back
