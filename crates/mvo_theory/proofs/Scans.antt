-- A scan answers by what passes of each key alone.
use Rattle.std.proofs.Common.{◌≡◌, ℕ, Bool, true, false, cond, List, [], ◌∷◌, None, Some, map, T, refl, sym, ap, ◌∙◌, subst}
use Rattle.std.specs.List.{filter}
use Rattle.std.specs.Ordering.{eq_by_cmp, is_lt}
use Rattle.std.specs.FinMap as fin
use Rattle.std.specs.FinMap.Entries.{below_all}
use Rattle.std.proofs.lemmas.Map.Views.{tells_apart}
use Rattle.mvo_types.proofs.Maps.{keys_total, exact_keys}
use Rattle.mvo_types.proofs.Ordered.{both}
use Rattle.mvo_types.proofs.Ranges.{first, lt_not_eq, second}
use Rattle.mvo_types.specs.declared.row.RowKey.{RowKey}
use Rattle.mvo_types.specs.RowData.{row_with}
use Rattle.mvo_types.specs.Keys.{Map, key_cmp}
use Rattle.mvo_types.specs.RowLists.{is_within}
use Rattle.mvo_model.specs.Order.{in_order}
use Rattle.mvo_model.specs.Serial.{scan, scan_cmp}
use Rattle.mvo_types.specs.declared.entry.Entry.TheVariants.{Range}
use Rattle.mvo_theory.specs.Ranges.{Row, shows, pass, AgreeOn}

pub filter-map : {X Y : Type 0} (p : Y → Bool) (f : X → Y) (xs : List X) → filter p (map f xs) ≡ map f (filter (λ x. p (f x)) xs)
filter-map p f [] = refl
filter-map p f (x ∷ xs) = go (p (f x)) (filter-map p f xs)
  where
    go : (b : Bool) → filter p (map f xs) ≡ map f (filter (λ y. p (f y)) xs) → cond b (f x ∷ filter p (map f xs)) (filter p (map f xs)) ≡ map f (cond b (x ∷ filter (λ y. p (f y)) xs) (filter (λ y. p (f y)) xs))
    go true e = ap (λ ys. f x ∷ ys) e
    go false e = e

below_one : (x : RowKey) (e : Row) (es : List Row) (b : Bool) → T (is_lt (key_cmp x e.0)) → T (below_all key_cmp x es) → T (below_all key_cmp x (cond b (e ∷ es) es))
below_one x e es true u v = both _ _ u v
below_one x e es false u v = v

below_filter : (p : Row → Bool) (x : RowKey) (es : List Row) → T (below_all key_cmp x es) → T (below_all key_cmp x (filter p es))
below_filter p x [] h = tt
below_filter p x (e ∷ es) h = below_one x e (filter p es) (p e) (first _ _ h) (below_filter p x es (second _ _ h))

sorted_one : (e : Row) (es : List Row) (b : Bool) → T (below_all key_cmp e.0 es) → T (fin.is_sorted key_cmp es) → T (fin.is_sorted key_cmp (cond b (e ∷ es) es))
sorted_one e es true u v = both _ _ u v
sorted_one e es false u v = v

pub sorted_filter : (p : Row → Bool) (es : List Row) → T (fin.is_sorted key_cmp es) → T (fin.is_sorted key_cmp (filter p es))
sorted_filter p [] h = tt
sorted_filter p (e ∷ es) h = sorted_one e (filter p es) (p e) (below_filter p e.0 es (first _ _ h)) (sorted_filter p es (second _ _ h))

pub find_below : (q : RowKey) (es : List Row) → T (below_all key_cmp q es) → fin.find key_cmp q es ≡ None
find_below q [] h = refl
find_below q (e ∷ es) h = ap (λ b. cond b (Some e.1) (fin.find key_cmp q es)) (lt_not_eq (key_cmp q e.0) (first _ _ h)) ∙ find_below q es (second _ _ h)

find_one : (p : Row → Bool) (q : RowKey) (e : Row) (es fs : List Row) (b c : Bool) → eq_by_cmp key_cmp q e.0 ≡ b → p e ≡ c → (b ≡ true → p e ≡ p (q, e.1)) → (b ≡ true → fin.find key_cmp q fs ≡ None) → fin.find key_cmp q fs ≡ pass p q (fin.find key_cmp q es) → fin.find key_cmp q (cond c (e ∷ fs) fs) ≡ pass p q (cond b (Some e.1) (fin.find key_cmp q es))
find_one p q e es fs true true i j k n r = ap (λ b. cond b (Some e.1) (fin.find key_cmp q fs)) i ∙ sym (ap (λ b. cond b (Some e.1) None) (sym (k refl) ∙ j))
find_one p q e es fs true false i j k n r = n refl ∙ sym (ap (λ b. cond b (Some e.1) None) (sym (k refl) ∙ j))
find_one p q e es fs false true i j k n r = ap (λ b. cond b (Some e.1) (fin.find key_cmp q fs)) i ∙ r
find_one p q e es fs false false i j k n r = r

pub find_filter : (p : Row → Bool) (q : RowKey) (es : List Row) → T (fin.is_sorted key_cmp es) → fin.find key_cmp q (filter p es) ≡ pass p q (fin.find key_cmp q es)
find_filter p q [] s = refl
find_filter p q (e ∷ es) s =
    find_one p q e es (filter p es) (eq_by_cmp key_cmp q e.0) (p e) refl refl
    (λ t. ap (λ k. p (k, e.1)) (sym (tells_apart exact_keys q e.0 t)))
    (λ t. find_below q (filter p es) (subst (λ k. T (below_all key_cmp k (filter p es))) (sym (tells_apart exact_keys q e.0 t)) (below_filter p e.0 es (first _ _ s))))
    (find_filter p q es (second _ _ s))

-- maps of which the same passes at each key have the same rows that pass
pub filter_same : (p : Row → Bool) (m n : Map) → ((q : RowKey) → pass p q (fin.get m q) ≡ pass p q (fin.get n q)) → filter p (fin.entries m) ≡ filter p (fin.entries n)
filter_same p m n h =
    let es = filter p (fin.entries m) in
    let fs = filter p (fin.entries n) in
    let u : T (fin.is_sorted key_cmp es) = sorted_filter p (fin.entries m) (fin.entries_sorted m) in
    let v : T (fin.is_sorted key_cmp fs) = sorted_filter p (fin.entries n) (fin.entries_sorted n) in
    sym (fin.entries-from_sorted key_cmp es u)
    ∙ ap fin.entries (fin.same_map keys_total exact_keys (fin.from_sorted {R = key_cmp} es) (fin.from_sorted {R = key_cmp} fs) (λ q.
    fin.get-from_sorted key_cmp es q u ∙ find_filter p q (fin.entries m) (fin.entries_sorted m) ∙ ap (pass p q) (sym (fin.get-entries m q)) ∙ h q
    ∙ sym (fin.get-from_sorted key_cmp fs q v ∙ find_filter p q (fin.entries n) (fin.entries_sorted n) ∙ ap (pass p q) (sym (fin.get-entries n q)))))
    ∙ fin.entries-from_sorted key_cmp fs v

-- rows that agree on the range give the scan the same answer
pub scan_same : (t lo hi : ℕ) (m n : Map) → AgreeOn (Range t lo hi) m n → scan m t lo hi ≡ scan n t lo hi
scan_same t lo hi m n h =
    ap (in_order scan_cmp) (filter-map (is_within t lo hi) (λ e. row_with e.0 e.1) (fin.entries m)
    ∙ ap (map (λ (e : Row). row_with e.0 e.1)) (filter_same (shows (Range t lo hi)) m n h)
    ∙ sym (filter-map (is_within t lo hi) (λ e. row_with e.0 e.1) (fin.entries n)))
