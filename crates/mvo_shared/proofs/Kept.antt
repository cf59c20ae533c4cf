-- The rows that an entry keeps, as a map, agree on the entry with the map that shows them.
use Rattle.std.proofs.Common.{◌≡◌, ℕ, Bool, true, false, cond, List, [], ◌∷◌, Option, None, Some, map, T, refl, sym, ap, ◌∙◌, subst}
use Rattle.std.specs.Prelude.{◌&&◌}
use Rattle.std.specs.Option.{option_map, option_to_list}
use Rattle.std.specs.List.{AllByRecursion, filter}
use Rattle.std.specs.Ordering.{eq_by_cmp, is_lt, is_eq}
use Rattle.std.specs.FinMap as fin
use Rattle.std.specs.FinMap.Entries.{below_all}
use Rattle.std.proofs.lemmas.Bool.{true≢false}
use Rattle.std.proofs.lemmas.List.Elements.{All-from_recursion, recursion_from_All}
use Rattle.std.proofs.lemmas.List.Sorted.{All-permutation, IsPermutation-sym}
use Rattle.std.proofs.lemmas.Map.Views.{tells_apart}
use Rattle.std.specs.declared.cmp.Ordering.{Ordering}
use Rattle.std.specs.declared.cmp.Ordering.TheVariants.{Less, Equal, Greater}
use Rattle.mvo_types.proofs.Maps.{keys_total, exact_keys}
use Rattle.mvo_types.specs.declared.row.RowKey.{RowKey}
use Rattle.mvo_types.specs.RowData.{RowData, ContentData, content_of, row_with}
use Rattle.mvo_types.specs.Keys.{Map, key_cmp, row_at}
use Rattle.mvo_types.specs.RowLists.{is_within, rows_within}
use Rattle.mvo_model.specs.Serial.{scan}
use Rattle.mvo_model.proofs.Scans.{scan_is}
use Rattle.mvo_types.specs.declared.entry.Entry.{Entry}
use Rattle.mvo_types.specs.declared.entry.Entry.TheVariants.{Key, Range}
use Rattle.mvo_theory.specs.Ranges.{Row, shows, pass, AgreeOn}
use Rattle.mvo_theory.proofs.Each.{each_weaker}
use Rattle.mvo_theory.proofs.Looks.{key_is, pass_other}
use Rattle.mvo_theory.proofs.Scans.{find_filter, sorted_filter, filter-map}
use Rattle.mvo_shared.specs.Kept.{rows_shown, map_of_rows}

abbrev pub pair : RowData → Row
pair r = (r.key, content_of r)

-- ---- a list of entries in order finds each of them
is_under : (x y : RowKey) → T (is_lt (key_cmp x y)) → eq_by_cmp key_cmp y x ≡ false
is_under x y h = go (eq_by_cmp key_cmp y x) refl
  where
    less : (o : Ordering) → T (is_lt o) → is_eq o ≡ false
    less Less p = refl
    less Equal p = absurd p
    less Greater p = absurd p

    go : (b : Bool) → eq_by_cmp key_cmp y x ≡ b → b ≡ false
    go false e = refl
    go true e = absurd (true≢false (sym (key_is y) ∙ subst (λ (k : RowKey). eq_by_cmp key_cmp k y ≡ false) (sym (tells_apart exact_keys y x e)) (less (key_cmp x y) h)))

first : (a b : Bool) → T (a && b) → T a
first true b p = tt
first false b p = p

second : (a b : Bool) → T (a && b) → T b
second true b p = p
second false b p = absurd p

-- those above a key find nothing new in front of them
above : (e : Row) (es : List Row) (fs : List Row) → T (below_all key_cmp e.0 es) → AllByRecursion (λ f. fin.find key_cmp f.0 fs ≡ Some f.1) es → AllByRecursion (λ f. fin.find key_cmp f.0 (e ∷ fs) ≡ Some f.1) es
above e [] fs h a = tt
above e (f ∷ es) fs h a = (
  ap (λ (b : Bool). cond b (Some e.1) (fin.find key_cmp f.0 fs)) (is_under e.0 f.0 (first _ _ h)) ∙ a.0,
  above e es fs (second _ _ h) a.1,
)

pub finds_own : (es : List Row) → T (fin.is_sorted key_cmp es) → AllByRecursion (λ e. fin.find key_cmp e.0 es ≡ Some e.1) es
finds_own [] s = tt
finds_own (e ∷ es) s = (
  ap (λ (b : Bool). cond b (Some e.1) (fin.find key_cmp e.0 es)) (key_is e.0),
  above e es es (first _ _ s) (finds_own es (second _ _ s)),
)

-- ---- looking for a key among rows
some_content : (a b : ContentData) → ◌≡◌ {A = Option ContentData} (Some a) (Some b) → a ≡ b
some_content a b e = cc

none_content : (a : ContentData) → ◌≡◌ {A = Option ContentData} None (Some a) → ⊥
none_content a e = cc

found_one : (P : RowData → Type 0) (q : RowKey) (rows : List RowData) (c : ContentData) → AllByRecursion P rows → fin.find key_cmp q (map pair rows) ≡ Some c → (r : RowData) × P r × (q ≡ r.key) × (content_of r ≡ c)
found_one P q [] c h f = absurd (none_content c f)
found_one P q (r ∷ rs) c h f = go (eq_by_cmp key_cmp q r.key) refl f (found_one P q rs c h.1)
  where
    go : (b : Bool) → eq_by_cmp key_cmp q r.key ≡ b → cond b (Some (content_of r)) (fin.find key_cmp q (map pair rs)) ≡ Some c → (fin.find key_cmp q (map pair rs) ≡ Some c → (s : RowData) × P s × (q ≡ s.key) × (content_of s ≡ c)) → (s : RowData) × P s × (q ≡ s.key) × (content_of s ≡ c)
    go true e g k = (r, h.0, tells_apart exact_keys q r.key e, some_content (content_of r) c g)
    go false e g k = k g

none_found : (q : RowKey) (rows : List RowData) → fin.find key_cmp q (map pair rows) ≡ None → AllByRecursion (λ r. eq_by_cmp key_cmp q r.key ≡ false) rows
none_found q [] f = tt
none_found q (r ∷ rs) f = go (eq_by_cmp key_cmp q r.key) refl f (none_found q rs)
  where
    go : (b : Bool) → eq_by_cmp key_cmp q r.key ≡ b → cond b (Some (content_of r)) (fin.find key_cmp q (map pair rs)) ≡ None → (fin.find key_cmp q (map pair rs) ≡ None → AllByRecursion (λ s. eq_by_cmp key_cmp q s.key ≡ false) rs) → (eq_by_cmp key_cmp q r.key ≡ false) × AllByRecursion (λ s. eq_by_cmp key_cmp q s.key ≡ false) rs
    go true e g k = absurd (none_content (content_of r) (sym g))
    go false e g k = (e, k g)

find_none : (q : RowKey) (rows : List RowData) → AllByRecursion (λ r. eq_by_cmp key_cmp q r.key ≡ false) rows → fin.find key_cmp q (map pair rows) ≡ None
find_none q [] h = refl
find_none q (r ∷ rs) h = ap (λ (b : Bool). cond b (Some (content_of r)) (fin.find key_cmp q (map pair rs))) h.0 ∙ find_none q rs h.1

-- ---- the rows of a range
abbrev pub with_key : Row → RowData
with_key e = row_with e.0 e.1

abbrev IsOf : (Row → Bool) → Map → RowData → Type 0
IsOf p m r = pass p r.key (fin.get m r.key) ≡ Some (content_of r)

pub each_mapped : {X Y : Type 0} (f : X → Y) (P : Y → Type 0) (xs : List X) → AllByRecursion (λ x. P (f x)) xs → AllByRecursion P (map f xs)
each_mapped f P [] h = tt
each_mapped f P (x ∷ xs) h = (h.0, each_mapped f P xs h.1)

within_map : (t lo hi : ℕ) (m : Map) → rows_within m t lo hi ≡ map with_key (filter (shows (Range t lo hi)) (fin.entries m))
within_map t lo hi m = filter-map (is_within t lo hi) with_key (fin.entries m)

found_in_map : (p : Row → Bool) (m : Map) (q : RowKey) → fin.find key_cmp q (filter p (fin.entries m)) ≡ pass p q (fin.get m q)
found_in_map p m q = find_filter p q (fin.entries m) (fin.entries_sorted m) ∙ ap (pass p q) (sym (fin.get-entries m q))

within_of : (t lo hi : ℕ) (m : Map) → AllByRecursion (IsOf (shows (Range t lo hi)) m) (rows_within m t lo hi)
within_of t lo hi m =
    let p = shows (Range t lo hi) in
    let fs = filter p (fin.entries m) in
    subst (AllByRecursion (IsOf p m)) (sym (within_map t lo hi m))
    (each_mapped with_key (IsOf p m) fs
    (each_weaker (λ f. fin.find key_cmp f.0 fs ≡ Some f.1) (λ f. IsOf p m (with_key f)) (λ f e. sym (found_in_map p m f.0) ∙ e) fs
    (finds_own fs (sorted_filter p (fin.entries m) (fin.entries_sorted m)))))

scan_of : (t lo hi : ℕ) (m : Map) → AllByRecursion (IsOf (shows (Range t lo hi)) m) (scan m t lo hi)
scan_of t lo hi m =
    let P = IsOf (shows (Range t lo hi)) m in
    recursion_from_All P (scan m t lo hi) (All-permutation P (rows_within m t lo hi) (scan m t lo hi) (scan_is m t lo hi).same (All-from_recursion P (rows_within m t lo hi) (within_of t lo hi m)))

-- a key that isn't in the scan isn't in the range
not_in_scan : (t lo hi : ℕ) (m : Map) (q : RowKey) → fin.find key_cmp q (map pair (scan m t lo hi)) ≡ None → pass (shows (Range t lo hi)) q (fin.get m q) ≡ None
not_in_scan t lo hi m q f =
    let P : RowData → Type 0 = λ r. eq_by_cmp key_cmp q r.key ≡ false in
    let p = shows (Range t lo hi) in
    let other = recursion_from_All P (rows_within m t lo hi) (All-permutation P (scan m t lo hi) (rows_within m t lo hi) (IsPermutation-sym (rows_within m t lo hi) (scan m t lo hi) (scan_is m t lo hi).same) (All-from_recursion P (scan m t lo hi) (none_found q (scan m t lo hi) f))) in
    sym (found_in_map p m q)
    ∙ same_find q (filter p (fin.entries m))
    ∙ ap (λ rows. fin.find key_cmp q (map pair rows)) (sym (within_map t lo hi m))
    ∙ find_none q (rows_within m t lo hi) other
  where
    same_find : (q : RowKey) (es : List Row) → fin.find key_cmp q es ≡ fin.find key_cmp q (map pair (map with_key es))
    same_find q [] = refl
    same_find q (e ∷ es) = ap (λ o. cond (eq_by_cmp key_cmp q e.0) (Some e.1) o) (same_find q es)

passed : (p : Row → Bool) (q : RowKey) (o : Option ContentData) (c : ContentData) → pass p q o ≡ Some c → (o ≡ Some c) × (p (q, c) ≡ true)
passed p q None c e = absurd (none_content c e)
passed p q (Some h) c e = go (p (q, h)) refl e
  where
    go : (b : Bool) → p (q, h) ≡ b → cond b (Some h) None ≡ Some c → (Some h ≡ Some c) × (p (q, c) ≡ true)
    go true f g = (g, subst (λ (d : ContentData). p (q, d) ≡ true) (some_content h c g) f)
    go false f g = absurd (none_content c g)

range_agrees : (t lo hi : ℕ) (m : Map) → AgreeOn (Range t lo hi) (map_of_rows (scan m t lo hi)) m
range_agrees t lo hi m q =
    ap (pass p q) (fin.get-from_entries keys_total (map pair rows) q) ∙ go (fin.find key_cmp q (map pair rows)) refl
  where
    p : Row → Bool
    p = shows (Range t lo hi)

    rows : List RowData
    rows = scan m t lo hi

    go : (o : Option ContentData) → fin.find key_cmp q (map pair rows) ≡ o → pass p q o ≡ pass p q (fin.get m q)
    go None f = sym (not_in_scan t lo hi m q f)
    go (Some c) f =
        let r = found_one (IsOf p m) q rows c (scan_of t lo hi m) f in
        let here : pass p q (fin.get m q) ≡ Some c = subst (λ (k : RowKey). pass p k (fin.get m k) ≡ Some (content_of r.0)) (sym r.2) r.1 ∙ ap Some r.3 in
        ap (λ (b : Bool). cond b (Some c) None) (passed p q (fin.get m q) c here).1 ∙ sym here

-- ---- a key
key_agrees : (k : RowKey) (m : Map) → AgreeOn (Key k) (map_of_rows (option_to_list (row_at m k))) m
key_agrees k m q = ap (pass (shows (Key k)) q) (fin.get-from_entries keys_total (map pair (option_to_list (row_at m k))) q) ∙ go (eq_by_cmp key_cmp q k) refl
  where
    same : (o : Option ContentData) → eq_by_cmp key_cmp q k ≡ true → fin.find key_cmp q (map pair (option_to_list (option_map (row_with k) o))) ≡ o
    same None e = refl
    same (Some h) e = ap (λ (b : Bool). cond b (Some h) None) e

    go : (b : Bool) → eq_by_cmp key_cmp q k ≡ b → pass (shows (Key k)) q (fin.find key_cmp q (map pair (option_to_list (row_at m k)))) ≡ pass (shows (Key k)) q (fin.get m q)
    go true e = ap (pass (shows (Key k)) q) (same (fin.get m k) e ∙ ap (fin.get m) (sym (tells_apart exact_keys q k e)))
    go false e = pass_other q k (fin.find key_cmp q (map pair (option_to_list (row_at m k)))) e ∙ sym (pass_other q k (fin.get m q) e)

-- the rows that a map shows in an entry agree there with the map
pub shown_agrees : (e : Entry) (m : Map) → AgreeOn e (map_of_rows (rows_shown e m)) m
shown_agrees (Key k) m = key_agrees k m
shown_agrees (Range t lo hi) m = range_agrees t lo hi m
