-- The order of places, and what the map of a tree's entries has at a place.
use Rattle.std.proofs.Common.{◌≡◌, ℕ, ◌<◌, ◌^◌, List, [], ◌∷◌, Option, None, Some, Bool, true, false, cond, refl, sym, ap, ◌∙◌, subst}
use Rattle.std.specs.Prelude.{fold, filter}
use Rattle.std.proofs.Math.Dec.{T}
use Rattle.std.proofs.lemmas.Map.Lookups.{CmpEqualImpliesEq, exact_pairs, exact_unsigned}
use Rattle.std.proofs.lemmas.Map.Keys.{sorted_head, sorted_tail}
use Rattle.std.proofs.lemmas.Cmp.{on_total, then_total, nat_cmp_total}
use Rattle.std.specs.Cmp.{IsTotalOrder, eq_by_cmp_equiv}
use Rattle.std.specs.Map.{lookup, update_all, update, keys_of}
use Rattle.std.specs.List.{AllByRecursion}
use Rattle.std.specs.List.Sorted.{IsStrictlySortedBy}
use Rattle.std.specs.Ordering.{nat_cmp, is_eq, is_lt, eq_by_cmp, ordering_then}
use Rattle.std.specs.declared.cmp.Ordering.{Ordering}
use Rattle.std.specs.declared.cmp.Ordering.TheVariants.{Less, Equal, Greater}
use Rattle.std.specs.FinMap.{FinMap, find, from_entries, get, insert, get-from_entries, get-insert, get-remove, get-entries, get-empty, remove, same_map, entries, entries_sorted, is_sorted, empty, len, len-entries}
use Rattle.std.specs.FinMap.Entries.{same_entries, below_all}
use Rattle.std.specs.BTreeMap.{is_at}
use Rattle.mvo_range.specs.declared.sort_place.SortPlace.{SortPlace}
use Rattle.std.specs.List.{All}
use Rattle.std.specs.Map.{remove_entry}
use Rattle.std.specs.BTreeMap.{insert_entry, BTreeMap, IsFromIterResult}
use Rattle.std.proofs.lemmas.Map.Views.{All-keys_from_lookup, btree_map_contains_key_from_list}
use Rattle.std.specs.Ordering.{match_ordering}
use Rattle.std.proofs.lemmas.List.Elements.{All-nil, All-cons, All-head, All-tail, All-contains, All-map}
use Rattle.mvo_range.specs.Place.{place_cmp, PlaceNumbers, all_added, HasKey}
use Rattle.mvo_types.proofs.Ordered.{both}

sort_key_cmp : ℕ × ℕ → ℕ × ℕ → Ordering
sort_key_cmp a b = ordering_then (nat_cmp a.0 b.0) (nat_cmp a.1 b.1)

-- places that compare alike are one
pub exact_places : CmpEqualImpliesEq place_cmp
unfolding sort_key_cmp
exact_places a b h =
    ap (λ (p : ℕ × (ℕ × ℕ)). record { table = p.0; sort = p.1.0; key = p.1.1 })
    (exact_pairs nat_cmp sort_key_cmp exact_unsigned (exact_pairs nat_cmp nat_cmp exact_unsigned exact_unsigned) (a.table, (a.sort, a.key)) (b.table, (b.sort, b.key)) h)

pub places_total : IsTotalOrder place_cmp
places_total = then_total (on_total (λ k. k.table) nat_cmp_total) (then_total (on_total (λ k. k.sort) nat_cmp_total) (on_total (λ k. k.key) nat_cmp_total))

-- what a list of entries has at a place
abbrev pub held_at : List (SortPlace × ℕ) → SortPlace → Option ℕ
held_at es q = lookup (is_at (place_cmp q)) es

pub find_held : (es : List (SortPlace × ℕ)) (q : SortPlace) → find place_cmp q es ≡ held_at es q
find_held [] q = refl
find_held (e ∷ es) q = ap (cond (is_at (place_cmp q) e.0) (Some e.1)) (find_held es q)

pub get_held : (es : List (SortPlace × ℕ)) (q : SortPlace) → get (from_entries {R = place_cmp} es) q ≡ held_at es q
get_held es q = get-from_entries places_total es q ∙ find_held es q

-- entries that differ at one place make maps that differ there
pub one_put : (es fs : List (SortPlace × ℕ)) (k : SortPlace) (n : ℕ) → ((q : SortPlace) → held_at fs q ≡ cond (is_at (place_cmp k) q) (Some n) (held_at es q)) → from_entries {R = place_cmp} fs ≡ insert (from_entries es) k n
one_put es fs k v h = same_map places_total exact_places _ _ (λ q.
    get_held fs q ∙ h q ∙ ap (λ b. cond b (Some v) (held_at es q)) ((eq_by_cmp_equiv places_total).symm k q)
    ∙ sym (get-insert places_total (from_entries es) k v q ∙ ap (cond (eq_by_cmp place_cmp q k) (Some v)) (get_held es q)))

-- entries without one place make the map without it
pub one_gone : (es fs : List (SortPlace × ℕ)) (k : SortPlace) → ((q : SortPlace) → held_at fs q ≡ cond (is_at (place_cmp k) q) None (held_at es q)) → from_entries {R = place_cmp} fs ≡ remove (from_entries es) k
one_gone es fs k h = same_map places_total exact_places _ _ (λ q.
    get_held fs q ∙ h q ∙ ap (λ b. cond b None (held_at es q)) ((eq_by_cmp_equiv places_total).symm k q)
    ∙ sym (get-remove places_total (from_entries es) k q ∙ ap (cond (eq_by_cmp place_cmp q k) None) (get_held es q)))

below : (k : SortPlace) (es : List (SortPlace × ℕ)) → AllByRecursion (λ q. place_cmp k q ≡ Less) (keys_of es) → T (below_all place_cmp k es)
below k [] h = tt
below k (e ∷ es) h = both _ _ (subst (λ o. T (is_lt o)) (sym h.0) tt) (below k es h.1)

-- a tree's order is the order of the map's entries
pub in_order : (es : List (SortPlace × ℕ)) → IsStrictlySortedBy place_cmp (keys_of es) → T (is_sorted place_cmp es)
in_order [] h = tt
in_order (e ∷ es) h = both _ _ (below e.0 es (sorted_head place_cmp _ _ h)) (in_order es (sorted_tail place_cmp _ _ h))

-- the map's entries are the tree's
pub entries_held : (es : List (SortPlace × ℕ)) → IsStrictlySortedBy place_cmp (keys_of es) → entries (from_entries {R = place_cmp} es) ≡ es
entries_held es h =
    same_entries place_cmp places_total exact_places _ es (entries_sorted (from_entries es)) (in_order es h)
    (λ q. sym (get-entries (from_entries es) q) ∙ get-from_entries places_total es q)

pub len_held : (es : List (SortPlace × ℕ)) → IsStrictlySortedBy place_cmp (keys_of es) → len (from_entries {R = place_cmp} es) ≡ Rattle.std.specs.Prelude.length es
len_held es h = len-entries (from_entries es) ∙ ap Rattle.std.specs.Prelude.length (entries_held es h)

added_from : (es : List (SortPlace × ℕ)) (m : PlaceNumbers) (g : SortPlace → Option ℕ) → ((q : SortPlace) → get m q ≡ g q) → (q : SortPlace) → get (fold (λ (n : PlaceNumbers) (e : SortPlace × ℕ). insert n e.0 e.1) m es) q ≡ update_all (eq_by_cmp place_cmp) g es q
added_from [] m g h q = h q
added_from (e ∷ es) m g h q =
    added_from es (insert m e.0 e.1) (update (eq_by_cmp place_cmp) g e.0 (Some e.1))
    (λ p. get-insert places_total m e.0 e.1 p ∙ ap (λ b. cond b (Some e.1) (get m p)) ((eq_by_cmp_equiv places_total).symm p e.0) ∙ ap (cond (eq_by_cmp place_cmp e.0 p) (Some e.1)) (h p)) q

-- what a place has after each entry was added in turn
pub get-all_added : (es : List (SortPlace × ℕ)) (q : SortPlace) → get (all_added es) q ≡ update_all (eq_by_cmp place_cmp) (λ _. None) es q
get-all_added es q = added_from es empty (λ _. None) (get-empty place_cmp) q

-- a tree that has at each place what those entries leave there
pub built : (es fs : List (SortPlace × ℕ)) → ((q : SortPlace) → held_at fs q ≡ update_all (eq_by_cmp place_cmp) (λ _. None) es q) → from_entries {R = place_cmp} fs ≡ all_added es
built es fs h = same_map places_total exact_places _ _ (λ q. get_held fs q ∙ h q ∙ sym (get-all_added es q))

pub HasKey-insert_entry : (es : List (SortPlace × ℕ)) (k : SortPlace) (n : ℕ) → k.key < 2 ^ 64 → All HasKey es → All HasKey (insert_entry place_cmp es k n)
HasKey-insert_entry [] k n h all = All-cons HasKey (k, n) [] h all
HasKey-insert_entry (e ∷ es) k n h all =
    let head = All-head HasKey e es all in
    let tail = All-tail HasKey e es all in
    elim (place_cmp k e.0) as (λ o. All HasKey (match_ordering o ((k, n) ∷ e ∷ es) ((e.0, n) ∷ es) (e ∷ insert_entry place_cmp es k n))) [
      | Less ↦ All-cons HasKey (k, n) (e ∷ es) h all
      | Equal ↦ All-cons HasKey (e.0, n) es head tail
      | Greater ↦ All-cons HasKey e (insert_entry place_cmp es k n) head (HasKey-insert_entry es k n h tail)
    ]

pub HasKey-remove_entry : (test : SortPlace → Bool) (es : List (SortPlace × ℕ)) → All HasKey es → All HasKey (remove_entry test es)
HasKey-remove_entry test [] all = all
HasKey-remove_entry test (e ∷ es) all =
    let head = All-head HasKey e es all in
    let tail = All-tail HasKey e es all in
    elim (test e.0) as (λ b. All HasKey (cond b es (e ∷ remove_entry test es))) [
      | true ↦ tail
      | false ↦ All-cons HasKey e (remove_entry test es) head (HasKey-remove_entry test es tail)
    ]

abbrev is_key : SortPlace → Type 0
is_key p = p.key < 2 ^ 64

keys_to_entries : (es : List (SortPlace × ℕ)) → All is_key (keys_of es) → All HasKey es
keys_to_entries [] h = All-nil HasKey
keys_to_entries (e ∷ es) h = All-cons HasKey e es (All-head is_key e.0 (keys_of es) h) (keys_to_entries es (All-tail is_key e.0 (keys_of es) h))

-- a tree that was built of entries whose keys fit
pub HasKey-built : (es : List (SortPlace × ℕ)) (m : BTreeMap SortPlace ℕ) → IsFromIterResult place_cmp es m → All HasKey es → All HasKey m.entries
HasKey-built es m h all =
    keys_to_entries m.entries (All-keys_from_lookup (eq_by_cmp_equiv places_total) is_key m.entries (λ q found.
    All-contains is_key (keys_of es) q (All-map is_key (λ e. e.0) es all) ((btree_map_contains_key_from_list places_total exact_places es m h q).0 found)))
