-- Tests of order as a loop goes, and what they say of the whole list.
use Rattle.std.proofs.Common.{◌≡◌, ℕ, ◌<◌, ◌≤◌, ◌↔◌, Bool, true, false, cond, eqb, List, [], ◌∷◌, ltb, leb, map, take, drop, length, ◌-◌, get_or, refl, ap, subst, ◌∙◌, arith}
use Rattle.std.specs.Prelude.{◌&&◌, IsTrue}
use Rattle.std.specs.List.{AllByRecursion}
use Rattle.std.specs.List.Sorted.{IsStrictlySortedBy}
use Rattle.std.specs.Ordering.{is_lt, nat_cmp}
use Rattle.std.specs.declared.cmp.Ordering.{Ordering}
use Rattle.std.specs.declared.cmp.Ordering.TheVariants.{Less, Equal, Greater}
use Rattle.std.proofs.lemmas.Bool.{ltb-true, lt-ltb, leb-true, le-leb}
use Rattle.std.proofs.lemmas.List.{take_all}
use Rattle.std.proofs.lemmas.List.Elements.{All-from_recursion, recursion_from_All}
use Rattle.std.proofs.lemmas.Map.Keys.{IsStrictlyIncreasing-from_sorted, sorted_from_strictly_increasing}
use Rattle.mvo_bytes.proofs.Fields.{answers}
use Rattle.mvo_types.specs.declared.row.RowKey.{RowKey}
use Rattle.mvo_types.specs.Keys.{key_cmp}
use Rattle.mvo_types.proofs.Maps.{keys_total}
use Rattle.mvo_group.specs.declared.write.Write.{Write as RustWrite}
use Rattle.mvo_group.specs.Data.{RecordData, write_data}
use Rattle.mvo_group.specs.Rules.{EndsRise}

pub both_of : (a b : Bool) → (a && b) ≡ true → (a ≡ true) × (b ≡ true)
both_of true b e = (refl, e)
both_of false b e = absurd cc

pub both_are : (a b : Bool) → a ≡ true → b ≡ true → (a && b) ≡ true
both_are true b p q = q
both_are false b p q = absurd cc

less_of : (o : Ordering) → is_lt o ≡ true → o ≡ Less
less_of Less e = refl
less_of Equal e = absurd cc
less_of Greater e = absurd cc

-- ---- keys

abbrev pub do_keys_rise : List RowKey → Bool
do_keys_rise [] = true
do_keys_rise (a ∷ []) = true
do_keys_rise (a ∷ b ∷ more) = is_lt (key_cmp a b) && do_keys_rise (b ∷ more)

below_more : (a b : RowKey) (more : List RowKey) → key_cmp a b ≡ Less → AllByRecursion (λ k. key_cmp b k ≡ Less) more → AllByRecursion (λ k. key_cmp a k ≡ Less) more
below_more a b [] lt all = tt
below_more a b (k ∷ more) lt all = (keys_total.trans a b k lt all.0, below_more a b more lt all.1)

sorted_from_test : (ks : List RowKey) → do_keys_rise ks ≡ true → IsStrictlySortedBy key_cmp ks
unfolding IsStrictlySortedBy
sorted_from_test [] e = tt
sorted_from_test (a ∷ []) e = (tt, tt)
sorted_from_test (a ∷ b ∷ more) e =
    let t = both_of (is_lt (key_cmp a b)) (do_keys_rise (b ∷ more)) e in
    let lt = less_of (key_cmp a b) t.0 in
    let rest = sorted_from_test (b ∷ more) t.1 in
    ((lt, below_more a b more lt rest.0), rest)

test_from_sorted : (ks : List RowKey) → IsStrictlySortedBy key_cmp ks → do_keys_rise ks ≡ true
unfolding IsStrictlySortedBy
test_from_sorted [] s = refl
test_from_sorted (a ∷ []) s = refl
test_from_sorted (a ∷ b ∷ more) s = both_are (is_lt (key_cmp a b)) (do_keys_rise (b ∷ more)) (ap is_lt s.0.0) (test_from_sorted (b ∷ more) s.1)

pub keys_answer : (b : Bool) (ks : List RowKey) → b ≡ do_keys_rise ks → IsTrue b ↔ IsStrictlySortedBy key_cmp ks
keys_answer b ks e = answers b (do_keys_rise ks) (sorted_from_test ks) (test_from_sorted ks) e

-- ---- ends

abbrev pub do_ends_rise : ℕ → ℕ → List RecordData → Bool
do_ends_rise lo hi [] = true
do_ends_rise lo hi (r ∷ more) = (ltb lo r.end && leb r.end hi) && do_ends_rise r.end hi more

pub lt_cmp : (a b : ℕ) → a < b → nat_cmp a b ≡ Less
lt_cmp a b h = ap (λ t. cond t Less (cond (eqb a b) Equal Greater)) (lt-ltb a b h)

cmp_lt : (a b : ℕ) → nat_cmp a b ≡ Less → a < b
cmp_lt a b e = ltb-true a b (by_tests (ltb a b) (eqb a b) e)
  where
    by_tests : (t u : Bool) → cond t Less (cond u Equal Greater) ≡ Less → t ≡ true
    by_tests true u f = refl
    by_tests false true f = absurd cc
    by_tests false false f = absurd cc

abbrev Within : ℕ → ℕ → List RecordData → Type 0
Within lo hi rs = AllByRecursion (λ r. (lo < r.end) × (r.end ≤ hi)) rs

heads : (x hi : ℕ) (rs : List RecordData) → Within x hi rs → AllByRecursion (λ y. nat_cmp x y ≡ Less) (map (λ r. r.end) rs)
heads x hi [] w = tt
heads x hi (r ∷ rs) w = (lt_cmp x r.end w.0.0, heads x hi rs w.1)

lower : (lo x hi : ℕ) (rs : List RecordData) → lo < x → Within x hi rs → Within lo hi rs
lower lo x hi [] lt w = tt
lower lo x hi (r ∷ rs) lt w = ((omega (arith, lt, w.0.0), w.0.1), lower lo x hi rs lt w.1)

higher : (lo x hi : ℕ) (rs : List RecordData) → AllByRecursion (λ y. nat_cmp x y ≡ Less) (map (λ r. r.end) rs) → Within lo hi rs → Within x hi rs
higher lo x hi [] s w = tt
higher lo x hi (r ∷ rs) s w = ((cmp_lt x r.end s.0, w.0.1), higher lo x hi rs s.1 w.1)

ends_from_test : (lo hi : ℕ) (rs : List RecordData) → do_ends_rise lo hi rs ≡ true → IsStrictlySortedBy nat_cmp (map (λ r. r.end) rs) × Within lo hi rs
unfolding IsStrictlySortedBy
ends_from_test lo hi [] e = (tt, tt)
ends_from_test lo hi (r ∷ more) e =
    let t = both_of (ltb lo r.end && leb r.end hi) (do_ends_rise r.end hi more) e in
    let u = both_of (ltb lo r.end) (leb r.end hi) t.0 in
    let rest = ends_from_test r.end hi more t.1 in
    let lt : lo < r.end = ltb-true _ _ u.0 in
    let le : r.end ≤ hi = leb-true _ _ u.1 in
    ((heads r.end hi more rest.1, rest.0), ((lt, le), lower lo r.end hi more lt rest.1))

test_from_ends : (lo hi : ℕ) (rs : List RecordData) → IsStrictlySortedBy nat_cmp (map (λ r. r.end) rs) → Within lo hi rs → do_ends_rise lo hi rs ≡ true
unfolding IsStrictlySortedBy
test_from_ends lo hi [] s w = refl
test_from_ends lo hi (r ∷ more) s w =
    both_are (ltb lo r.end && leb r.end hi) (do_ends_rise r.end hi more) (both_are (ltb lo r.end) (leb r.end hi) (lt-ltb _ _ w.0.0) (le-leb _ _ w.0.1)) (test_from_ends r.end hi more s.1 (higher lo r.end hi more s.0 w.1))

pub ends_answer : (b : Bool) (lo hi : ℕ) (rs : List RecordData) → b ≡ do_ends_rise lo hi rs → IsTrue b ↔ EndsRise lo hi rs
ends_answer b lo hi rs e =
    answers b (do_ends_rise lo hi rs)
    (λ t. let s = ends_from_test lo hi rs t in (IsStrictlyIncreasing-from_sorted (map (λ r. r.end) rs) s.0, All-from_recursion (λ r. (lo < r.end) × (r.end ≤ hi)) rs s.1))
    (λ s. test_from_ends lo hi rs (sorted_from_strictly_increasing (map (λ r. r.end) rs) s.0) (recursion_from_All (λ r. (lo < r.end) × (r.end ≤ hi)) rs s.1))
    e

-- two writes at the front that don't rise
pub front_falls : (ws after : List RustWrite) (a b : RustWrite) → after ≡ take (length ws - 1) (drop 1 ws) → 1 ≤ length ws → 1 ≤ length after → a ≡ get_or ws 0 a → b ≡ get_or after 0 b → is_lt (key_cmp (write_data a).0 (write_data b).0) ≡ false → do_keys_rise (map (λ w. w.0) (map write_data ws)) ≡ false
front_falls [] after a b tail some more p q e = absurd (omega (arith, some))
front_falls (x ∷ ws) after a b tail some more p q e = rest_falls ws (tail ∙ take_all (length (x ∷ ws) - 1) ws (omega arith))
  where
    rest_falls : (ws : List RustWrite) → after ≡ ws → do_keys_rise (map (λ w. w.0) (map write_data (x ∷ ws))) ≡ false
    rest_falls [] same = absurd (omega (arith, more, ap (λ (l : List RustWrite). length l) same))
    rest_falls (y ∷ ws) same =
        let second : b ≡ y = q ∙ ap (λ (l : List RustWrite). get_or l 0 b) same in
        let at_front : is_lt (key_cmp (write_data x).0 (write_data y).0) ≡ false = subst (λ (v : RustWrite). is_lt (key_cmp (write_data x).0 (write_data v).0) ≡ false) second (subst (λ (v : RustWrite). is_lt (key_cmp (write_data v).0 (write_data b).0) ≡ false) p e) in
        ap (λ t. t && do_keys_rise (map (λ w. w.0) (map write_data (y ∷ ws)))) at_front
