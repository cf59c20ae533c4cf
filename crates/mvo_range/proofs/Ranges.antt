-- The bounds of a walk against the filter by table and sort.
use Rattle.std.proofs.Common.{◌≡◌, ℕ, ◌+◌, ◌<◌, ◌≤◌, ◌^◌, List, [], ◌∷◌, Bool, true, false, cond, not, eqb, leb, refl, sym, ap, ◌∙◌, arith}
use Rattle.std.specs.Prelude.{◌&&◌, filter}
use Rattle.std.specs.List.{All}
use Rattle.std.proofs.lemmas.List.Elements.{All-head, All-tail}
use Rattle.std.proofs.lemmas.Bool.Decides.{nat_tests}
use Rattle.std.specs.Ordering.{nat_cmp, is_lt, is_le, ordering_then}
use Rattle.std.specs.declared.cmp.Ordering.{Ordering}
use Rattle.mvo_range.specs.declared.sort_place.SortPlace.{SortPlace}
use Rattle.mvo_range.specs.Place.{place_cmp, is_between, is_between_after, HasKey}

-- two tests that agree at each element that has the fact keep the same elements
pub filter_where : {X : Type 0} (P : X → Type 0) (p q : X → Bool) → ((x : X) → P x → p x ≡ q x) → (xs : List X) → All P xs → filter p xs ≡ filter q xs
filter_where P p q same [] all = refl
filter_where P p q same (x ∷ xs) all =
    ap (λ b. cond b (x ∷ filter p xs) (filter p xs)) (same x (All-head P x xs all))
    ∙ ap (λ ys. cond (q x) (x ∷ ys) ys) (filter_where P p q same xs (All-tail P x xs all))

table_first : (t s : ℕ) (a b : Ordering) → (is_le (ordering_then (nat_cmp t s) a) && not (is_lt (ordering_then (nat_cmp t s) b))) ≡ (eqb s t && (is_le a && not (is_lt b)))
table_first t s a b = grind (arith, nat_tests)

sorts_then : (lo hi s k m : ℕ) → k ≤ m → (is_le (ordering_then (nat_cmp lo s) (nat_cmp 0 k)) && not (is_lt (ordering_then (nat_cmp hi s) (nat_cmp m k)))) ≡ (leb lo s && leb s hi)
sorts_then lo hi s k m h = grind (arith, nat_tests)

table_after : (t s : ℕ) (a b : Ordering) → (is_lt (ordering_then (nat_cmp t s) a) && not (is_lt (ordering_then (nat_cmp t s) b))) ≡ (eqb s t && (is_lt (ordering_then (nat_cmp t s) a) && not (is_lt b)))
table_after t s a b = grind (arith, nat_tests)

sort_below : (hi s k m : ℕ) → k ≤ m → not (is_lt (ordering_then (nat_cmp hi s) (nat_cmp m k))) ≡ leb s hi
sort_below hi s k m h = grind (arith, nat_tests)

past_the_end : (t u s hi r k l : ℕ) → hi < s → (eqb u t && (is_lt (ordering_then (nat_cmp t u) (ordering_then (nat_cmp s r) (nat_cmp k l))) && leb r hi)) ≡ false
past_the_end t u s hi r k l h = grind (arith, nat_tests)

not_both : (b : Bool) → (b && not b) ≡ false
not_both true = refl
not_both false = refl

no_sort : (t u lo hi s : ℕ) → hi < lo → (eqb u t && (leb lo s && leb s hi)) ≡ false
no_sort t u lo hi s h = grind (arith, nat_tests)

-- no sort lies between bounds that run backwards
pub none_between : (t lo hi : ℕ) (p : SortPlace) (es : List (SortPlace × ℕ)) → hi < lo → All HasKey es → filter (λ e. is_le (place_cmp p e.0) && not (is_le (place_cmp p e.0))) es ≡ filter (is_between t lo hi) es
none_between t lo hi p es h all =
    filter_where HasKey _ _ (λ e k. not_both (is_le (place_cmp p e.0)) ∙ sym (no_sort t e.0.table lo hi e.0.sort h)) es all

-- from the first place of a sort to the last of another
pub all_between : (t lo hi m : ℕ) (es : List (SortPlace × ℕ)) → 2 ^ 64 ≤ m + 1 → All HasKey es → filter (λ e. is_le (place_cmp (record { table = t; sort = lo; key = 0 }) e.0) && not (is_lt (place_cmp (record { table = t; sort = hi; key = m }) e.0))) es ≡ filter (is_between t lo hi) es
all_between t lo hi m es h all =
    filter_where HasKey _ _ (λ e k. let fits : e.0.key ≤ m = omega (arith, k, h) in
    table_first t e.0.table _ _ ∙ ap (λ b. eqb e.0.table t && b) (sorts_then lo hi e.0.sort e.0.key m fits)) es all

-- nothing stands behind a place whose sort is past the end
pub none_after : (p : SortPlace) (hi : ℕ) (es : List (SortPlace × ℕ)) → hi < p.sort → All HasKey es → filter (λ e. is_le (place_cmp p e.0) && not (is_le (place_cmp p e.0))) es ≡ filter (is_between_after p hi) es
none_after p hi es h all =
    filter_where HasKey _ _ (λ e k. not_both (is_le (place_cmp p e.0)) ∙ sym (past_the_end p.table e.0.table p.sort hi e.0.sort p.key e.0.key h)) es all

-- from behind a place to the last of a sort
pub rows_after_all : (p : SortPlace) (hi m : ℕ) (es : List (SortPlace × ℕ)) → 2 ^ 64 ≤ m + 1 → All HasKey es → filter (λ e. is_lt (place_cmp p e.0) && not (is_lt (place_cmp (record { table = p.table; sort = hi; key = m }) e.0))) es ≡ filter (is_between_after p hi) es
rows_after_all p hi m es h all =
    filter_where HasKey _ _ (λ e k. let fits : e.0.key ≤ m = omega (arith, k, h) in
    table_after p.table e.0.table _ _ ∙ ap (λ b. eqb e.0.table p.table && (is_lt (place_cmp p e.0) && b)) (sort_below hi e.0.sort e.0.key m fits)) es all
