-- The rank of a number among others.
use Rattle.std.proofs.Common.{◌≡◌, inl, inr, ℕ, zero, suc, ◌+◌, ◌<◌, ◌≤◌, Bool, true, false, cond, List, [], ◌∷◌, length, refl, ap, ◌∙◌, arith}
use Rattle.std.specs.Prelude.{nat_lt}
use Rattle.std.specs.List.{AllByRecursion, AllWithin, count_by}
use Rattle.std.specs.List.Sorted.{IsStrictlyIncreasing, IsNonDecreasingBy}
use Rattle.std.proofs.lemmas.Bool.{cases_lt}
use Rattle.std.proofs.lemmas.Bool.Decides.{nat_tests}
use Rattle.std.proofs.lemmas.List.{get_or_default}
use Rattle.std.proofs.lemmas.List.Sorted.{IsNonDecreasingBy-from_all_adjacent}
use Rattle.std.proofs.lemmas.List.Sums.{sum_by-cons, count_by-le-length}
use Rattle.mvo_places.proofs.Members.{Among}
use Rattle.mvo_merge.specs.Merged.{rank}

abbrev one : ℕ → ℕ → ℕ
one m n = cond (nat_lt m n) 1 0

one_grows : (x m n : ℕ) → m ≤ n → one x m ≤ one x n
one_grows x m n le = grind (arith, nat_tests)

one_yes : (m n : ℕ) → m < n → one m n ≡ 1
one_yes m n lt = grind (arith, nat_tests)

one_no : (m n : ℕ) → n ≤ m → one m n ≡ 0
one_no m n le = grind (arith, nat_tests)

pub rank-cons : (m : ℕ) (ns : List ℕ) (n : ℕ) → rank (m ∷ ns) n ≡ one m n + rank ns n
rank-cons m ns n = sum_by-cons (λ x. cond (nat_lt x n) 1 0) m ns

rank_grows : (ns : List ℕ) (m n : ℕ) → m ≤ n → rank ns m ≤ rank ns n
rank_grows [] m n le = omega arith
rank_grows (x ∷ ns) m n le = omega (arith, rank-cons x ns m, rank-cons x ns n, one_grows x m n le, rank_grows ns m n le)

rank_below : (ns : List ℕ) (m n : ℕ) → Among ns m → m < n → rank ns m < rank ns n
rank_below [] m n a lt = absurd a
rank_below (x ∷ ns) m n (inl e) lt = omega (arith, rank-cons x ns m, rank-cons x ns n, one_no x m (omega (arith, e)), one_yes x n (omega (arith, e, lt)), rank_grows ns m n (omega (arith, lt)))
rank_below (x ∷ ns) m n (inr a) lt = omega (arith, rank-cons x ns m, rank-cons x ns n, one_grows x m n (omega (arith, lt)), rank_below ns m n a lt)

-- one of the numbers has fewer below it than there are
pub rank_within : (ns : List ℕ) (n : ℕ) → Among ns n → rank ns n < length ns
rank_within [] n a = absurd a
rank_within (x ∷ ns) n (inl e) = omega (arith, rank-cons x ns n, one_no x n (omega (arith, e)), count_by-le-length (λ m. nat_lt m n) ns)
rank_within (x ∷ ns) n (inr a) = omega (arith, rank-cons x ns n, one_upto, rank_within ns n a)
  where
    one_upto : one x n ≤ 1
    one_upto = grind (arith, nat_tests)

-- two of the numbers have two ranks
pub rank_once : (ns : List ℕ) (m n : ℕ) → Among ns m → Among ns n → rank ns m ≡ rank ns n → m ≡ n
rank_once ns m n here there same = elim (cases_lt m n) [
  | inl below ↦ absurd (omega (arith, same, rank_below ns m n here below))
  | inr above ↦ elim (cases_lt n m) [
    | inl below ↦ absurd (omega (arith, same, rank_below ns n m there below))
    | inr also ↦ omega (arith, above, also)
  ]
]

-- none of the numbers is below this one
pub rank_first : (ns : List ℕ) (n : ℕ) → AllByRecursion (λ x. n < x) ns → rank ns n ≡ 0
rank_first [] n all = refl
rank_first (x ∷ ns) n all = let above : n < x = all.0 in omega (arith, rank-cons x ns n, one_no x n (omega (arith, above)), rank_first ns n all.1)

-- ---- in numbers that rise it is a place

pub count_upto : (p : ℕ → Bool) (ns : List ℕ) (i : ℕ) → i ≤ length ns → AllWithin (λ x. p x ≡ true) ns 0 i → AllWithin (λ x. p x ≡ false) ns i (length ns) → count_by p ns ≡ i
count_upto p [] i le passing failing = omega (arith, le)
count_upto p (x ∷ ns) zero le passing failing =
    let fails : p x ≡ false = failing 0 0 (omega arith) (omega arith) in
    sum_by-cons (λ y. cond (p y) 1 0) x ns
    ∙ ap (λ b. cond b 1 0 + count_by p ns) fails
    ∙ ap (λ k. 0 + k) (count_upto p ns 0 (omega arith) (λ k d low high. absurd (omega (arith, high))) (λ k d low high. failing (suc k) d (omega arith) (omega (arith, high))))
count_upto p (x ∷ ns) (suc i) le passing failing =
    let passes : p x ≡ true = passing 0 0 (omega arith) (omega arith) in
    let later : count_by p ns ≡ i = count_upto p ns i (omega (arith, le)) (λ k d low high. passing (suc k) d (omega arith) (omega (arith, high))) (λ k d low high. failing (suc k) d (omega (arith, low)) (omega (arith, high))) in
    sum_by-cons (λ y. cond (p y) 1 0) x ns
    ∙ ap (λ b. cond b 1 0 + count_by p ns) passes
    ∙ omega (arith, later)

pub falls_nowhere : (ns : List ℕ) → IsStrictlyIncreasing ns → IsNonDecreasingBy (λ n. n) ns
falls_nowhere ns up = IsNonDecreasingBy-from_all_adjacent (λ n. n) ns (λ k d lt. omega (arith, up k lt, get_or_default ns k d 0 (omega (arith, lt)), get_or_default ns (k + 1) d 0 lt))

-- ---- behind one more number

pub rank_past : (m n : ℕ) (ns : List ℕ) → n ≤ m → rank (m ∷ ns) n ≡ rank ns n
rank_past m n ns le = omega (arith, rank-cons m ns n, one_no m n le)

pub rank_behind : (m n : ℕ) (ns : List ℕ) → m < n → rank (m ∷ ns) n ≡ 1 + rank ns n
rank_behind m n ns lt = omega (arith, rank-cons m ns n, one_yes m n lt)
