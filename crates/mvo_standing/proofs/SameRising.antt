-- Two lists that rise strictly and have the same elements are one.
use Rattle.std.proofs.Common.{◌≡◌, List, [], ◌∷◌, refl, sym, ap, ◌∙◌, ◌⊎◌, inl, inr}
use Rattle.std.specs.Cmp.{IsTotalOrder}
use Rattle.std.specs.List.{AllByRecursion}
use Rattle.std.specs.List.Sorted.{IsStrictlySortedBy}
use Rattle.std.specs.Ordering.{ordering_reverse}
use Rattle.std.specs.declared.cmp.Ordering.{Ordering}
use Rattle.std.specs.declared.cmp.Ordering.TheVariants.{Less, Greater}

abbrev pub IsIn : {X : Type 0} → X → List X → Type 0
IsIn x [] = ⊥
IsIn x (y ∷ ys) = (x ≡ y) ⊎ IsIn x ys

less_greater : ◌≡◌ {A = Ordering} Less Greater → ⊥
less_greater e = cc

module _ {X : Type 0} (cmp : X → X → Ordering) (o : IsTotalOrder cmp) where
  less_than : (x : X) (ys : List X) → AllByRecursion (λ y. cmp x y ≡ Less) ys → (z : X) → IsIn z ys → cmp x z ≡ Less
  less_than x [] l z i = absurd i
  less_than x (y ∷ ys) l z (inl e) = ap (cmp x) e ∙ l.0
  less_than x (y ∷ ys) l z (inr i) = less_than x ys l.1 z i

  not_both : (x y : X) → cmp x y ≡ Less → cmp y x ≡ Less → ⊥
  not_both x y a b = less_greater (sym a ∙ o.antisymm x y ∙ ap ordering_reverse b)

  heads : (x y : X) (xs ys : List X) → AllByRecursion (λ z. cmp x z ≡ Less) xs → AllByRecursion (λ z. cmp y z ≡ Less) ys → IsIn x (y ∷ ys) → IsIn y (x ∷ xs) → x ≡ y
  heads x y xs ys a b (inl e) j = e
  heads x y xs ys a b (inr i) (inl e) = sym e
  heads x y xs ys a b (inr i) (inr j) = absurd (not_both x y (less_than x xs a y j) (less_than y ys b x i))

  -- one behind the first isn't the first
  behind : (x y z : X) (xs ys : List X) → AllByRecursion (λ w. cmp x w ≡ Less) xs → x ≡ y → IsIn z xs → IsIn z (y ∷ ys) → IsIn z ys
  behind x y z xs ys a e i (inl q) = let l : cmp x x ≡ Less = ap (cmp x) (e ∙ sym q) ∙ less_than x xs a z i in absurd (not_both x x l l)
  behind x y z xs ys a e i (inr j) = j

  pub same_rising : (xs ys : List X) → IsStrictlySortedBy cmp xs → IsStrictlySortedBy cmp ys → ((z : X) → IsIn z xs → IsIn z ys) → ((z : X) → IsIn z ys → IsIn z xs) → xs ≡ ys
  unfolding IsStrictlySortedBy
  same_rising [] [] a b f g = refl
  same_rising [] (y ∷ ys) a b f g = absurd (g y (inl refl))
  same_rising (x ∷ xs) [] a b f g = absurd (f x (inl refl))
  same_rising (x ∷ xs) (y ∷ ys) a b f g =
      let e : x ≡ y = heads x y xs ys a.0 b.0 (f x (inl refl)) (g y (inl refl)) in
      ap (λ z. z ∷ xs) e
      ∙ ap (λ zs. y ∷ zs) (same_rising xs ys a.1 b.1 (λ z i. behind x y z xs ys a.0 e i (f z (inr i))) (λ z i. behind y x z ys xs b.0 (sym e) i (g z (inr i))))
