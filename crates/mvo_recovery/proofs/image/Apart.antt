-- Whether no two keys of a list are equal.
use Rattle.std.proofs.Common.{◌≡◌, ◌⊎◌, inl, inr, Bool, true, false, List, [], ◌∷◌, ◌++◌, refl, sym, subst, ◌∙◌}
use Rattle.std.specs.Prelude.{map}
use Rattle.std.specs.List.{AllByRecursion, IsDistinct}
use Rattle.std.specs.Ordering.{eq_by_cmp}
use Rattle.mvo_types.specs.Keys.{key_cmp}
use Rattle.std.proofs.lemmas.Grind.{flat_map-append}
use Rattle.mvo_pair.specs.Data.{Numbered, AreApart, key_of, keys_of}

module _ {K : Type 0} (eq : K → K → Bool) where
  none_is : (k : K) (ks : List K) → AllByRecursion (λ y. eq k y ≡ false) ks ⊎ (AllByRecursion (λ y. eq k y ≡ false) ks → ⊥)
  none_is k [] = inl tt
  none_is k (x ∷ ks) = go (eq k x) refl (none_is k ks)
    where
      go : (b : Bool) → eq k x ≡ b → AllByRecursion (λ y. eq k y ≡ false) ks ⊎ (AllByRecursion (λ y. eq k y ≡ false) ks → ⊥) → AllByRecursion (λ y. eq k y ≡ false) (x ∷ ks) ⊎ (AllByRecursion (λ y. eq k y ≡ false) (x ∷ ks) → ⊥)
      go true is rest = inr (λ all. let both : true ≡ false = sym is ∙ all.0 in absurd (cc))
      go false is (inl all) = inl (is, all)
      go false is (inr not_so) = inr (λ all. not_so all.1)

  -- it is decided
  pub distinct_or_not : (ks : List K) → IsDistinct eq ks ⊎ (IsDistinct eq ks → ⊥)
  unfolding IsDistinct
  distinct_or_not [] = inl tt
  distinct_or_not (k ∷ ks) = go (none_is k ks) (distinct_or_not ks)
    where
      go : AllByRecursion (λ y. eq k y ≡ false) ks ⊎ (AllByRecursion (λ y. eq k y ≡ false) ks → ⊥) → IsDistinct eq ks ⊎ (IsDistinct eq ks → ⊥) → IsDistinct eq (k ∷ ks) ⊎ (IsDistinct eq (k ∷ ks) → ⊥)
      go (inl all) (inl rest) = inl (all, rest)
      go (inr not_so) rest = inr (λ d. not_so d.0)
      go (inl all) (inr not_so) = inr (λ d. not_so d.1)

  none_front : (k : K) (xs ys : List K) → AllByRecursion (λ y. eq k y ≡ false) (xs ++ ys) → AllByRecursion (λ y. eq k y ≡ false) xs
  none_front k [] ys all = tt
  none_front k (x ∷ xs) ys all = (all.0, none_front k xs ys all.1)

  -- so are those in front
  pub distinct_front : (xs ys : List K) → IsDistinct eq (xs ++ ys) → IsDistinct eq xs
  unfolding IsDistinct
  distinct_front [] ys d = tt
  distinct_front (x ∷ xs) ys d = (none_front x xs ys d.0, distinct_front xs ys d.1)

pub apart_front : (before after : List (List Numbered)) → AreApart (before ++ after) → AreApart before
apart_front before after d =
    distinct_front (eq_by_cmp key_cmp) (keys_of before) (keys_of after) (subst (λ ks. IsDistinct (eq_by_cmp key_cmp) ks) (flat_map-append (λ live. map key_of live) before after) d)
