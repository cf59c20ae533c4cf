-- Lists of which no two elements are equal.
use Rattle.std.proofs.Common.{◌≡◌, inl, inr, ⊎_elim, ℕ, ◌<◌, Bool, true, false, cond, List, [], ◌∷◌, ◌++◌, refl, arith}
use Rattle.std.specs.Prelude.{filter, nat_eq}
use Rattle.std.specs.List.{IsDistinct}
use Rattle.std.proofs.lemmas.Bool.{ne_eqb}
use Rattle.mvo_places.proofs.Members.{Among, among_append, among_filtered, all_among, all_from, Rises}

pub distinct_append : {K : Type 0} (e : K → K → Bool) (xs ys : List K) → IsDistinct e xs → IsDistinct e ys → ((x y : K) → Among xs x → Among ys y → e x y ≡ false) → IsDistinct e (xs ++ ys)
unfolding IsDistinct
distinct_append e [] ys xs_differ ys_differ apart = ys_differ
distinct_append e (x ∷ xs) ys xs_differ ys_differ apart = (
  all_from (λ y. e x y ≡ false) (xs ++ ys) (λ y a. ⊎_elim (λ (l : Among xs y). all_among (λ z. e x z ≡ false) xs y xs_differ.0 l) (λ (r : Among ys y). apart x y (inl refl) r) (among_append xs ys y a)),
  distinct_append e xs ys xs_differ.1 ys_differ (λ z y a b. apart z y (inr a) b),
)

pub distinct_filter : {K : Type 0} (e : K → K → Bool) (p : K → Bool) (xs : List K) → IsDistinct e xs → IsDistinct e (filter p xs)
unfolding IsDistinct
distinct_filter e p [] differ = tt
distinct_filter e p (x ∷ xs) differ = go (p x) (distinct_filter e p xs differ.1)
  where
    go : (b : Bool) → IsDistinct e (filter p xs) → IsDistinct e (cond b (x ∷ filter p xs) (filter p xs))
    go true later = (all_from (λ y. e x y ≡ false) (filter p xs) (λ y a. all_among (λ z. e x z ≡ false) xs y differ.0 (among_filtered p xs y a).0), later)
    go false later = later

pub distinct_rising : (ns : List ℕ) → Rises ns → IsDistinct nat_eq ns
unfolding IsDistinct
distinct_rising [] up = tt
distinct_rising (n ∷ ns) up = (
  all_from (λ m. nat_eq n m ≡ false) ns (λ m a. let above : n < m = all_among (λ x. n < x) ns m up.0 a in ne_eqb n m (λ same. omega (arith, above, same))),
  distinct_rising ns up.1,
)
