-- What stands in a list, and lists of numbers that rise.
use Rattle.std.proofs.Common.{◌≡◌, ◌⊎◌, inl, inr, ⊎_elim, ℕ, zero, suc, ◌<◌, Bool, true, false, cond, List, [], ◌∷◌, ◌++◌, Option, None, Some, refl, sym, ap, subst, ◌∙◌, arith}
use Rattle.std.specs.Prelude.{map, filter, Contains, ◌||◌}
use Rattle.std.specs.List.{AllByRecursion, filter_map, cons_option, list_any}
use Rattle.std.specs.List.Sorted.{IsStrictlySortedBy, IsStrictlyIncreasing}
use Rattle.std.specs.Ordering.{nat_cmp}
use Rattle.std.specs.declared.cmp.Ordering.TheVariants.{Less}
use Rattle.std.proofs.lemmas.Bool.{cond-true}
use Rattle.std.proofs.lemmas.Map.Keys.{sorted_from_strictly_increasing, IsStrictlyIncreasing-from_sorted}
use Rattle.std.proofs.lemmas.Bool.Decides.{nat_tests}

abbrev pub Among : {X : Type 0} → List X → X → Type 0
Among [] x = ⊥
Among (y ∷ ys) x = (y ≡ x) ⊎ Among ys x

pub among_from : {X : Type 0} (xs : List X) (x : X) → Contains xs x → Among xs x
among_from [] x c = absurd (omega (arith, c.1))
among_from (y ∷ ys) x (zero, below, is) = inl is
among_from (y ∷ ys) x (suc k, below, is) = inr (among_from ys x (k, omega (arith, below), is))

pub contains_from : {X : Type 0} (xs : List X) (x : X) → Among xs x → Contains xs x
contains_from [] x a = absurd a
contains_from (y ∷ ys) x (inl e) = (0, omega arith, e)
contains_from (y ∷ ys) x (inr a) = let c = contains_from ys x a in (suc c.0, omega (arith, c.1), c.2)

pub among_left : {X : Type 0} (xs ys : List X) (x : X) → Among xs x → Among (xs ++ ys) x
among_left [] ys x a = absurd a
among_left (z ∷ xs) ys x (inl e) = inl e
among_left (z ∷ xs) ys x (inr a) = inr (among_left xs ys x a)

pub among_right : {X : Type 0} (xs ys : List X) (x : X) → Among ys x → Among (xs ++ ys) x
among_right [] ys x a = a
among_right (z ∷ xs) ys x a = inr (among_right xs ys x a)

pub among_append : {X : Type 0} (xs ys : List X) (x : X) → Among (xs ++ ys) x → Among xs x ⊎ Among ys x
among_append [] ys x a = inr a
among_append (z ∷ xs) ys x (inl e) = inl (inl e)
among_append (z ∷ xs) ys x (inr a) = ⊎_elim (λ l. inl (inr l)) (λ r. inr r) (among_append xs ys x a)

pub among_map : {X Y : Type 0} (f : X → Y) (xs : List X) (x : X) → Among xs x → Among (map f xs) (f x)
among_map f [] x a = absurd a
among_map f (y ∷ ys) x (inl e) = inl (ap f e)
among_map f (y ∷ ys) x (inr a) = inr (among_map f ys x a)

pub among_mapped : {X Y : Type 0} (f : X → Y) (xs : List X) (y : Y) → Among (map f xs) y → (x : X) × Among xs x × (f x ≡ y)
among_mapped f [] y a = absurd a
among_mapped f (x ∷ xs) y (inl e) = (x, inl refl, e)
among_mapped f (x ∷ xs) y (inr a) = let m = among_mapped f xs y a in (m.0, inr m.1, m.2)

pub among_filter : {X : Type 0} (p : X → Bool) (xs : List X) (x : X) → Among xs x → p x ≡ true → Among (filter p xs) x
among_filter p [] x a t = absurd a
among_filter p (y ∷ ys) x (inl e) t = subst (λ (l : List _). Among l x) (sym (cond-true (p y) (y ∷ filter p ys) (filter p ys) (ap p e ∙ t))) (inl e)
among_filter p (y ∷ ys) x (inr a) t = go (p y) (among_filter p ys x a t)
  where
    go : (b : Bool) → Among (filter p ys) x → Among (cond b (y ∷ filter p ys) (filter p ys)) x
    go true later = inr later
    go false later = later

pub among_filtered : {X : Type 0} (p : X → Bool) (xs : List X) (x : X) → Among (filter p xs) x → Among xs x × (p x ≡ true)
among_filtered p [] x a = absurd a
among_filtered p (y ∷ ys) x a = go (p y) refl a (among_filtered p ys x)
  where
    go : (b : Bool) → p y ≡ b → Among (cond b (y ∷ filter p ys) (filter p ys)) x → (Among (filter p ys) x → Among ys x × (p x ≡ true)) → Among (y ∷ ys) x × (p x ≡ true)
    go true is (inl e) later = (inl e, ap p (sym e) ∙ is)
    go true is (inr a) later = let m = later a in (inr m.0, m.1)
    go false is a later = let m = later a in (inr m.0, m.1)

pub among_filter_map : {X Y : Type 0} (h : X → Option Y) (xs : List X) (x : X) (y : Y) → Among xs x → h x ≡ Some y → Among (filter_map h xs) y
among_filter_map h [] x y a is = absurd a
among_filter_map h (z ∷ zs) x y (inl e) is = subst (λ (o : Option _). Among (cons_option o (filter_map h zs)) y) (sym (ap h e ∙ is)) (inl refl)
among_filter_map h (z ∷ zs) x y (inr a) is = go (h z) (among_filter_map h zs x y a is)
  where
    go : (o : Option _) → Among (filter_map h zs) y → Among (cons_option o (filter_map h zs)) y
    go None later = later
    go (Some v) later = inr later

pub among_filter_mapped : {X Y : Type 0} (h : X → Option Y) (xs : List X) (y : Y) → Among (filter_map h xs) y → (x : X) × Among xs x × (h x ≡ Some y)
among_filter_mapped h [] y a = absurd a
among_filter_mapped {X} h (z ∷ zs) y a = go (h z) refl a (among_filter_mapped h zs y)
  where
    go : (o : Option _) → h z ≡ o → Among (cons_option o (filter_map h zs)) y → (Among (filter_map h zs) y → (x : X) × Among zs x × (h x ≡ Some y)) → (x : X) × Among (z ∷ zs) x × (h x ≡ Some y)
    go None is a later = let m = later a in (m.0, inr m.1, m.2)
    go (Some v) is (inl e) later = (z, inl refl, is ∙ ap Some e)
    go (Some v) is (inr a) later = let m = later a in (m.0, inr m.1, m.2)

pub among_any : {X : Type 0} (p : X → Bool) (xs : List X) (x : X) → Among xs x → p x ≡ true → list_any p xs ≡ true
among_any p [] x a t = absurd a
among_any p (y ∷ ys) x (inl e) t = ap (λ b. b || list_any p ys) (ap p e ∙ t)
among_any p (y ∷ ys) x (inr a) t = go (p y) (among_any p ys x a t)
  where
    go : (b : Bool) → list_any p ys ≡ true → (b || list_any p ys) ≡ true
    go true later = refl
    go false later = later

pub any_among : {X : Type 0} (p : X → Bool) (xs : List X) → list_any p xs ≡ true → (x : X) × Among xs x × (p x ≡ true)
any_among p [] t = absurd cc
any_among {X} p (y ∷ ys) t = go (p y) refl t (any_among p ys)
  where
    go : (b : Bool) → p y ≡ b → (b || list_any p ys) ≡ true → (list_any p ys ≡ true → (x : X) × Among ys x × (p x ≡ true)) → (x : X) × Among (y ∷ ys) x × (p x ≡ true)
    go true is t later = (y, inl refl, is)
    go false is t later = let m = later t in (m.0, inr m.1, m.2)

pub all_among : {X : Type 0} (P : X → Type 0) (xs : List X) (x : X) → AllByRecursion P xs → Among xs x → P x
all_among P [] x all a = absurd a
all_among P (y ∷ ys) x all (inl e) = subst P e all.0
all_among P (y ∷ ys) x all (inr a) = all_among P ys x all.1 a

pub all_from : {X : Type 0} (P : X → Type 0) (xs : List X) → ((x : X) → Among xs x → P x) → AllByRecursion P xs
all_from P [] each = tt
all_from P (y ∷ ys) each = (each y (inl refl), all_from P ys (λ x a. each x (inr a)))

-- ---- numbers that rise strictly

abbrev pub Rises : List ℕ → Type 0
Rises [] = Unit {0}
Rises (x ∷ xs) = AllByRecursion (λ y. x < y) xs × Rises xs

below_from : (x y : ℕ) → nat_cmp x y ≡ Less → x < y
below_from x y e = grind (arith, nat_tests)

rises_sorted : (xs : List ℕ) → IsStrictlySortedBy nat_cmp xs → Rises xs
unfolding IsStrictlySortedBy
rises_sorted [] s = tt
rises_sorted (x ∷ xs) s = (all_from (λ y. x < y) xs (λ y a. below_from x y (all_among (λ z. nat_cmp x z ≡ Less) xs y s.0 a)), rises_sorted xs s.1)

pub rises_from : (xs : List ℕ) → IsStrictlyIncreasing xs → Rises xs
rises_from xs up = rises_sorted xs (sorted_from_strictly_increasing xs up)

sorted_from : (xs : List ℕ) → Rises xs → IsStrictlySortedBy nat_cmp xs
unfolding IsStrictlySortedBy
sorted_from [] up = tt
sorted_from (x ∷ xs) up = (all_from (λ y. nat_cmp x y ≡ Less) xs (λ y a. less x y (all_among (λ z. x < z) xs y up.0 a)), sorted_from xs up.1)
  where
    less : (a b : ℕ) → a < b → nat_cmp a b ≡ Less
    less a b below = grind (arith, nat_tests)

pub increasing_from : (xs : List ℕ) → Rises xs → IsStrictlyIncreasing xs
increasing_from xs up = IsStrictlyIncreasing-from_sorted xs (sorted_from xs up)

pub rises_filter : (p : ℕ → Bool) (xs : List ℕ) → Rises xs → Rises (filter p xs)
rises_filter p [] up = tt
rises_filter p (x ∷ xs) up = go (p x) (rises_filter p xs up.1)
  where
    go : (b : Bool) → Rises (filter p xs) → Rises (cond b (x ∷ filter p xs) (filter p xs))
    go true later = (all_from (λ y. x < y) (filter p xs) (λ y a. all_among (λ z. x < z) xs y up.0 (among_filtered p xs y a).0), later)
    go false later = later

-- two lists that rise and have the same numbers are one
pub same_rising : (xs ys : List ℕ) → Rises xs → Rises ys → ((n : ℕ) → Among xs n → Among ys n) → ((n : ℕ) → Among ys n → Among xs n) → xs ≡ ys
same_rising [] [] up_x up_y to back = refl
same_rising [] (y ∷ ys) up_x up_y to back = absurd (back y (inl refl))
same_rising (x ∷ xs) [] up_x up_y to back = absurd (to x (inl refl))
same_rising (x ∷ xs) (y ∷ ys) up_x up_y to back = first (to x (inl refl)) (back y (inl refl)) (same_rising xs ys up_x.1 up_y.1)
  where
    rest : x ≡ y → (((n : ℕ) → Among xs n → Among ys n) → ((n : ℕ) → Among ys n → Among xs n) → xs ≡ ys) → x ∷ xs ≡ y ∷ ys
    rest e later =
        let same : xs ≡ ys = later
        (λ n a. ⊎_elim (λ (same : y ≡ n). absurd (let above : x < n = all_among (λ z. x < z) xs n up_x.0 a in omega (arith, above, same, e))) (λ (r : Among ys n). r) (to n (inr a)))
        (λ n a. ⊎_elim (λ (same : x ≡ n). absurd (let above : y < n = all_among (λ z. y < z) ys n up_y.0 a in omega (arith, above, same, e))) (λ (r : Among xs n). r) (back n (inr a))) in
        cc

    first : Among (y ∷ ys) x → Among (x ∷ xs) y → (((n : ℕ) → Among xs n → Among ys n) → ((n : ℕ) → Among ys n → Among xs n) → xs ≡ ys) → x ∷ xs ≡ y ∷ ys
    first (inl e) b later = rest (sym e) later
    first (inr a) (inl e) later = rest e later
    first (inr a) (inr b) later = absurd (
        let above : y < x = all_among (λ z. y < z) ys x up_y.0 a in
        let below : x < y = all_among (λ z. x < z) xs y up_x.0 b in
        omega (arith, above, below))
