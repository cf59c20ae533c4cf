-- Lists of live records.
use Rattle.std.proofs.Common.{◌≡◌, inl, inr, ℕ, ◌+◌, Bool, true, false, cond, List, [], ◌∷◌, ◌++◌, length, refl, sym, ap, subst, ◌∙◌, arith}
use Rattle.std.specs.Prelude.{map, filter, ◌==◌, ◌||◌}
use Rattle.std.specs.List.{All, Contains, IsDistinct, list_any, enumerate_from}
use Rattle.std.proofs.lemmas.Bool.{false_from_ne_true, eqb-true, eq-eqb}
use Rattle.std.proofs.lemmas.List.Elements.{All-contains}
use Rattle.mvo_places.proofs.Members.{Among, among_any, any_among, among_from, contains_from, all_among, among_left, among_right, all_from}

abbrev pub names : List ℕ → ℕ → Bool
names ns n = list_any (λ m. m == n) ns

pub same_map : {X Y : Type 0} (f g : X → Y) (xs : List X) → ((x : X) → Among xs x → f x ≡ g x) → map f xs ≡ map g xs
same_map f g [] same = refl
same_map f g (x ∷ xs) same =
    ap (λ y. y ∷ map f xs) (same x (inl refl)) ∙ ap (λ (ys : List _). g x ∷ ys) (same_map f g xs (λ y a. same y (inr a)))

pub filter-map : {X Y : Type 0} (p : Y → Bool) (f : X → Y) (xs : List X) → filter p (map f xs) ≡ map f (filter (λ x. p (f x)) xs)
filter-map p f [] = refl
filter-map {X} {Y} p f (x ∷ xs) = go (p (f x)) (filter-map p f xs)
  where
    go : (b : Bool) → filter p (map f xs) ≡ map f (filter (λ y. p (f y)) xs) → cond b (f x ∷ filter p (map f xs)) (filter p (map f xs)) ≡ map f (cond b (x ∷ filter (λ y. p (f y)) xs) (filter (λ y. p (f y)) xs))
    go true later = ap (λ (ys : List Y). f x ∷ ys) later
    go false later = later

pub enumerate_from-append : {X : Type 0} (n : ℕ) (xs ys : List X) → enumerate_from n (xs ++ ys) ≡ enumerate_from n xs ++ enumerate_from (n + length xs) ys
enumerate_from-append {X} n [] ys = let same : n ≡ n + length {A = X} [] = omega arith in ap (λ k. enumerate_from k ys) same
enumerate_from-append {X} n (x ∷ xs) ys =
    let same : n + 1 + length xs ≡ n + length (x ∷ xs) = omega arith in
    ap (λ (ls : List (ℕ × X)). (n, x) ∷ ls) (enumerate_from-append (n + 1) xs ys ∙ ap (λ k. enumerate_from (n + 1) xs ++ enumerate_from k ys) same)

pub among_of : {X : Type 0} (xs : List X) (ys : List X) (x : X) → All (Contains xs) ys → Among ys x → Among xs x
among_of xs ys x all a = among_from xs x (All-contains (Contains xs) ys x all (contains_from ys x a))

-- a test that passes exactly where another does
pub same_test : (a b : Bool) → (a ≡ true → b ≡ true) → (b ≡ true → a ≡ true) → a ≡ b
same_test true b to back = sym (to refl)
same_test false true to back = back refl
same_test false false to back = refl

-- ---- numbers that are named

pub not_named : (ns : List ℕ) (n : ℕ) → ((m : ℕ) → Among ns m → m ≡ n → ⊥) → names ns n ≡ false
not_named ns n none = false_from_ne_true (names ns n) (λ some. let m = any_among (λ x. x == n) ns some in none m.0 m.1 (eqb-true m.0 n m.2))

pub is_named : (ns : List ℕ) (n : ℕ) → Among ns n → names ns n ≡ true
is_named ns n a = among_any (λ x. x == n) ns n a (eq-eqb n n refl)

pub named_among : (ns : List ℕ) (n : ℕ) → names ns n ≡ true → Among ns n
named_among ns n some = let m = any_among (λ x. x == n) ns some in subst (λ k. Among ns k) (eqb-true m.0 n m.2) m.1

-- under new numbers of which none is that of two
pub named_again : (f : ℕ → ℕ) (ns : List ℕ) (n : ℕ) → ((m : ℕ) → Among ns m → f m ≡ f n → m ≡ n) → names (map f ns) (f n) ≡ names ns n
named_again f [] n once = refl
named_again f (m ∷ ns) n once =
    let here : (f m == f n) ≡ (m == n) = same_test (f m == f n) (m == n) (λ is. eq-eqb m n (once m (inl refl) (eqb-true (f m) (f n) is))) (λ is. eq-eqb (f m) (f n) (ap f (eqb-true m n is))) in
    ap (λ b. b || names (map f ns) (f n)) here ∙ ap (λ b. (m == n) || b) (named_again f ns n (λ x a. once x (inr a)))

-- ---- lists of which no two are equal

pub differs_left : {K : Type 0} (e : K → K → Bool) (xs ys : List K) → IsDistinct e (xs ++ ys) → IsDistinct e xs
unfolding IsDistinct
differs_left e [] ys differ = tt
differs_left e (x ∷ xs) ys differ = (all_from (λ y. e x y ≡ false) xs (λ y a. all_among (λ z. e x z ≡ false) (xs ++ ys) y differ.0 (among_left xs ys y a)), differs_left e xs ys differ.1)

pub differs_right : {K : Type 0} (e : K → K → Bool) (xs ys : List K) → IsDistinct e (xs ++ ys) → IsDistinct e ys
unfolding IsDistinct
differs_right e [] ys differ = differ
differs_right e (x ∷ xs) ys differ = differs_right e xs ys differ.1

pub differs_across : {K : Type 0} (e : K → K → Bool) (xs ys : List K) (x y : K) → IsDistinct e (xs ++ ys) → Among xs x → Among ys y → e x y ≡ false
unfolding IsDistinct
differs_across e [] ys x y differ a b = absurd a
differs_across e (z ∷ xs) ys x y differ (inl same) b = subst (λ w. e w y ≡ false) same (all_among (λ w. e z w ≡ false) (xs ++ ys) y differ.0 (among_right xs ys y b))
differs_across e (z ∷ xs) ys x y differ (inr a) b = differs_across e xs ys x y differ.1 a b
