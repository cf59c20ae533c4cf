-- The first that passes a test, and how many do.
use Rattle.std.proofs.Common.{◌≡◌, ◌+◌, ◌≤◌, Bool, true, false, cond, List, [], ◌∷◌, ◌++◌, Option, None, Some, map, refl, sym, ap, ◌∙◌, subst, arith}
use Rattle.std.specs.Option.{option_map}
use Rattle.std.specs.List.{AllByRecursion, filter, find}
use Rattle.std.proofs.lemmas.Bool.{true≢false, false≢true}
use Rattle.mvo_theory.specs.Sound.{how_many}

none_some : {X : Type 0} (x : X) → ◌≡◌ {A = Option X} None (Some x) → ⊥
none_some x e = cc

some_same : {X : Type 0} (x y : X) → ◌≡◌ {A = Option X} (Some x) (Some y) → x ≡ y
some_same x y e = cc

-- none passes
pub find_none : {X : Type 0} (p : X → Bool) (xs : List X) → how_many p xs ≤ 0 → find p xs ≡ None
find_none p [] h = refl
find_none p (x ∷ xs) h = go (p x) h (λ l. find_none p xs l)
  where
    go : (b : Bool) → cond b 1 0 + how_many p xs ≤ 0 → (how_many p xs ≤ 0 → find p xs ≡ None) → cond b (Some x) (find p xs) ≡ None
    go true l r = absurd (omega arith)
    go false l r = r (omega arith)

pub count_none : {X : Type 0} (p : X → Bool) (xs : List X) → AllByRecursion (λ x. p x ≡ false) xs → how_many p xs ≤ 0
count_none p [] h = omega arith
count_none p (x ∷ xs) h = go (p x) h.0 (count_none p xs h.1)
  where
    go : (b : Bool) → b ≡ false → how_many p xs ≤ 0 → cond b 1 0 + how_many p xs ≤ 0
    go true e l = absurd (true≢false e)
    go false e l = omega arith

-- the one that is found
pub find_holds : {X : Type 0} (P : X → Type 0) (p : X → Bool) (xs : List X) (y : X) → find p xs ≡ Some y → AllByRecursion P xs → P y × (p y ≡ true)
find_holds P p [] y e h = absurd (none_some y e)
find_holds P p (x ∷ xs) y e h = go (p x) refl e (λ f. find_holds P p xs y f h.1)
  where
    go : (b : Bool) → p x ≡ b → cond b (Some x) (find p xs) ≡ Some y → (find p xs ≡ Some y → P y × (p y ≡ true)) → P y × (p y ≡ true)
    go true f g r = let is = some_same x y g in (subst P is h.0, subst (λ z. p z ≡ true) is f)
    go false f g r = r g

pub count_some : {X : Type 0} (p : X → Bool) (xs : List X) (y : X) → find p xs ≡ Some y → 1 ≤ how_many p xs
count_some p [] y e = absurd (none_some y e)
count_some p (x ∷ xs) y e = go (p x) e (λ f. count_some p xs y f)
  where
    go : (b : Bool) → cond b (Some x) (find p xs) ≡ Some y → (find p xs ≡ Some y → 1 ≤ how_many p xs) → 1 ≤ cond b 1 0 + how_many p xs
    go true g r = omega arith
    go false g r = let l = r g in omega arith

-- ---- one more at the end
pub at_most : (b c : Bool) → (b ≡ true → c ≡ true) → cond b 1 0 ≤ cond c 1 0
at_most true true h = omega arith
at_most true false h = absurd (false≢true (h refl))
at_most false true h = omega arith
at_most false false h = omega arith

pub count_push : {X : Type 0} (p : X → Bool) (xs : List X) (y : X) → how_many p (xs ++ y ∷ []) ≡ how_many p xs + cond (p y) 1 0
count_push p [] y = omega arith
count_push p (x ∷ xs) y = let h = count_push p xs y in omega arith

pub push_no : {X : Type 0} (p : X → Bool) (xs : List X) (y : X) → p y ≡ false → how_many p (xs ++ y ∷ []) ≤ how_many p xs
push_no p xs y e = let h = count_push p xs y in let z = at_most (p y) false (λ t. sym e ∙ t) in omega arith

pub push_yes : {X : Type 0} (p : X → Bool) (xs : List X) (y : X) → how_many p (xs ++ y ∷ []) ≤ how_many p xs + 1
push_yes p xs y = let h = count_push p xs y in let z = at_most (p y) true (λ t. refl) in omega arith

pub find_push_own : {X : Type 0} (p : X → Bool) (xs : List X) (y : X) → how_many p xs ≤ 0 → p y ≡ true → find p (xs ++ y ∷ []) ≡ Some y
find_push_own p [] y h e = ap (λ (b : Bool). cond b (Some y) None) e
find_push_own p (x ∷ xs) y h e = go (p x) h (λ l. find_push_own p xs y l e)
  where
    go : (b : Bool) → cond b 1 0 + how_many p xs ≤ 0 → (how_many p xs ≤ 0 → find p (xs ++ y ∷ []) ≡ Some y) → cond b (Some x) (find p (xs ++ y ∷ [])) ≡ Some y
    go true l r = absurd (omega arith)
    go false l r = r (omega arith)

pub find_push_other : {X : Type 0} (p : X → Bool) (xs : List X) (y : X) → p y ≡ false → find p (xs ++ y ∷ []) ≡ find p xs
find_push_other p [] y e = ap (λ (b : Bool). cond b (Some y) None) e
find_push_other p (x ∷ xs) y e = ap (λ w. cond (p x) (Some x) w) (find_push_other p xs y e)

-- ---- a change of each
pub find_map : {X : Type 0} (p : X → Bool) (f : X → X) (xs : List X) → AllByRecursion (λ x. p (f x) ≡ p x) xs → find p (map f xs) ≡ option_map f (find p xs)
find_map p f [] h = refl
find_map p f (x ∷ xs) h = ap (λ (b : Bool). cond b (Some (f x)) (find p (map f xs))) h.0 ∙ go (p x) (find_map p f xs h.1)
  where
    go : (b : Bool) → find p (map f xs) ≡ option_map f (find p xs) → cond b (Some (f x)) (find p (map f xs)) ≡ option_map f (cond b (Some x) (find p xs))
    go true r = refl
    go false r = r

pub count_map : {X : Type 0} (p : X → Bool) (f : X → X) (xs : List X) → ((x : X) → p (f x) ≡ true → p x ≡ true) → how_many p (map f xs) ≤ how_many p xs
count_map p f [] h = omega arith
count_map p f (x ∷ xs) h = let l = at_most (p (f x)) (p x) (h x) in let r = count_map p f xs h in omega arith

pub count_map_out : {X : Type 0} (p : X → Bool) (f : X → X) (xs : List X) (y : X) → ((x : X) → p (f x) ≡ true → p x ≡ true) → find p xs ≡ Some y → p (f y) ≡ false → how_many p (map f xs) + 1 ≤ how_many p xs
count_map_out p f [] y h e n = absurd (none_some y e)
count_map_out p f (x ∷ xs) y h e n = go (p x) refl e (λ q. count_map_out p f xs y h q n)
  where
    go : (b : Bool) → p x ≡ b → cond b (Some x) (find p xs) ≡ Some y → (find p xs ≡ Some y → how_many p (map f xs) + 1 ≤ how_many p xs) → (cond (p (f x)) 1 0 + how_many p (map f xs)) + 1 ≤ cond b 1 0 + how_many p xs
    go true q g r =
        let l = count_map p f xs h in
        let gone = at_most (p (f x)) false (λ t. sym n ∙ ap (λ z. p (f z)) (sym (some_same x y g)) ∙ t) in
        omega arith
    go false q g r = let l = at_most (p (f x)) false (λ t. sym q ∙ h x t) in let s = r g in omega arith

-- ---- some are taken out
pub find_filter : {X : Type 0} (p q : X → Bool) (xs : List X) → AllByRecursion (λ x. q x ≡ false → p x ≡ false) xs → find p (filter q xs) ≡ find p xs
find_filter p q [] h = refl
find_filter p q (x ∷ xs) h = go (q x) refl (find_filter p q xs h.1)
  where
    go : (b : Bool) → q x ≡ b → find p (filter q xs) ≡ find p xs → find p (cond b (x ∷ filter q xs) (filter q xs)) ≡ cond (p x) (Some x) (find p xs)
    go true e r = ap (λ w. cond (p x) (Some x) w) r
    go false e r = r ∙ sym (ap (λ (b : Bool). cond b (Some x) (find p xs)) (h.0 e))

pub count_filter : {X : Type 0} (p q : X → Bool) (xs : List X) → how_many p (filter q xs) ≤ how_many p xs
count_filter p q [] = omega arith
count_filter p q (x ∷ xs) = go (q x) (count_filter p q xs)
  where
    go : (b : Bool) → how_many p (filter q xs) ≤ how_many p xs → how_many p (cond b (x ∷ filter q xs) (filter q xs)) ≤ cond (p x) 1 0 + how_many p xs
    go true r = omega arith
    go false r = omega arith

pub count_filter_out : {X : Type 0} (p q : X → Bool) (xs : List X) (y : X) → find p xs ≡ Some y → q y ≡ false → how_many p (filter q xs) + 1 ≤ how_many p xs
count_filter_out p q [] y e n = absurd (none_some y e)
count_filter_out p q (x ∷ xs) y e n = go (p x) (q x) refl refl e (λ f. count_filter_out p q xs y f n)
  where
    go : (a b : Bool) → p x ≡ a → q x ≡ b → cond a (Some x) (find p xs) ≡ Some y → (find p xs ≡ Some y → how_many p (filter q xs) + 1 ≤ how_many p xs) → how_many p (cond b (x ∷ filter q xs) (filter q xs)) + 1 ≤ cond a 1 0 + how_many p xs
    go true true i f g r = absurd (true≢false (sym f ∙ ap q (some_same x y g) ∙ n))
    go true false i f g r = let l = count_filter p q xs in omega arith
    go false true i f g r = let z = at_most (p x) false (λ t. sym i ∙ t) in let l = r g in omega arith
    go false false i f g r = let l = r g in omega arith
