-- Places of words: which name a transaction, and how often one is on a list.
use Rattle.std.proofs.Common.{◌≡◌, ◌≢◌, ℕ, ◌+◌, Bool, true, false, cond, List, [], ◌∷◌, ◌++◌, Option, None, Some, refl, sym, ap, ◌∙◌, subst, arith, ◌⊎◌, inl, inr}
use Rattle.std.specs.List.{AllByRecursion, filter}
use Rattle.std.proofs.lemmas.Bool.{eq-eqb, eqb-true, cases_eq, true≢false, false≢true}
use Rattle.mvo_theory.specs.Sound.{how_many}
use Rattle.mvo_theory.proofs.Finds.{count_push}
use Rattle.mvo_word.specs.declared.held.Held.{Held}
use Rattle.mvo_word.specs.declared.held.Held.TheVariants.{At, By, Infinity}
use Rattle.mvo_chain.specs.declared.version.Version.{Version}
use Rattle.mvo_chain.specs.Slots.{Slots, version_at}
use Rattle.mvo_visible.specs.Words.{names}
use Rattle.mvo_work.specs.declared.word_place.WordPlace.{WordPlace}
use Rattle.mvo_work.specs.declared.word_place.WordPlace.TheVariants.{Begin, End}
use Rattle.mvo_representation.specs.WordLists.{WordLists, number_at_word, is_place, word_at, is_named_at, names_at, HaveListNow}

-- ---- one place or two
pub place_same : (p : WordPlace) → is_place p p ≡ true
place_same (Begin n) = eq-eqb n.0 n.0 refl
place_same (End n) = eq-eqb n.0 n.0 refl

pub place_is : (p q : WordPlace) → is_place p q ≡ true → p ≡ q
place_is (Begin n) (Begin m) e = ap (λ (i : ℕ). Begin (record { 0 = i })) (sym (eqb-true m.0 n.0 e))
place_is (Begin n) (End m) e = absurd (false≢true e)
place_is (End n) (Begin m) e = absurd (false≢true e)
place_is (End n) (End m) e = ap (λ (i : ℕ). End (record { 0 = i })) (sym (eqb-true m.0 n.0 e))

pub place_cases : (p q : WordPlace) → (p ≡ q) ⊎ (is_place p q ≡ false)
place_cases p q = go (is_place p q) refl
  where
    go : (b : Bool) → is_place p q ≡ b → (p ≡ q) ⊎ (is_place p q ≡ false)
    go true e = inl (place_is p q e)
    go false e = inr e

pub place_apart : (p q : WordPlace) → is_place p q ≡ false → p ≡ q → ⊥
place_apart p q e i = true≢false (sym (subst (λ (o : WordPlace). is_place p o ≡ true) i (place_same p)) ∙ e)

-- ---- which name a transaction
pub record IsNamedAt (slots : Slots) (t : ℕ) (p : WordPlace) : Type 0 where
  pub version : Version
  pub at : version_at slots (number_at_word p) ≡ Some version
  pub named : names t (word_at p version) ≡ true

pub names_there : (slots : Slots) (t : ℕ) (p : WordPlace) → names_at slots t p ≡ true → IsNamedAt slots t p
names_there slots t p e = go (version_at slots (number_at_word p)) refl e
  where
    go : (o : Option Version) → version_at slots (number_at_word p) ≡ o → is_named_at t p o ≡ true → IsNamedAt slots t p
    go None q f = absurd (false≢true f)
    go (Some v) q f = record { version = v; at = q; named = f }

pub names_here : (slots : Slots) (t : ℕ) (p : WordPlace) (v : Version) → version_at slots (number_at_word p) ≡ Some v → names_at slots t p ≡ names t (word_at p v)
names_here slots t p v e = ap (is_named_at t p) e

pub names_none : (slots : Slots) (t : ℕ) (p : WordPlace) → version_at slots (number_at_word p) ≡ None → names_at slots t p ≡ false
names_none slots t p e = ap (is_named_at t p) e

pub names_like : (slots slots' : Slots) (t : ℕ) (p : WordPlace) → version_at slots' (number_at_word p) ≡ version_at slots (number_at_word p) → names_at slots' t p ≡ names_at slots t p
names_like slots slots' t p e = ap (is_named_at t p) e

-- a word names one at most
pub one_name : (t u : ℕ) (w : Held) → names t w ≡ true → names u w ≡ true → t ≡ u
one_name t u (At n) a b = absurd (false≢true a)
one_name t u (By x) a b = sym (eqb-true x.0 t a) ∙ eqb-true x.0 u b
one_name t u Infinity a b = absurd (false≢true a)

pub not_other : (t u : ℕ) (w : Held) → names t w ≡ true → u ≢ t → names u w ≡ false
not_other t u w a d = go (names u w) refl
  where
    go : (b : Bool) → names u w ≡ b → names u w ≡ false
    go true e = absurd (d (one_name u t w e a))
    go false e = e

pub own_name : (t : ℕ) → names t (By (record { 0 = t })) ≡ true
own_name t = eq-eqb t t refl

-- ---- the places of a list that pass
pub filter_always : {X : Type 0} (f g : X → Bool) (xs : List X) → ((x : X) → f x ≡ g x) → filter f xs ≡ filter g xs
filter_always f g [] h = refl
filter_always f g (x ∷ xs) h = ap (λ (b : Bool). cond b (x ∷ filter f xs) (filter f xs)) (h x) ∙ ap (λ ys. cond (g x) (x ∷ ys) ys) (filter_always f g xs h)

pub filter_all : {X : Type 0} (f : X → Bool) (xs : List X) → AllByRecursion (λ x. f x ≡ true) xs → filter f xs ≡ xs
filter_all f [] h = refl
filter_all f (x ∷ xs) h = ap (λ (b : Bool). cond b (x ∷ filter f xs) (filter f xs)) h.0 ∙ ap (λ ys. x ∷ ys) (filter_all f xs h.1)

-- those that pass the narrower test, of those that pass the wider
pub filter_narrow : {X : Type 0} (f g : X → Bool) (xs : List X) → ((x : X) → f x ≡ true → g x ≡ true) → filter f xs ≡ filter f (filter g xs)
filter_narrow f g [] h = refl
filter_narrow f g (x ∷ xs) h = go (f x) refl (g x) refl (filter_narrow f g xs h)
  where
    go : (a : Bool) → f x ≡ a → (b : Bool) → g x ≡ b → filter f xs ≡ filter f (filter g xs) → cond a (x ∷ filter f xs) (filter f xs) ≡ filter f (cond b (x ∷ filter g xs) (filter g xs))
    go true e true q r = ap (λ ys. x ∷ ys) r ∙ sym (ap (λ (b : Bool). cond b (x ∷ filter f (filter g xs)) (filter f (filter g xs))) e)
    go true e false q r = absurd (true≢false (sym (h x e) ∙ q))
    go false e true q r = r ∙ sym (ap (λ (b : Bool). cond b (x ∷ filter f (filter g xs)) (filter f (filter g xs))) e)
    go false e false q r = r

pub each_passes : {X : Type 0} (f : X → Bool) (xs : List X) → AllByRecursion (λ x. f x ≡ true) (filter f xs)
each_passes f [] = tt
each_passes f (x ∷ xs) = go (f x) refl (each_passes f xs)
  where
    go : (b : Bool) → f x ≡ b → AllByRecursion (λ y. f y ≡ true) (filter f xs) → AllByRecursion (λ y. f y ≡ true) (cond b (x ∷ filter f xs) (filter f xs))
    go true e r = (e, r)
    go false e r = r

-- ---- how often a place is on a list
pub none_counted : (p : WordPlace) (ps : List WordPlace) → AllByRecursion (λ q. is_place p q ≡ false) ps → how_many (is_place p) ps ≡ 0
none_counted p [] h = refl
none_counted p (q ∷ ps) h = let z = none_counted p ps h.1 in ap (λ (b : Bool). cond b 1 0 + how_many (is_place p) ps) h.0 ∙ omega (arith, z)

pub counted_none : (p : WordPlace) (ps : List WordPlace) → how_many (is_place p) ps ≡ 0 → AllByRecursion (λ q. is_place p q ≡ false) ps
counted_none p [] h = tt
counted_none p (q ∷ ps) h = go (is_place p q) refl h (counted_none p ps)
  where
    go : (b : Bool) → is_place p q ≡ b → cond b 1 0 + how_many (is_place p) ps ≡ 0 → (how_many (is_place p) ps ≡ 0 → AllByRecursion (λ r. is_place p r ≡ false) ps) → AllByRecursion (λ r. is_place p r ≡ false) (q ∷ ps)
    go true e z k = absurd (omega (arith, z))
    go false e z k = (e, k (omega (arith, z)))

-- a place of which some say and others don't
pub counted_passes : (f : WordPlace → Bool) (p : WordPlace) (ps : List WordPlace) → f p ≡ true → filter f ps ≡ [] → how_many (is_place p) ps ≡ 0
counted_passes f p [] e h = refl
counted_passes f p (q ∷ ps) e h = go (f q) refl h (counted_passes f p ps e)
  where
    none : (x : WordPlace) (xs : List WordPlace) → x ∷ xs ≡ [] → ⊥
    none x xs r = cc

    other : f q ≡ false → is_place p q ≡ false
    other n = elim (place_cases p q) [
      | inl i ↦ absurd (true≢false (sym e ∙ ap f i ∙ n))
      | inr d ↦ d
    ]

    go : (b : Bool) → f q ≡ b → cond b (q ∷ filter f ps) (filter f ps) ≡ [] → (filter f ps ≡ [] → how_many (is_place p) ps ≡ 0) → cond (is_place p q) 1 0 + how_many (is_place p) ps ≡ 0
    go true n r k = absurd (none q (filter f ps) r)
    go false n r k = let z = k r in ap (λ (b : Bool). cond b 1 0 + how_many (is_place p) ps) (other n) ∙ omega (arith, z)

pub not_counted : (f : WordPlace → Bool) (p : WordPlace) (ps : List WordPlace) → f p ≡ false → AllByRecursion (λ q. f q ≡ true) ps → how_many (is_place p) ps ≡ 0
not_counted f p [] e h = refl
not_counted f p (q ∷ ps) e h = let z = not_counted f p ps e h.1 in ap (λ (b : Bool). cond b 1 0 + how_many (is_place p) ps) other ∙ omega (arith, z)
  where
    other : is_place p q ≡ false
    other = elim (place_cases p q) [
      | inl i ↦ absurd (true≢false (sym h.0 ∙ sym (ap f i) ∙ e))
      | inr d ↦ d
    ]

-- ---- lists that grow
abbrev pub AreOnce : Slots → WordLists → Type 0
AreOnce slots lists = (t : ℕ) (p : WordPlace) → names_at slots t p ≡ true → how_many (is_place p) (lists t) ≡ 1

-- what names a transaction named it before, or is the new place of r
abbrev pub IsNewOrOld : Slots → ℕ → WordPlace → ℕ → WordPlace → Type 0
IsNewOrOld slots r new t p = ((is_place p new ≡ false) × (names_at slots t p ≡ true)) ⊎ ((p ≡ new) × (t ≡ r))

pub once_pushed : (slots slots' : Slots) (lists lists' : WordLists) (r : ℕ) (new : WordPlace) → HaveListNow lists lists' r (lists r ++ new ∷ []) → how_many (is_place new) (lists r) ≡ 0 → ((t : ℕ) (p : WordPlace) → names_at slots' t p ≡ true → IsNewOrOld slots r new t p) → AreOnce slots lists → AreOnce slots' lists'
once_pushed slots slots' lists lists' r new now zero old once t p e = go (old t p e) (cases_eq t r)
  where
    mine : t ≡ r → how_many (is_place p) (lists' t) ≡ how_many (is_place p) (lists t) + cond (is_place p new) 1 0
    mine i = ap (λ (u : ℕ). how_many (is_place p) (lists' u)) i ∙ ap (how_many (is_place p)) now.here ∙ count_push (is_place p) (lists r) new ∙ sym (ap (λ (u : ℕ). how_many (is_place p) (lists u) + cond (is_place p new) 1 0) i)

    go : IsNewOrOld slots r new t p → (t ≡ r) ⊎ (t ≡ r → ⊥) → how_many (is_place p) (lists' t) ≡ 1
    go (inl q) (inl i) = mine i ∙ ap (λ (b : Bool). how_many (is_place p) (lists t) + cond b 1 0) q.0 ∙ (let z = once t p q.1 in omega (arith, z))
    go (inl q) (inr d) = ap (how_many (is_place p)) (now.others t d) ∙ once t p q.1
    go (inr q) (inl i) =
        let none : how_many (is_place p) (lists t) ≡ 0 = ap (λ (x : WordPlace). how_many (is_place x) (lists t)) q.0 ∙ ap (λ (u : ℕ). how_many (is_place new) (lists u)) i ∙ zero in
        mine i ∙ ap (λ (b : Bool). how_many (is_place p) (lists t) + cond b 1 0) (subst (λ (x : WordPlace). is_place p x ≡ true) q.0 (place_same p)) ∙ (omega (arith, none))
    go (inr q) (inr d) = absurd (d q.1)
