-- The deciding change of some changes and of more.
use Rattle.std.proofs.Common.{◌≡◌, ◌≢◌, ℕ, max, ◌<◌, ◌≤◌, Bool, true, false, cond, eqb, ltb, List, [], ◌∷◌, ◌++◌, Option, None, Some, refl, sym, ap, ◌∙◌, subst, inl, inr, arith}
use Rattle.std.proofs.lemmas.Bool.{cases_Bool, cond-true, cond-false, eqb-true, ne_eqb, eqb-false, ltb-true, ltb-false}
use Rattle.std.specs.Option.{option_map, option_or}
use Rattle.mvo_visible.specs.declared.change.Change.{Change}
use Rattle.mvo_visible.specs.Changes.{greater, greatest, greatest_below, first_with, done_with, deciding, both, later_of, later_change}

-- ---- the first that is told
pub option_or-none : {A : Type 0} (a : Option A) → option_or a None ≡ a
option_or-none None = refl
option_or-none (Some a) = refl

pub option_or_assoc : {A : Type 0} (a b c : Option A) → option_or (option_or a b) c ≡ option_or a (option_or b c)
option_or_assoc None b c = refl
option_or_assoc (Some a) b c = refl

pub first_with-append : {A : Type 0} (f : Change → Option A) (s : ℕ) (cs ds : List Change) → first_with f s (cs ++ ds) ≡ option_or (first_with f s cs) (first_with f s ds)
first_with-append f s [] ds = refl
first_with-append f s (c ∷ cs) ds =
    ap (option_or (cond (eqb c.stamp.0 s) (f c) None)) (first_with-append f s cs ds)
    ∙ sym (option_or_assoc (cond (eqb c.stamp.0 s) (f c) None) (first_with f s cs) (first_with f s ds))

-- ---- the greatest stamp
greater_assoc : (s : ℕ) (x y : Option ℕ) → greater s (greatest x y) ≡ greater (greater s x) y
greater_assoc s None y = refl
greater_assoc s (Some r) None = refl
greater_assoc s (Some r) (Some t) = omega arith

greatest_step : (b : Bool) (s : ℕ) (x y : Option ℕ) → cond b (Some (greater s (greatest x y))) (greatest x y) ≡ greatest (cond b (Some (greater s x)) x) y
greatest_step true s x y = ap Some (greater_assoc s x y)
greatest_step false s x y = refl

pub greatest_below-append : (b : ℕ) (cs ds : List Change) → greatest_below b (cs ++ ds) ≡ greatest (greatest_below b cs) (greatest_below b ds)
greatest_below-append b [] ds = refl
greatest_below-append b (c ∷ cs) ds =
    ap (λ x. cond (ltb c.stamp.0 b) (Some (greater c.stamp.0 x)) x) (greatest_below-append b cs ds)
    ∙ greatest_step (ltb c.stamp.0 b) c.stamp.0 (greatest_below b cs) (greatest_below b ds)

-- ---- what a greatest stamp says of the others
-- it is below
abbrev IsUnder : Option ℕ → ℕ → Type 0
IsUnder None s = Unit {0}
IsUnder (Some r) s = r < s

greater_under : (c s : ℕ) (x : Option ℕ) → greater c x < s → (c < s) × IsUnder x s
greater_under c s None h = (h, tt)
greater_under c s (Some r) h = (omega (arith, h), omega (arith, h))

pub greatest_under : (b : ℕ) (cs : List Change) → IsUnder (greatest_below b cs) b
greatest_under b [] = tt
greatest_under b (c ∷ cs) =
    elim (cases_Bool (ltb c.stamp.0 b)) [
      | inl t ↦
          subst (λ x. IsUnder x b) (sym (cond-true (ltb c.stamp.0 b) (Some (greater c.stamp.0 (greatest_below b cs))) (greatest_below b cs) t))
          (both_under (greatest_below b cs) (ltb-true c.stamp.0 b t) (greatest_under b cs))
      | inr f ↦
          subst (λ x. IsUnder x b) (sym (cond-false (ltb c.stamp.0 b) (Some (greater c.stamp.0 (greatest_below b cs))) (greatest_below b cs) f))
          (greatest_under b cs)
    ]
  where
    both_under : (x : Option ℕ) → c.stamp.0 < b → IsUnder x b → greater c.stamp.0 x < b
    both_under None h u = h
    both_under (Some r) h u = omega (arith, h, u)

-- with a stamp below b that is above the greatest nothing was done
pub none_above : {A : Type 0} (f : Change → Option A) (b s : ℕ) (cs : List Change) → s < b → IsUnder (greatest_below b cs) s → first_with f s cs ≡ None
none_above f b s [] below u = refl
none_above f b s (c ∷ cs) below u =
    elim (cases_Bool (ltb c.stamp.0 b)) [
      | inl t ↦
          let h = greater_under c.stamp.0 s (greatest_below b cs)
          (subst (λ x. IsUnder x s) (cond-true (ltb c.stamp.0 b) (Some (greater c.stamp.0 (greatest_below b cs))) (greatest_below b cs) t) u) in
          let under : c.stamp.0 < s = h.0 in
          ap (λ g. option_or (cond g (f c) None) (first_with f s cs)) (ne_eqb c.stamp.0 s (λ e. omega (arith, e, under)))
          ∙ none_above f b s cs below h.1
      | inr g ↦
          let above : b ≤ c.stamp.0 = ltb-false c.stamp.0 b g in
          ap (λ g. option_or (cond g (f c) None) (first_with f s cs)) (ne_eqb c.stamp.0 s (λ e. omega (arith, e, above, below)))
          ∙ none_above f b s cs below (subst (λ x. IsUnder x s) (cond-false (ltb c.stamp.0 b) (Some (greater c.stamp.0 (greatest_below b cs))) (greatest_below b cs) g) u)
    ]

-- ---- the deciding change of two lists is the later of theirs
done_with-append : (cs ds : List Change) (s : ℕ) → done_with (cs ++ ds) s ≡ both (done_with cs s) (done_with ds s)
done_with-append cs ds s =
    ap (λ v. record { stamp = record { 0 = s }; version = v; owner = first_with (λ c. c.owner) s (cs ++ ds) }) (first_with-append (λ c. c.version) s cs ds)
    ∙ ap (λ o. record { stamp = record { 0 = s }; version = option_or (first_with (λ c. c.version) s cs) (first_with (λ c. c.version) s ds); owner = o }) (first_with-append (λ c. c.owner) s cs ds)

-- where the first did nothing with the stamp
done_second : (b : ℕ) (cs ds : List Change) (s : ℕ) → s < b → IsUnder (greatest_below b cs) s → done_with (cs ++ ds) s ≡ done_with ds s
done_second b cs ds s below u =
    done_with-append cs ds s
    ∙ ap (λ v. record { stamp = record { 0 = s }; version = option_or v (first_with (λ c. c.version) s ds); owner = option_or (first_with (λ c. c.owner) s cs) (first_with (λ c. c.owner) s ds) }) (none_above (λ c. c.version) b s cs below u)
    ∙ ap (λ o. record { stamp = record { 0 = s }; version = first_with (λ c. c.version) s ds; owner = option_or o (first_with (λ c. c.owner) s ds) }) (none_above (λ c. c.owner) b s cs below u)

-- where the second did nothing with it
done_first : (b : ℕ) (cs ds : List Change) (s : ℕ) → s < b → IsUnder (greatest_below b ds) s → done_with (cs ++ ds) s ≡ done_with cs s
done_first b cs ds s below u =
    done_with-append cs ds s
    ∙ ap (λ v. record { stamp = record { 0 = s }; version = option_or (first_with (λ c. c.version) s cs) v; owner = option_or (first_with (λ c. c.owner) s cs) (first_with (λ c. c.owner) s ds) }) (none_above (λ c. c.version) b s ds below u)
    ∙ ap (λ o. record { stamp = record { 0 = s }; version = option_or (first_with (λ c. c.version) s cs) None; owner = option_or (first_with (λ c. c.owner) s cs) o }) (none_above (λ c. c.owner) b s ds below u)
    ∙ ap (λ v. record { stamp = record { 0 = s }; version = v; owner = option_or (first_with (λ c. c.owner) s cs) None }) (option_or-none (first_with (λ c. c.version) s cs))
    ∙ ap (λ o. record { stamp = record { 0 = s }; version = first_with (λ c. c.version) s cs; owner = o }) (option_or-none (first_with (λ c. c.owner) s cs))

pub deciding-append : (b : ℕ) (cs ds : List Change) → deciding b (cs ++ ds) ≡ later_change (deciding b cs) (deciding b ds)
deciding-append b cs ds = ap (option_map (done_with (cs ++ ds))) (greatest_below-append b cs ds) ∙ go (greatest_below b cs) (greatest_below b ds) refl refl
  where
    under : (es : List Change) (s : ℕ) → greatest_below b es ≡ Some s → s < b
    under es s e = subst (λ x. IsUnder x b) e (greatest_under b es)

    is_under : (es : List Change) (x : Option ℕ) (s : ℕ) → greatest_below b es ≡ x → IsUnder x s → IsUnder (greatest_below b es) s
    is_under es x s e u = subst (λ y. IsUnder y s) (sym e) u

    go : (x y : Option ℕ) → greatest_below b cs ≡ x → greatest_below b ds ≡ y → option_map (done_with (cs ++ ds)) (greatest x y) ≡ later_change (option_map (done_with cs) x) (option_map (done_with ds) y)
    go None None p q = refl
    go None (Some t) p q = ap Some (done_second b cs ds t (under ds t q) (is_under cs None t p tt))
    go (Some s) None p q = ap Some (done_first b cs ds s (under cs s p) (is_under ds None s q tt))
    go (Some s) (Some t) p q =
        elim (cases_Bool (eqb s t)) [
          | inl e ↦
              let same : s ≡ t = eqb-true s t e in
              let top : max s t ≡ s = omega (arith, same) in
              ap (λ m. Some (done_with (cs ++ ds) m)) top ∙ ap Some (done_with-append cs ds s)
              ∙ ap (λ m. Some (both (done_with cs s) (done_with ds m))) same
              ∙ ap Some (sym (cond-true (eqb s t) (both (done_with cs s) (done_with ds t)) (cond (ltb s t) (done_with ds t) (done_with cs s)) e))
          | inr f ↦ ap Some (apart s t p q f)
        ]
      where
        apart : (s t : ℕ) → greatest_below b cs ≡ Some s → greatest_below b ds ≡ Some t → eqb s t ≡ false → done_with (cs ++ ds) (max s t) ≡ later_of (done_with cs s) (done_with ds t)
        apart s t p q f =
            let differ : s ≢ t = eqb-false s t f in
            elim (cases_Bool (ltb s t)) [
              | inl l ↦
                  let less : s < t = ltb-true s t l in
                  let top : max s t ≡ t = omega (arith, less) in
                  ap (done_with (cs ++ ds)) top ∙ done_second b cs ds t (under ds t q) (is_under cs (Some s) t p less)
                  ∙ sym (cond-true (ltb s t) (done_with ds t) (done_with cs s) l)
                  ∙ sym (cond-false (eqb s t) (both (done_with cs s) (done_with ds t)) (cond (ltb s t) (done_with ds t) (done_with cs s)) f)
              | inr l ↦
                  let most : t ≤ s = ltb-false s t l in
                  let less : t < s = omega (arith, most, differ) in
                  let top : max s t ≡ s = omega (arith, less) in
                  ap (done_with (cs ++ ds)) top ∙ done_first b cs ds s (under cs s p) (is_under ds (Some t) s q less)
                  ∙ sym (cond-false (ltb s t) (done_with ds t) (done_with cs s) l)
                  ∙ sym (cond-false (eqb s t) (both (done_with cs s) (done_with ds t)) (cond (ltb s t) (done_with ds t) (done_with cs s)) f)
            ]
