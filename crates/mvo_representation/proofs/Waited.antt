-- Counters, flags and dependents stay right.
use Rattle.std.proofs.Common.{◌≡◌, ℕ, ◌+◌, ◌<◌, Bool, true, false, cond, not, ◌||◌, List, [], ◌∷◌, ◌++◌, map, Option, None, Some, refl, sym, ap, ◌∙◌, subst, arith}
use Rattle.std.specs.Prelude.{◌==◌, ◌&&◌}
use Rattle.std.specs.List.{AllByRecursion, filter}
use Rattle.std.proofs.lemmas.Bool.{eq-eqb, eqb-true, ne_eqb, false≢true, true≢false}
use Rattle.std.proofs.lemmas.List.Folds.{list_any-append}
use Rattle.mvo_theory.specs.State.{StampedTx}
use Rattle.mvo_theory.specs.Dependencies.{has_end, with_end}
use Rattle.mvo_theory.specs.Changes.{with_settled, with_flag, not_at}
use Rattle.mvo_theory.specs.Causes.{waiting_for}
use Rattle.mvo_theory.specs.Sound.{IsRising}
use Rattle.mvo_theory.proofs.Each.{each_weaker}
use Rattle.mvo_representation.specs.Nodes.{with_listed, is_open_in, open_count}
use Rattle.mvo_representation.proofs.Open.{is_open}
use Rattle.mvo_deps.proofs.Lists.{one}

-- ---- counts
and_false : (b : Bool) → (b && false) ≡ false
and_false true = refl
and_false false = refl

-- an end that isn't there makes no difference
beyond : (ds : List ℕ) (e : ℕ) (xs : List StampedTx) → AllByRecursion (λ x. e < x.end) xs → open_count ds (map (with_settled e) xs) ≡ open_count ds xs
beyond ds e [] h = refl
beyond ds e (x ∷ xs) h =
    ap (λ b. one (not (x.settled || b) && has_end ds x.end) + open_count ds (map (with_settled e) xs)) (ne_eqb x.end e (λ q. absurd (omega (arith, q, h.0))))
    ∙ ap (λ b. one (not b && has_end ds x.end) + open_count ds (map (with_settled e) xs)) (or_false x.settled)
    ∙ ap (λ n. one (is_open_in ds x) + n) (beyond ds e xs h.1)
  where
    or_false : (b : Bool) → (b || false) ≡ b
    or_false true = refl
    or_false false = refl

-- one that is settled isn't counted any more
pub count_settled : (ds : List ℕ) (e : ℕ) (xs : List StampedTx) → IsRising xs → is_open e xs ≡ true → open_count ds xs ≡ open_count ds (map (with_settled e) xs) + one (has_end ds e)
count_settled ds e [] h o = absurd (false≢true o)
count_settled ds e (x ∷ xs) h o = go x.settled refl (x.end == e) refl o (λ g. count_settled ds e xs h.1 g)
  where
    here : (b : Bool) → x.settled ≡ b → x.end ≡ e → open_count ds (map (with_settled e) xs) ≡ open_count ds xs → b ≡ false → one (not b && has_end ds x.end) + open_count ds xs ≡ (one (not (b || (x.end == e)) && has_end ds x.end) + open_count ds (map (with_settled e) xs)) + one (has_end ds e)
    here true f q n g = absurd (true≢false g)
    here false f q n g =
        let c : one (has_end ds x.end) ≡ one (has_end ds e) = ap (λ m. one (has_end ds m)) q in
        let d : one (not (x.end == e) && has_end ds x.end) ≡ 0 = ap (λ b. one (not b && has_end ds x.end)) (eq-eqb x.end e q) in
        omega (arith, c, d, n)

    later : (b c : Bool) → c ≡ false → open_count ds xs ≡ open_count ds (map (with_settled e) xs) + one (has_end ds e) → one (not b && has_end ds x.end) + open_count ds xs ≡ (one (not (b || c) && has_end ds x.end) + open_count ds (map (with_settled e) xs)) + one (has_end ds e)
    later true c q n = omega (arith, n)
    later false c q n =
        let d : one (not c && has_end ds x.end) ≡ one (has_end ds x.end) = ap (λ b. one (not b && has_end ds x.end)) q in
        omega (arith, n, d)

    beyond_here : x.end ≡ e → open_count ds (map (with_settled e) xs) ≡ open_count ds xs
    beyond_here q = beyond ds e xs (each_weaker (λ y. x.end < y.end) (λ y. e < y.end) (λ y lt. omega (arith, lt, q)) xs h.0)

    go : (b : Bool) → x.settled ≡ b → (c : Bool) → (x.end == e) ≡ c → ((not b && c) || is_open e xs) ≡ true → (is_open e xs ≡ true → open_count ds xs ≡ open_count ds (map (with_settled e) xs) + one (has_end ds e)) → one (not x.settled && has_end ds x.end) + open_count ds xs ≡ (one (not (x.settled || (x.end == e)) && has_end ds x.end) + open_count ds (map (with_settled e) xs)) + one (has_end ds e)
    go false f true g i again = subst (λ (b : Bool). one (not b && has_end ds x.end) + open_count ds xs ≡ (one (not (b || (x.end == e)) && has_end ds x.end) + open_count ds (map (with_settled e) xs)) + one (has_end ds e)) (sym f) (here false f (eqb-true x.end e g) (beyond_here (eqb-true x.end e g)) refl)
    go false f false g i again = later x.settled (x.end == e) g (again i)
    go true f false g i again = later x.settled (x.end == e) g (again i)
    go true f true g i again = absurd (false≢true (sym (closed (eqb-true x.end e g)) ∙ i))
      where
        closed : x.end ≡ e → is_open e xs ≡ false
        closed q = none xs (each_weaker (λ y. x.end < y.end) (λ y. e < y.end) (λ y lt. omega (arith, lt, q)) xs h.0)
          where
            none : (ys : List StampedTx) → AllByRecursion (λ y. e < y.end) ys → is_open e ys ≡ false
            none [] k = refl
            none (y ∷ ys) k = ap (λ b. (not y.settled && b) || is_open e ys) (ne_eqb y.end e (λ q. absurd (omega (arith, q, k.0)))) ∙ ap (λ b. b || is_open e ys) (and_false (not y.settled)) ∙ none ys k.1

-- one that goes, and isn't after_dependency on
pub count_gone : (ds : List ℕ) (t e : ℕ) (xs : List StampedTx) → has_end ds e ≡ false → open_count ds (map (with_flag t e) (filter (not_at e) xs)) ≡ open_count ds xs
count_gone ds t e [] n = refl
count_gone ds t e (x ∷ xs) n = go (x.end == e) refl (count_gone ds t e xs n)
  where
    go : (b : Bool) → (x.end == e) ≡ b → open_count ds (map (with_flag t e) (filter (not_at e) xs)) ≡ open_count ds xs → open_count ds (map (with_flag t e) (cond (not b) (x ∷ filter (not_at e) xs) (filter (not_at e) xs))) ≡ one (is_open_in ds x) + open_count ds xs
    go true q i = let z : one (is_open_in ds x) ≡ 0 = ap (λ c. one (not x.settled && c)) (ap (has_end ds) (eqb-true x.end e q) ∙ n) ∙ ap one (and_false (not x.settled)) in omega (arith, i, z)
    go false q i = ap (λ m. one (is_open_in ds x) + m) i

-- one that comes, and isn't after_dependency on
pub count_pushed : (ds : List ℕ) (xs : List StampedTx) (y : StampedTx) → has_end ds y.end ≡ false → open_count ds (xs ++ y ∷ []) ≡ open_count ds xs
count_pushed ds [] y n = ap (λ c. one (not y.settled && c) + 0) n ∙ ap (λ c. one c + 0) (and_false (not y.settled))
count_pushed ds (x ∷ xs) y n = ap (λ m. one (is_open_in ds x) + m) (count_pushed ds xs y n)

-- the one that is waited for
pub waits_none : (ds : List ℕ) (xs : List StampedTx) → waiting_for ds xs ≡ None → open_count ds xs ≡ 0
waits_none ds [] h = refl
waits_none ds (x ∷ xs) h = go (is_open_in ds x) h (λ g. waits_none ds xs g)
  where
    some_none : ◌≡◌ {A = Option StampedTx} (Some x) None → ⊥
    some_none q = cc

    go : (b : Bool) → cond b (Some x) (waiting_for ds xs) ≡ None → (waiting_for ds xs ≡ None → open_count ds xs ≡ 0) → one b + open_count ds xs ≡ 0
    go true g again = absurd (some_none g)
    go false g again = let n = again g in omega (arith, n)

pub waits_some : (ds : List ℕ) (xs : List StampedTx) (y : StampedTx) → waiting_for ds xs ≡ Some y → 0 < open_count ds xs
waits_some ds [] y h = absurd (none_some h)
  where
    none_some : ◌≡◌ {A = Option StampedTx} None (Some y) → ⊥
    none_some q = cc
waits_some ds (x ∷ xs) y h = go (is_open_in ds x) h (λ g. waits_some ds xs y g)
  where
    go : (b : Bool) → cond b (Some x) (waiting_for ds xs) ≡ Some y → (waiting_for ds xs ≡ Some y → 0 < open_count ds xs) → 0 < one b + open_count ds xs
    go true g again = omega arith
    go false g again = let n = again g in omega (arith, n)

-- one more dependency
pub has_with : (ds : List ℕ) (e d : ℕ) → has_end (with_end ds e) d ≡ ((e == d) || has_end ds d)
has_with ds e d = go (has_end ds e) refl
  where
    same : (b : Bool) → (e == d) ≡ b → has_end ds e ≡ true → has_end ds d ≡ (b || has_end ds d)
    same true q i = ap (has_end ds) (sym (eqb-true e d q)) ∙ i
    same false q i = refl

    go : (b : Bool) → has_end ds e ≡ b → has_end (cond b ds (e ∷ ds)) d ≡ ((e == d) || has_end ds d)
    go true q = same (e == d) refl q
    go false q = refl

more_beyond : (ds : List ℕ) (e : ℕ) (xs : List StampedTx) → AllByRecursion (λ x. e < x.end) xs → open_count (with_end ds e) xs ≡ open_count ds xs
more_beyond ds e [] h = refl
more_beyond ds e (x ∷ xs) h =
    ap (λ b. one (not x.settled && b) + open_count (with_end ds e) xs) (has_with ds e x.end ∙ ap (λ b. b || has_end ds x.end) (ne_eqb e x.end (λ q. absurd (omega (arith, q, h.0)))))
    ∙ ap (λ m. one (is_open_in ds x) + m) (more_beyond ds e xs h.1)

pub count_added : (ds : List ℕ) (e : ℕ) (xs : List StampedTx) → IsRising xs → is_open e xs ≡ true → open_count (with_end ds e) xs ≡ open_count ds xs + one (not (has_end ds e))
count_added ds e [] h o = absurd (false≢true o)
count_added ds e (x ∷ xs) h o = go x.settled refl (x.end == e) refl o (λ g. count_added ds e xs h.1 g)
  where
    beyond_here : x.end ≡ e → open_count (with_end ds e) xs ≡ open_count ds xs
    beyond_here q = more_beyond ds e xs (each_weaker (λ y. x.end < y.end) (λ y. e < y.end) (λ y lt. omega (arith, lt, q)) xs h.0)

    closed : x.end ≡ e → is_open e xs ≡ false
    closed q = none xs (each_weaker (λ y. x.end < y.end) (λ y. e < y.end) (λ y lt. omega (arith, lt, q)) xs h.0)
      where
        none : (ys : List StampedTx) → AllByRecursion (λ y. e < y.end) ys → is_open e ys ≡ false
        none [] k = refl
        none (y ∷ ys) k = ap (λ b. (not y.settled && b) || is_open e ys) (ne_eqb y.end e (λ q. absurd (omega (arith, q, k.0)))) ∙ ap (λ b. b || is_open e ys) (and_false (not y.settled)) ∙ none ys k.1

    here : (b : Bool) → has_end ds e ≡ b → x.settled ≡ false → x.end ≡ e → one (not x.settled && has_end (with_end ds e) x.end) + open_count (with_end ds e) xs ≡ (one (not x.settled && has_end ds x.end) + open_count ds xs) + one (not (has_end ds e))
    here b f s q =
        let l : one (not x.settled && has_end (with_end ds e) x.end) ≡ 1 = ap (λ c. one (not c && has_end (with_end ds e) x.end)) s ∙ ap (λ c. one c) (has_with ds e x.end ∙ ap (λ c. c || has_end ds x.end) (eq-eqb e x.end (sym q))) in
        let r : one (not x.settled && has_end ds x.end) ≡ one (has_end ds e) = ap (λ c. one (not c && has_end ds x.end)) s ∙ ap (λ n. one (has_end ds n)) q in
        let n : open_count (with_end ds e) xs ≡ open_count ds xs = beyond_here q in
        let m : one (has_end ds e) + one (not (has_end ds e)) ≡ 1 = both (has_end ds e) in
        omega (arith, l, r, n, m)
      where
        both : (c : Bool) → one c + one (not c) ≡ 1
        both true = refl
        both false = refl

    later : (x.end == e) ≡ false → open_count (with_end ds e) xs ≡ open_count ds xs + one (not (has_end ds e)) → one (not x.settled && has_end (with_end ds e) x.end) + open_count (with_end ds e) xs ≡ (one (not x.settled && has_end ds x.end) + open_count ds xs) + one (not (has_end ds e))
    later q n =
        let l : one (not x.settled && has_end (with_end ds e) x.end) ≡ one (not x.settled && has_end ds x.end) = ap (λ c. one (not x.settled && c)) (has_with ds e x.end ∙ ap (λ c. c || has_end ds x.end) (ne_eqb e x.end (λ g. true≢false (sym (eq-eqb x.end e (sym g)) ∙ q)))) in
        omega (arith, l, n)

    go : (b : Bool) → x.settled ≡ b → (c : Bool) → (x.end == e) ≡ c → ((not b && c) || is_open e xs) ≡ true → (is_open e xs ≡ true → open_count (with_end ds e) xs ≡ open_count ds xs + one (not (has_end ds e))) → one (not x.settled && has_end (with_end ds e) x.end) + open_count (with_end ds e) xs ≡ (one (not x.settled && has_end ds x.end) + open_count ds xs) + one (not (has_end ds e))
    go false f true g i again = here (has_end ds e) refl f (eqb-true x.end e g)
    go false f false g i again = later g (again i)
    go true f false g i again = later g (again i)
    go true f true g i again = absurd (false≢true (sym (closed (eqb-true x.end e g)) ∙ i))

-- one more, at the end
pub has_listed : (ds : List ℕ) (e d : ℕ) → has_end (with_listed ds e) d ≡ ((e == d) || has_end ds d)
has_listed ds e d = go (has_end ds e) refl
  where
    swap : (a b : Bool) → (a || (b || false)) ≡ (b || a)
    swap true true = refl
    swap true false = refl
    swap false true = refl
    swap false false = refl

    there : has_end ds e ≡ true → (c : Bool) → (e == d) ≡ c → has_end ds d ≡ (c || has_end ds d)
    there h true i = ap (has_end ds) (sym (eqb-true e d i)) ∙ h
    there h false i = refl

    go : (b : Bool) → has_end ds e ≡ b → has_end (cond b ds (ds ++ e ∷ [])) d ≡ ((e == d) || has_end ds d)
    go true h = there h (e == d) refl
    go false h = list_any-append (λ x. x == d) ds (e ∷ []) ∙ swap (has_end ds d) (e == d)
