-- Counting the runs of a list.
use Rattle.std.proofs.Common.{◌≡◌, ℕ, ◌+◌, ◌≤◌, ◌<◌, suc, zero, Bool, true, false, cond, not, eqb, ◌||◌, List, [], ◌∷◌, length, Option, None, Some, refl, sym, ap, ◌∙◌, subst, arith, ◌⊎◌, inl, inr}
use Rattle.std.specs.Prelude.{◌==◌, ◌&&◌, is_some, is_none}
use Rattle.std.specs.List.{list_any}
use Rattle.std.proofs.lemmas.Bool.{eq-eqb, eqb-true, ne_eqb, cases_eq, true≢false, or_left, or_right}
use Rattle.mvo_theory.specs.Sound.{how_many}
use Rattle.mvo_hash.specs.Lists.{newest_of, is_among, without_number, older_of, newer_behind}
use Rattle.mvo_versions.specs.Runs.{runs_behind, runs_entry, or_none, passes}

abbrev pub one : Bool → ℕ
one b = cond b 1 0

-- two tests that agree at each number of a list have the same runs there
pub runs_alike : (p q : ℕ → Bool) (b : Bool) (ns : List ℕ) → ((n : ℕ) → is_among n ns ≡ true → p n ≡ q n) → runs_behind b p ns ≡ runs_behind b q ns
runs_alike p q b [] same = refl
runs_alike p q b (n ∷ ns) same =
    ap (λ c. one (c && not b) + runs_behind c p ns) (same n (or_left (eqb n n) (is_among n ns) (eq-eqb n n refl)))
    ∙ ap (λ m. one (q n && not b) + m) (runs_alike p q (q n) ns (λ m a. same m (or_right (eqb m n) (is_among m ns) a)))

-- a run that goes on isn't counted again
pub behind : (p : ℕ → Bool) (b : Bool) (ns : List ℕ) → runs_behind b p ns + one (b && passes p (newest_of ns)) ≡ runs_behind false p ns
behind p true [] = refl
behind p false [] = refl
behind p b (n ∷ ns) = go b (p n) (runs_behind (p n) p ns)
  where
    go : (b c : Bool) (r : ℕ) → (one (c && not b) + r) + one (b && c) ≡ one (c && not false) + r
    go true true r = omega arith
    go true false r = omega arith
    go false true r = omega arith
    go false false r = omega arith

-- one more in front begins a run, or joins that of the next
pub in_front : (p : ℕ → Bool) (n : ℕ) (ns : List ℕ) → runs_behind false p (n ∷ ns) + one (p n && passes p (newest_of ns)) ≡ one (p n) + runs_behind false p ns
in_front p n ns = go (p n) (runs_behind (p n) p ns) (one (p n && passes p (newest_of ns))) (runs_behind false p ns) (behind p (p n) ns)
  where
    go : (c : Bool) (r j all : ℕ) → r + j ≡ all → (one (c && not false) + r) + j ≡ one c + all
    go true r j all e = omega (arith, e)
    go false r j all e = omega (arith, e)

pub without_absent : (n : ℕ) (ns : List ℕ) → how_many (λ i. i == n) ns ≡ 0 → without_number n ns ≡ ns
without_absent n [] e = refl
without_absent n (m ∷ ns) e = go (cases_eq n m) (without_absent n ns)
  where
    go : (n ≡ m) ⊎ (n ≡ m → ⊥) → (how_many (λ i. i == n) ns ≡ 0 → without_number n ns ≡ ns) → without_number n (m ∷ ns) ≡ m ∷ ns
    go (inl q) again = absurd (let c : one (m == n) ≡ 1 = ap one (eq-eqb m n (sym q)) in omega (arith, e, c))
    go (inr d) again =
        let z : how_many (λ i. i == n) ns ≡ 0 = let c : one (m == n) ≡ 0 = ap one (ne_eqb m n (λ q. d (sym q))) in omega (arith, e, c) in
        ap (λ b. cond (not b) (m ∷ without_number n ns) (without_number n ns)) (ne_eqb n m d) ∙ ap (λ ms. m ∷ ms) (again z)

abbrev pub IsPassed : (ℕ → Bool) → ℕ → Option ℕ → List ℕ → Type 0
IsPassed p n front ns = runs_behind (passes p front) p (without_number n ns) + (one (p n && not (passes p (newer_behind front n ns))) + one (passes p (older_of n ns) && not (p n))) ≡ runs_behind (passes p front) p ns + one (passes p (older_of n ns) && not (passes p (newer_behind front n ns)))

-- what is due of one that goes, where the first is it or isn't
abbrev Over : (ℕ → Bool) → ℕ → ℕ → Option ℕ → List ℕ → Bool → Type 0
Over p n m front ns b = runs_behind (passes p front) p (cond (not b) (m ∷ without_number n ns) (without_number n ns)) + (one (p n && not (passes p (cond b front (newer_behind (Some m) n ns)))) + one (passes p (cond b (newest_of ns) (older_of n ns)) && not (p n))) ≡ runs_behind (passes p front) p (m ∷ ns) + one (passes p (cond b (newest_of ns) (older_of n ns)) && not (passes p (cond b front (newer_behind (Some m) n ns))))

-- One that goes from between its neighbours ends a run where neither passes as it does, and joins
-- theirs where they pass and it doesn't.
pub passed_over : (p : ℕ → Bool) (n : ℕ) (front : Option ℕ) (ns : List ℕ) → how_many (λ i. i == n) ns ≡ 1 → IsPassed p n front ns
passed_over p n front [] e = absurd (omega (arith, e))
passed_over p n front (m ∷ ns) e = go (cases_eq n m) (passed_over p n (Some m) ns)
  where
    here : (f x h : Bool) (a b r : ℕ) → a + one (f && h) ≡ r → b + one (x && h) ≡ r → a + (one (x && not f) + one (h && not x)) ≡ (one (x && not f) + b) + one (h && not f)
    here true true true a b r i j = omega (arith, i, j)
    here true true false a b r i j = omega (arith, i, j)
    here true false true a b r i j = omega (arith, i, j)
    here true false false a b r i j = omega (arith, i, j)
    here false true true a b r i j = omega (arith, i, j)
    here false true false a b r i j = omega (arith, i, j)
    here false false true a b r i j = omega (arith, i, j)
    here false false false a b r i j = omega (arith, i, j)

    go : (n ≡ m) ⊎ (n ≡ m → ⊥) → (how_many (λ i. i == n) ns ≡ 1 → IsPassed p n (Some m) ns) → Over p n m front ns (eqb n m)
    go (inl q) again =
        let z : how_many (λ i. i == n) ns ≡ 0 = let c : one (m == n) ≡ 1 = ap one (eq-eqb m n (sym q)) in omega (arith, e, c) in
        subst (Over p n m front ns) (sym (eq-eqb n m q))
        (ap (λ ms. runs_behind (passes p front) p ms + (one (p n && not (passes p front)) + one (passes p (newest_of ns) && not (p n)))) (without_absent n ns z)
        ∙ here (passes p front) (p n) (passes p (newest_of ns)) (runs_behind (passes p front) p ns) (runs_behind (p n) p ns) (runs_behind false p ns) (behind p (passes p front) ns) (behind p (p n) ns)
        ∙ ap (λ i. (one (p i && not (passes p front)) + runs_behind (p i) p ns) + one (passes p (newest_of ns) && not (passes p front))) q)
    go (inr d) again =
        let z : how_many (λ i. i == n) ns ≡ 1 = let c : one (m == n) ≡ 0 = ap one (ne_eqb m n (λ q. d (sym q))) in omega (arith, e, c) in
        let rest = again z in
        subst (Over p n m front ns) (sym (ne_eqb n m d)) (omega (arith, rest))

-- there are half as many runs as numbers, and one
pub few_runs : (p : ℕ → Bool) (b : Bool) (ns : List ℕ) → (runs_behind b p ns + runs_behind b p ns) + one b ≤ length ns + 1
few_runs p true [] = omega arith
few_runs p false [] = omega arith
few_runs p b (n ∷ ns) = go b (p n) (runs_behind (p n) p ns) (length ns) (few_runs p (p n) ns)
  where
    go : (b c : Bool) (r l : ℕ) → (r + r) + one c ≤ l + 1 → ((one (c && not b) + r) + (one (c && not b) + r)) + one b ≤ suc l + 1
    go true true r l h = omega (arith, h)
    go true false r l h = omega (arith, h)
    go false true r l h = omega (arith, h)
    go false false r l h = omega (arith, h)

-- ---- entries
pub some_entry : (n : ℕ) → 0 < n → is_some (runs_entry n) ≡ true
some_entry zero h = absurd (omega (arith, h))
some_entry (suc n) h = refl

pub entry_back : (n : ℕ) → or_none (runs_entry n) ≡ n
entry_back zero = refl
entry_back (suc n) = refl

-- there is a run where one passes
pub any_runs : (p : ℕ → Bool) (ns : List ℕ) → is_some (runs_entry (runs_behind false p ns)) ≡ list_any p ns
any_runs p [] = refl
any_runs p (n ∷ ns) = go (p n) (any_runs p ns)
  where
    go : (c : Bool) → is_some (runs_entry (runs_behind false p ns)) ≡ list_any p ns → is_some (runs_entry (one (c && not false) + runs_behind c p ns)) ≡ (c || list_any p ns)
    go true h = some_entry (1 + runs_behind true p ns) (omega arith)
    go false h = ap (λ m. is_some (runs_entry m)) (omega arith) ∙ h

-- where all numbers are one there is one run at most
pub one_run : (p : ℕ → Bool) (ns : List ℕ) → ((i j : ℕ) → is_among i ns ≡ true → is_among j ns ≡ true → i ≡ j) → ((i : ℕ) → how_many (λ m. m == i) ns ≤ 1) → runs_behind false p ns ≡ one (list_any p ns)
one_run p [] same once = refl
one_run p (n ∷ []) same once = go (p n)
  where
    go : (c : Bool) → one (c && not false) + 0 ≡ one (c || false)
    go true = refl
    go false = refl
one_run p (n ∷ m ∷ ns) same once =
    let is : m ≡ n = same m n (or_right (eqb m n) (is_among m (m ∷ ns)) (or_left (eqb m m) (is_among m ns) (eq-eqb m m refl))) (or_left (eqb n n) (is_among n (m ∷ ns)) (eq-eqb n n refl)) in
    let here : one (n == n) ≡ 1 = ap one (eq-eqb n n refl) in
    let next : one (m == n) ≡ 1 = ap one (eq-eqb m n is) in
    let most = once n in
    absurd (omega (arith, here, next, most))

-- ---- neighbours
-- the one in front is another of them
pub newer_among : (n : ℕ) (front : Option ℕ) (ns : List ℕ) (m : ℕ) → newer_behind front n ns ≡ Some m → (front ≡ Some m) ⊎ (is_among m ns ≡ true)
newer_among n front [] m e = absurd cc
newer_among n front (i ∷ ns) m e = go (eqb n i) e (newer_among n (Some i) ns m)
  where
    go : (b : Bool) → cond b front (newer_behind (Some i) n ns) ≡ Some m → (newer_behind (Some i) n ns ≡ Some m → (◌≡◌ {A = Option ℕ} (Some i) (Some m)) ⊎ (is_among m ns ≡ true)) → (front ≡ Some m) ⊎ (is_among m (i ∷ ns) ≡ true)
    go true f again = inl f
    go false f again = elim (again f) [
      | inl h ↦ inr (or_left (eqb m i) (is_among m ns) (eq-eqb m i (sym (ap or_none h))))
      | inr h ↦ inr (or_right (eqb m i) (is_among m ns) h)
    ]

-- one with another in front isn't the newest
pub newest_stays : (n : ℕ) (front : Option ℕ) (ns : List ℕ) → front ≡ None → is_some (newer_behind front n ns) ≡ true → newest_of (without_number n ns) ≡ newest_of ns
newest_stays n front [] f e = refl
newest_stays n front (m ∷ ns) f e = go (eqb n m) e
  where
    go : (b : Bool) → is_some (cond b front (newer_behind (Some m) n ns)) ≡ true → newest_of (cond (not b) (m ∷ without_number n ns) (without_number n ns)) ≡ Some m
    go true g = absurd (true≢false (sym g ∙ ap is_some f))
    go false g = refl

-- one behind another has one in front
never_first : (n : ℕ) (front : Option ℕ) (ns : List ℕ) → is_some front ≡ true → is_among n ns ≡ true → newer_behind front n ns ≡ None → ⊥
never_first n front [] f a e = true≢false (sym a)
never_first n front (i ∷ ns) f a e = go (eqb n i) a e (never_first n (Some i) ns refl)
  where
    go : (c : Bool) → (c || is_among n ns) ≡ true → cond c front (newer_behind (Some i) n ns) ≡ None → (is_among n ns ≡ true → newer_behind (Some i) n ns ≡ None → ⊥) → ⊥
    go true h j again = true≢false (sym f ∙ ap is_some j)
    go false h j again = again h j

-- one with none in front is the newest
pub newest_is : (n : ℕ) (ns : List ℕ) → is_among n ns ≡ true → newer_behind None n ns ≡ None → newest_of ns ≡ Some n
newest_is n [] a e = absurd (true≢false (sym a))
newest_is n (m ∷ ns) a e = go (eqb n m) refl a e
  where
    go : (b : Bool) → eqb n m ≡ b → (b || is_among n ns) ≡ true → cond b None (newer_behind (Some m) n ns) ≡ None → newest_of (m ∷ ns) ≡ Some n
    go true q h j = ap Some (sym (eqb-true n m q))
    go false q h j = absurd (never_first n (Some m) ns refl h j)

-- what a test for none says
pub none_if : {X : Type 0} (o : Option X) (b : Bool) → is_some o ≡ not b → b ≡ true → is_none o ≡ true
none_if None b e t = refl
none_if (Some x) b e t = absurd (true≢false (e ∙ ap not t))
