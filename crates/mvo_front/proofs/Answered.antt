-- Each number is answered as often as there are jobs with it, where each place was taken once.
use Rattle.std.proofs.Common.{◌≡◌, ℕ, zero, suc, ◌+◌, ◌*◌, ◌<◌, ◌≤◌, List, [], ◌∷◌, length, Bool, cond, ◌==◌, refl, sym, ap, ◌∙◌, arith}
use Rattle.std.specs.Prelude.{slice_get, Some, Option, None, count_by, map}
use Rattle.std.proofs.lemmas.List.{length-drop}
use Rattle.std.proofs.lemmas.List.Sums.{sum_by-cons}
use Rattle.std.proofs.lemmas.Bool.Decides.{nat_tests}
use Rattle.std.proofs.Math.Dec.{eqb-suc-suc, eqb-suc-zero, eqb-zero-suc}
use Rattle.mvo_front.specs.Job.{JobData}
use Rattle.mvo_front.specs.declared.outcome.Outcome.{Outcome}
use Rattle.mvo_front.specs.Outcomes.{AreAnswered, AreRun}
use Rattle.mvo_front.proofs.Ran.{numbers_of}
use Rattle.mvo_front.specs.Queue.{Took, is_one, times_taken, once_below, AllBelow, AreAt, IsServed}

-- ---- sums over places
abbrev sum_to : (ℕ → ℕ) → ℕ → ℕ
sum_to f zero = 0
sum_to f (suc n) = f zero + sum_to (λ k. f (suc k)) n

sum_same : (f g : ℕ → ℕ) (n : ℕ) → ((k : ℕ) → k < n → f k ≡ g k) → sum_to f n ≡ sum_to g n
sum_same f g zero h = refl
sum_same f g (suc n) h =
    let first = h zero (omega arith) in
    let rest = sum_same (λ k. f (suc k)) (λ k. g (suc k)) n (λ k lt. h (suc k) (omega arith)) in
    omega (arith, first, rest)

sum_none : (f : ℕ → ℕ) (n : ℕ) → ((k : ℕ) → f k ≡ 0) → sum_to f n ≡ 0
sum_none f zero h = refl
sum_none f (suc n) h =
    let first = h zero in
    let rest = sum_none (λ k. f (suc k)) n (λ k. h (suc k)) in
    omega (arith, first, rest)

sum_both : (f g : ℕ → ℕ) (n : ℕ) → sum_to (λ k. f k + g k) n ≡ sum_to f n + sum_to g n
sum_both f g zero = refl
sum_both f g (suc n) = let rest = sum_both (λ k. f (suc k)) (λ k. g (suc k)) n in omega (arith, rest)

one_next : (k x : ℕ) → is_one (suc k) (suc x) ≡ is_one k x
one_next k x = ap (λ (b : Bool). cond b 1 0) (eqb-suc-suc k x)

one_zero : is_one zero zero ≡ 1
one_zero = refl

one_first : (x : ℕ) → is_one zero (suc x) ≡ 0
one_first x = ap (λ (b : Bool). cond b 1 0) (eqb-zero-suc x)

one_later : (k : ℕ) → is_one (suc k) zero ≡ 0
one_later k = ap (λ (b : Bool). cond b 1 0) (eqb-suc-zero k)

-- the place x alone
sum_one : (g : ℕ → ℕ) (n x : ℕ) → x < n → sum_to (λ k. is_one k x * g k) n ≡ g x
sum_one g zero x lt = absurd (omega (arith, lt))
sum_one g (suc n) zero lt =
    let rest = sum_none (λ k. is_one (suc k) zero * g (suc k)) n (λ k. ap (λ (y : ℕ). y * g (suc k)) (one_later k) ∙ omega arith) in
    let first : is_one zero zero * g zero ≡ g zero = ap (λ (y : ℕ). y * g zero) one_zero ∙ omega arith in
    omega (arith, rest, first)
sum_one g (suc n) (suc x) lt =
    let rest = sum_same (λ k. is_one (suc k) (suc x) * g (suc k)) (λ k. is_one k x * g (suc k)) n (λ k _. ap (λ (y : ℕ). y * g (suc k)) (one_next k x)) in
    let there = sum_one (λ k. g (suc k)) n x (omega (arith, lt)) in
    let first : is_one zero (suc x) * g zero ≡ 0 = ap (λ (y : ℕ). y * g zero) (one_first x) ∙ omega arith in
    omega (arith, rest, there, first)

-- ---- what was taken, weighed by place
abbrev weigh : (ℕ → ℕ) → List Took → ℕ
weigh g [] = 0
weigh g (t ∷ ts) = g t.0 + weigh g ts

weighed : (g : ℕ → ℕ) (n : ℕ) (ts : List Took) → AllBelow n ts → sum_to (λ k. times_taken k ts * g k) n ≡ weigh g ts
weighed g n [] b = sum_none (λ k. 0 * g k) n (λ k. omega arith)
weighed g n (t ∷ ts) b =
    let split = sum_same (λ k. (is_one k t.0 + times_taken k ts) * g k) (λ k. is_one k t.0 * g k + times_taken k ts * g k) n (λ k _. omega arith) in
    let both = sum_both (λ k. is_one k t.0 * g k) (λ k. times_taken k ts * g k) n in
    let one = sum_one g n t.0 b.0 in
    let rest = weighed g n ts b.1 in
    split ∙ (both ∙ omega (arith, one, rest))

once_is_one : (k m : ℕ) → k < m → once_below k m ≡ 1
once_is_one k m lt = grind (arith, nat_tests)

abbrev bit : Bool → ℕ
bit b = cond b 1 0

count_next : {X : Type 0} (p : X → Bool) (x : X) (xs : List X) → count_by p (x ∷ xs) ≡ bit (p x) + count_by p xs
count_next p x xs = sum_by-cons (λ y. bit (p y)) x xs

-- how much the job at a place weighs
abbrev weight : (JobData → Bool) → Option JobData → ℕ
weight p None = 0
weight p (Some j) = bit (p j)

counted_put : (p : JobData → Bool) (put : List JobData) → sum_to (λ k. weight p (slice_get put k)) (length put) ≡ count_by p put
counted_put p [] = refl
counted_put p (x ∷ xs) = ap (λ (n : ℕ). bit (p x) + n) (counted_put p xs) ∙ sym (count_next p x xs)

counted_taken : (p : JobData → Bool) (put : List JobData) (ts : List Took) → AreAt put ts → count_by (λ t. p t.1) ts ≡ weigh (λ k. weight p (slice_get put k)) ts
counted_taken p put [] h = refl
counted_taken p put (t ∷ ts) h =
    let rest = counted_taken p put ts h.1 in
    let first : weight p (slice_get put t.0) ≡ bit (p t.1) = ap (weight p) h.0 in
    let next = count_next (λ (t : Took). p t.1) t ts in
    omega (arith, rest, first, next)

none_is_some : (y : JobData) → ◌≡◌ {A = Option JobData} None (Some y) → ⊥
none_is_some y e = cc

within : (put : List JobData) (k : ℕ) (j : JobData) → slice_get put k ≡ Some j → k < length put
within [] k j e = absurd (none_is_some j e)
within (x ∷ xs) zero j e = omega arith
within (x ∷ xs) (suc k) j e = let rest = within xs k j e in omega (arith, rest)

below : (put : List JobData) (ts : List Took) → AreAt put ts → AllBelow (length put) ts
below put [] h = tt
below put (t ∷ ts) h = (within put t.0 t.1 h.0, below put ts h.1)

abbrev outcome_numbers : List Outcome → List ℕ
outcome_numbers = map (λ o. o.number)

abbrev numbers_taken : List Took → List ℕ
numbers_taken = map (λ t. t.1.number)

counted_by_number : (n : ℕ) (os : List Outcome) → count_by (λ o. o.number == n) os ≡ count_by (λ k. k == n) (outcome_numbers os)
counted_by_number n [] = refl
counted_by_number n (o ∷ os) =
    count_next (λ (o : Outcome). o.number == n) o os
    ∙ (ap (λ (k : ℕ). bit (o.number == n) + k) (counted_by_number n os)
    ∙ sym (count_next (λ (k : ℕ). k == n) o.number (outcome_numbers os)))

counted_by_job : (n : ℕ) (ts : List Took) → count_by (λ t. t.1.number == n) ts ≡ count_by (λ k. k == n) (numbers_taken ts)
counted_by_job n [] = refl
counted_by_job n (t ∷ ts) =
    count_next (λ (t : Took). t.1.number == n) t ts
    ∙ (ap (λ (k : ℕ). bit (t.1.number == n) + k) (counted_by_job n ts)
    ∙ sym (count_next (λ (k : ℕ). k == n) t.1.number (numbers_taken ts)))

all_counted : (put : List JobData) (ts : List Took) (os : List Outcome) → IsServed put ts [] → outcome_numbers os ≡ numbers_taken ts → AreAnswered put os
all_counted put ts os served same n =
    let p : JobData → Bool = λ j. j.number == n in
    let all : length put ≤ served.count =
    let e = ap (λ (xs : List JobData). length xs) served.left_is ∙ length-drop served.count put in omega (arith, e) in
    let g : ℕ → ℕ = λ k. weight p (slice_get put k) in
    let places = weighed g (length put) ts (below put ts served.are_at) in
    let ones = sum_same (λ k. times_taken k ts * g k) g (length put) (λ k lt. ap (λ (x : ℕ). x * g k) (served.once k ∙ once_is_one k served.count (omega (arith, lt, all))) ∙ omega arith) in
    counted_by_number n os
    ∙ (ap (count_by (λ k. k == n)) same
    ∙ (sym (counted_by_job n ts)
    ∙ (counted_taken p put ts served.are_at ∙ (sym places ∙ (ones ∙ counted_put p put)))))

-- jobs that were run are answered by their numbers
pub all_answered : (R : JobData → Outcome → Type 0) (jobs : List JobData) (os : List Outcome) → AreRun R jobs os → AreAnswered jobs os
all_answered R jobs os run = all_counted jobs run.0 os run.1 (numbers_of R run.0 os run.2)
