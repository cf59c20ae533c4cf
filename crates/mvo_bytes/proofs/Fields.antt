-- A field that is read is the field that was written, and what was written is read again.
use Rattle.std.proofs.Common.{◌≡◌, ℕ, zero, suc, ◌+◌, ◌*◌, ◌^◌, ◌<◌, ◌≤◌, ◌↔◌, ◌/◌, ◌%◌, Bool, true, false, cond, ltb, List, [], ◌∷◌, ◌++◌, length, get_or, take, drop, Option, Some, None, refl, sym, ap, subst, ◌∙◌, append_assoc, arith, inl, inr}
use Rattle.std.proofs.Math.Nat.{div-div-eq-div-mul, pow-succ'}
use Rattle.std.specs.Prelude.{IsTrue}
use Rattle.std.specs.Int.{byte_at, bytes_low_first}
use Rattle.std.proofs.lemmas.Bool.{cases_lt, ltb-false, le-ltb}
use Rattle.std.proofs.lemmas.List.{drop_at, take-append-drop, length-append, length-take, get_or-drop, get_or-take, get_or_past}
use Rattle.byteorder.specs.Endian.{little_number, little_bytes}
use Rattle.byteorder.specs.Numbers.{little_from-cons, little_from-take, little_from-lt, little_number-reads_back, length-bytes_low_first}
use Rattle.mvo_bytes.specs.Fields.{field}
use Rattle.mvo_bytes.specs.Reading.{◌>>=◌, number_at}

abbrev pub IsBytes : List ℕ → Type 0
IsBytes bytes = (i : ℕ) → get_or bytes i 0 < 256

pub IsBytes-drop : (n : ℕ) (bytes : List ℕ) → IsBytes bytes → IsBytes (drop n bytes)
IsBytes-drop n bytes h i = rw get_or-drop (h (n + i))

pub IsBytes-take : (n : ℕ) (bytes : List ℕ) → IsBytes bytes → IsBytes (take n bytes)
IsBytes-take n bytes h i =
    elim (cases_lt i n) [
      | inl lt ↦ rw (get_or-take n bytes i 0 lt) (h i)
      | inr le ↦ rw (get_or_past (take n bytes) i 0 (omega (arith, length-take n bytes))) (omega arith)
    ]

-- the value of a step that did not fail
pub bind_some : {A B : Type 0} (r : Option A) (f : A → Option B) (y : B) → (r >>= f) ≡ Some y → (x : A) × (r ≡ Some x) × (f x ≡ Some y)
bind_some (Some x) f y e = (x, refl, e)
bind_some None f y e = absurd cc

-- a test that did not fail
pub guard_some : {A : Type 0} (b : Bool) (x : Option A) (y : A) → cond b None x ≡ Some y → (b ≡ false) × (x ≡ Some y)
guard_some true x y e = absurd cc
guard_some false x y e = (refl, e)

-- a test and the fact that it stands for
pub answers : {P : Type 0} (b t : Bool) → (t ≡ true → P) → (P → t ≡ true) → b ≡ t → IsTrue b ↔ P
answers true t to from e = (λ _. to (sym e), λ _. refl)
answers false t to from e = (λ h. absurd cc, λ p. let h : false ≡ true = e ∙ from p in h)

abbrev done : {A : Type 0} → A → Option A
done x = Some x

pub some_is : {A : Type 0} (x y : A) → done x ≡ done y → x ≡ y
some_is x y e = cc

-- what a reader took from the front
pub record Takes (bytes text rest : List ℕ) : Type 0 where
  pub parts : bytes ≡ text ++ rest
  pub rest_fits : IsBytes rest

pub Takes-then : (a x b y c : List ℕ) → Takes a x b → Takes b y c → Takes a (x ++ y) c
Takes-then a x b y c p q = record { parts = p.parts ∙ ap (λ (t : List ℕ). x ++ t) q.parts ∙ sym (append_assoc x y c); rest_fits = q.rest_fits }

-- ---- numbers

byte_at-suc : (i x : ℕ) → byte_at (suc i) x ≡ byte_at i (x / 256)
byte_at-suc zero x = refl
byte_at-suc (suc i) x = ap (λ y. y % 256) (ap (λ p. x / p) (pow-succ' 256 (suc i)) ∙ sym (div-div-eq-div-mul x 256 (256 ^ suc i)))

low_first-suc : (i n x : ℕ) → bytes_low_first (suc i) n x ≡ bytes_low_first i n (x / 256)
low_first-suc i zero x = refl
low_first-suc i (suc n) x = rw (byte_at-suc i x, low_first-suc (suc i) n x) refl

-- the bytes of the number in some bytes are those bytes
pub number_back : (n : ℕ) (bytes : List ℕ) → length bytes ≡ n → IsBytes bytes → little_bytes n (little_number n bytes) ≡ bytes
number_back zero [] len fits = refl
number_back zero (b ∷ bytes) len fits = absurd (omega arith)
number_back (suc n) [] len fits = absurd (omega arith)
number_back (suc n) (b ∷ bytes) len fits =
    let m = little_number n bytes in
    let is : little_number (suc n) (b ∷ bytes) ≡ b + 256 * m = ap (λ r. b + 256 * r) (little_from-cons 0 n b bytes) in
    let small : b < 256 = fits 0 in
    let low : (b + 256 * m) % 256 ≡ b = omega arith in
    let high : (b + 256 * m) / 256 ≡ m = omega arith in
    let rest : bytes_low_first 1 n (b + 256 * m) ≡ bytes = low_first-suc 0 n (b + 256 * m) ∙ ap (λ x. bytes_low_first 0 n x) high ∙ number_back n bytes (omega arith) (λ i. fits (suc i)) in
    ap (λ x. bytes_low_first 0 (suc n) x) is ∙ rw (low, rest) refl

pub length-field : (n x : ℕ) → length (field n x) ≡ n
unfolding field
length-field n x = length-bytes_low_first 0 n x

pub number_takes : (n : ℕ) (bytes : List ℕ) (x : ℕ × List ℕ) → IsBytes bytes → number_at n bytes ≡ Some x → Takes bytes (field n x.0) x.1 × (x.0 < 256 ^ n)
unfolding number_at field
number_takes n bytes x fits e =
    let g = guard_some (ltb (length bytes) n) (Some (little_number n bytes, drop n bytes)) x e in
    let long : n ≤ length bytes = ltb-false _ _ g.0 in
    let is = some_is (little_number n bytes, drop n bytes) x g.1 in
    let front : little_bytes n (little_number n bytes) ≡ take n bytes = ap (λ y. little_bytes n y) (sym (little_from-take 0 n n bytes (omega arith))) ∙ number_back n (take n bytes) (omega (arith, length-take n bytes)) (IsBytes-take n bytes fits) in
    subst (λ (y : ℕ × List ℕ). Takes bytes (little_bytes n y.0) y.1 × (y.0 < 256 ^ n)) is (record { parts = sym (ap (λ (l : List ℕ). l ++ drop n bytes) front ∙ take-append-drop n bytes); rest_fits = IsBytes-drop n bytes fits }, little_from-lt 0 n bytes fits)

pub number_again : (n x : ℕ) (rest : List ℕ) → x < 256 ^ n → number_at n (field n x ++ rest) ≡ Some (x, rest)
unfolding number_at field
number_again n x rest lt =
    let len = length-bytes_low_first 0 n x in
    let long : ltb (length (little_bytes n x ++ rest)) n ≡ false = le-ltb _ _ (omega (arith, length-append (little_bytes n x) rest, len)) in
    rw (long, drop_at (little_bytes n x) rest n len, little_number-reads_back n x rest lt) refl
