-- The bits of a word are read back from what it holds.
use Rattle.std.proofs.Common.{◌≡◌, ℕ, ◌-◌, ◌^◌, ◌≤◌, Bool, true, false, cond, eqb, ltb, refl, sym, ap, arith}
use Rattle.std.proofs.lemmas.Bool.{eqb-true, ltb-false}
use Rattle.mvo_word.specs.declared.held.Held.TheVariants.{At, By, Infinity}
use Rattle.mvo_word.specs.declared.word.Word.TheInside.{Inside}
use Rattle.mvo_word.specs.Bits.{held_in, bits_of}

by_cases : (is_low is_last : Bool) (n : ℕ)
    → (is_low ≡ false → 2 ^ 63 ≤ n) → (is_last ≡ true → n ≡ 2 ^ 63 - 1)
    → bits_of (cond is_low (cond is_last Infinity (At (record { 0 = n })))
    (By (record { 0 = n - 2 ^ 63 }))) ≡ n
by_cases true true n high last = sym (last refl)
by_cases true false n high last = refl
by_cases false is_last n high last = let above : 2 ^ 63 ≤ n = high refl in omega (arith, above)

pub bits_of-held_in : (n : ℕ) → bits_of (held_in n) ≡ n
bits_of-held_in n =
    by_cases (ltb n (2 ^ 63)) (eqb n (2 ^ 63 - 1)) n
    (ltb-false n (2 ^ 63)) (eqb-true n (2 ^ 63 - 1))

-- a word is the one with the bits of what it holds
pub word-bits_of : (w : Inside) → record { bits = bits_of (held_in w.bits) } ≡ w
word-bits_of w = ap (λ (n : ℕ). record { bits = n }) (bits_of-held_in w.bits)
