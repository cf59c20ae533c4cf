-- What a search has gone over.
use Rattle.std.proofs.Common.{ℕ, ◌<◌, ◌≤◌, List, length, arith}
use Rattle.mvo_hash.specs.declared.slot.Slot.{Slot}
use Rattle.mvo_hash.specs.Slots.{slot, IsLive, IsFilled, HasUnused}
use Rattle.mvo_hash.proofs.Counts.{filled_used}

-- each slot from one place up to another holds a key
abbrev pub AreHeld : List Slot → ℕ → ℕ → Type 0
AreHeld ss from to = (j : ℕ) → from ≤ j → j < to → IsLive (slot ss j)

-- not every slot holds a key where one was never used
pub some_free : (ss : List Slot) → HasUnused ss → AreHeld ss 0 (length ss) → ⊥
some_free ss unused held =
    let filled : IsFilled ss 0 (length ss) = record { at = λ j a b empty. let l = held j a b in cc } in
    omega (arith, filled_used ss filled, unused)
