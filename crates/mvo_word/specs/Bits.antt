-- A word of 64 bits as contracts see it.
use Rattle.std.specs.Prelude.{ℕ, ◌+◌, ◌-◌, ◌^◌, ◌==◌, nat_lt, if◌then◌else◌}
use Rattle.mvo_word.specs.declared.held.Held.{Held}
use Rattle.mvo_word.specs.declared.held.Held.TheVariants.{At, By, Infinity}

-- what a word of these bits holds: with the top bit an id, otherwise a timestamp or infinity
abbrev pub held_in : ℕ → Held
held_in bits =
    if nat_lt bits (2 ^ 63)
    then (if bits == 2 ^ 63 - 1 then Infinity else At (record { 0 = bits }))
    else By (record { 0 = bits - 2 ^ 63 })

-- the bits of a word that holds this
abbrev pub bits_of : Held → ℕ
bits_of (At stamp) = stamp.0
bits_of (By id) = id.0 + 2 ^ 63
bits_of Infinity = 2 ^ 63 - 1
