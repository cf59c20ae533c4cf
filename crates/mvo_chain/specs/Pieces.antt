-- A list in pieces.
use Rattle.std.specs.Prelude.{◌≡◌, ℕ, ◌+◌, ◌-◌, ◌<◌, List, [], ◌∷◌, length}

-- the pieces have so many items together: none is empty, and all but the last have the size
abbrev pub IsPieced : {X A : Type 0} → (X → List A) → ℕ → List X → ℕ → Type 0
IsPieced items size [] len = len ≡ 0
IsPieced items size (piece ∷ pieces) len =
    (0 < len) × (length (items piece) + (len - size) ≡ len)
    × IsPieced items size pieces (len - size)
