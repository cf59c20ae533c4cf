-- A list cut into pieces.
use Rattle.std.specs.Prelude.{◌≡◌, ℕ, zero, suc, ◌-◌, ◌<◌, ◌≤◌, List, [], ◌∷◌, take, drop}

-- the pieces hold the list: the first as much of it as there is room for, and each other one as
-- much of the rest as has the size
abbrev pub AreCut : {X A : Type 0} → (X → List A) → ℕ → ℕ → List X → List A → Type 0
AreCut items size room [] list = list ≡ []
AreCut items size room (piece ∷ pieces) list =
    (items piece ≡ take room list) × AreCut items size size pieces (drop room list)

-- what is at a place of the list is in this piece, at this place
abbrev pub IsInPiece : ℕ → ℕ → ℕ → ℕ → ℕ → Type 0
IsInPiece size room at zero inner = (inner ≡ at) × (at < room)
IsInPiece size room at (suc piece) inner = (room ≤ at) × IsInPiece size size (at - room) piece inner
