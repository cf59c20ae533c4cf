-- What a queue is to its callers, and how it is kept in pieces.
use Rattle.std.specs.Prelude.{◌≡◌, ℕ, ◌+◌, ◌-◌, ◌*◌, ◌<◌, ◌≤◌, ◌^◌, List, length}
use Rattle.std.specs.List.{All, flat_map}
use Rattle.mvo_queue.specs.Cut.{AreCut}

-- the items, the first one in front, and for how many more there is room
pub record QueueData (A : Type 0) : Type 0 where
  pub items : List A
  pub room : ℕ

-- The pieces hold so many items together, and can hold as many as have the size, of which those
-- that are skipped are gone from the first.
pub record IsInPieces {X A : Type 0} (items : X → List A) (capacity : X → ℕ)
    (size skipped len : ℕ) (pieces : List X) : Type 0 where
  pub cut : AreCut items size (size - skipped) pieces (flat_map items pieces)
  pub count : length (flat_map items pieces) ≡ len
  pub first : skipped < size
  pub within : skipped + len ≤ length pieces * size
  pub few : length pieces * size < 2 ^ 64
  pub wide : All (λ piece. size ≤ capacity piece) pieces
