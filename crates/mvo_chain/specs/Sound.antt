-- What ties the slots to the stack of empty ones.
use Rattle.std.specs.Prelude.{◌≡◌, ◌≢◌, ℕ, ◌<◌, ◌≤◌, ◌^◌, List, length, slice_index_or}
use Rattle.mvo_chain.specs.declared.version.VersionNo.{VersionNo}
use Rattle.mvo_chain.specs.Slots.{Slots, IsHole, hole_count}

-- each empty slot stands on the stack once, and the stack has room for every slot's number
pub record IsChainSound (slots : Slots) (holes : List VersionNo) (room : ℕ) : Type 0 where
  pub counted : hole_count slots ≡ length holes
  pub empty : (k : ℕ) (number : VersionNo) → k < length holes
      → IsHole slots (slice_index_or holes k number)
  pub apart : (j k : ℕ) (number : VersionNo) → j < k → k < length holes
      → (slice_index_or holes j number).0 ≢ (slice_index_or holes k number).0
  pub roomy : length slots ≤ room
  pub numbered : length slots ≤ 2 ^ 32
