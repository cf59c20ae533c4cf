-- The bytes of a row, and where they lie.
use Rattle.std.specs.Prelude.{ℕ, ◌≤◌, List, length, take}
use Rattle.std.specs.Arc.{arc_value}
use Rattle.mvo_types.specs.declared.block.Block.{Block}
use Rattle.mvo_types.specs.declared.block.Block.TheVariants.{UpTo16, UpTo32, UpTo48, UpTo64, UpTo80, UpTo96, UpTo112, Longer}

-- those that a block begins with, by its number
abbrev pub block_bytes : Block → List ℕ
block_bytes (UpTo16 n b) = take n (arc_value b)
block_bytes (UpTo32 n b) = take n (arc_value b)
block_bytes (UpTo48 n b) = take n (arc_value b)
block_bytes (UpTo64 n b) = take n (arc_value b)
block_bytes (UpTo80 n b) = take n (arc_value b)
block_bytes (UpTo96 n b) = take n (arc_value b)
block_bytes (UpTo112 n b) = take n (arc_value b)
block_bytes (Longer b) = (arc_value b).items

-- there are as many
abbrev pub IsBlock : Block → Type 0
IsBlock (UpTo16 n b) = n ≤ length (arc_value b)
IsBlock (UpTo32 n b) = n ≤ length (arc_value b)
IsBlock (UpTo48 n b) = n ≤ length (arc_value b)
IsBlock (UpTo64 n b) = n ≤ length (arc_value b)
IsBlock (UpTo80 n b) = n ≤ length (arc_value b)
IsBlock (UpTo96 n b) = n ≤ length (arc_value b)
IsBlock (UpTo112 n b) = n ≤ length (arc_value b)
IsBlock (Longer b) = Unit {0}
