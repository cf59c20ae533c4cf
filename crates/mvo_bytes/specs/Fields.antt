-- A number as bytes.
use Rattle.std.specs.Prelude.{ℕ, List}
use Rattle.byteorder.specs.Endian.{little_bytes}

-- the number x in n bytes, the lowest first
unfoldable pub field : ℕ → ℕ → List ℕ
field n x = little_bytes n x
