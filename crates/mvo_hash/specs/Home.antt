-- Where the search for a key begins.
use Rattle.std.specs.Prelude.{ℕ, ◌*◌, ◌/◌, ◌%◌, ◌^◌, bit_and, bit_xor}
use Rattle.mvo_types.specs.declared.row.RowKey.{RowKey}

-- the two halves of the product, joined
unfoldable pub folded : ℕ → ℕ → ℕ
folded a b = bit_xor (bit_and (a * b) 0xFFFF_FFFF_FFFF_FFFF) ((a * b) / 2 ^ 64)

unfoldable pub hash_of : ℕ → ℕ → RowKey → ℕ
hash_of first second key = folded (bit_xor key.key first) (bit_xor second key.table)

-- the hash as a fraction of the homes
unfoldable pub home_in : ℕ → ℕ → ℕ
home_in homes hash = (hash * homes) / 2 ^ 64

unfoldable pub home_of : ℕ → ℕ → ℕ → RowKey → ℕ
home_of first second homes key = home_in homes (hash_of first second key)

-- how many tables the keys are shared out among
abbrev pub shard_count : ℕ
shard_count = 256

-- the table of a key: by the bits of its hash that say least about its home there
abbrev pub shard_of : ℕ → ℕ
shard_of hash = hash % shard_count
