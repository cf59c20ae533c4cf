-- Open tables that share the keys out among them.
use Rattle.std.specs.Prelude.{◌≡◌, ◌≢◌, ◌⊎◌, ℕ, ◌<◌, ◌≤◌, min, List, [], ◌∷◌, ◌++◌, length, slice_index_or, None}
use Rattle.std.specs.FinMap as map
use Rattle.mvo_types.specs.declared.row.RowKey.{RowKey}
use Rattle.mvo_hash.specs.declared.seeds.Seeds.{Seeds}
use Rattle.mvo_hash.specs.Home.{hash_of, shard_of, shard_count}
use Rattle.mvo_hash.specs.Table.{KeyNumbers, Table, no_keys}

abbrev pub no_table : Table
no_table = no_keys (record { first = 0; second = 0 }) 0

-- the table at a place, which is empty past the end
abbrev pub table : List Table → ℕ → Table
table ts i = slice_index_or ts i no_table

-- the keys of all tables with their numbers
abbrev pub all_entries : List Table → List (RowKey × ℕ)
all_entries [] = []
all_entries (t ∷ ts) = map.entries t.numbers ++ all_entries ts

abbrev pub joined : List Table → KeyNumbers
joined ts = map.from_entries (all_entries ts)

abbrev pub least_from : ℕ → List Table → ℕ
least_from most [] = most
least_from most (t ∷ ts) = least_from (min most t.room) ts

-- the room of the table that has the least
abbrev pub least_room : List Table → ℕ
least_room [] = 0
least_room (t ∷ ts) = least_from t.room ts

abbrev pub heads_of : Seeds → List Table → Table
heads_of seeds ts = record { seeds = seeds; numbers = joined ts; room = least_room ts }

-- the table that a key belongs to
abbrev pub shard_of_key : Seeds → RowKey → ℕ
shard_of_key seeds key = shard_of (hash_of seeds.first seeds.second key)

-- each key stands in its own table; before the first key there are no tables
pub record IsSharded (seeds : Seeds) (ts : List Table) : Type 0 where
  pub counted : (length ts ≡ 0) ⊎ (length ts ≡ shard_count)
  pub seeded : (i : ℕ) → i < length ts → (table ts i).seeds ≡ seeds
  pub placed : (i : ℕ) (key : RowKey) → map.get (table ts i).numbers key ≢ None
      → shard_of_key seeds key ≡ i

-- the tables hold what they held, and each has so much room at least
pub record AreMoved (old : List Table) (keys : ℕ) (new : List Table) : Type 0 where
  pub size : length new ≡ length old
  pub same : (i : ℕ) → (table new i).numbers ≡ (table old i).numbers
  pub seeded : (i : ℕ) → i < length old → (table new i).seeds ≡ (table old i).seeds
  pub roomy : (i : ℕ) → i < length old → keys ≤ (table new i).room
