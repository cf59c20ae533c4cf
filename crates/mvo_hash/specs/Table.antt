-- An open table as a finite map.
use Rattle.std.specs.Prelude.{◌≡◌, ℕ, ◌≤◌, ◌-◌, List, length, refl}
use Rattle.std.specs.Coded.{Coded, code_by, coded×, coded_ℕ}
use Rattle.std.specs.FinMap as map
use Rattle.mvo_types.specs.declared.row.RowKey.{RowKey}
use Rattle.mvo_types.specs.Keys.{key_cmp, coded_key}
use Rattle.mvo_hash.specs.declared.slot.Slot.{Slot}
use Rattle.mvo_hash.specs.declared.seeds.Seeds.{Seeds}
use Rattle.mvo_hash.specs.Home.{hash_of, home_of}
use Rattle.mvo_hash.specs.Slots.{slot, slot_key, IsLive, IsReached, slot_entries, used_count, live_count}

-- a finite map from keys to numbers
abbrev pub KeyNumbers : Type 0
KeyNumbers = map.FinMap key_cmp ℕ

abbrev pub coded_key_numbers : Coded KeyNumbers
coded_key_numbers = map.code coded_key coded_ℕ

abbrev pub map_of : List Slot → KeyNumbers
map_of ss = map.from_entries (slot_entries ss)

abbrev pub coded_seeds : Coded Seeds
coded_seeds =
    code_by (ℕ × ℕ) (coded× coded_ℕ coded_ℕ) (λ s. (s.first, s.second))
    (λ p. record { first = p.0; second = p.1 }) (λ _. refl)

-- the number of each key, how many more keys can be put before a key is moved, and what the hashes
-- of keys depend on
pub record Table : Type 0 where
  pub seeds : Seeds
  pub numbers : KeyNumbers
  pub room : ℕ

abbrev pub coded_table : Coded Table
coded_table =
    code_by (Seeds × (KeyNumbers × ℕ)) (coded× coded_seeds (coded× coded_key_numbers coded_ℕ))
    (λ t. (t.seeds, (t.numbers, t.room)))
    (λ p. record { seeds = p.0; numbers = p.1.0; room = p.1.1 }) (λ _. refl)

-- no key yet, and room for so many
abbrev pub no_keys : Seeds → ℕ → Table
no_keys seeds room = record { seeds = seeds; numbers = map.empty; room = room }

-- the hash is that of the key
abbrev pub IsHash : Table → RowKey → ℕ → Type 0
IsHash t key hash = hash ≡ hash_of t.seeds.first t.seeds.second key

-- the room is what is left of the slots that may be used
abbrev pub table_of : Seeds → ℕ → ℕ → List Slot → Table
table_of seeds most used ss =
    record { seeds = seeds; numbers = map_of ss; room = most - used }

-- each key stands once, where a search from its home among so many finds it
pub record IsHashTable (first second homes : ℕ) (ss : List Slot) : Type 0 where
  pub reached : (key : RowKey) → IsReached ss (home_of first second homes key) key
  pub apart : (i j : ℕ) → IsLive (slot ss i) → IsLive (slot ss j)
      → slot_key (slot ss i) ≡ slot_key (slot ss j) → i ≡ j

-- a table whose used slots and keys are counted, with no more used slots than may be, each slot of
-- which is a home
pub record IsHeads (first second most used keys : ℕ) (ss : List Slot) : Type 0 where
  pub table : IsHashTable first second (length ss) ss
  pub counted : used ≡ used_count ss
  pub live : keys ≡ live_count ss
  pub room : used ≤ most
  pub long : most ≤ length ss
