-- The slots of an open table.
use Rattle.std.specs.Prelude.{◌≡◌, ◌≢◌, ℕ, ◌<◌, ◌≤◌, Bool, true, false, count_by, Option, None, Some, List, length, slice_index_or}
use Rattle.std.specs.List.{filter_map}
use Rattle.mvo_types.specs.declared.row.RowKey.{RowKey}
use Rattle.mvo_hash.specs.declared.slot.Slot.{Slot}
use Rattle.mvo_hash.specs.declared.slot.State.{State}
use Rattle.mvo_hash.specs.declared.slot.State.TheVariants.{Empty, Left, Live}

abbrev pub empty_slot : Slot
empty_slot = record { key = 0; number = 0; table = 0; state = Empty }

abbrev pub left_slot : Slot
left_slot = record { key = 0; number = 0; table = 0; state = Left }

abbrev pub live_slot : RowKey → ℕ → Slot
live_slot k n = record { key = k.key; number = n; table = k.table; state = Live }

abbrev pub slot_key : Slot → RowKey
slot_key s = record { table = s.table; key = s.key }

abbrev pub IsLive : Slot → Type 0
IsLive s = s.state ≡ Live

-- the slot at a place, which is empty past the end
abbrev pub slot : List Slot → ℕ → Slot
slot ss i = slice_index_or ss i empty_slot

abbrev pub is_used_state : State → Bool
is_used_state Empty = false
is_used_state Left = true
is_used_state Live = true

-- whether the slot has held a key since the table was made, so that a search goes on behind it
abbrev pub is_used : Slot → Bool
is_used s = is_used_state s.state

-- how many slots are used
abbrev pub used_count : List Slot → ℕ
used_count ss = count_by is_used ss

abbrev pub is_live_state : State → Bool
is_live_state Empty = false
is_live_state Left = false
is_live_state Live = true

abbrev pub is_live : Slot → Bool
is_live s = is_live_state s.state

-- how many keys stand in slots
abbrev pub live_count : List Slot → ℕ
live_count ss = count_by is_live ss

abbrev pub held_by : State → RowKey × ℕ → Option (RowKey × ℕ)
held_by Empty e = None
held_by Left e = None
held_by Live e = Some e

-- the entry that a slot holds
abbrev pub slot_entry : Slot → Option (RowKey × ℕ)
slot_entry s = held_by s.state (slot_key s, s.number)

-- the keys with their numbers
abbrev pub slot_entries : List Slot → List (RowKey × ℕ)
slot_entries ss = filter_map slot_entry ss

-- no slot from one place up to another is empty
pub record IsFilled (ss : List Slot) (from to : ℕ) : Type 0 where
  pub at : (i : ℕ) → from ≤ i → i < to → (slot ss i).state ≢ Empty

-- a search from the home comes to the place: no slot before is empty, where slot 0 follows the last
pub record IsProbed (ss : List Slot) (home i : ℕ) : Type 0 where
  pub ahead : home ≤ i → IsFilled ss home i
  pub behind : i < home → IsFilled ss home (length ss)
  pub front : i < home → IsFilled ss 0 i

-- a search for the key from its home comes to it
pub record IsReached (ss : List Slot) (home : ℕ) (key : RowKey) : Type 0 where
  pub at : (i : ℕ) → IsLive (slot ss i) → slot_key (slot ss i) ≡ key → IsProbed ss home i

pub record IsFoundAt (ss : List Slot) (key : RowKey) (i : ℕ) : Type 0 where
  pub within : i < length ss
  pub live : IsLive (slot ss i)
  pub same : slot_key (slot ss i) ≡ key

pub record IsNowhere (ss : List Slot) (key : RowKey) : Type 0 where
  pub at : (i : ℕ) → IsLive (slot ss i) → slot_key (slot ss i) ≢ key

-- no slot from one place up to another holds the key
pub record IsNowhereIn (ss : List Slot) (from to : ℕ) (key : RowKey) : Type 0 where
  pub at : (i : ℕ) → from ≤ i → i < to → IsLive (slot ss i) → slot_key (slot ss i) ≢ key

-- a search for the key ends here: at the key, or at a slot that is empty
abbrev pub IsEnding : List Slot → RowKey → ℕ → Type 0
IsEnding ss key i = (slot ss i).state ≢ Empty → IsFoundAt ss key i

-- a place that holds no key, to which a search from the home comes
pub record IsFreeFrom (ss : List Slot) (home i : ℕ) : Type 0 where
  pub within : i < length ss
  pub free : (slot ss i).state ≢ Live
  pub probed : IsProbed ss home i

-- some slot was never used
abbrev pub HasUnused : List Slot → Type 0
HasUnused ss = used_count ss < length ss
