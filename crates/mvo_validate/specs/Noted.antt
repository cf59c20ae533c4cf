-- Entries in the order of their first use.
use Rattle.std.specs.Prelude.{◌≡◌, ◌-◌, ◌<◌, ◌≤◌, ℕ, Bool, false, List, [], length, min, max, cond, nat_lt}
use Rattle.std.specs.List.{list_any}
use Rattle.mvo_types.specs.declared.entry.Entry.{Entry}
use Rattle.mvo_types.specs.declared.entry.Entry.TheVariants.{Key, Range}
use Rattle.mvo_validate.specs.declared.entries.TheConstants.{FEW}

-- entries, and how many more at least can be noted without memory
pub record EntriesData : Type 0 where
  pub noted : List Entry
  pub room : ℕ

-- the first few lie in a list, and those behind them in a set, which has none before
pub record FewComeFirst (few behind : List Entry) : Type 0 where
  pub most : length few ≤ FEW
  pub order : length few < FEW → behind ≡ []

-- room for one where so many and no more lie in a list with this capacity, or else that of the set
abbrev pub entry_room : (few capacity spare : ℕ) → ℕ
entry_room few capacity spare = cond (nat_lt few FEW) (min 1 (capacity - few)) spare

-- whether it is a key with a number above this
abbrev pub key_above : ℕ → Entry → Bool
key_above number (Key key) = nat_lt number key.key
key_above number (Range table lo hi) = false

-- no key among these has a number above this
abbrev pub HasNoKeyAbove : ℕ → List Entry → Type 0
HasNoKeyAbove number entries = list_any (key_above number) entries ≡ false

-- the greater of this and the number of a key
abbrev pub with_key : ℕ → Entry → ℕ
with_key number (Key key) = max number key.key
with_key number (Range table lo hi) = number
