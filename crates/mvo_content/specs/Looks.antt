-- Looks in the order of the first use.
use Rattle.std.specs.Prelude.{◌≡◌, ◌-◌, ◌<◌, ◌≤◌, ℕ, if◌then◌else◌, List, [], ◌∷◌, length, min, cond, nat_lt, Option, None, Some}
use Rattle.mvo_types.specs.declared.entry.Entry.{Entry}
use Rattle.mvo_types.specs.Entries.{is_same}
use Rattle.mvo_shared.specs.Kept.{Looked}
use Rattle.mvo_content.specs.declared.rows_shown.RowsShown.{RowsShown}
use Rattle.mvo_content.specs.declared.looks.TheConstants.{FEW}
use Rattle.mvo_content.specs.Shown.{rows_in}

-- looks, and how many more at least can be kept without memory
pub record LooksData : Type 0 where
  pub looked : List Looked
  pub room : ℕ

abbrev pub look_of : Entry × RowsShown → Looked
look_of l = record { entry = l.0; rows = rows_in l.1 }

-- the first few lie in a list, and those behind them in a map, which has none before
pub record FewLooksFirst (few behind : List (Entry × RowsShown)) : Type 0 where
  pub most : length few ≤ FEW
  pub order : length few < FEW → behind ≡ []

-- room for one where so many and no more lie in a list with this capacity, or else that of the map
abbrev pub look_room : (few capacity spare : ℕ) → ℕ
look_room few capacity spare = cond (nat_lt few FEW) (min 1 (capacity - few)) spare

-- what is kept for the entry, if it is kept
abbrev pub look_at : List (Entry × RowsShown) → Entry → Option RowsShown
look_at [] e = None
look_at (l ∷ ls) e = if is_same e l.0 then Some l.1 else look_at ls e
