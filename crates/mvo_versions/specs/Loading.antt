-- Rows that become versions, all at one mark.
use Rattle.std.specs.Prelude.{◌≡◌, ℕ, ◌≤◌, ◌^◌, List, length, map, Option, Some}
use Rattle.mvo_types.specs.RowData.{RowData}
use Rattle.mvo_word.specs.declared.held.Held.{Held}
use Rattle.mvo_chain.specs.declared.version.Version.{Version}
use Rattle.mvo_chain.specs.Slots.{Slots, added}
use Rattle.mvo_range.specs.declared.sort_place.SortPlace.{SortPlace}
use Rattle.mvo_representation.specs.Indexes.{version_place}

-- the row as a version that was put at the mark
abbrev pub as_loaded : Held → RowData → Option Version
as_loaded mark row = Some (added row mark)

-- the entry of a row's place: one run, for no other row has its key
abbrev pub entry_for : Held → RowData → SortPlace × ℕ
entry_for mark row = (version_place (added row mark), 1)

-- each of the rows has a version, in their order, and its place an entry; and there are no more
-- slots than numbers
pub record AreListed (mark : Held) (rows : List RowData) (slots : Slots)
    (entries : List (SortPlace × ℕ)) : Type 0 where
  pub slots_are : slots ≡ map (as_loaded mark) rows
  pub entries_are : entries ≡ map (entry_for mark) rows
  pub small : length slots ≤ 2 ^ 32
