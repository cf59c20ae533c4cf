-- Slots by number, each with a version or empty.
use Rattle.std.specs.Prelude.{◌≡◌, ℕ, ◌==◌, List, [], ◌∷◌, ◌++◌, count_by, is_none, slice_get, slice_index_or, slice_set, if◌then◌else◌, Option, None, Some}
use Rattle.std.specs.Option.{option_map}
use Rattle.mvo_types.specs.RowData.{RowData}
use Rattle.mvo_word.specs.declared.held.Held.{Held}
use Rattle.mvo_word.specs.declared.held.Held.TheVariants.{Infinity}
use Rattle.mvo_chain.specs.declared.version.Version.{Version}
use Rattle.mvo_chain.specs.declared.version.VersionNo.{VersionNo}

abbrev pub Slots : Type 0
Slots = List (Option Version)

-- the version with this number, if there is one
abbrev pub version_at : Slots → VersionNo → Option Version
version_at slots number = slice_index_or slots number.0 None

-- the number is that of an empty slot
abbrev pub IsHole : Slots → VersionNo → Type 0
IsHole slots number = slice_get slots number.0 ≡ Some None

-- how many slots are empty
abbrev pub hole_count : Slots → ℕ
hole_count slots = count_by is_none slots

-- the slots with an empty one: one more where none is empty
abbrev pub with_room : Slots → Slots
with_room slots = if hole_count slots == 0 then slots ++ None ∷ [] else slots

-- a version that was just added: nobody has ended it
abbrev pub added : RowData → Held → Version
added line held = record { row = line; begin = held; end = Infinity }

-- the slots with this at the number
abbrev pub with_slot : Slots → VersionNo → Option Version → Slots
with_slot slots number version = slice_set slots number.0 version

-- the slots where the version with the number is changed so, and no other
abbrev pub with_change : Slots → VersionNo → (Version → Version) → Slots
with_change slots number change =
    with_slot slots number (option_map change (version_at slots number))
