-- When entries are the same, and entries each of which is noted once.
use Rattle.std.specs.Prelude.{◌==◌, ◌&&◌, Bool, false, if◌then◌else◌, List, [], ◌∷◌, ◌++◌}
use Rattle.std.specs.List.{list_any}
use Rattle.mvo_types.specs.declared.entry.Entry.{Entry}
use Rattle.mvo_types.specs.declared.entry.Entry.TheVariants.{Key, Range}

-- of one kind, with the same numbers
abbrev pub is_same : Entry → Entry → Bool
is_same (Key k) (Key j) = (k.table == j.table) && (k.key == j.key)
is_same (Key k) (Range table lo hi) = false
is_same (Range table lo hi) (Key k) = false
is_same (Range table lo hi) (Range table' lo' hi') =
    (table == table') && ((lo == lo') && (hi == hi'))

-- whether the entry is among these
abbrev pub has_entry : List Entry → Entry → Bool
has_entry es e = list_any (is_same e) es

-- with the entry, which is not added twice
abbrev pub with_entry : List Entry → Entry → List Entry
with_entry es e = if has_entry es e then es else es ++ e ∷ []
