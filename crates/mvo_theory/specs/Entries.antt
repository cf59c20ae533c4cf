-- What a transaction looked at, and what it wrote.
use Rattle.std.specs.Prelude.{Bool, if◌then◌else◌, List, [], ◌∷◌, ◌++◌, Option, None, Some}
use Rattle.std.specs.List.{list_any}
use Rattle.std.specs.Option.{option_map}
use Rattle.std.specs.Ordering.{eq_by_cmp}
use Rattle.mvo_types.specs.declared.row.RowKey.{RowKey}
use Rattle.mvo_types.specs.declared.op.Op.{Op}
use Rattle.mvo_types.specs.declared.op.Op.TheVariants.{Read, Scan, Insert, Update, Delete}
use Rattle.mvo_types.specs.declared.entry.Entry.{Entry}
use Rattle.mvo_types.specs.declared.entry.Entry.TheVariants.{Key, Range}
use Rattle.mvo_types.specs.Keys.{key_cmp}
use Rattle.mvo_types.specs.Entries.{with_entry}
use Rattle.mvo_model.specs.History.{History, write_of}

-- the entry of an operation: a scan's is its range, that of another its key
abbrev pub entry_of : Op → Entry
entry_of (Read k) = Key k
entry_of (Scan table lo hi) = Range table lo hi
entry_of (Insert r) = Key r.key
entry_of (Update r) = Key r.key
entry_of (Delete k) = Key k

abbrev pub entries_from : List Entry → History → List Entry
entries_from es [] = es
entries_from es (t ∷ ts) = entries_from (with_entry es (entry_of t.0)) ts

-- the entries: those of the operations, in the order of the first, without repeats
abbrev pub entries : History → List Entry
entries ts = entries_from [] ts

-- whether the key is among these
abbrev pub is_noted : List RowKey → RowKey → Bool
is_noted ks k = list_any (eq_by_cmp key_cmp k) ks

-- with the key, which is not added twice
abbrev pub noted : List RowKey → RowKey → List RowKey
noted ks k = if list_any (eq_by_cmp key_cmp k) ks then ks else ks ++ k ∷ []

-- with the key that is written, if there is one
abbrev pub noted_key : List RowKey → Option RowKey → List RowKey
noted_key ks None = ks
noted_key ks (Some k) = noted ks k

abbrev pub written_from : List RowKey → History → List RowKey
written_from ks [] = ks
written_from ks (t ∷ ts) = written_from (noted_key ks (option_map (λ w. w.0) (write_of t.0 t.1))) ts

-- the keys with a writing answer, in the order of the first, without repeats
abbrev pub written_keys : History → List RowKey
written_keys ts = written_from [] ts
