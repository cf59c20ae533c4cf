-- The new causes as tests, and what the calls come to with them.
use Rattle.std.specs.Prelude.{ℕ, ◌==◌, Bool, true, false, not, ◌||◌, ◌&&◌, is_some, List, [], ◌∷◌, ◌++◌, Option, None, Some, slice_get}
use Rattle.std.specs.List.{list_any}
use Rattle.std.specs.Ordering.{eq_by_cmp}
use Rattle.mvo_types.specs.declared.row.RowKey.{RowKey}
use Rattle.mvo_types.specs.declared.op.Op.{Op}
use Rattle.mvo_types.specs.RowData.{RowData}
use Rattle.mvo_types.specs.Keys.{Map, key_cmp}
use Rattle.mvo_types.specs.Write.{Effect}
use Rattle.mvo_types.specs.Write.Effect.{Put, Delete}
use Rattle.mvo_model.specs.History.{History, net_write}
use Rattle.mvo_types.specs.Entries.{has_entry}
use Rattle.mvo_theory.specs.Entries.{entry_of, written_keys}
use Rattle.mvo_theory.specs.State.{State, ActiveTx, StampedTx, seen_by}
use Rattle.mvo_theory.specs.Dependencies.{keys_for}
use Rattle.mvo_theory.specs.Causes.{change_of}
use Rattle.mvo_shared.specs.Kept.{Looked, WorkContent, rows_shown, rows_kept, entries_in}
use Rattle.mvo_shared.specs.Shared.{AllTaken, looked_of, rows_for, are_known}

-- ---- equal, byte for byte
abbrev pub same_bytes : List ℕ → List ℕ → Bool
same_bytes [] [] = true
same_bytes [] (y ∷ ys) = false
same_bytes (x ∷ xs) [] = false
same_bytes (x ∷ xs) (y ∷ ys) = (x == y) && same_bytes xs ys

abbrev pub same_row : RowData → RowData → Bool
same_row a b = eq_by_cmp key_cmp a.key b.key && ((a.sort == b.sort) && same_bytes a.bytes b.bytes)

abbrev pub same_rows : List RowData → List RowData → Bool
same_rows [] [] = true
same_rows [] (y ∷ ys) = false
same_rows (x ∷ xs) [] = false
same_rows (x ∷ xs) (y ∷ ys) = same_row x y && same_rows xs ys

-- ---- an operation, directly after the flag: its entry is kept, and its rows aren't those that
-- others show now
abbrev pub is_look_mismatch : State → ActiveTx → WorkContent → Op → Bool
is_look_mismatch s r w op =
    has_entry (entries_in w.looked) (entry_of op)
    && not (same_rows (rows_kept w.looked (entry_of op)) (rows_for s r op))

-- ---- precommit, directly after the flag: the net writes aren't those that the core saw
abbrev pub same_effect : Option Effect → Option Effect → Bool
same_effect None None = true
same_effect None (Some f) = false
same_effect (Some e) None = false
same_effect (Some Delete) (Some Delete) = true
same_effect (Some Delete) (Some (Put h)) = false
same_effect (Some (Put h)) (Some Delete) = false
same_effect (Some (Put h)) (Some (Put g)) = (h.sort == g.sort) && same_bytes h.bytes g.bytes

abbrev pub writes_differently : History → History → RowKey → Bool
writes_differently ts us k = not (same_effect (net_write k ts) (net_write k us))

-- at a key that either wrote
abbrev pub is_write_mismatch : ActiveTx → WorkContent → Bool
is_write_mismatch r w =
    list_any (writes_differently r.history w.history)
    (written_keys r.history ++ written_keys w.history)

-- ---- validate_one, after a change: others show other rows to the begin, or one decides a key that
-- counts for the entry that is neither settled nor depended on
abbrev pub is_entry_mismatch : Map → List StampedTx → StampedTx → Looked → Bool
is_entry_mismatch base stamped x l =
    not (same_rows l.rows (rows_shown l.entry (seen_by base stamped x.id)))
    || not (are_known x.depends_on (keys_for l.entry x.id base stamped) x.id stamped)

-- the next entry to check of the one with this end
abbrev pub next_looked : AllTaken → ℕ → Option Looked
next_looked all e = slice_get (looked_of (all e)) (all e).checked

-- it is found: no change, no mismatch
abbrev pub is_found : Map → List StampedTx → StampedTx → Looked → Bool
is_found base stamped x l =
    not (is_some (change_of stamped x.id x.end l.entry)) && not (is_entry_mismatch base stamped x l)
