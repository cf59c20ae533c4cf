-- What an entry keeps, and what a transaction's work holds.
use Rattle.std.specs.Prelude.{◌≡◌, true, if◌then◌else◌, List, [], ◌∷◌, ◌++◌, map, ⊤}
use Rattle.std.specs.List.{AllByRecursion}
use Rattle.std.specs.Option.{option_to_list}
use Rattle.std.specs.FinMap as fin
use Rattle.mvo_types.specs.declared.op.Op.{Op}
use Rattle.mvo_types.specs.RowData.{RowData, content_of}
use Rattle.mvo_types.specs.Keys.{Map, row_at}
use Rattle.mvo_types.specs.AnswerData.{AnswerData}
use Rattle.mvo_model.specs.Serial.{answer_to, scan}
use Rattle.mvo_model.specs.History.{History, after_history}
use Rattle.mvo_types.specs.declared.entry.Entry.{Entry}
use Rattle.mvo_types.specs.Entries.{is_same, has_entry}
use Rattle.mvo_theory.specs.Entries.{entry_of, entries}
use Rattle.mvo_types.specs.declared.entry.Entry.TheVariants.{Key, Range}

-- an entry with the rows that the others' versions showed at its first use: that of its key, or
-- those of its range by sort and then by key
pub record Looked : Type 0 where
  pub entry : Entry
  pub rows : List RowData

-- the rows that show in an entry
abbrev pub rows_shown : Entry → Map → List RowData
rows_shown (Key k) m = option_to_list (row_at m k)
rows_shown (Range table lo hi) m = scan m table lo hi

-- the rows as a map
abbrev pub map_of_rows : List RowData → Map
map_of_rows rows = fin.from_entries (map (λ r. (r.key, content_of r)) rows)

abbrev pub entries_in : List Looked → List Entry
entries_in looked = map (λ l. l.entry) looked

-- the rows that are kept for the entry: none where it isn't kept
abbrev pub rows_kept : List Looked → Entry → List RowData
rows_kept [] e = []
rows_kept (l ∷ ls) e = if is_same e l.entry then l.rows else rows_kept ls e

-- with an entry of these rows. One that is kept stays as it is
abbrev pub with_looked : List Looked → Entry → List RowData → List Looked
with_looked ls e rows =
    if has_entry (entries_in ls) e then ls else ls ++ (record { entry = e; rows = rows }) ∷ []

-- what the operation is told on the rows that its entry keeps, after these earlier operations
abbrev pub answer_kept : List Looked → History → Op → AnswerData
answer_kept looked before op =
    answer_to op (after_history before (map_of_rows (rows_kept looked (entry_of op))))

-- each of these operations is told so, behind those before
abbrev pub AreAnsweredByLooks : List Looked → History → History → Type 0
AreAnsweredByLooks looked before [] = ⊤
AreAnsweredByLooks looked before (t ∷ ts) =
    (t.1 ≡ answer_kept looked before t.0) × AreAnsweredByLooks looked (before ++ t ∷ []) ts

-- what a work holds: its operations with their answers, and what they looked at
pub record WorkContent : Type 0 where
  pub history : History
  pub looked : List Looked

-- what the type of a work keeps: the entry of each operation is kept, and each answer is the serial
-- one on the rows that its entry keeps, with the own earlier writes
pub record IsWork (w : WorkContent) : Type 0 where
  pub kept :
      AllByRecursion (λ o. has_entry (entries_in w.looked) (entry_of o.0) ≡ true) w.history
  pub answered : AreAnsweredByLooks w.looked [] w.history

-- and that the entries are those of its operations, in the order of the first look. Once a scan may
-- come in pieces this is of works in which none is open; nothing but the number of an entry rests
-- on it
abbrev pub IsOrdered : WorkContent → Type 0
IsOrdered w = entries_in w.looked ≡ entries w.history

-- one operation more, where others show these rows
abbrev pub after_op : WorkContent → Op → List RowData → WorkContent
after_op w op rows =
    let looked = with_looked w.looked (entry_of op) rows in record {
      history = w.history ++ (op, answer_kept looked w.history op) ∷ [];
      looked = looked;
    }

-- an entry keeps the rows that this map shows
abbrev pub IsLookShown : Map → Looked → Type 0
IsLookShown m l = l.rows ≡ rows_shown l.entry m

abbrev pub AreShown : Map → List Looked → Type 0
AreShown m looked = AllByRecursion (IsLookShown m) looked
