-- What a transaction did, as it lies in memory: operations with answers, looks, and own writes.
use Rattle.std.specs.Prelude.{◌≡◌, ◌≤◌, ℕ, List, Option, None, Some, length, cond}
use Rattle.std.specs.List.{AllByRecursion}
use Rattle.std.specs.Map.{lookup, keys_of}
use Rattle.std.specs.Option.{option_map}
use Rattle.std.specs.Ordering.{eq_by_cmp}
use Rattle.mvo_types.specs.declared.limits.TheConstants.{MAX_ENTRIES}
use Rattle.mvo_types.specs.declared.row.RowKey.{RowKey}
use Rattle.mvo_types.specs.declared.op.Op.{Op}
use Rattle.mvo_types.specs.declared.answer.Answer.{Answer}
use Rattle.mvo_types.specs.RowData.{RowData, row_with}
use Rattle.mvo_types.specs.Keys.{key_cmp}
use Rattle.mvo_types.specs.Write.{Effect, content_after}
use Rattle.mvo_types.specs.AnswerData.{AnswerData}
use Rattle.mvo_model.specs.History.{History, write_of, net_write}
use Rattle.mvo_theory.specs.Told.{history_told}
use Rattle.mvo_shared.specs.Kept.{Looked, WorkContent, IsWork, entries_in}
use Rattle.mvo_work.specs.Work.{IsWorkSound}
use Rattle.mvo_content.specs.Shown.{AreRowsOf}

-- what was done, and for how many operations more there is room
pub record DoneData : Type 0 where
  pub history : History
  pub looked : List Looked
  pub room : ℕ

abbrev pub work_in : DoneData → WorkContent
work_in d = record { history = d.history; looked = d.looked }

-- the row that a write leaves at its key, if it leaves one
abbrev pub row_left : RowKey → Effect → Option RowData
row_left k e = option_map (row_with k) (content_after e)

-- the key that an operation with this answer wrote, if it wrote, and what it left there
abbrev pub write_left : Op → AnswerData → Option (RowKey × Option RowData)
write_left op answer = option_map (λ w. (w.0, row_left w.0 w.1)) (write_of op answer)

-- what stands at the key k in such a list
abbrev pub left_at : List (RowKey × Option RowData) → RowKey → Option (Option RowData)
left_at left k = lookup (eq_by_cmp key_cmp k) left

-- what stands there after this write, where this stood there before
abbrev pub left_later : RowKey → Option (RowKey × Option RowData) → Option (Option RowData) →
    Option (Option RowData)
left_later k None before = before
left_later k (Some w) before = cond (eq_by_cmp key_cmp k w.0) (Some w.1) before

-- the type of a work, with its limits: each look is one of its entry, and each key that was written
-- has what its net write left
pub record IsWorkDone (told : List (Op × Answer)) (looked : List Looked)
    (own : List (RowKey × Option RowData)) : Type 0 where
  pub sound : IsWorkSound told (entries_in looked) (keys_of own)
  pub work : IsWork (record { history = history_told told; looked = looked })
  pub shown : AllByRecursion (λ l. AreRowsOf l.entry l.rows) looked
  pub few : length looked ≤ MAX_ENTRIES
  pub left : (k : RowKey) →
      left_at own k ≡ option_map (row_left k) (net_write k (history_told told))
