-- What a map shows in an entry can be what others show there.
use Rattle.std.proofs.Common.{List, [], sym, ap}
use Rattle.std.specs.Option.{option_map, option_to_list}
use Rattle.mvo_types.specs.RowData.{RowData, row_with}
use Rattle.mvo_types.specs.Keys.{Map}
use Rattle.mvo_types.specs.AnswerData.{AnswerData}
use Rattle.mvo_types.specs.AnswerData.AnswerData.{Found, Rows, Inserted, Exists, Updated, Deleted, Absent}
use Rattle.mvo_types.specs.declared.op.Op.TheVariants.{Scan}
use Rattle.mvo_types.specs.declared.entry.Entry.{Entry}
use Rattle.mvo_types.specs.declared.entry.Entry.TheVariants.{Key, Range}
use Rattle.mvo_theory.proofs.Looks.{same_at, answer_agrees}
use Rattle.mvo_shared.specs.Kept.{rows_shown, map_of_rows}
use Rattle.mvo_shared.proofs.Kept.{shown_agrees}
use Rattle.mvo_content.specs.Shown.{AreRowsOf}

rows_told : AnswerData → List RowData
rows_told (Found r) = []
rows_told (Rows rs) = rs
rows_told Inserted = []
rows_told Exists = []
rows_told Updated = []
rows_told Deleted = []
rows_told Absent = []

pub shown_fits : (e : Entry) (m : Map) → AreRowsOf e (rows_shown e m)
unfolding rows_told
shown_fits (Key k) m = ap (λ h. option_to_list (option_map (row_with k) h)) (sym (same_at k (map_of_rows (rows_shown (Key k) m)) m (shown_agrees (Key k) m)))
shown_fits (Range table lo hi) m = ap rows_told (sym (answer_agrees (Scan table lo hi) (map_of_rows (rows_shown (Range table lo hi) m)) m (shown_agrees (Range table lo hi) m)))
