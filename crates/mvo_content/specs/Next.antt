-- An operation that a content is to be told.
use Rattle.std.specs.Prelude.{◌≡◌, List, Option}
use Rattle.mvo_types.specs.declared.op.Op.{Op}
use Rattle.mvo_types.specs.declared.row.RowKey.{RowKey}
use Rattle.mvo_types.specs.RowData.{RowData}
use Rattle.mvo_types.specs.AnswerData.{AnswerData}
use Rattle.mvo_theory.specs.Entries.{entry_of}
use Rattle.mvo_shared.specs.Kept.{with_looked, answer_kept}
use Rattle.mvo_content.specs.Shown.{AreRowsOf}
use Rattle.mvo_content.specs.Done.{DoneData, write_left}

-- the operation, the rows that others show in its entry, and its answer
pub record NextData : Type 0 where
  pub op : Op
  pub rows : List RowData
  pub answer : AnswerData

-- these can be the rows of its entry; what is told is the answer; and this is what it writes
pub record IsNextWhole (op : Op) (rows : List RowData) (answer told : AnswerData)
    (write : Option (RowKey × Option RowData)) : Type 0 where
  pub shown : AreRowsOf (entry_of op) rows
  pub same : told ≡ answer
  pub left : write ≡ write_left op told

-- it is the operation on this content where others show these rows
pub record IsPreparedFor (d : DoneData) (op : Op) (rows : List RowData)
    (n : NextData) : Type 0 where
  pub asked : n.op ≡ op
  pub shown : n.rows ≡ rows
  pub answer : n.answer ≡ answer_kept (with_looked d.looked (entry_of op) rows) d.history op
