-- Answers as contracts see them.
use Rattle.std.specs.Prelude.{List, Option}
use Rattle.mvo_types.specs.declared.answer.Answer.{Answer}
use Rattle.mvo_types.specs.declared.answer.Answer.TheVariants as answer
use Rattle.mvo_types.specs.RowData.{RowData}

-- an answer, apart from where it lies in memory
pub data AnswerData : Type 0 where
  Found : Option RowData → AnswerData
  Rows : List RowData → AnswerData
  Inserted : AnswerData
  Exists : AnswerData
  Updated : AnswerData
  Deleted : AnswerData
  Absent : AnswerData

abbrev pub answer_data : Answer → AnswerData
answer_data (answer.Found r) = Found r
answer_data (answer.Rows v) = Rows v.items
answer_data answer.Inserted = Inserted
answer_data answer.Exists = Exists
answer_data answer.Updated = Updated
answer_data answer.Deleted = Deleted
answer_data answer.Absent = Absent
