-- Operations with their answers, apart from where they lie in memory.
use Rattle.std.specs.Prelude.{List, map}
use Rattle.mvo_types.specs.declared.op.Op.{Op}
use Rattle.mvo_types.specs.declared.answer.Answer.{Answer}
use Rattle.mvo_types.specs.AnswerData.{answer_data}
use Rattle.mvo_model.specs.History.{History}

abbrev pub history_told : List (Op × Answer) → History
history_told operations = map (λ t. (t.0, answer_data t.1)) operations
