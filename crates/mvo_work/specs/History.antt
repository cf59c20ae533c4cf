-- Written keys.
use Rattle.std.specs.Prelude.{Option}
use Rattle.std.specs.Option.{option_map}
use Rattle.mvo_types.specs.declared.row.RowKey.{RowKey}
use Rattle.mvo_types.specs.declared.op.Op.{Op}
use Rattle.mvo_types.specs.AnswerData.{AnswerData}
use Rattle.mvo_model.specs.History.{write_of}

-- the key that an operation with this answer wrote, if it wrote
abbrev pub key_written : Op → AnswerData → Option RowKey
key_written op answer = option_map (λ w. w.0) (write_of op answer)
