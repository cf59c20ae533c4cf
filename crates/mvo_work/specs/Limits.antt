-- What a transaction may do next within its limits.
use Rattle.std.specs.Prelude.{◌≡◌, false, Some}
use Rattle.mvo_types.specs.declared.row.RowKey.{RowKey}
use Rattle.mvo_types.specs.declared.op.Op.{Op}
use Rattle.mvo_types.specs.AnswerData.{AnswerData}
use Rattle.mvo_model.specs.History.{History}
use Rattle.mvo_theory.specs.Causes.{is_write_too_many}
use Rattle.mvo_theory.specs.Limits.{IsInLimits}
use Rattle.mvo_work.specs.History.{key_written}

-- the operation is in the limits, and with this answer it writes no key too many
pub record MayFollow (ts : History) (op : Op) (answer : AnswerData) : Type 0 where
  pub row : IsInLimits op
  pub write : (k : RowKey) → key_written op answer ≡ Some k → is_write_too_many ts k ≡ false
