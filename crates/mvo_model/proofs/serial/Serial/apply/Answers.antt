use Rattle.std.proofs.Common.{sym, ap, ◌∙◌}
use Rattle.mvo_types.specs.declared.op.Op.{Op}
use Rattle.mvo_types.specs.AnswerData.AnswerData.{Rows}
use Rattle.mvo_model.specs.Serial.{answer_to}
use Rattle.mvo_model.proofs.Scans.{only_scan}
use Rattle.mvo_model.proofs.serial.Serial.apply.Goals as goal

-- the rows found are the one scan of the range
pub returns-in_ok-scan-in-Scan-clause-answer : goal.returns-in_ok-scan-in-Scan-clause-answer
returns-in_ok-scan-in-Scan-clause-answer c =
    ap Rows (only_scan _ _ _ _ _ c.in_ok-scan-in-Scan.ensures) ∙ ap (λ (op : Op). answer_to op c.args.self.now) (sym c.in-Scan.is)
