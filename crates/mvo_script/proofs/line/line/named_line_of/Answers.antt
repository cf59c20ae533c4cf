use Rattle.std.proofs.Common.{◌∷◌}
use Rattle.mvo_script.specs.line.Readable.{BeginNoLine, IsOfTransaction}
use Rattle.mvo_script.proofs.line.Beginning.{if_none, no_insert, no_update}
use Rattle.mvo_script.proofs.line.line.named_line_of.Goals as goal

pub returns-in_err-row_of-in-insert-clause-none : goal.returns-in_err-row_of-in-insert-clause-none
returns-in_err-row_of-in-insert-clause-none c =
    if_none c.from_residual-in_err-row_of-in-insert.result (BeginNoLine (IsOfTransaction) (c.args.first.now ∷ c.args.rest.now)) c.from_residual-in_err-row_of-in-insert.ensures
    (no_insert c.args.first.now c.in_ok-next.field-0.now c.args.rest.now c.next.new.self c.in-insert.is c.in_ok-next.ensures c.in_err-row_of-in-insert.ensures.none)

pub returns-in_err-row_of-in-update-clause-none : goal.returns-in_err-row_of-in-update-clause-none
returns-in_err-row_of-in-update-clause-none c =
    if_none c.from_residual-in_err-row_of-in-update.result (BeginNoLine (IsOfTransaction) (c.args.first.now ∷ c.args.rest.now)) c.from_residual-in_err-row_of-in-update.ensures
    (no_update c.args.first.now c.in_ok-next.field-0.now c.args.rest.now c.next.new.self c.in-update.is c.in_ok-next.ensures c.in_err-row_of-in-update.ensures.none)
