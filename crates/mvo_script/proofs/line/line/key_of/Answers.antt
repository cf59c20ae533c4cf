use Rattle.std.proofs.Common.{◌∙◌, lit≤}
use Rattle.mvo_script.specs.line.Readable.{BeginNoKey}
use Rattle.mvo_script.proofs.line.Beginning.{if_none, no_number, first_word, second_word}
use Rattle.mvo_script.proofs.line.line.key_of.Goals as goal

pub returns-in_err-table-clause-none : goal.returns-in_err-table-clause-none
returns-in_err-table-clause-none c =
    if_none c.from_residual-in_err-table.result (BeginNoKey c.args.words.now) c.from_residual-in_err-table.ensures
    (λ key left range e. no_number 8 c.in_ok-next.field-0.now (lit≤ tt) c.in_err-table.ensures.value key.table range.0
    (first_word _ _ _ _ (e ∙ c.in_ok-next.ensures)))

pub returns-in_err-key-clause-none : goal.returns-in_err-key-clause-none
returns-in_err-key-clause-none c =
    if_none c.from_residual-in_err-key.result (BeginNoKey c.args.words.now) c.from_residual-in_err-key.ensures
    (λ key left range e. no_number 64 c.in_ok-next-2.field-0.now (lit≤ tt) c.in_err-key.ensures.value key.key range.1
    (second_word _ _ _ _ _ _ _ (e ∙ c.in_ok-next.ensures) c.in_ok-next-2.ensures))
