use Rattle.std.proofs.Common.{◌∙◌, lit≤}
use Rattle.mvo_script.specs.line.Readable.{BeginNoRange}
use Rattle.mvo_script.proofs.line.Beginning.{if_none, no_number, first_word, second_word, third_word}
use Rattle.mvo_script.proofs.line.line.range_of.Goals as goal

pub returns-in_err-table-clause-none : goal.returns-in_err-table-clause-none
returns-in_err-table-clause-none c =
    if_none c.from_residual-in_err-table.result (BeginNoRange c.args.words.now) c.from_residual-in_err-table.ensures
    (λ r left range e. no_number 8 c.in_ok-next.field-0.now (lit≤ tt) c.in_err-table.ensures.value r.table range.0
    (first_word _ _ _ _ (e ∙ c.in_ok-next.ensures)))

pub returns-in_err-lo-clause-none : goal.returns-in_err-lo-clause-none
returns-in_err-lo-clause-none c =
    if_none c.from_residual-in_err-lo.result (BeginNoRange c.args.words.now) c.from_residual-in_err-lo.ensures
    (λ r left range e. no_number 64 c.in_ok-next-2.field-0.now (lit≤ tt) c.in_err-lo.ensures.value r.lo range.1
    (second_word _ _ _ _ _ _ _ (e ∙ c.in_ok-next.ensures) c.in_ok-next-2.ensures))

pub returns-in_err-hi-clause-none : goal.returns-in_err-hi-clause-none
returns-in_err-hi-clause-none c =
    if_none c.from_residual-in_err-hi.result (BeginNoRange c.args.words.now) c.from_residual-in_err-hi.ensures
    (λ r left range e. no_number 64 c.in_ok-next-3.field-0.now (lit≤ tt) c.in_err-hi.ensures.value r.hi range.2
    (third_word _ _ _ _ _ _ _ _ _ _ (e ∙ c.in_ok-next.ensures) c.in_ok-next-2.ensures c.in_ok-next-3.ensures))
