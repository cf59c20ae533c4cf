use Rattle.std.proofs.Common.{◌∙◌, sym, lit≤}
use Rattle.mvo_script.specs.line.Readable.{BeginNoRow}
use Rattle.mvo_script.proofs.line.Beginning.{if_none, no_number, word_behind_two}
use Rattle.mvo_script.proofs.line.line.row_of.Goals as goal

pub returns-in_err-sort-clause-none : goal.returns-in_err-sort-clause-none
returns-in_err-sort-clause-none c =
    if_none c.from_residual-in_err-sort.result (BeginNoRow c.args.words.now) c.from_residual-in_err-sort.ensures
    (λ row left range form e. no_number 64 c.in_ok-next.field-0.now (lit≤ tt) c.in_err-sort.ensures.value row.sort range.1
    (word_behind_two _ _ _ _ _ _ _ _ _ (e ∙ sym c.in_ok-key.ensures.text) c.in_ok-next.ensures))
