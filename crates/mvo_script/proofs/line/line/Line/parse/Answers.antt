use Rattle.std.proofs.Common.{◌++◌, ap, sym, ◌∙◌}
use Rattle.mvo_script.specs.line.Readable.{IsNoLine}
use Rattle.mvo_script.specs.line.Split.{split_words}
use Rattle.mvo_script.specs.line.Written.{line_words}
use Rattle.mvo_script.proofs.line.Beginning.{if_none, no_line, not_text, too_many_words}
use Rattle.mvo_script.proofs.line.Splitting.{read_back}
use Rattle.mvo_script.proofs.line.line.Line.parse.Goals as goal

pub returns-in_default-clause-none : goal.returns-in_default-clause-none
returns-in_default-clause-none c = not_text c.args.bytes.now c.in_default.ensures.cases.0

pub returns-in_err-line-clause-none : goal.returns-in_err-line-clause-none
returns-in_err-line-clause-none c =
    let split = sym c.in_ok-next.ensures ∙ c.of-words.ensures ∙ ap split_words c.in-Ok.ensures.cases.0 in
    if_none c.from_residual-in_err-line.result (IsNoLine c.args.bytes.now) c.from_residual-in_err-line.ensures
    (no_line c.args.bytes.now _ (sym split) c.in_err-line.ensures.none)

pub returns-in-Some-clause-none : goal.returns-in-Some-clause-none
returns-in-Some-clause-none c =
    let split = sym c.in_ok-next.ensures ∙ c.of-words.ensures ∙ ap split_words c.in-Ok.ensures.cases.0 in
    too_many_words c.args.bytes.now c.in-Some.field-0.now c.next-2.new.self c.in_ok-line.line
    (ap (λ ws. line_words c.in_ok-line.line ++ ws) (sym c.in-Some.ensures) ∙ c.in_ok-line.ensures.text ∙ split)

pub returns-in-None-clause-text : goal.returns-in-None-clause-text
returns-in-None-clause-text c =
    read_back (line_words c.in_ok-line.line) _ c.args.bytes.now
    (c.in_ok-line.ensures.text ∙ sym c.in_ok-next.ensures ∙ c.of-words.ensures ∙ ap split_words c.in-Ok.ensures.cases.0)
    c.in-None.ensures.0
