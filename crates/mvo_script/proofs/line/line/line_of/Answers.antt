use Rattle.std.proofs.Common.{◌∷◌}
use Rattle.mvo_script.specs.line.Readable.{BeginNoLine}
use Rattle.mvo_script.proofs.line.Beginning.{if_none, no_trim, no_merge_read, no_merge}
use Rattle.mvo_script.proofs.line.line.line_of.Goals as goal

pub returns-in_err-number_of-in-trim-clause-none : goal.returns-in_err-number_of-in-trim-clause-none
returns-in_err-number_of-in-trim-clause-none c =
    if_none c.from_residual-in_err-number_of-in-trim.result (BeginNoLine (λ _. Unit {0}) (c.args.first.now ∷ c.args.rest.now)) c.from_residual-in_err-number_of-in-trim.ensures
    (no_trim (λ _. Unit {0}) c.args.first.now c.in_ok-next-in-trim.field-0.now c.args.rest.now c.next.new.self c.in-trim.is
    c.in_ok-next-in-trim.ensures c.in_err-number_of-in-trim.ensures.value)

pub returns-in_err-place_of-in-text-clause-none : goal.returns-in_err-place_of-in-text-clause-none
returns-in_err-place_of-in-text-clause-none c =
    if_none c.from_residual-in_err-place_of-in-text.result (BeginNoLine (λ _. Unit {0}) (c.args.first.now ∷ c.args.rest.now)) c.from_residual-in_err-place_of-in-text.ensures
    (no_merge_read (λ _. Unit {0}) c.args.first.now c.in_ok-next-in-text.field-0.now c.args.rest.now c.next-in-text.new.self c.in-text.is
    c.in_ok-next-in-text.ensures c.in_err-place_of-in-text.ensures.value)

pub returns-in_err-place_of-in-merge-clause-none : goal.returns-in_err-place_of-in-merge-clause-none
returns-in_err-place_of-in-merge-clause-none c =
    if_none c.from_residual-in_err-place_of-in-merge.result (BeginNoLine (λ _. Unit {0}) (c.args.first.now ∷ c.args.rest.now)) c.from_residual-in_err-place_of-in-merge.ensures
    (no_merge (λ _. Unit {0}) c.args.first.now c.in_ok-next-in-merge.field-0.now c.args.rest.now c.next-in-merge.new.self c.in-merge.is
    c.in_ok-next-in-merge.ensures c.in_err-place_of-in-merge.ensures.value)
