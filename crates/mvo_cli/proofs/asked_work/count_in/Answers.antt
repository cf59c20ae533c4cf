use Rattle.std.proofs.Common.{◌∙◌, Some, sym}
use Rattle.clap.specs.Words.{found_of, rows_of}
use Rattle.mvo_cli.proofs.Given.{given, has_count, number}
use Rattle.mvo_cli.proofs.asked_work.count_in.Goals as goal

pub returns : goal.returns
returns c =
    let text = given c.args.found.now c.args.option.now c.get_str.result (Some c.in_ok-get_str.field-0) c.get_str.ensures c.in_ok-get_str.was in
    let value = number c.parse.result _ _ c.in_ok-count.count c.parse.ensures.value.0 (sym c.ok.ensures.value ∙ c.in_ok-count.was) in
    has_count c.args.option.now (rows_of (found_of c.args.found.now)) c.in_ok-get_str.field-0.now c.in_ok-count.count c.new.result text value c.new.ensures
