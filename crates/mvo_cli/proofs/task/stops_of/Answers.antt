use Rattle.std.proofs.Common.{Some, None, refl, sym, ◌∙◌}
use Rattle.mvo_cli.proofs.Given.{given, number}
use Rattle.mvo_cli.proofs.task.stops_of.Goals as goal

pub returns-in_ok-ok-in-Some : goal.returns-in_ok-ok-in-Some
returns-in_ok-ok-in-Some c =
    let script = given c.args.found.now _ _ (Some c.in_ok-script.script) c.get_str.ensures c.in_ok-script.was in
    let text = given c.args.found.now _ _ (Some c.in-Some.number) c.get_str-2.ensures c.in-Some.is in
    let call = number c.parse.result _ _ c.in_ok-ok-in-Some.field-0 c.parse.ensures.value.0 (sym c.ok.ensures.value ∙ c.in_ok-ok-in-Some.was) in
    (refl, script, (c.in-Some.number.now, text, call))

pub returns-in-None : goal.returns-in-None
returns-in-None c =
    let script = given c.args.found.now _ _ (Some c.in_ok-script.script) c.get_str.ensures c.in_ok-script.was in
    (refl, script, given c.args.found.now _ _ None c.get_str-2.ensures c.in-None.is)
