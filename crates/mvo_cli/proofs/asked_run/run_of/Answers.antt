use Rattle.std.proofs.Common.{◌∙◌, Some, None, ap, codes, refl, sym}
use Rattle.mvo_cli.specs.Tasks.{is_true}
use Rattle.mvo_cli.proofs.Given.{given}
use Rattle.mvo_cli.proofs.asked_run.run_of.Goals as goal

pub returns-in-Some : goal.returns-in-Some
returns-in-Some c =
    let keep = given c.args.found.now (codes "keep") c.get_str.result c.get_str.result c.get_str.ensures refl in
    let folder = given c.args.found.now (codes "DIR") c.get_str-2.result (Some c.in-Some.folder) c.get_str-2.ensures c.in-Some.is in
    (refl, folder, c.is_true-keeps.ensures ∙ ap is_true (sym keep))

pub returns-in-None : goal.returns-in-None
returns-in-None c =
    let keep = given c.args.found.now (codes "keep") c.get_str.result c.get_str.result c.get_str.ensures refl in
    let none = given c.args.found.now (codes "DIR") c.get_str-2.result None c.get_str-2.ensures c.in-None.is in
    (refl, none, c.is_true-keeps.ensures ∙ ap is_true (sym keep))
