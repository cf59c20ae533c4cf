use Rattle.std.proofs.Common.{◌∙◌, Some, Bool, ap, codes, not, refl, sym}
use Rattle.mvo_cli.specs.Tasks.{is_true}
use Rattle.mvo_cli.proofs.Given.{given}
use Rattle.mvo_cli.proofs.asked_serve.serve_task_of.Goals as goal

pub returns : goal.returns
returns c =
    let folder = given c.args.found.now (codes "DIR") c.get_str.result (Some c.in_ok-folder.folder) c.get_str.ensures c.in_ok-folder.was in
    let keep = given c.args.found.now (codes "no-keep") c.get_str-2.result c.get_str-2.result c.get_str-2.ensures refl in
    let pipes = given c.args.found.now (codes "PIPES") c.get_str-3.result (Some c.in_ok-pipes.pipes) c.get_str-3.ensures c.in_ok-pipes.was in (
      refl,
      folder,
      c.in_ok-clients.ensures,
      ap not (c.is_true-keeps.ensures ∙ ap is_true (sym keep)),
      pipes,
    )
