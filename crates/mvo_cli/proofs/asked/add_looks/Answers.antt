use Rattle.std.proofs.Common.{ap, codes, true, ◌∙◌}
use Rattle.std.proofs.lemmas.Result.{IfOk-weaker}
use Rattle.clap.specs.Words.{App, app_of, with_subcommand}
use Rattle.mvo_cli.specs.Asked.{with_folder}
use Rattle.mvo_cli.proofs.asked.add_looks.Goals as goal

-- one more command
abbrev with_one : App → App → App
with_one sub a = with_subcommand a sub.top

pub returns : goal.returns
returns c =
    let dumps = c.in_ok-mvo.ensures in
    let checks = c.in_ok-mvo-2.ensures ∙ ap (with_one (with_folder (codes "check") true)) dumps in
    let stats = c.in_ok-mvo-3.ensures ∙ ap (with_one (with_folder (codes "stats") true)) checks in
    IfOk-weaker c.add_command-4.result _ _ (λ r adds. adds ∙ ap (with_one (with_folder (codes "keep") true)) stats) c.add_command-4.ensures
