use Rattle.std.proofs.Common.{ap, codes, true, ◌∙◌}
use Rattle.std.proofs.lemmas.Result.{IfOk-weaker}
use Rattle.clap.specs.Words.{App, app_of, with_subcommand}
use Rattle.mvo_cli.specs.Asked.{commands, rows_command, run_command, serve_command, stops_command, with_folder, with_looks, work_command}
use Rattle.mvo_cli.proofs.asked.command_line.Goals as goal

-- one more command
abbrev with_one : App → App → App
with_one sub a = with_subcommand a sub.top

pub returns : goal.returns
returns c =
    let formats = c.in_ok-mvo.ensures ∙ ap (with_one (with_folder (codes "format") true)) c.in_ok-no_command.ensures in
    let runs = c.in_ok-mvo-2.ensures ∙ ap (with_one run_command) formats in
    let rows = c.in_ok-mvo-3.ensures ∙ ap (with_one rows_command) runs in
    let looks = c.in_ok-mvo-4.ensures ∙ ap with_looks rows in
    let works = c.in_ok-mvo-5.ensures ∙ ap (with_one work_command) looks in
    let serves = c.in_ok-mvo-6.ensures ∙ ap (with_one serve_command) works in
    IfOk-weaker c.add_stops.result _ _ (λ r adds. adds ∙ ap (with_one stops_command) serves) c.add_stops.ensures
