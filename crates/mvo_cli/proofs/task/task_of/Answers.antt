use Rattle.std.proofs.Common.{◌∙◌, Some, sym}
use Rattle.mvo_cli.proofs.Given.{given, number}
use Rattle.mvo_cli.proofs.task.task_of.Goals as goal

pub returns-in_ok-get_str-in-format-clause-task : goal.returns-in_ok-get_str-in-format-clause-task
returns-in_ok-get_str-in-format-clause-task c = (c.in-format.is, given c.args.found.now _ _ (Some c.in_ok-get_str-in-format.field-0) c.get_str.ensures c.in_ok-get_str-in-format.was)

pub returns-in_ok-table-in-rows-clause-task : goal.returns-in_ok-table-in-rows-clause-task
returns-in_ok-table-in-rows-clause-task c =
    let folder = given c.args.found.now _ _ (Some c.in_ok-folder-in-rows.folder) c.get_str-in-rows.ensures c.in_ok-folder-in-rows.was in
    let text = given c.args.found.now _ _ (Some c.in_ok-get_str-in-rows.field-0) c.get_str-in-rows-2.ensures c.in_ok-get_str-in-rows.was in
    let table = number c.parse.result _ _ c.in_ok-table-in-rows.table c.parse.ensures.value.0 (sym c.ok.ensures.value ∙ c.in_ok-table-in-rows.was) in
    (c.in-rows.is, folder, (c.in_ok-get_str-in-rows.field-0.now, text, table))

pub returns-in_ok-get_str-in-dump-clause-task : goal.returns-in_ok-get_str-in-dump-clause-task
returns-in_ok-get_str-in-dump-clause-task c = (c.in-dump.is, given c.args.found.now _ _ (Some c.in_ok-get_str-in-dump.field-0) c.get_str-in-dump.ensures c.in_ok-get_str-in-dump.was)

pub returns-in_ok-get_str-in-check-clause-task : goal.returns-in_ok-get_str-in-check-clause-task
returns-in_ok-get_str-in-check-clause-task c = (c.in-check.is, given c.args.found.now _ _ (Some c.in_ok-get_str-in-check.field-0) c.get_str-in-check.ensures c.in_ok-get_str-in-check.was)

pub returns-in_ok-get_str-in-stats-clause-task : goal.returns-in_ok-get_str-in-stats-clause-task
returns-in_ok-get_str-in-stats-clause-task c = (c.in-stats.is, given c.args.found.now _ _ (Some c.in_ok-get_str-in-stats.field-0) c.get_str-in-stats.ensures c.in_ok-get_str-in-stats.was)

pub returns-in_ok-get_str-in-keep-clause-task : goal.returns-in_ok-get_str-in-keep-clause-task
returns-in_ok-get_str-in-keep-clause-task c = (c.in-keep.is, given c.args.found.now _ _ (Some c.in_ok-get_str-in-keep.field-0) c.get_str-in-keep.ensures c.in_ok-get_str-in-keep.was)
