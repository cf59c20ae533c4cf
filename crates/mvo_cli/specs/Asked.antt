-- The command line.
use Rattle.std.specs.Prelude.{◌≡◌, ◌-◌, ◌^◌, List, Bool, Some, [], true, false, codes, pos, IsSomeAnd}
use Rattle.clap.specs.Lexer.{usize_max}
use Rattle.clap.specs.Words.{App, Rule, Text, new_app, new_rule, subcommand_of, with_rule, with_subcommand}
use Rattle.clap.specs.declared.builder.action.ArgAction.TheVariants.{SetTrue}
use Rattle.clap.specs.declared.builder.value_parser.ValueParser.TheVariants as parser
use Rattle.mvo_cli.specs.Tasks.{IsTask}
use Rattle.mvo_cli.specs.declared.task.Task.{Task}

-- the path of a folder
abbrev pub folder_rule : Bool → Rule
folder_rule required = record (new_rule (codes "DIR")) { required = required }

-- the number of a table, which must be there
abbrev pub table_rule : Rule
table_rule = record (new_rule (codes "TABLE")) {
  required = true;
  parser = Some (parser.Signed (pos 0) (pos 63));
}

-- a command with the path of a folder
abbrev pub with_folder : Text → Bool → App
with_folder name required = with_rule (new_app name) (folder_rule required)

-- the command that prints the rows of a table
abbrev pub rows_command : App
rows_command = with_rule (with_folder (codes "rows") true) table_rule

-- the number of workers, which must be there
abbrev pub workers_rule : Rule
workers_rule = record (new_rule (codes "workers")) {
  long = Some (codes "workers");
  value_names = 1;
  required = true;
  parser = Some (parser.Signed (pos 1) (pos 64));
}

-- whether the store is kept meanwhile, which is said by the option's name alone
abbrev pub keep_rule : Rule
keep_rule = record (new_rule (codes "keep")) {
  long = Some (codes "keep");
  action = Some SetTrue;
}

-- the command that runs a script
abbrev pub run_command : App
run_command = with_rule (with_folder (codes "run") false) keep_rule

-- the paths of the scripts, of which one must be there
abbrev pub files_rule : Rule
files_rule = record (new_rule (codes "FILE")) {
  required = true;
  range = Some (record { start_inclusive = 1; end_inclusive = usize_max });
}

-- the command that runs jobs
abbrev pub work_command : App
work_command =
    let workers = with_rule (with_folder (codes "work") true) workers_rule in
    with_rule (with_rule workers keep_rule) files_rule

-- the number of clients, which must be there
abbrev pub clients_rule : Rule
clients_rule = record (new_rule (codes "clients")) {
  long = Some (codes "clients");
  value_names = 1;
  required = true;
  parser = Some (parser.Signed (pos 1) (pos 64));
}

-- whether the store isn't kept meanwhile, which is said by the option's name alone
abbrev pub no_keep_rule : Rule
no_keep_rule = record (new_rule (codes "no-keep")) {
  long = Some (codes "no-keep");
  action = Some SetTrue;
}

-- the folder of the pipes, which must be there
abbrev pub pipes_rule : Rule
pipes_rule = record (new_rule (codes "PIPES")) { required = true }

-- the command that serves clients
abbrev pub serve_command : App
serve_command =
    let clients = with_rule (with_folder (codes "serve") true) clients_rule in
    with_rule (with_rule clients no_keep_rule) pipes_rule

-- the path of a script, which must be there
abbrev pub script_rule : Rule
script_rule = record (new_rule (codes "FILE")) { required = true }

-- the number of a call, an option
abbrev pub explain_rule : Rule
explain_rule = record (new_rule (codes "explain")) {
  long = Some (codes "explain");
  value_names = 1;
  parser = Some (parser.Unsigned 1 (2 ^ 64 - 1));
}

-- the command that looks at what stops and faults leave
abbrev pub stops_command : App
stops_command = with_rule (with_rule (new_app (codes "stops")) explain_rule) script_rule

-- the program with its version and no command yet, one of which must be there
abbrev pub no_command : App
no_command = record {
  top = record (new_app (codes "mvo")).top { has_version = true; subcommand_required = true };
  subs = [];
}

-- with the commands that look at a store, and keep it
abbrev pub with_looks : App → App
with_looks app =
    let dumps = with_subcommand app (with_folder (codes "dump") true).top in
    let checks = with_subcommand dumps (with_folder (codes "check") true).top in
    let stats = with_subcommand checks (with_folder (codes "stats") true).top in
    with_subcommand stats (with_folder (codes "keep") true).top

-- the program's commands
abbrev pub commands : App
commands =
    let formats = with_subcommand no_command (with_folder (codes "format") true).top in
    let runs = with_subcommand formats run_command.top in
    let rows = with_subcommand runs rows_command.top in
    let works = with_subcommand (with_looks rows) work_command.top in
    with_subcommand (with_subcommand works serve_command.top) stops_command.top

-- the words ask for the task
abbrev pub AsksFor : List Text → Task → Type 0
AsksFor words t = IsSomeAnd (subcommand_of commands words) (λ p. IsTask p.0 p.1 t)
