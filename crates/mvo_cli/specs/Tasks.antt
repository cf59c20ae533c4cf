-- What a command asks for, by the words behind it.
use Rattle.std.specs.Prelude.{◌≡◌, ◌<◌, ◌≤◌, ℕ, Bool, false, not, List, Option, Some, None, codes, map, vec_len}
use Rattle.std.specs.Borrow.{Bor}
use Rattle.std.specs.Str.{bytes_eq}
use Rattle.std.specs.Str.Parse.{digits_value, without_leading_plus}
use Rattle.clap.specs.Words.{Row, Text, all_of, first_of}
use Rattle.mvo_front.specs.declared.workers.TheConstants.{MAX_WORKERS}
use Rattle.mvo_cli.specs.declared.task.Task.{Task}
use Rattle.mvo_cli.specs.declared.task.Task.TheVariants as task

-- the path of the folder is this one
abbrev pub HasFolder : List Row → Text → Type 0
HasFolder rows folder = first_of (codes "DIR") rows ≡ Some folder

-- the table is this one
abbrev pub HasTable : List Row → ℕ → Type 0
HasTable rows table =
    (text : Text) × (first_of (codes "TABLE") rows ≡ Some text)
    × (table ≡ digits_value 10 (without_leading_plus text))

-- the option says so many, from 1 to 64
abbrev pub HasCount : Text → List Row → ℕ → Type 0
HasCount option rows count =
    (text : Text) × (first_of option rows ≡ Some text)
    × (count ≡ digits_value 10 (without_leading_plus text)) × (1 ≤ count) × (count ≤ MAX_WORKERS)

-- the text behind a reference
abbrev pub text_now : Bor Text → Text
text_now s = s.now

-- the option is there, whose name alone sets it
abbrev pub is_true : Option Text → Bool
is_true None = false
is_true (Some text) = bytes_eq text (codes "true")

-- the store is kept meanwhile
abbrev pub HasKeep : List Row → Bool → Type 0
HasKeep rows keeps = keeps ≡ is_true (first_of (codes "keep") rows)

-- the store isn't kept meanwhile
abbrev pub HasNoKeep : List Row → Bool → Type 0
HasNoKeep rows keeps = keeps ≡ not (is_true (first_of (codes "no-keep") rows))

-- the folder of the pipes is this one
abbrev pub HasPipes : List Row → Text → Type 0
HasPipes rows pipes = first_of (codes "PIPES") rows ≡ Some pipes

-- the paths of the scripts are these
abbrev pub HasFiles : List Row → List Text → Type 0
HasFiles rows files = all_of (codes "FILE") rows ≡ Some files

-- the path of the script is this one
abbrev pub HasScript : List Row → Text → Type 0
HasScript rows script = first_of (codes "FILE") rows ≡ Some script

-- the number of the call is this one
abbrev pub HasNumber : List Row → ℕ → Type 0
HasNumber rows number =
    (text : Text) × (first_of (codes "explain") rows ≡ Some text)
    × (number ≡ digits_value 10 (without_leading_plus text))

-- the command and its words ask for the task
abbrev pub IsTask : Text → List Row → Task → Type 0
IsTask name rows (task.Format folder) = (name ≡ codes "format") × HasFolder rows folder.now
IsTask name rows (task.Run keeps) =
    (name ≡ codes "run") × (first_of (codes "DIR") rows ≡ None) × HasKeep rows keeps
IsTask name rows (task.RunIn folder keeps) =
    (name ≡ codes "run") × HasFolder rows folder.now × HasKeep rows keeps
IsTask name rows (task.Rows folder table) =
    (name ≡ codes "rows") × HasFolder rows folder.now × HasTable rows table
IsTask name rows (task.Dump folder) = (name ≡ codes "dump") × HasFolder rows folder.now
IsTask name rows (task.Check folder) = (name ≡ codes "check") × HasFolder rows folder.now
IsTask name rows (task.Stats folder) = (name ≡ codes "stats") × HasFolder rows folder.now
IsTask name rows (task.Keep folder) = (name ≡ codes "keep") × HasFolder rows folder.now
IsTask name rows (task.Work t) =
    (name ≡ codes "work") × HasFolder rows t.folder.now
    × HasCount (codes "workers") rows t.workers.count × HasKeep rows t.keeps
    × HasFiles rows (map (λ f. f.now) t.files.items) × (0 < vec_len t.files)
IsTask name rows (task.Serve t) =
    (name ≡ codes "serve") × HasFolder rows t.folder.now
    × HasCount (codes "clients") rows t.clients.count × HasNoKeep rows t.keeps
    × HasPipes rows t.pipes.now
IsTask name rows (task.Stops script) =
    (name ≡ codes "stops") × HasScript rows script.now × (first_of (codes "explain") rows ≡ None)
IsTask name rows (task.Explain number script) =
    (name ≡ codes "stops") × HasScript rows script.now × HasNumber rows number
