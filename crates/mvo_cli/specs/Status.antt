-- The program's exit status.
use Rattle.std.specs.Prelude.{ℕ, if◌then◌else◌}
use Rattle.clap.specs.Words.{kind_of}
use Rattle.clap.specs.declared.error.ErrorKind.{ErrorKind}
use Rattle.clap.specs.declared.error.ErrorKind.TheVariants as kind
use Rattle.mvo_stops.specs.declared.error.StopsError.{StopsError}
use Rattle.mvo_stops.specs.declared.error.StopsError.TheVariants as stops
use Rattle.mvo_cli.specs.declared.fault.Fault.{Fault}
use Rattle.mvo_cli.specs.declared.fault.Fault.TheVariants as fault

-- help is no fault, and out of memory is none of the command line's
abbrev pub status_by : ErrorKind → ℕ
status_by kind.DisplayHelp = 0
status_by kind.DisplayVersion = 0
status_by kind.OutOfMemory = 3
status_by _ = 2

-- a call that a script doesn't make is a wrong word of the command line
abbrev pub status_of_stops : StopsError → ℕ
status_of_stops (stops.NoSuchCall all) = 2
status_of_stops _ = 3

-- after a fault of the command line alone it is not 3
abbrev pub status_of : Fault → ℕ
status_of (fault.CommandLine e) = status_by (kind_of e)
status_of (fault.Words e) = 2
status_of (fault.Refused r) = 1
status_of fault.InUse = 1
status_of (fault.Seed e) = 3
status_of (fault.Script e) = 3
status_of (fault.ScriptFile path e) = 3
status_of (fault.Pipe path e) = 3
status_of (fault.Unserved text) = 3
status_of (fault.Stops e) = status_of_stops e
status_of (fault.Found f) = 1
status_of (fault.Print e) = 3
status_of fault.OutOfMemory = 3
