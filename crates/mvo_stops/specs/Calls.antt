-- The calls of the device that a script makes.
use Rattle.std.specs.Prelude.{List, drop}
use Rattle.mvo_disk.specs.declared.call.Call.{Call}
use Rattle.mvo_disk.specs.Record.{calls_of as calls_on}
use Rattle.mvo_stops.specs.declared.recorded.Recorded.{Recorded}

-- those behind the opening
abbrev pub calls_in : Recorded → List Call
calls_in r = drop r.opening (calls_on r.disk)
