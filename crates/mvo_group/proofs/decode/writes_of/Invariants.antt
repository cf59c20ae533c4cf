use Rattle.std.proofs.Common.{◌≡◌, ◌-◌, map}
use Rattle.mvo_group.specs.Data.{write_data}
use Rattle.mvo_bytes.specs.Reading.{times}
use Rattle.mvo_group.specs.Reading.{keyed_write_at}
use Rattle.mvo_bytes.proofs.Loop.{with_front}
use Rattle.mvo_group.proofs.decode.writes_of.Given as goal

abbrev pub invariant-loop : goal.invariant-loop
invariant-loop l = with_front (map write_data l.writes.items) (times keyed_write_at (l.count - l.counter) l.rest) ≡ times keyed_write_at l.count l.bytes
