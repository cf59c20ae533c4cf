use Rattle.std.proofs.Common.{◌≡◌, ◌-◌}
use Rattle.mvo_bytes.specs.Reading.{times}
use Rattle.mvo_group.specs.Reading.{record_at}
use Rattle.mvo_bytes.proofs.Loop.{with_front}
use Rattle.mvo_group.proofs.decode.records_of.Given as goal

abbrev pub invariant-loop : goal.invariant-loop
invariant-loop l = with_front l.records.items (times record_at (l.count - l.counter) l.rest) ≡ times record_at l.count l.bytes
