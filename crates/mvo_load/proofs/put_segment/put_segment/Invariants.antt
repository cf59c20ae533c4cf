use Rattle.std.proofs.Common.{length, map}
use Rattle.mvo_group.specs.Data.{write_data}
use Rattle.mvo_load.proofs.Replaying.{IsReplaying}
use Rattle.mvo_load.proofs.put_segment.put_segment.Given as goal

abbrev pub invariant-loop-writes : goal.invariant-loop-writes
invariant-loop-writes l = IsReplaying l.fn.upto l.own l.fn.file l.fn.start.0 l.fn.bytes l.rest l.fn.rows l.rows (map write_data l.writes.items) l.gate l.mark.0

abbrev pub decreases-loop-writes : goal.decreases-loop-writes
decreases-loop-writes l = length l.rest
