use Rattle.std.proofs.Common.{arith}
use Rattle.mvo_frame.proofs.Slices.{all_window}
use Rattle.mvo_frame.proofs.reading.next_slice.Goals as goal

pub returns-clause-read : goal.returns-clause-read
returns-clause-read c upto start is = c.more.ensures.read upto start c.args.bytes.now is (rw c.gate-gate.ensures.value (all_window c.args.reader.now.gate _ c.args.bytes.now (omega arith)))

pub returns-clause-end : goal.returns-clause-end
returns-clause-end c upto start is = c.more.ensures.end upto start c.args.bytes.now is (rw c.gate-gate.ensures.value (all_window c.args.reader.now.gate _ c.args.bytes.now (omega arith)))

pub returns-clause-refused : goal.returns-clause-refused
returns-clause-refused c upto start is = c.more.ensures.refused upto start c.args.bytes.now is (rw c.gate-gate.ensures.value (all_window c.args.reader.now.gate _ c.args.bytes.now (omega arith)))
