use Rattle.std.proofs.Common.{length}
use Rattle.mvo_frame.proofs.Slices.{IsReadOn}
use Rattle.mvo_frame.proofs.reader.SegmentReader.read_on.Given as goal

abbrev pub invariant-loop-rest : goal.invariant-loop-rest
invariant-loop-rest l = IsReadOn l.fn.self l.fn.most l.fn.bytes l.rest l.self

abbrev pub decreases-loop-rest : goal.decreases-loop-rest
decreases-loop-rest l = length l.rest
