use Rattle.std.proofs.Common.{arith}
use Rattle.mvo_frame.proofs.Slices.{step_shorter, step_few}
use Rattle.mvo_frame.proofs.reader.SegmentReader.next.Goals as goal

pub overflow_sub-self : goal.overflow_sub-self
overflow_sub-self c =
    let r = c.self.inside in
    step_shorter r.format r.file r.gate r.mark.0 c.args.bytes.now c.in-Some.group c.in-Some.later.now (λ i. omega (arith, c.type_inv.bytes i)) (rw c.in-Some.is at c.in-Ok.ensures.found)

pub invariant_of-self-2 : goal.invariant_of-self-2
invariant_of-self-2 c =
    let r = c.self.inside in
    step_few r.format r.file r.gate r.mark.0 c.args.bytes.now c.in-Some.group c.in-Some.later.now (λ i. omega (arith, c.type_inv.bytes i)) (rw c.in-Some.is at c.in-Ok.ensures.found)
