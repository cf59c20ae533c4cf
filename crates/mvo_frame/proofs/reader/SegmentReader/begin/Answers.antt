use Rattle.std.proofs.Common.{arith}
use Rattle.mvo_frame.proofs.Slices.{begun, not_begun}
use Rattle.mvo_frame.proofs.reader.SegmentReader.begin.Goals as goal

pub returns-in-Ok-clause-begun : goal.returns-in-Ok-clause-begun
returns-in-Ok-clause-begun c n bytes ample part =
    rw c.new.ensures.items (begun c.args.upto c.args.file c.args.start.0 n bytes c.args.head.now (λ i. omega (arith, c.type_inv.head i)) ample part c.in-Ok.format c.in-Ok.field-0-1.now c.in-Ok.ensures)

pub returns-in-Err-clause-refused : goal.returns-in-Err-clause-refused
returns-in-Err-clause-refused c n bytes ample part =
    not_begun c.args.upto c.args.file c.args.start.0 n bytes c.args.head.now (λ i. omega (arith, c.type_inv.head i)) ample part c.in-Err.refusal c.in-Err.ensures
