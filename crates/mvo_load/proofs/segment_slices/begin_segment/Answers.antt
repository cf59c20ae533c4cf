use Rattle.std.proofs.Common.{inr, ◌∙◌}
use Rattle.mvo_load.proofs.Framed.{begins, begins_misread, begins_only}
use Rattle.mvo_load.proofs.Unchanged.{was_read, then_misread}
use Rattle.mvo_load.proofs.segment_slices.begin_segment.Goals as goal

pub returns-in-Ok-begin-clause-begun : goal.returns-in-Ok-begin-clause-begun
returns-in-Ok-begin-clause-begun g c =
    begins c.args.upto c.args.file c.args.mark.0 _ (g.D.Disk.content c.args.disk.now c.args.file) c.deref.result.now (λ honest. c.deref.ensures.value ∙ c.in-Ok.ensures.bytes honest) c.in-Ok-begin.reader
    (λ n all ample part. c.in-Ok-begin.ensures.begun n all ample part)

pub returns-clause-why : goal.returns-clause-why
returns-clause-why g c =
    inr (begins_misread c.args.upto c.args.file c.args.mark.0 _ (g.D.Disk.content c.args.disk.now c.args.file) c.deref.result.now (λ honest. c.deref.ensures.value ∙ c.in-Ok.ensures.bytes honest) c.in-Err-begin.e
    (λ n all ample part. c.in-Err-begin.ensures.refused n all ample part))

pub returns-clause-refused : goal.returns-clause-refused
returns-clause-refused g c = λ honest.
    inr (begins_only c.args.upto c.args.file c.args.mark.0 _ (g.D.Disk.content c.args.disk.now c.args.file) c.deref.result.now (λ honest. c.deref.ensures.value ∙ c.in-Ok.ensures.bytes honest) c.in-Err-begin.e
    (λ n all ample part. c.in-Err-begin.ensures.refused n all ample part) honest)

pub returns-clause-read : goal.returns-clause-read
returns-clause-read g c =
    let first = was_read g.D.Disk c.args.disk.now c.bytes_from.new.disk c.in-Ok.read c.in-Ok.ensures.read in
    then_misread g.D.Disk _ c.args.disk.now c.bytes_from.new.disk c.in-Err-begin.e
    (begins_misread c.args.upto c.args.file c.args.mark.0 _ (g.D.Disk.content c.args.disk.now c.args.file) c.deref.result.now (λ honest. c.deref.ensures.value ∙ c.in-Ok.ensures.bytes honest) c.in-Err-begin.e
    (λ n all ample part. c.in-Err-begin.ensures.refused n all ample part)) first
