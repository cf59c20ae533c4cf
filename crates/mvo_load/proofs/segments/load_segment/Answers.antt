use Rattle.std.proofs.Common.{inl, inr, ⊎_elim, List, ℕ, subst, ◌∙◌, Err}
use Rattle.mvo_pair.specs.Answers.{IsOnly}
use Rattle.mvo_recovery.specs.image.Files.{SegmentIs}
use Rattle.mvo_load.specs.Parts.{IsReplayed}
use Rattle.mvo_load.proofs.Fronts.{segment_on_disk}
use Rattle.mvo_load.proofs.Replaying.{replayed_on_disk}
use Rattle.mvo_load.proofs.segments.load_segment.Goals as goal

pub returns-in-Ok-put_segment-clause-ok : goal.returns-in-Ok-put_segment-clause-ok
returns-in-Ok-put_segment-clause-ok g c = λ honest.
    let upto = c.args.upto in
    let file = g.D.Disk.content c.args.disk.now c.args.file in
    let end = c.in-Ok-put_segment.end in
    let same = c.deref.ensures.value ∙ c.in-Ok.ensures.bytes honest in
    replayed_on_disk upto c.args.file c.args.mark.0 c.args.kind file c.args.rows.now c.put_segment.new.rows end.mark.0 end.gate
    (subst (λ (l : List ℕ). IsReplayed upto c.args.file c.args.mark.0 c.args.kind l c.args.rows.now c.put_segment.new.rows end.mark.0 end.gate) same c.in-Ok-put_segment.ensures.ok)

pub returns-clause-err : goal.returns-clause-err
returns-clause-err g c = λ honest.
    let upto = c.args.upto in
    let e = c.in-Err-put_segment.e in
    let file = g.D.Disk.content c.args.disk.now c.args.file in
    let same = c.deref.ensures.value ∙ c.in-Ok.ensures.bytes honest in
    ⊎_elim (λ m. inl (inl m)) (λ h. inr (segment_on_disk upto c.args.file c.args.mark.0 c.args.kind file (Err e) (subst (λ (l : List ℕ). IsOnly (SegmentIs upto c.args.file c.args.mark.0 c.args.kind l) (Err e)) same h))) c.in-Err-put_segment.ensures.err
