use Rattle.std.proofs.Common.{ℕ, List, get_or, ap, subst}
use Rattle.mvo_format.specs.declared.format.TheConstants.{LAST_FORMAT}
use Rattle.mvo_load.specs.Framed.{IsStopOrOnly}
use Rattle.mvo_store.proofs.Checkpoints.{first_below}
use Rattle.mvo_store.proofs.SegmentOn.{stop_or_only}
use Rattle.mvo_store.proofs.checkpoint.reading.begin_oldest.Goals as goal

pub begin_segment-requires-clause-file : goal.begin_segment-requires-clause-file
begin_segment-requires-clause-file g c = first_below c.args.manifest.now c.segments.ensures.manifest c.segments.result.now c.segments.ensures.value

pub returns-in-Err-clause-stop : goal.returns-in-Err-clause-stop
returns-in-Err-clause-stop g c = λ honest at.
    let content = g.D.Disk.content c.args.disk.now in
    let file = get_or c.segments.result.now 0 0 in
    let e = c.in-Err.refusal in
    stop_or_only content (g.D.Disk.may_leave c.args.disk.now) c.args.manifest.now c.requires.may at e file (ap (λ (l : List ℕ). get_or l 0 0) c.segments.ensures.value)
    (subst (λ mark. IsStopOrOnly LAST_FORMAT.version file mark (content file) e) c.checkpoint_mark-mark.ensures.value (c.in-Err.ensures.refused honest))
