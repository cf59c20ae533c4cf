use Rattle.mvo_store.proofs.Checkpoints.{first_below}
use Rattle.mvo_store.proofs.checkpoint.steps.read_oldest.Goals as goal

pub segment_on-requires-clause-file : goal.segment_on-requires-clause-file
segment_on-requires-clause-file g c = first_below c.args.manifest.now c.segments.ensures.manifest c.segments.result.now c.segments.ensures.value
