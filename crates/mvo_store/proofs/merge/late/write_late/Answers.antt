use Rattle.std.proofs.Common.{arith}
use Rattle.mvo_store.proofs.CameLate.{place_there, manifest_end}
use Rattle.mvo_store.proofs.merge.late.write_late.Goals as goal

pub merged-requires-clause-there : goal.merged-requires-clause-there
merged-requires-clause-there g c = place_there c.args.manifest.now c.generation-generation.ensures.manifest c.args.merge.now.seen c.requires.safe.still c.requires.safe.may_become

pub merged-requires-clause-is : goal.merged-requires-clause-is
merged-requires-clause-is g c = manifest_end c.args.manifest.now c.generation-generation.ensures.manifest c.args.merge.now.seen c.requires.safe.still c.requires.safe.may_become c.in-Ok.entries (omega arith)
