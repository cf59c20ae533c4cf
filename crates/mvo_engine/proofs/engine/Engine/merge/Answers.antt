use Rattle.mvo_engine.proofs.Jobs.{merge_so}
use Rattle.mvo_engine.proofs.engine.Engine.merge.Goals as goal

pub generation_of-requires : goal.generation_of-requires
generation_of-requires g c = merge_so g.D.Disk c.args.place c.run_merge.result c.run_merge.ensures

pub returns : goal.returns
returns g c = rw c.generation_of.ensures c.run_merge.ensures
