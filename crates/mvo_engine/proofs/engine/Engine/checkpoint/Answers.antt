use Rattle.mvo_engine.proofs.Jobs.{checkpoint_so}
use Rattle.mvo_engine.proofs.engine.Engine.checkpoint.Goals as goal

pub generation_of-requires : goal.generation_of-requires
generation_of-requires g c = checkpoint_so g.D.Disk c.run_checkpoint.result c.run_checkpoint.ensures

pub returns : goal.returns
returns g c = rw c.generation_of.ensures c.run_checkpoint.ensures
