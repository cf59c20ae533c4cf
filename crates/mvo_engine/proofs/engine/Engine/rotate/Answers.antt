use Rattle.mvo_engine.proofs.Jobs.{rotation_so}
use Rattle.mvo_engine.proofs.engine.Engine.rotate.Goals as goal

pub generation_of-requires : goal.generation_of-requires
generation_of-requires g c = rotation_so g.D.Disk c.run_rotation.result c.run_rotation.ensures

pub returns : goal.returns
returns g c = rw c.generation_of.ensures c.run_rotation.ensures
