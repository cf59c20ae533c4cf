use Rattle.mvo_world.specs.View.{world_data}
use Rattle.mvo_world.proofs.Moves.{called}
use Rattle.mvo_world.proofs.world.World.call_store.Goals as goal

pub returns : goal.returns
returns g c = rw (← c.self.view_is) (called g.D.Disk (world_data c.self.inside) c.args.call c.call.result c.call.ensures.step c.call.ensures.answers)
