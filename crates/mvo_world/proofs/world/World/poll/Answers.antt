use Rattle.std.proofs.Common.{rules}
use Rattle.mvo_world.specs.View.{world_data}
use Rattle.mvo_world.proofs.Moves.{polled_step}
use Rattle.mvo_world.proofs.world.World.poll.Goals as goal

pub returns : goal.returns
returns g c = rw (← c.self.view_is) (polled_step g.D.Disk g.met.D.Disk.only_now (world_data c.self.inside) c.args.stamp c.ge.result (search rules))
