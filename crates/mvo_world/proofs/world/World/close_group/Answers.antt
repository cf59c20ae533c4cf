use Rattle.mvo_world.specs.View.{world_data}
use Rattle.mvo_world.proofs.Moves.{closed_step, unclosed_step}
use Rattle.mvo_world.proofs.Sound.{sound_closed}
use Rattle.mvo_world.proofs.world.World.close_group.Goals as goal

pub invariant_of-self : goal.invariant_of-self
invariant_of-self g c = sound_closed (world_data c.self.inside) c.self.invariant c.close.result c.close.new.core c.close.new.self c.close.ensures.closing

pub returns : goal.returns
returns g c =
    elim c.match-close.branch [
      | goal.in-Ok w ↦ rw (w.result-is, ← c.self.view_is) (closed_step g.D.Disk g.met.D.Disk.only_now (world_data c.self.inside) w.in-Ok.closed c.self.invariant.linked w.in-Ok.ensures.closing w.in-Ok.ensures.count)
      | goal.in-Err w ↦ rw (w.result-is, ← c.self.view_is) (unclosed_step g.D.Disk g.met.D.Disk.only_now (world_data c.self.inside) w.in-Err.refusal c.self.invariant w.in-Err.ensures.closing w.in-Err.ensures.count)
    ]
