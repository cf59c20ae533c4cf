use Rattle.std.proofs.Common.{refl}
use Rattle.mvo_world.specs.View.{world_data}
use Rattle.mvo_world.proofs.Moves.{answered_step, unanswered_step}
use Rattle.mvo_world.proofs.Sound.{sound_asked}
use Rattle.mvo_world.proofs.world.World.operate.Goals as goal

pub invariant_of-self : goal.invariant_of-self
invariant_of-self g c = sound_asked (world_data c.self.inside) c.self.invariant c.operate.result c.operate.ensures.whole refl

pub returns : goal.returns
returns g c =
    elim c.match-operate.branch [
      | goal.in-Ok w ↦ rw (w.result-is, ← c.self.view_is) (answered_step g.D.Disk g.met.D.Disk.only_now (world_data c.self.inside) c.args.tx c.args.op w.in-Ok.answer w.in-Ok.ensures.whole w.in-Ok.ensures.whole_answer w.in-Ok.ensures.count)
      | goal.in-Err w ↦ rw (w.result-is, ← c.self.view_is) (unanswered_step g.D.Disk g.met.D.Disk.only_now (world_data c.self.inside) c.args.tx c.args.op w.in-Err.ensures.whole w.in-Err.ensures.count)
    ]
