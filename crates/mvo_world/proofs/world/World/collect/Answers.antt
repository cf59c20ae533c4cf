use Rattle.mvo_world.specs.View.{world_data}
use Rattle.mvo_world.proofs.Moves.{collected}
use Rattle.mvo_world.proofs.Sound.{sound_collected}
use Rattle.mvo_world.proofs.world.World.collect.Goals as goal

pub invariant_of-self : goal.invariant_of-self
invariant_of-self g c = sound_collected (world_data c.self.inside) c.self.invariant c.collect_one.new.self c.collect_one.ensures.whole c.collect_one.ensures.rest

pub returns : goal.returns
returns g c =
    let e = c.collect_one.ensures in
    rw (← c.self.view_is) (collected g.D.Disk g.met.D.Disk.only_now (world_data c.self.inside) c.collect_one.result e.whole_counts e.whole e.rest e.count)
