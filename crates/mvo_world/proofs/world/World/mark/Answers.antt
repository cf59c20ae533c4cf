use Rattle.mvo_world.proofs.Standing.{prefix_image}
use Rattle.mvo_world.proofs.world.World.mark.Goals as goal

pub returns-clause-images : goal.returns-clause-images
returns-clause-images g c = λ past h honest image now. prefix_image g.D.Disk past c.args.self.now h image ((h.store honest).images image now)
