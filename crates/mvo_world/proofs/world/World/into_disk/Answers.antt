use Rattle.std.proofs.Common.{ap, ◌∙◌, subst, sym}
use Rattle.mvo_world.specs.Standing.{RecoversPrefix}
use Rattle.mvo_world.proofs.Standing.{prefix_image}
use Rattle.mvo_store.specs.Seen.{disk_of}
use Rattle.mvo_world.proofs.world.World.into_disk.Goals as goal

pub returns-clause-prefix : goal.returns-clause-prefix
returns-clause-prefix g c = λ past h honest.
    let disk = disk_of c.args.self.store in
    let content = g.D.Disk.content disk in
    subst (λ d. RecoversPrefix past (g.D.Disk.content d)) (ap (λ w. (disk_of w.store)) (sym c.self.view_is) ∙ sym c.into_disk.ensures)
    (prefix_image g.D.Disk past c.args.self h content ((h.store honest).images content (λ n. g.met.D.Disk.content_may_stay disk n)))
