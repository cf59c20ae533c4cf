use Rattle.mvo_engine.proofs.StoreSound.{received_image, leaves}
use Rattle.mvo_store.specs.Seen.{disk_of}
use Rattle.mvo_engine.proofs.locked_store.LockedStore.into_disk.Goals as goal

pub returns-clause-gives : goal.returns-clause-gives
returns-clause-gives g c =
    let disk = disk_of c.self.inside.store in
    rw (← c.self.view_is, c.into_disk.ensures) (λ now slots. received_image g.D.Disk c.self.invariant.0 now slots (g.D.Disk.content disk) (λ n. g.met.D.Disk.content_may_stay disk n))

pub returns-clause-images : goal.returns-clause-images
returns-clause-images g c = rw (← c.self.view_is) (leaves g.D.Disk c.self.invariant.0)
