use Rattle.mvo_engine.proofs.StoreSound.{leaves}
use Rattle.mvo_engine.proofs.locked_store.LockedStore.audit.Goals as goal

pub returns-clause-images : goal.returns-clause-images
returns-clause-images g c = rw (← c.self.view_is) (leaves g.D.Disk c.self.invariant.0)
