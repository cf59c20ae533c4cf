use Rattle.mvo_engine.proofs.StoreSound.{stays_quiet, stays_refused}
use Rattle.mvo_engine.proofs.Jobs.{quiet_slice}
use Rattle.mvo_engine.proofs.locked_store.LockedStore.slice.Goals.{in-Ok, in-Err}
use Rattle.mvo_engine.proofs.locked_store.LockedStore.slice.Goals as goal

pub invariant_of-self : goal.invariant_of-self
invariant_of-self g c = elim c.match-slice_of.branch [
  | in-Ok w ↦ stays_quiet g.D.Disk c.self.invariant w.in-Ok.ensures.step (quiet_slice c.args.slice)
  | in-Err w ↦ stays_refused g.D.Disk c.self.invariant w.in-Err.ensures.step
]
