use Rattle.std.proofs.Common.{refl}
use Rattle.mvo_engine.proofs.StoreSound.{stays_quiet, stays_refused}
use Rattle.mvo_engine.proofs.Opened.{opened, not_opened}
use Rattle.mvo_engine.proofs.locked_store.LockedStore.open_installed.Goals.{in-Ok, in-Err}
use Rattle.mvo_engine.proofs.locked_store.LockedStore.open_installed.Goals as goal

pub invariant_of-self : goal.invariant_of-self
invariant_of-self g c = elim c.match-open_installed.branch [
  | in-Ok w ↦ stays_quiet g.D.Disk c.self.invariant w.in-Ok.ensures.step tt
  | in-Err w ↦ stays_refused g.D.Disk c.self.invariant w.in-Err.ensures.step
]

pub returns : goal.returns
returns g c = elim c.match-open_installed.branch [
  | in-Ok w ↦ rw (w.result-is, ← c.self.view_is) (opened g.D.Disk _ _ refl refl w.in-Ok.opened w.in-Ok.ensures.step w.in-Ok.ensures.generation w.in-Ok.ensures.spent)
  | in-Err w ↦ rw (w.result-is, ← c.self.view_is) (not_opened g.D.Disk _ _ refl refl w.in-Err.refusal w.in-Err.ensures.step)
]
