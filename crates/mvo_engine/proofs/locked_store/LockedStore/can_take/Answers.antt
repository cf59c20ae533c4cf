use Rattle.mvo_engine.proofs.locked_store.LockedStore.can_take.Goals as goal

pub returns-clause-sound : goal.returns-clause-sound
returns-clause-sound g c = rw (← c.self.view_is) c.self.invariant.0
