use Rattle.mvo_engine.proofs.locked_core.LockedCore.tale_start.Goals as goal

pub returns-clause-sound : goal.returns-clause-sound
returns-clause-sound g c = rw (← c.self.view_is) c.self.invariant.0
