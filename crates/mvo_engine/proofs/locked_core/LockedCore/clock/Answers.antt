use Rattle.mvo_engine.proofs.CoreSound.{legal}
use Rattle.mvo_engine.proofs.locked_core.LockedCore.clock.Goals as goal

pub returns-clause-legal : goal.returns-clause-legal
returns-clause-legal g c = rw (← c.self.view_is) (legal c.self.invariant.0)
