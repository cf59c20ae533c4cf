use Rattle.std.proofs.Common.{refl}
use Rattle.mvo_engine.proofs.Booked.{stays_sound}
use Rattle.mvo_engine.proofs.Refused.{rollback_err}
use Rattle.mvo_engine.proofs.locked_core.LockedCore.rollback_tx.Goals as goal

pub invariant_of-self : goal.invariant_of-self
invariant_of-self g c = stays_sound c.self.invariant c.rollback_tx.result c.rollback_tx.ensures.whole refl

pub returns-clause-step : goal.returns-clause-step
returns-clause-step g c = rw (← c.self.view_is) (record { step = c.rollback_tx.ensures.whole; sends = refl; made = refl })

pub returns-clause-sound : goal.returns-clause-sound
returns-clause-sound g c = rw (← c.self.view_is) c.self.invariant.0

pub returns-clause-err : goal.returns-clause-err
returns-clause-err g c = rollback_err (record { core = c.self.inside.core; sends = c.self.inside.sends; made = c.self.inside.made }) c.args.tx.0 c.rollback_tx.result c.rollback_tx.new.self c.self.invariant.0 c.rollback_tx.ensures.whole

pub returns-clause-cause : goal.returns-clause-cause
returns-clause-cause g c = rw (← c.self.view_is) c.rollback_tx.ensures.cause
