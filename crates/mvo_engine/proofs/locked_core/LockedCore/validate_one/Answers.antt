use Rattle.std.proofs.Common.{refl}
use Rattle.mvo_engine.proofs.Booked.{stays_sound}
use Rattle.mvo_engine.proofs.locked_core.LockedCore.validate_one.Goals as goal

pub invariant_of-self : goal.invariant_of-self
invariant_of-self g c = stays_sound c.self.invariant c.validate_one.result c.validate_one.ensures.whole refl

pub returns-clause-step : goal.returns-clause-step
returns-clause-step g c = rw (← c.self.view_is) (record { step = c.validate_one.ensures.whole; sends = refl; made = refl })

pub returns-clause-sound : goal.returns-clause-sound
returns-clause-sound g c = rw (← c.self.view_is) c.self.invariant.0
