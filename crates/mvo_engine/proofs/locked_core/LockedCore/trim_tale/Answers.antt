use Rattle.std.proofs.Common.{refl}
use Rattle.mvo_engine.proofs.Booked.{stays_sound}
use Rattle.mvo_engine.proofs.locked_core.LockedCore.trim_tale.Goals as goal

pub invariant_of-self : goal.invariant_of-self
invariant_of-self g c = stays_sound c.self.invariant c.trim_tale.result c.trim_tale.ensures.whole refl

pub returns-clause-step : goal.returns-clause-step
returns-clause-step g c = rw (← c.self.view_is) (record { step = c.trim_tale.ensures.whole; sends = refl; made = refl })
