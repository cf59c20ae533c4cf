use Rattle.std.proofs.Common.{◌≤◌, inl, refl, arith, rules}
use Rattle.mvo_engine.proofs.Booked.{begins_sound_reading}
use Rattle.mvo_engine.proofs.locked_core.LockedCore.begin_read_only.Goals as goal

pub invariant_of-self : goal.invariant_of-self
invariant_of-self g c = begins_sound_reading c.self.invariant c.begin_read_only.result c.begin_read_only.ensures.whole

pub returns-clause-step : goal.returns-clause-step
returns-clause-step g c =
    let le : c.args.last.0 ≤ c.self.inside.core.table.clock = first_of (grind (arith, c.if-lt.false, c.lt.ensures, c.clock.ensures), search rules) in
    rw (← c.self.view_is) (inl (le, record { step = c.begin_read_only.ensures.whole; sends = refl; made = refl }))

pub returns-clause-sound : goal.returns-clause-sound
returns-clause-sound g c = rw (← c.self.view_is) c.self.invariant.0
