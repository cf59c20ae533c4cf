use Rattle.std.proofs.Common.{rules, refl, inl, inr, suc}
use Rattle.mvo_script.proofs.driver.Driver.validate.Goals as goal

pub loop-init : goal.loop-init
loop-init g c = (0, refl)

pub loop-preserved : goal.loop-preserved
loop-preserved g c = (suc c.loop.invariant.0, (c.loop.self, c.loop.invariant.1, search rules))

pub returns-in_default : goal.returns-in_default
returns-in_default g c = record { count = c.loop.invariant.0; before = c.loop.self; more = c.loop.invariant.1; last = inl (search rules) }

pub returns-in_default-2 : goal.returns-in_default-2
returns-in_default-2 g c = record { count = c.loop.invariant.0; before = c.loop.self; more = c.loop.invariant.1; last = inl (search rules) }

pub returns : goal.returns
returns g c = record { count = c.loop.invariant.0; before = c.loop.self; more = c.loop.invariant.1; last = inr (refl, refl) }
