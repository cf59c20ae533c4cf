use Rattle.std.proofs.Common.{rules, arith, refl, inl, inr, suc}
use Rattle.mvo_script.proofs.driver.Driver.collect_up_to.Goals as goal

pub loop-left-preserved : goal.loop-left-preserved
loop-left-preserved g c =
    let i = c.loop-left.invariant in
    (suc i.0, (c.loop-left.self, i.1, search rules), omega (arith, i.2, c.loop-left-test.true))

pub returns-in_default : goal.returns-in_default
returns-in_default g c =
    let i = c.loop-left.invariant in
    record { steps = record { count = i.0; before = c.loop-left.self; more = i.1; last = inl (search rules) }; few = omega (arith, i.2); whole = λ e. grind (arith, e) }

pub returns : goal.returns
returns g c =
    let i = c.loop-left.invariant in
    record { steps = record { count = i.0; before = c.loop-left.self; more = i.1; last = inr (refl, refl) }; few = omega (arith, i.2); whole = λ _. omega (arith, i.2) }
