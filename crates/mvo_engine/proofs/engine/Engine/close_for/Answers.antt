use Rattle.std.proofs.Common.{refl, arith, rules}
use Rattle.mvo_engine.specs.Lasting.IsNotMadeDurable.{AboveClock, AtClosing}
use Rattle.mvo_engine.proofs.Lasting.{not_closed}
use Rattle.mvo_engine.proofs.engine.Engine.close_for.Goals as goal

pub returns-then-lt : goal.returns-then-lt
returns-then-lt g c = AboveClock refl (record {
  core = c.deref.result.now;
  legal = c.clock.ensures.legal;
  above = first_of (grind (arith, c.if-lt.true, c.lt.ensures, c.clock.ensures.value), search rules);
})

pub returns : goal.returns
returns g c =
    AtClosing (not_closed c.deref_mut.result.now c.close_group.new.self c.close_group.result c.in-Err.refusal c.in-Err.is c.close_group.ensures (λ is. grind arith) (λ is. grind arith))
