use Rattle.std.proofs.Common.{◌∷◌, refl}
use Rattle.mvo_engine.specs.Keeping.HasKeptUntil.{WhereDown, AtEnd}
use Rattle.mvo_engine.proofs.engine.Engine.keep_until.Goals as goal

pub returns-then-load-ne0 : goal.returns-then-load-ne0
returns-then-load-ne0 g c = AtEnd c.loop.invariant.0 c.loop.keeper c.loop.invariant.1 c.flush_to_end.ensures

pub loop-preserved : goal.loop-preserved
loop-preserved g c = (c.loop.keeper ∷ c.loop.invariant.0, (c.in-Ok.ensures.ok, c.loop.invariant.1))

pub returns-in-Err : goal.returns-in-Err
returns-in-Err g c = WhereDown c.loop.invariant.0 c.loop.keeper c.loop.invariant.1 c.in-Err.refusal c.in-Err.ensures.down refl
