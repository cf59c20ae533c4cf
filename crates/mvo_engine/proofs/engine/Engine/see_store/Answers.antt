use Rattle.std.proofs.Common.{arith}
use Rattle.mvo_engine.proofs.engine.Engine.see_store.Goals as goal

pub returns-in-Ok-clause-ok : goal.returns-in-Ok-clause-ok
returns-in-Ok-clause-ok g c = record {
  store = _;
  sound = c.stats.ensures.sound;
  stats = c.stats.ensures.stats;
  pairs_are = grind arith;
}
