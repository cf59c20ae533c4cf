use Rattle.std.proofs.Common.{rules, suc}
use Rattle.mvo_store.proofs.jobs.whole.write_deltas.Goals as goal

pub loop-preserved : goal.loop-preserved
loop-preserved g c = (suc c.loop.invariant.0, (c.loop.caller, c.loop.invariant.1, search rules))
