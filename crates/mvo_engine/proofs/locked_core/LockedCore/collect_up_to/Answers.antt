use Rattle.mvo_engine.proofs.Collecting.{one_more_collected, none_collected}
use Rattle.mvo_engine.proofs.locked_core.LockedCore.collect_up_to.Goals as goal

pub returns-in-Nothing-clause-collected : goal.returns-in-Nothing-clause-collected
returns-in-Nothing-clause-collected g c = none_collected c.args.self.now c.loop-taken.self c.collect_one.new.self c.loop-taken.taken c.args.most c.loop-taken-test.true c.loop-taken.invariant c.in-Nothing.ensures

pub loop-taken-preserved : goal.loop-taken-preserved
loop-taken-preserved g c = one_more_collected c.args.self.now c.loop-taken.self c.collect_one.new.self c.loop-taken.taken c.loop-taken.invariant c.in-Collected.ensures
