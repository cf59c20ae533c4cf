use Rattle.mvo_engine.specs.Collecting.{HasCollectedUpTo}
use Rattle.mvo_engine.proofs.locked_core.LockedCore.collect_up_to.Given as goal

abbrev pub invariant-loop-taken : goal.invariant-loop-taken
invariant-loop-taken g l = HasCollectedUpTo l.fn.self l.taken l.taken l.self
