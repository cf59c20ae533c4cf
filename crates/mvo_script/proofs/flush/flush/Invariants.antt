use Rattle.std.proofs.Common.{length}
use Rattle.mvo_world.specs.WorldData.{waiting}
use Rattle.mvo_world.specs.Replies.{IsReplyTo}
use Rattle.mvo_script.specs.Flushing.{HasTurned}
use Rattle.mvo_script.proofs.flush.flush.Given as goal

abbrev pub invariant-loop-world : goal.invariant-loop-world
invariant-loop-world g l = HasTurned (IsReplyTo g.D.Disk) l.fn.world l.world

abbrev pub decreases-loop-world : goal.decreases-loop-world
decreases-loop-world g l = length (waiting l.world)
