use Rattle.std.proofs.Common.{take}
use Rattle.mvo_engine.specs.Gathering.{AreForgottenUpTo}
use Rattle.mvo_engine.proofs.gathering.are_forgotten_up_to.Given as goal

abbrev pub invariant-loop-session : goal.invariant-loop-session
invariant-loop-session g l = AreForgottenUpTo l.fn.start.0 (take l.session-index l.sessions)
