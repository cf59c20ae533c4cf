use Rattle.std.proofs.Common.{◌≢◌, []}
use Rattle.mvo_stops.specs.Looking.{IsOpenedAt}
use Rattle.mvo_stops.proofs.check.check_stopped.Given as goal

abbrev pub invariant-loop-image : goal.invariant-loop-image
invariant-loop-image g l = l.yielded ≢ [] → IsOpenedAt l.recorded l.when
