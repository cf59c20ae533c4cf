use Rattle.std.proofs.Common.{◌<◌, ◌+◌, ◌≢◌, []}
use Rattle.mvo_stops.proofs.image.images_of.Given as goal

abbrev pub invariant-loop-fill : goal.invariant-loop-fill
invariant-loop-fill l = 0 < l.fill-index → l.images.items ≢ []

abbrev pub invariant-loop-length : goal.invariant-loop-length
invariant-loop-length l = 0 < l.fill-index + l.length-index → l.images.items ≢ []
