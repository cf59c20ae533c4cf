use Rattle.std.proofs.Common.{◌≡◌}
use Rattle.mvo_stops.specs.Looking.{ChangesAt, IsOpenedAt}
use Rattle.mvo_stops.specs.declared.fill.Fill.TheVariants.{Written}
use Rattle.mvo_stops.specs.declared.when.When.TheVariants.{FaultInPart}
use Rattle.mvo_stops.proofs.check.check_faults_at.Given as goal

abbrev pub invariant-loop-fill : goal.invariant-loop-fill
invariant-loop-fill g l =
    l.fill-index ≡ 4 → ChangesAt l.recorded l.place → IsOpenedAt l.recorded FaultInPart

abbrev pub invariant-loop-length : goal.invariant-loop-length
invariant-loop-length g l =
    l.length-index ≡ 2 → l.fill ≡ Written → ChangesAt l.recorded l.place
    → IsOpenedAt l.recorded FaultInPart
