use Rattle.std.proofs.Common.{◌≡◌, length, vec_len, true}
use Rattle.mvo_stops.specs.declared.fill.Fill.TheVariants.{Written}
use Rattle.mvo_stops.proofs.moment.left_of.Given as goal

abbrev pub invariant-loop-byte : goal.invariant-loop-byte
invariant-loop-byte l =
    (l.fill ≡ Written → l.differs ≡ true) × (vec_len l.left ≡ length l.yielded)
