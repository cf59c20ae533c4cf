use Rattle.std.proofs.Common.{◌≡◌}
use Rattle.mvo_pair.specs.Late.{numbers_upto}
use Rattle.mvo_pair.proofs.late.decode_numbers.Given as goal

abbrev pub invariant-loop-place : goal.invariant-loop-place
invariant-loop-place l = l.numbers.items ≡ numbers_upto l.place l.bytes
