use Rattle.std.proofs.Common.{◌≡◌, length}
use Rattle.mvo_core.specs.Finishing.{from_own}
use Rattle.mvo_core.proofs.finishing.pass_others.Given as goal

abbrev pub invariant-loop-place : goal.invariant-loop-place
invariant-loop-place l = from_own l.versions.slots l.tx.0 l.writes.words ≡ from_own l.versions.slots l.tx.0 l.fn.writes.words

abbrev pub decreases-loop-place : goal.decreases-loop-place
decreases-loop-place l = length l.writes.words
