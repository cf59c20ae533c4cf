use Rattle.std.proofs.Common.{◌+◌, ◌-◌, length}
use Rattle.mvo_hash.specs.Links.{IsGrown}
use Rattle.mvo_hash.proofs.links.reach.Given as goal

abbrev pub invariant-loop-links : goal.invariant-loop-links
invariant-loop-links l = IsGrown l.initial.links l.links

abbrev pub decreases-loop-links : goal.decreases-loop-links
decreases-loop-links l = l.number + 1 - length l.links
