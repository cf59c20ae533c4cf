use Rattle.std.proofs.Common.{◌+◌, ◌-◌, length}
use Rattle.mvo_versions.specs.Skips.{HasNoMore}
use Rattle.mvo_versions.proofs.skips.Skips.reach.Given as goal

abbrev pub invariant-loop-self : goal.invariant-loop-self
invariant-loop-self l = HasNoMore l.initial.self-inside.posts l.self-inside.posts

abbrev pub decreases-loop-self : goal.decreases-loop-self
decreases-loop-self l = l.at + 1 - length l.self-inside.posts
