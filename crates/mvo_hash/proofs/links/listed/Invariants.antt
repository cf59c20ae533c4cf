use Rattle.std.proofs.Common.{◌-◌, ◌≡◌, ◌≤◌, length, map, take, drop, vec_len}
use Rattle.mvo_hash.specs.Links.{first_or_none, walk}
use Rattle.mvo_hash.proofs.links.listed.Given as goal

abbrev pub invariant-loop-at : goal.invariant-loop-at
invariant-loop-at l =
    let ns = walk l.links (length l.links) l.newest in
    (vec_len l.versions ≤ length ns) × (l.at ≡ first_or_none (drop (vec_len l.versions) ns)) × (map (λ v. v.0) l.versions.items ≡ take (vec_len l.versions) ns)

abbrev pub decreases-loop-at : goal.decreases-loop-at
decreases-loop-at l = length (walk l.links (length l.links) l.newest) - vec_len l.versions
