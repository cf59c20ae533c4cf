use Rattle.std.proofs.Common.{◌≡◌, ◌≤◌, ◌-◌, length, drop, IfSome}
use Rattle.mvo_keep.specs.Choosing.{chosen_neighbours, neighbours_from}
use Rattle.mvo_keep.specs.Due.{MayMergeAt}
use Rattle.mvo_keep.proofs.choosing.chosen_place.Given as goal

abbrev pub invariant-loop-place : goal.invariant-loop-place
invariant-loop-place l = (l.place ≤ length l.fn.pairs)
    × (l.best ≡ chosen_neighbours l.fn.policy l.fn.choice
    (neighbours_from (l.place - 1) (drop (l.place - 1) l.fn.pairs)))
    × IfSome l.best (λ t. MayMergeAt l.fn.policy l.fn.pairs t.place)

abbrev pub decreases-loop-place : goal.decreases-loop-place
decreases-loop-place l = l.place
