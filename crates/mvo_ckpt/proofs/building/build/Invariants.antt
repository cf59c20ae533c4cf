use Rattle.mvo_ckpt.specs.Building.{IsBuilding, steps_left}
use Rattle.mvo_ckpt.proofs.building.build.Given as goal

abbrev pub invariant-loop-built : goal.invariant-loop-built
invariant-loop-built l = IsBuilding l.places.at l.pairs l.fn.groups.items l.building

abbrev pub decreases-loop-built : goal.decreases-loop-built
decreases-loop-built l = steps_left l.pairs l.building
