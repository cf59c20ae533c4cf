use Rattle.std.proofs.Common.{◌≡◌, ◌≤◌, length}
use Rattle.mvo_tale.specs.Slots.{without_empty_back}
use Rattle.mvo_tale.proofs.tale.drop_empty.Given as goal

abbrev pub invariant-loop-slots : goal.invariant-loop-slots
invariant-loop-slots l = record {
  same : without_empty_back l.slots.items ≡ without_empty_back l.fn.slots.items;
  within : length l.slots.items ≤ length l.fn.slots.items;
}

abbrev pub decreases-loop-slots : goal.decreases-loop-slots
decreases-loop-slots l = length l.slots.items
