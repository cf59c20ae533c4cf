use Rattle.std.proofs.Common.{◌≡◌, ◌≤◌, length}
use Rattle.mvo_tale.specs.Forgetting.{from_kept}
use Rattle.mvo_tale.proofs.tale.drop_front.Given as goal

abbrev pub invariant-loop-upto : goal.invariant-loop-upto
invariant-loop-upto l = record {
  kept : from_kept l.upto.0 l.slots.items ≡ from_kept l.upto.0 l.fn.slots.items;
  within : length l.slots.items ≤ length l.fn.slots.items;
}

abbrev pub decreases-loop-upto : goal.decreases-loop-upto
decreases-loop-upto l = length l.slots.items
