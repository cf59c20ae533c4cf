use Rattle.std.proofs.Common.{◌-◌, ◌≤◌}
use Rattle.mvo_core.proofs.NextActive.{NoneActive}
use Rattle.mvo_core.proofs.unfinished.next_in.Given as goal

abbrev pub invariant-loop-at : goal.invariant-loop-at
invariant-loop-at l = (l.fn.from.0 ≤ l.at) × NoneActive l.table l.fn.from.0 l.at

abbrev pub decreases-loop-at : goal.decreases-loop-at
decreases-loop-at l = l.below.0 - l.at
