use Rattle.std.proofs.Common.{◌+◌, ◌≤◌}
use Rattle.mvo_rules_tests.proofs.queues.push_reserved.Given as goal

abbrev pub invariant-loop-item : goal.invariant-loop-item
invariant-loop-item l = l.count ≤ l.queue.room + l.item
