use Rattle.std.proofs.Common.{◌≡◌}
use Rattle.mvo_front.proofs.front.Front.take.Given as goal

abbrev pub invariant-loop : goal.invariant-loop
invariant-loop g l = l.ticket ≡ l.fn.ticket
