use Rattle.std.proofs.Common.{◌≡◌}
use Rattle.mvo_front.specs.Outcomes.{AreOutcomes}
use Rattle.mvo_front.specs.Queue.{IsButForTaken}
use Rattle.mvo_front.proofs.handing_out.push_one.Given as goal

abbrev pub invariant-loop : goal.invariant-loop
invariant-loop g l = record {
  waiting : l.waiting ≡ l.fn.job;
  taken : IsButForTaken l.fn.ticket l.ticket;
  each : AreOutcomes g.W.JobWork.comes_to l.outcomes.items l.ticket.taken;
}
