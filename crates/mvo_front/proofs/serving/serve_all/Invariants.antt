use Rattle.mvo_front.specs.Outcomes.{AreOutcomes}
use Rattle.mvo_front.specs.Queue.{IsButForTaken}
use Rattle.mvo_front.proofs.serving.serve_all.Given as goal

abbrev pub invariant-loop : goal.invariant-loop
invariant-loop g l = record {
  taken : IsButForTaken l.fn.ticket l.ticket;
  each : AreOutcomes g.W.JobWork.comes_to l.outcomes.items l.ticket.taken;
}
