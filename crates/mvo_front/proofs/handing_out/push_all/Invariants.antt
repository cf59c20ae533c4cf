use Rattle.mvo_front.specs.Outcomes.{AreOutcomes}
use Rattle.mvo_front.specs.Queue.{HasPushed}
use Rattle.mvo_front.proofs.handing_out.push_all.Given as goal

abbrev pub invariant-loop-job : goal.invariant-loop-job
invariant-loop-job g l = record {
  pushed : HasPushed l.fn.ticket l.yielded l.ticket;
  each : AreOutcomes g.W.JobWork.comes_to l.outcomes.items l.ticket.taken;
}
