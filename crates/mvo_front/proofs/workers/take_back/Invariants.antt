use Rattle.std.proofs.Common.{◌≡◌, ◌+◌, All, vec_len}
use Rattle.mvo_front.specs.Outcomes.{AreOutcomes}
use Rattle.mvo_front.proofs.workers.take_back.Given as goal

abbrev pub invariant-loop-one : goal.invariant-loop-one
invariant-loop-one g l = record {
  each : AreOutcomes g.W.JobWork.comes_to l.outcomes.items l.ticket.taken;
  ends : All (λ e. AreOutcomes g.W.JobWork.comes_to e.outcomes.items e.ticket.taken) l.done.items;
  parts : l.ticket.parts + vec_len l.done ≡ l.fn.ticket.parts + vec_len l.fn.done;
  pushes : l.ticket.pushes ≡ l.fn.ticket.pushes;
  put : l.ticket.put ≡ l.fn.ticket.put;
}

abbrev pub decreases-loop-one : goal.decreases-loop-one
decreases-loop-one g l = vec_len l.done
