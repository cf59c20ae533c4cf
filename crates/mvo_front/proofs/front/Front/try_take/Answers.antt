use Rattle.std.proofs.Common.{◌<◌, subst, sym}
use Rattle.crossbeam_channel.specs.Claims.{view}
use Rattle.mvo_front.specs.declared.rule.Hand.{Hand}
use Rattle.mvo_front.specs.Queue.{AreAllTaken}
use Rattle.mvo_front.proofs.Moves.{settles, takes}
use Rattle.mvo_front.proofs.Waiting.{none_waits}
use Rattle.mvo_front.proofs.front.Front.try_take.Goals as goal
use Rattle.mvo_front.proofs.front.Front.try_take.Goals.{in-Ok, in-Err}

pub try_recv_as-requires-clause-rule : goal.try_recv_as-requires-clause-rule
try_recv_as-requires-clause-rule g c = (
  takes _ (view c.ticket.inside.pass) (subst (λ (v : Hand). 0 < v.parts) (sym c.ticket.view_is) c.requires),
  settles _ (view c.ticket.inside.pass),
)

pub returns-clause-all : goal.returns-clause-all
returns-clause-all g c =
    elim c.match-try_recv_as.branch [
      | in-Ok w ↦ rw w.result-is tt
      | in-Err w ↦ rw w.result-is (subst AreAllTaken c.ticket.view_is (none_waits (view c.ticket.inside.pass) w.in-Err.ensures.rule.1))
    ]
