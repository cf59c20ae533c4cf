use Rattle.std.proofs.Common.{rules}
use Rattle.std.proofs.lemmas.Result.{IfOk-weaker}
use Rattle.mvo_front.proofs.Gathered.{all_run}
use Rattle.mvo_front.proofs.workers.run_in.Goals as goal

pub returns : goal.returns
returns g c =
    IfOk-weaker c.gather.result _ _
    (λ os. all_run g.W.JobWork.comes_to c.hire_all.new.ticket c.in_ok-ticket.ticket c.args.jobs.items os.items (search (rules, c.join-done.ensures.second, c.in_ok-ticket.is)) c.in_ok-hired.ensures.hand)
    c.gather.ensures
