use Rattle.mvo_front.proofs.Ran.{one_more}
use Rattle.mvo_front.proofs.serving.serve_waiting.Goals as goal

pub returns-in-Some-clause-each : goal.returns-in-Some-clause-each
returns-in-Some-clause-each g c =
    one_more g.W.JobWork.comes_to c.args.ticket.now c.try_take.new.ticket c.in-Some.job c.args.outcomes.now.items c.run_one.new.outcomes.items c.in-Some.ensures.taken c.run_one.ensures c.requires.each
