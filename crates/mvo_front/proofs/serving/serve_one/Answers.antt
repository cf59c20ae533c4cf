use Rattle.mvo_front.proofs.Ran.{one_more}
use Rattle.mvo_front.proofs.serving.serve_one.Goals as goal

pub returns-in-Some-clause-each : goal.returns-in-Some-clause-each
returns-in-Some-clause-each g c =
    one_more g.W.JobWork.comes_to c.args.ticket.now c.take.new.ticket c.in-Some.job c.args.outcomes.now.items c.run_one.new.outcomes.items c.in-Some.ensures c.run_one.ensures c.requires.each
