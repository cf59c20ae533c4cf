use Rattle.std.proofs.Common.{◌∙◌}
use Rattle.mvo_front.proofs.Gathered.{at_none, gathered}
use Rattle.mvo_front.proofs.workers.gather.Goals as goal

pub returns-in-None : goal.returns-in-None
returns-in-None g c =
    let back = c.in_ok-take_back.ensures in
    gathered g.W.JobWork.comes_to c.args.ticket c.take_back.new.ticket c.take_back.new.outcomes.items (back.parts ∙ c.requires.parts) (back.same.0 ∙ c.requires.pushes) back.same.1 back.each
    (at_none c.try_take.result _ _ c.in-None.is c.try_take.ensures.all)
