use Rattle.std.proofs.Common.{IfSome, ap, ◌∙◌, subst, arith}
use Rattle.std.proofs.lemmas.List.Elements.{All-pop}
use Rattle.mvo_front.specs.Outcomes.{AreOutcomes}
use Rattle.mvo_front.specs.declared.rule.Hand.{Hand}
use Rattle.mvo_front.proofs.Ran.{joined}
use Rattle.mvo_front.proofs.workers.take_back.Goals as goal

pub loop-one-preserved : goal.loop-one-preserved
loop-one-preserved g c =
    let popped = All-pop (λ e. AreOutcomes g.W.JobWork.comes_to e.outcomes.items e.ticket.taken) c.loop-one.done.items c.pop.new.self.items c.pop.result c.pop.ensures.items c.loop-one.invariant.ends in
    let own = subst (λ o. IfSome o (λ e. AreOutcomes g.W.JobWork.comes_to e.outcomes.items e.ticket.taken)) c.in-Some.is popped.1 in
    record {
      each = joined g.W.JobWork.comes_to c.loop-one.ticket c.in-Some.one.ticket c.dismiss.new.ticket c.loop-one.outcomes.items c.in-Some.one.outcomes.items c.append.new.self.items c.dismiss.ensures c.in_ok-append.ensures.items c.loop-one.invariant.each own;
      ends = popped.0;
      parts = grind arith;
      pushes = ap (λ (h : Hand). h.pushes) c.dismiss.ensures ∙ c.loop-one.invariant.pushes;
      put = ap (λ (h : Hand). h.put) c.dismiss.ensures ∙ c.loop-one.invariant.put;
    }
