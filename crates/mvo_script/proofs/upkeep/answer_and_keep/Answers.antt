use Rattle.std.proofs.Common.{Option, refl, subst, sym}
use Rattle.mvo_keep.specs.declared.policy.Policy.{Policy}
use Rattle.mvo_script.specs.Keeping.{HasTurnBehind}
use Rattle.mvo_script.proofs.upkeep.answer_and_keep.Goals as goal

pub returns-in-Some : goal.returns-in-Some
returns-in-Some g c = record {
  then_on = c.answer-reply.new.self;
  bad = c.answer-reply.ensures.bad;
  answered = c.answer-reply.ensures.answered;
  turn = subst (λ (o : Option Policy). HasTurnBehind g.D.Disk o c.answer-reply.new.self c.args.upkeep.now.keeper c.keep.new.keeper c.keep.new.self) (sym c.in-Some.is) (c.keep.result, c.keep.ensures);
  policy = refl;
}

pub returns-in-None : goal.returns-in-None
returns-in-None g c = record {
  then_on = c.answer-reply.new.self;
  bad = c.answer-reply.ensures.bad;
  answered = c.answer-reply.ensures.answered;
  turn = subst (λ (o : Option Policy). HasTurnBehind g.D.Disk o c.answer-reply.new.self c.args.upkeep.now.keeper c.args.upkeep.now.keeper c.answer-reply.new.self) (sym c.in-None.is) (refl, refl);
  policy = refl;
}
