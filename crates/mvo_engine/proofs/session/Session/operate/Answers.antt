use Rattle.std.proofs.Common.{inr}
use Rattle.mvo_engine.proofs.Transacting.{answered_so, refused_so}
use Rattle.mvo_engine.proofs.session.Session.operate.Goals as goal

pub keep_answer-requires : goal.keep_answer-requires
keep_answer-requires g c = record { core = answered_so c.self.inside.tx c.in-Some.tx c.args.op c.in_ok-copy.copy c.in-Ok.answer c.deref_mut.result.now c.operate-result.new.self c.in-Some.is c.in_ok-copy.ensures.same c.in-Ok.ensures.sound c.in-Ok.ensures.step c.in-Ok.ensures.answer }

pub returns-in-Err-clause-core : goal.returns-in-Err-clause-core
returns-in-Err-clause-core g c = rw (← c.self.view_is) (inr (refused_so c.self.inside.tx c.in-Some.tx c.args.op c.in-Err.refusal c.deref_mut.result.now c.operate-result.new.self c.in-Some.is c.in-Err.ensures.sound c.in-Err.ensures.step))
