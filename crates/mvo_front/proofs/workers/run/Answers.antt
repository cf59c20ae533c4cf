use Rattle.std.proofs.lemmas.Result.{IfOk-weaker}
use Rattle.mvo_front.proofs.Answered.{all_answered}
use Rattle.mvo_front.proofs.workers.run.Goals as goal

pub returns-clause-answered : goal.returns-clause-answered
returns-clause-answered g c = IfOk-weaker c.run_in.result _ _ (λ os. all_answered g.W.JobWork.comes_to c.args.jobs.items os.items) c.run_in.ensures
