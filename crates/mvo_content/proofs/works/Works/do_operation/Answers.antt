use Rattle.std.proofs.Common.{sym, ap, ◌∙◌, subst}
use Rattle.mvo_shared.specs.Kept.{WorkContent}
use Rattle.mvo_work.specs.Limits.{MayFollow}
use Rattle.mvo_content.specs.Works.{WorksData, done_at, work_if_there}
use Rattle.mvo_content.proofs.works.Works.do_operation.Goals as goal

pub keep-requires-clause-limits : goal.keep-requires-clause-limits
keep-requires-clause-limits c = λ a.
    subst (λ (w : WorkContent). MayFollow w.history c.args.op a)
    (sym (ap work_if_there (c.in-Some.ensures.value ∙ ap (λ (ws : WorksData). done_at ws c.args.id.0) c.self.view_is) ∙ c.in_ok-see_to_work.ensures.same c.args.id.0)) (c.requires.limits a)
