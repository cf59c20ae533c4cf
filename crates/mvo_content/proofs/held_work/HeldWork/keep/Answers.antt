use Rattle.std.proofs.Common.{sym, subst}
use Rattle.mvo_types.specs.AnswerData.{AnswerData}
use Rattle.mvo_work.specs.Limits.{MayFollow}
use Rattle.mvo_content.specs.Held.{HeldData}
use Rattle.mvo_content.proofs.held_work.HeldWork.keep.Goals as goal

pub keep-requires-clause-limits : goal.keep-requires-clause-limits
keep-requires-clause-limits c = subst (λ (d : HeldData). (a : AnswerData) → MayFollow d.content.history c.args.op a) (sym c.self.view_is) c.requires.limits
