use Rattle.std.proofs.Common.{sym, ap, subst}
use Rattle.mvo_model.specs.History.{History}
use Rattle.mvo_types.specs.AnswerData.{answer_data}
use Rattle.mvo_work.specs.Limits.{MayFollow}
use Rattle.mvo_content.specs.Done.{DoneData}
use Rattle.mvo_content.proofs.content.WorkContent.keep.Goals as goal

pub add-requires-clause-limits : goal.add-requires-clause-limits
add-requires-clause-limits c =
    subst (λ (ts : History). MayFollow ts c.args.op (answer_data c.in_ok-told.told)) (sym (ap (λ (d : DoneData). d.history) c.make_room.ensures.same))
    (c.requires.limits (answer_data c.in_ok-told.told))
