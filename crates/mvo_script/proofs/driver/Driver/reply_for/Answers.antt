use Rattle.std.proofs.Common.{◌≡◌, Some}
use Rattle.mvo_world.specs.Replies.{IsReplyTo}
use Rattle.mvo_script.specs.Bound.{bound_by}
use Rattle.mvo_script.proofs.LineAnswers.{by_bound, is_some, match_some}
use Rattle.mvo_script.proofs.driver.Driver.reply_for.Goals as goal

pub returns-in-Some : goal.returns-in-Some
returns-in-Some g c = λ is.
    let is_bound : bound_by c.args.self.now.names c.args.name.now ≡ Some c.in-Some.bound = cc in
    match_some c.reply_by.result _ _ _
    (λ r it. by_bound (IsReplyTo g.D.Disk) c.args.self.now c.args.line c.args.name.now c.in-Some.bound r c.reply_by.new.self is is_bound it)
    (c.reply_by.ensures (is_some _ _ is))
