use Rattle.std.proofs.Common.{◌∙◌}
use Rattle.mvo_world.specs.Replies.{IsReplyTo}
use Rattle.mvo_script.proofs.LineAnswers.{by_commit, by_event, has_event, some_weaker}
use Rattle.mvo_script.proofs.driver.Driver.reply_by.Goals as goal

pub returns-in-Commit : goal.returns-in-Commit
returns-in-Commit g c = λ is.
    by_commit (IsReplyTo g.D.Disk) c.args.self.now c.args.line _ c.args.name.now c.args.bound c.commit.result c.commit.new.self c.in-Commit.is c.commit.ensures

pub returns-in_default : goal.returns-in_default
returns-in_default g c = λ is.
    let f = has_event c.args.line c.args.bound.tx is c.in_default.not-Insert c.in_default.not-Update c.in_default.not-Settle c.in_default.not-Commit c.in_default.not-Poll in
    some_weaker c.ask_if.result _ _
    (λ r it. by_event (IsReplyTo g.D.Disk) c.args.self.now c.args.line c.args.name.now c.args.bound f.0 r c.ask_if.new.self f.1 it)
    (c.ask_if.ensures f.0 (c.event_by.ensures ∙ f.1))
