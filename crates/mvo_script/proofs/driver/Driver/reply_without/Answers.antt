use Rattle.std.proofs.Common.{refl, ◌∙◌}
use Rattle.mvo_world.specs.Replies.{IsReplyTo}
use Rattle.mvo_script.proofs.LineAnswers.{by_flush, by_step, has_step, some_weaker}
use Rattle.mvo_script.proofs.driver.Driver.reply_without.Goals as goal

pub returns-in-Flush : goal.returns-in-Flush
returns-in-Flush g c = λ is.
    by_flush (IsReplyTo g.D.Disk) c.args.self.now c.args.line c.flush.result (record c.args.self.now { world = c.flush.new.world }) c.in-Flush.is c.flush.ensures.steps c.flush.ensures.flushed refl

pub returns-in_default : goal.returns-in_default
returns-in_default g c = λ is.
    let f = has_step c.args.line is c.in_default.not-Begin c.in_default.not-BeginReadOnly c.in_default.not-Flush c.in_default.not-Rotate c.in_default.not-Checkpoint c.in_default.not-Merge in
    some_weaker c.ask_if.result _ _
    (λ r it. by_step (IsReplyTo g.D.Disk) c.args.self.now c.args.line f.0 r c.ask_if.new.self f.1 it)
    (c.ask_if.ensures f.0 (c.event_of_line.ensures ∙ f.1))
