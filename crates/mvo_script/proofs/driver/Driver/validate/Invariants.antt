use Rattle.std.proofs.Common.{ℕ}
use Rattle.mvo_core.specs.declared.answers.Validation.TheVariants.{More}
use Rattle.mvo_world.specs.declared.event.Event.TheVariants.{Validate}
use Rattle.mvo_world.specs.declared.reply.Reply.TheVariants.{Validated}
use Rattle.mvo_world.specs.Replies.{IsReplyTo}
use Rattle.mvo_script.specs.Answers.{AreMoreSteps}
use Rattle.mvo_script.proofs.driver.Driver.validate.Given as goal

abbrev pub invariant-loop : goal.invariant-loop
invariant-loop g l = (n : ℕ) × AreMoreSteps (IsReplyTo g.D.Disk) (Validated More) n (Validate l.tx) l.initial.self l.self
