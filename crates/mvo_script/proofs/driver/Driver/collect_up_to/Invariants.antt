use Rattle.std.proofs.Common.{◌≡◌, ◌+◌, ℕ}
use Rattle.mvo_core.specs.Collection.TheVariants.{Collected as WasTaken}
use Rattle.mvo_world.specs.declared.event.Event.TheVariants.{Collect}
use Rattle.mvo_world.specs.declared.reply.Reply.TheVariants.{Collected}
use Rattle.mvo_world.specs.Replies.{IsReplyTo}
use Rattle.mvo_script.specs.Answers.{AreMoreSteps}
use Rattle.mvo_script.proofs.driver.Driver.collect_up_to.Given as goal

abbrev pub invariant-loop-left : goal.invariant-loop-left
invariant-loop-left g l = (n : ℕ) × AreMoreSteps (IsReplyTo g.D.Disk) (Collected WasTaken) n Collect l.initial.self l.self × (n + l.left ≡ l.fn.most)

abbrev pub decreases-loop-left : goal.decreases-loop-left
decreases-loop-left g l = l.left
