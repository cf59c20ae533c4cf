use Rattle.std.proofs.Common.{refl, subst, sym}
use Rattle.mvo_keep.specs.declared.chore.Chore.{Chore}
use Rattle.mvo_world.specs.Replies.{IsReplyTo}
use Rattle.mvo_script.specs.Keeping.{IsChoreBy}
use Rattle.mvo_script.proofs.driver.Driver.do_chore.Goals as goal

pub returns-in-Flush : goal.returns-in-Flush
returns-in-Flush g c =
    subst (λ (chore : Chore). IsChoreBy (IsReplyTo g.D.Disk) chore c.args.self.now c.flush.result (record c.args.self.now { world = c.flush.new.world })) (sym c.in-Flush.is)
    (c.flush.ensures.steps, c.flush.ensures.flushed, refl)
