use Rattle.std.proofs.Common.{sym, subst}
use Rattle.mvo_keep.specs.declared.chore.Chore.{Chore}
use Rattle.mvo_engine.specs.Keeping.{IsChoreDone}
use Rattle.mvo_engine.proofs.engine.Engine.do_chore.Goals as goal

pub returns-in-Flush : goal.returns-in-Flush
returns-in-Flush g c = subst (λ (x : Chore). IsChoreDone g.D.Disk x c.came_of.result) (sym c.in-Flush.is) (c.flush.result, c.flush.ensures, c.came_of.ensures)

pub returns-in-Trim : goal.returns-in-Trim
returns-in-Trim g c =
    subst (λ (x : Chore). IsChoreDone g.D.Disk x c.came_of-in-Trim.result) (sym c.in-Trim.is) (
      c.trim_tale.result,
      c.deref_mut.result.now,
      c.trim_tale.new.self,
      c.trim_tale.ensures.step,
      c.came_of-in-Trim.ensures,
    )
