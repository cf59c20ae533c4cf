use Rattle.std.proofs.Common.{Option, refl, subst}
use Rattle.mvo_keep.specs.declared.chore.Chore.{Chore}
use Rattle.mvo_engine.specs.Keeping.{WasDue}
use Rattle.mvo_engine.specs.Keeping.HasKept.{AtRest, WithChore}
use Rattle.mvo_engine.proofs.engine.Engine.keep.Goals as goal

pub returns-in_default : goal.returns-in_default
returns-in_default g c =
    let due = subst (λ (o : Option Chore). WasDue g.D.Disk g.L.Run.opening c.args.policy.now c.args.keeper.now c.in-Ok.seen.0 o) c.in_default.is c.in-Ok.ensures.ok in
    AtRest c.in-Ok.seen.0 due refl c.after_look.ensures

pub returns : goal.returns
returns g c =
    let due = subst (λ (o : Option Chore). WasDue g.D.Disk g.L.Run.opening c.args.policy.now c.args.keeper.now c.in-Ok.seen.0 o) c.in-Some.is c.in-Ok.ensures.ok in
    WithChore c.in-Ok.seen.0 c.in-Some.chore due c.do_chore-came.result c.do_chore-came.ensures c.kept_by.ensures c.after.ensures
