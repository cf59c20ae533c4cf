use Rattle.std.proofs.Common.{◌∙◌, Option, Result, ap, refl, subst}
use Rattle.mvo_types.specs.declared.refusal.Refusal.{Refusal}
use Rattle.mvo_keep.specs.declared.chore.Chore.{Chore}
use Rattle.mvo_keep.specs.declared.remains.Remains.{Remains}
use Rattle.mvo_keep.specs.Keeping.{keeper_after}
use Rattle.mvo_world.specs.Keeping.{IsDueOf}
use Rattle.mvo_script.specs.Keeping.HasKeptTurn.{AtRest, WithChore}
use Rattle.mvo_script.proofs.driver.Driver.keep.Goals as goal

pub returns-in_default : goal.returns-in_default
returns-in_default g c =
    let due = subst (λ (o : Option Chore). IsDueOf c.args.policy.now c.args.keeper.now c.args.self.now.world c.in-Ok.seen.0 o) c.in_default.is c.in-Ok.ensures.ok in
    AtRest c.in-Ok.seen.0 due refl c.after_look.ensures refl

pub returns : goal.returns
returns g c =
    let due = subst (λ (o : Option Chore). IsDueOf c.args.policy.now c.args.keeper.now c.args.self.now.world c.in-Ok.seen.0 o) c.in-Some.is c.in-Ok.ensures.ok in
    let kept = c.after.ensures ∙ ap (λ (came : Result Remains Refusal). keeper_after c.in-Ok.seen.0 c.in-Some.chore came c.args.keeper.now) c.remains_behind.ensures in
    WithChore c.in-Ok.seen.0 c.in-Some.chore due c.do_chore-reply.result c.do_chore-reply.ensures refl kept
