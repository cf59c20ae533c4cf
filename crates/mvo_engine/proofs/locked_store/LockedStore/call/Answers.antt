use Rattle.std.proofs.Common.{arith, Ok, ◌∙◌, subst}
use Rattle.mvo_store.specs.Calls.{AnswersCall, IsStoreStep}
use Rattle.mvo_store.specs.Calls.StoreStep.{Call}
use Rattle.mvo_store.specs.declared.done.Done.{Done}
use Rattle.mvo_engine.proofs.StoreSound.{stays_durable, stays_quiet, stays_refused}
use Rattle.mvo_engine.proofs.Called.{quiet_by}
use Rattle.mvo_engine.proofs.locked_store.LockedStore.call.Goals as goal

pub invariant_of-self : goal.invariant_of-self
invariant_of-self g c =
    let e = c.in-Ok-Durable.ensures in
    let is = c.in-Ok-Durable.field-0-is in
    let step = subst (λ (x : Done). IsStoreStep g.D.Disk c.self.inside.store (Call c.args.call) (Ok x) c.call.new.self) is e.step in
    let answers = subst (λ (x : Done). AnswersCall g.D.Disk c.self.inside.store c.args.call x c.call.new.self) is e.answers in
    let stays = stays_durable g.D.Disk c.self.invariant c.args.call c.in-Ok-Durable.durable step answers in
    (stays.0, c.publish.ensures.marks ∙ stays.1, rw c.publish.ensures.published stays.2, stays.3)

pub invariant_of-self-in-Ok : goal.invariant_of-self-in-Ok
invariant_of-self-in-Ok g c =
    let e = c.in-Ok.ensures in
    stays_quiet g.D.Disk c.self.invariant e.step (quiet_by g.D.Disk c.self.inside.store c.call.new.self c.args.call c.in-Ok.done e.answers (λ n is. grind (arith, is)))

pub invariant_of-self-in-Err : goal.invariant_of-self-in-Err
invariant_of-self-in-Err g c = stays_refused g.D.Disk c.self.invariant c.in-Err.ensures.step
