use Rattle.std.proofs.Common.{◌≡◌, Some, sym, ap, subst, ◌∙◌}
use Rattle.mvo_store.specs.StoreData.{StoreData}
use Rattle.mvo_store.specs.View.{store_data}
use Rattle.mvo_store.specs.Causes.{why_not_due}
use Rattle.mvo_store.specs.Jobs.{with_step}
use Rattle.mvo_store.specs.Calls.StoreStep.{Call}
use Rattle.mvo_store.specs.declared.call.StoreCall.TheVariants.{Step}
use Rattle.mvo_store.proofs.Keeping.{refused_step}
use Rattle.mvo_store.proofs.Dues.{why_of}
use Rattle.mvo_store.proofs.Made.{IsDueAt, due_at, is_due_here, stands_here, due_sound, due_done, due_refused, due_refused_sound}
use Rattle.mvo_store.proofs.store.Store.write_due.Given as given
use Rattle.mvo_store.proofs.store.Store.write_due.Goals as goal
use Rattle.mvo_store.proofs.store.Store.write_due.Goals.{In_default}

begun : (g : given.Over) (c : goal.In_default g) → IsDueAt g.D.Disk (store_data c.self.inside) (Call (Step c.args.step)) c.args.step
begun g c = due_at g.D.Disk (store_data c.self.inside) _ c.args.step (c.requires.file, c.requires.gate) c.self.view_is (sym c.why_not_due.ensures ∙ c.in_default.is) c.self.invariant

pub returns-in-Some : goal.returns-in-Some
returns-in-Some g c =
    let is = subst (λ (s : StoreData _). why_not_due c.args.step s ≡ Some c.in-Some.refusal) (sym c.self.view_is) (sym c.why_not_due.ensures ∙ c.in-Some.is) in
    rw (← c.self.view_is) (refused_step g.D.Disk g.met.D.Disk.only_now (store_data c.self.inside) (Call (Step c.args.step)) c.in-Some.refusal (why_of (store_data c.self.inside) c.args.step (c.requires.file, c.requires.gate) ∙ is))

pub write_step-requires-clause-room : goal.write_step-requires-clause-room
write_step-requires-clause-room g c = (begun g (goal.at.write_step-requires-clause-room g c).In_default).begins.sound.safe.room

pub write_step-requires-clause-safe : goal.write_step-requires-clause-safe
write_step-requires-clause-safe g c = (begun g (goal.at.write_step-requires-clause-safe g c).In_default).begins.sound.safe.jobs

pub write_step-requires-clause-stands : goal.write_step-requires-clause-stands
write_step-requires-clause-stands g c = stands_here (begun g (goal.at.write_step-requires-clause-stands g c).In_default)

pub write_step-requires-clause-due : goal.write_step-requires-clause-due
write_step-requires-clause-due g c = is_due_here (begun g (goal.at.write_step-requires-clause-due g c).In_default)

pub invariant_of-self : goal.invariant_of-self
invariant_of-self g c =
    let b = begun g (goal.at.invariant_of-self g c).In_default in
    let jobs_are = c.with_step.ensures ∙ ap (with_step c.args.step) c.replace-jobs.ensures.value in
    λ _. rw jobs_are (due_sound (c.requires.file, c.requires.gate) b _ c.in-Ok.ensures)

pub invariant_of-self-in-Err : goal.invariant_of-self-in-Err
invariant_of-self-in-Err g c =
    let b = begun g (goal.at.invariant_of-self-in-Err g c).In_default in
    let fault = c.is_fault-self-inside in
    λ up. due_refused_sound (c.requires.file, c.requires.gate) b _ c.in-Err.refusal c.in-Err.ensures fault.result fault.ensures.other up

pub returns-in-Ok : goal.returns-in-Ok
returns-in-Ok g c =
    let b = begun g (goal.at.returns-in-Ok g c).In_default in
    let jobs_are = c.with_step.ensures ∙ ap (with_step c.args.step) c.replace-jobs.ensures.value in
    rw (jobs_are, ← c.self.view_is) (due_done (c.requires.file, c.requires.gate) b _ c.in-Ok.ensures)

pub returns-in-Err : goal.returns-in-Err
returns-in-Err g c =
    let b = begun g (goal.at.returns-in-Err g c).In_default in
    let fault = c.is_fault-self-inside in
    rw (← c.self.view_is) (due_refused (c.requires.file, c.requires.gate) b _ c.in-Err.refusal c.in-Err.ensures fault.result fault.ensures.other g.met.D.Disk.only_now g.met.D.Disk.counts_now fault.ensures.fault)
