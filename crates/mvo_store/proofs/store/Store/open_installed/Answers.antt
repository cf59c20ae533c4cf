use Rattle.std.proofs.Common.{◌≡◌, Some, sym, subst, ◌∙◌}
use Rattle.mvo_store.specs.StoreData.{StoreData}
use Rattle.mvo_store.specs.View.{store_data}
use Rattle.mvo_store.specs.Causes.{why_not_install_open}
use Rattle.mvo_store.specs.Calls.StoreStep.{Call}
use Rattle.mvo_store.specs.declared.call.StoreCall.TheVariants.{Step}
use Rattle.mvo_store.specs.declared.jobs.due.Due.TheVariants.{Install}
use Rattle.mvo_store.specs.declared.install.install_step.InstallStep.TheVariants.{Open}
use Rattle.mvo_store.proofs.Keeping.{refused_step}
use Rattle.mvo_store.proofs.Made.{IsDueAt, open_at, is_due_here, stands_here, may_take_over, open_sound, open_done, open_refused}
use Rattle.mvo_store.proofs.store.Store.open_installed.Given as given
use Rattle.mvo_store.proofs.store.Store.open_installed.Goals as goal
use Rattle.mvo_store.proofs.store.Store.open_installed.Goals.{In_default}

begun : (g : given.Over) (c : goal.In_default g) → IsDueAt g.D.Disk (store_data c.self.inside) (Call (Step (Install Open))) (Install Open)
begun g c = open_at g.D.Disk (store_data c.self.inside) _ c.self.view_is (sym c.why_not_open.ensures ∙ c.in_default.is) c.self.invariant

pub returns-in-Some-clause-step : goal.returns-in-Some-clause-step
returns-in-Some-clause-step g c =
    let is = subst (λ (s : StoreData _). why_not_install_open s ≡ Some c.in-Some.refusal) (sym c.self.view_is) (sym c.why_not_open.ensures ∙ c.in-Some.is) in
    rw (← c.self.view_is) (refused_step g.D.Disk g.met.D.Disk.only_now (store_data c.self.inside) (Call (Step (Install Open))) c.in-Some.refusal is)

pub write_step-requires-clause-room : goal.write_step-requires-clause-room
write_step-requires-clause-room g c = (begun g (goal.at.write_step-requires-clause-room g c).In_default).begins.sound.safe.room

pub write_step-requires-clause-safe : goal.write_step-requires-clause-safe
write_step-requires-clause-safe g c = (begun g (goal.at.write_step-requires-clause-safe g c).In_default).begins.sound.safe.jobs

pub write_step-requires-clause-stands : goal.write_step-requires-clause-stands
write_step-requires-clause-stands g c = stands_here (begun g (goal.at.write_step-requires-clause-stands g c).In_default)

pub write_step-requires-clause-due : goal.write_step-requires-clause-due
write_step-requires-clause-due g c = is_due_here (begun g (goal.at.write_step-requires-clause-due g c).In_default)

pub take_over-requires : goal.take_over-requires
take_over-requires g c = may_take_over (begun g (goal.at.take_over-requires g c).In_default)

pub invariant_of-self : goal.invariant_of-self
invariant_of-self g c =
    let b = begun g (goal.at.invariant_of-self g c).In_default in
    let e = c.put_installed-jobs.ensures in
    λ _. rw (e.manifest, e.segment, e.jobs, c.replace-jobs.ensures.value) (open_sound b _ c.in-Ok.ensures c.take_over.new.places c.take_over.ensures c.unmark_taken.new.marks.items c.unmark_taken.ensures)

pub returns-in-Ok-clause-step : goal.returns-in-Ok-clause-step
returns-in-Ok-clause-step g c =
    let b = begun g (goal.at.returns-in-Ok-clause-step g c).In_default in
    let e = c.put_installed-jobs.ensures in
    rw (e.manifest, e.segment, e.jobs, c.replace-jobs.ensures.value, ← c.self.view_is) (open_done b _ c.in-Ok.ensures c.take_over.new.places c.take_over.ensures c.unmark_taken.new.marks.items c.unmark_taken.ensures _)

pub returns-in-Err-clause-step : goal.returns-in-Err-clause-step
returns-in-Err-clause-step g c =
    let b = begun g (goal.at.returns-in-Err-clause-step g c).In_default in
    rw (← c.self.view_is) (open_refused b _ g.met.D.Disk.counts_now c.in-Err.refusal c.in-Err.ensures)
