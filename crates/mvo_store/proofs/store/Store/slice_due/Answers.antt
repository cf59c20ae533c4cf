use Rattle.std.proofs.Common.{◌≡◌, Some, sym, ap, subst, ◌∙◌}
use Rattle.mvo_store.specs.StoreData.{StoreData}
use Rattle.mvo_store.specs.View.{store_data}
use Rattle.mvo_store.specs.Causes.{why_not_due}
use Rattle.mvo_store.specs.Jobs.{jobs_upto}
use Rattle.mvo_store.specs.Calls.StoreStep.{Slice}
use Rattle.mvo_store.proofs.Keeping.{refused_step}
use Rattle.mvo_store.proofs.Made.{IsDueAt, stands_here}
use Rattle.mvo_store.proofs.SlicedStore.{slice_at, slice_sound, slice_done, slice_refused, slice_refused_sound}
use Rattle.mvo_store.proofs.store.Store.slice_due.Given as given
use Rattle.mvo_store.proofs.store.Store.slice_due.Goals as goal
use Rattle.mvo_store.proofs.store.Store.slice_due.Goals.{In_default}

begun : (g : given.Over) (c : goal.In_default g) → IsDueAt g.D.Disk (store_data c.self.inside) (Slice c.args.step) c.args.step
begun g c = slice_at g.D.Disk (store_data c.self.inside) _ c.args.step c.self.view_is (sym c.why_not_due.ensures ∙ c.in_default.is) c.self.invariant

pub returns-in-Some-clause-step : goal.returns-in-Some-clause-step
returns-in-Some-clause-step g c =
    let is = subst (λ (s : StoreData _). why_not_due c.args.step s ≡ Some c.in-Some.refusal) (sym c.self.view_is) (sym c.why_not_due.ensures ∙ c.in-Some.is) in
    rw (← c.self.view_is) (refused_step g.D.Disk g.met.D.Disk.only_now (store_data c.self.inside) (Slice c.args.step) c.in-Some.refusal is)

pub write_slice_of-requires-clause-stands : goal.write_slice_of-requires-clause-stands
write_slice_of-requires-clause-stands g c = stands_here (begun g (goal.at.write_slice_of-requires-clause-stands g c).In_default)

pub invariant_of-self : goal.invariant_of-self
invariant_of-self g c =
    let b = begun g (goal.at.invariant_of-self g c).In_default in
    let jobs_are = c.with_slice.ensures ∙ ap (jobs_upto c.in-Ok.upto c.args.step) c.replace-jobs.ensures.value in
    λ _. rw jobs_are (slice_sound c.requires.data b _ c.in-Ok.upto c.in-Ok.ensures)

pub invariant_of-self-in-Err : goal.invariant_of-self-in-Err
invariant_of-self-in-Err g c =
    let b = begun g (goal.at.invariant_of-self-in-Err g c).In_default in
    let fault = c.is_fault-self-inside in
    λ up. slice_refused_sound c.requires.data b _ c.in-Err.refusal c.in-Err.ensures fault.result fault.ensures.other up

pub returns-in-Ok-clause-step : goal.returns-in-Ok-clause-step
returns-in-Ok-clause-step g c =
    let b = begun g (goal.at.returns-in-Ok-clause-step g c).In_default in
    let jobs_are = c.with_slice.ensures ∙ ap (jobs_upto c.in-Ok.upto c.args.step) c.replace-jobs.ensures.value in
    rw (jobs_are, ← c.self.view_is) (slice_done c.requires.data b _ c.in-Ok.upto c.in-Ok.ensures c.slices_left.result)

pub returns-in-Err-clause-step : goal.returns-in-Err-clause-step
returns-in-Err-clause-step g c =
    let b = begun g (goal.at.returns-in-Err-clause-step g c).In_default in
    let fault = c.is_fault-self-inside in
    rw (← c.self.view_is) (slice_refused c.requires.data b _ g.met.D.Disk.only_now g.met.D.Disk.counts_now c.in-Err.refusal c.in-Err.ensures fault.result fault.ensures.fault fault.ensures.other)
