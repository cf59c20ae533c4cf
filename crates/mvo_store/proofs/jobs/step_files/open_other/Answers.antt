use Rattle.std.proofs.Common.{Ok, Err, Bool, IsTrue, subst}
use Rattle.mvo_types.specs.declared.refusal.Refusal.TheVariants.{DiskFault}
use Rattle.mvo_store.specs.declared.install.install_step.InstallStep.TheVariants.{Open}
use Rattle.mvo_store.specs.declared.jobs.due.Due.TheVariants.{Install}
use Rattle.mvo_store.proofs.Written.{open_step, fault_refusal}
use Rattle.mvo_store.proofs.jobs.step_files.open_other.Goals as goal

pub returns-in-Ok : goal.returns-in-Ok
returns-in-Ok g c = let e = c.in-Ok.ensures in open_step g.D.Disk c.args.disk.now c.open_slot.new.disk c.args.next.now c.slot.result c.slot.ensures.value (λ h. subst (λ (b : Bool). IsTrue b) e.honest h) e.rest (Ok tt) e.count tt e.any_moment e.opened e.durable

pub returns-in-Err : goal.returns-in-Err
returns-in-Err g c =
    let e = c.in-Err.ensures in
    let fault = fault_refusal g.D.Disk.fault_count (Install Open) c.args.disk.now c.open_slot.new.disk e.count in
    open_step g.D.Disk c.args.disk.now c.open_slot.new.disk c.args.next.now c.slot.result c.slot.ensures.value (λ h. subst (λ (b : Bool). IsTrue b) e.honest h) e.rest (Err DiskFault) tt fault e.any_moment tt tt
