use Rattle.std.proofs.Common.{Ok, Err}
use Rattle.mvo_types.specs.declared.refusal.Refusal.TheVariants.{DiskFault}
use Rattle.mvo_store.specs.declared.install.install_step.InstallStep.TheVariants.{Close}
use Rattle.mvo_store.specs.declared.jobs.due.Due.TheVariants.{Install}
use Rattle.mvo_store.proofs.Written.{close_step, fault_refusal}
use Rattle.mvo_store.proofs.jobs.step_files.close_other.Goals as goal

pub returns-in-Ok : goal.returns-in-Ok
returns-in-Ok g c = let e = c.in-Ok.ensures in close_step g.D.Disk c.args.disk.now c.close_slot.new.disk c.args.next.now c.slot.result c.slot.ensures.value e.honest e.rest (Ok tt) e.count tt e.moments_open e.moments_shut e.shut e.durable

pub returns-in-Err : goal.returns-in-Err
returns-in-Err g c =
    let e = c.in-Err.ensures in
    let fault = fault_refusal g.D.Disk.fault_count (Install Close) c.args.disk.now c.close_slot.new.disk e.count in
    close_step g.D.Disk c.args.disk.now c.close_slot.new.disk c.args.next.now c.slot.result c.slot.ensures.value e.honest e.rest (Err DiskFault) tt fault e.moments_open e.moments_shut tt tt
