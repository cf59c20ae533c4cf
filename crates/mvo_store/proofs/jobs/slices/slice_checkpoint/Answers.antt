use Rattle.mvo_store.proofs.Slicing.{slice_written, slice_stopped}
use Rattle.mvo_store.proofs.jobs.slices.slice_checkpoint.Goals as goal

pub returns-in-Ok : goal.returns-in-Ok
returns-in-Ok g c =
    let e = c.in-Ok.ensures in
    rw (← c.checkpoint.view_is) (slice_written g.D.Disk _ _ _ _ c.in-Data.written c.in-Data.is e.honest e.rest e.any_moment c.in-Ok.upto (rw c.deref.ensures.value at e.count) e.no_fault (rw c.deref.ensures.value at e.has) e.durable)

pub returns-in-Err : goal.returns-in-Err
returns-in-Err g c =
    let e = c.in-Err.ensures in
    rw (← c.checkpoint.view_is) (slice_stopped g.D.Disk _ _ _ _ c.in-Data.written c.in-Data.is e.honest e.rest e.any_moment c.in-Err.refusal e.refused)
