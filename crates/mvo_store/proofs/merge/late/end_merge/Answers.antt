use Rattle.std.proofs.Common.{Ok, Err}
use Rattle.mvo_store.proofs.CameLate.{end_unread, end_behind}
use Rattle.mvo_store.proofs.merge.late.end_merge.Goals as goal

pub returns-in-Err : goal.returns-in-Err
returns-in-Err g c = let e = c.in-Err.ensures in end_unread g.D.Disk _ _ c.args.manifest.now c.args.merge.now c.requires.last c.in-Err.refusal e.why e.read

pub returns-in-Ok-write_late : goal.returns-in-Ok-write_late
returns-in-Ok-write_late g c =
    let e = c.in-Ok.ensures in
    end_behind g.D.Disk _ _ _ c.args.manifest.now c.args.merge.now c.requires.last c.in-Ok.late.items e.late e.few e.read.rest e.read.any_moment e.read.count (Ok c.in-Ok-write_late.next) (rw c.deref.ensures.value at c.in-Ok-write_late.ensures)

pub returns : goal.returns
returns g c =
    let e = c.in-Ok.ensures in
    end_behind g.D.Disk _ _ _ c.args.manifest.now c.args.merge.now c.requires.last c.in-Ok.late.items e.late e.few e.read.rest e.read.any_moment e.read.count (Err c.in-Err-write_late.refusal) (rw c.deref.ensures.value at c.in-Err-write_late.ensures)
