use Rattle.mvo_load.proofs.Unchanged.{was_read, then_unchanged, then_spent}
use Rattle.mvo_store.proofs.old.find_old.Goals as goal

pub returns-in_err-push-in-Ok-clause-read : goal.returns-in_err-push-in-Ok-clause-read
returns-in_err-push-in-Ok-clause-read g c =
    let one = was_read g.D.Disk c.loop-file.disk c.mark_of.new.disk c.in-Ok.mark c.in-Ok.ensures.read in
    then_spent g.D.Disk c.args.disk.now c.mark_of.new.disk c.from_residual-in_err-push-in-Ok.result c.from_residual-in_err-push-in-Ok.ensures.1
    (then_unchanged g.D.Disk c.args.disk.now c.loop-file.disk c.mark_of.new.disk c.loop-file.invariant.1 one)
