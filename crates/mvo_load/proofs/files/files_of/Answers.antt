use Rattle.mvo_load.proofs.Unchanged.{then_unchanged, was_read, gives_any, then_refused}
use Rattle.mvo_load.proofs.files.files_of.Goals as goal

pub returns-in-Err-delta_on-clause-read : goal.returns-in-Err-delta_on-clause-read
returns-in-Err-delta_on-clause-read g c =
    let first = was_read g.D.Disk c.args.disk.now c.data_on.new.disk c.in-Ok.bytes c.in-Ok.ensures.read in
    then_refused g.D.Disk _ _ c.args.disk.now c.data_on.new.disk c.delta_on.new.disk c.in-Err-delta_on.e first c.in-Err-delta_on.ensures.read

pub returns-clause-read : goal.returns-clause-read
returns-clause-read g c =
    let first = was_read g.D.Disk c.args.disk.now c.data_on.new.disk c.in-Ok.bytes c.in-Ok.ensures.read in
    let second = was_read g.D.Disk c.data_on.new.disk c.delta_on.new.disk c.in-Ok-delta_on.bytes c.in-Ok-delta_on.ensures.read in
    gives_any g.D.Disk _ c.args.disk.now c.delta_on.new.disk _ (then_unchanged g.D.Disk c.args.disk.now c.data_on.new.disk c.delta_on.new.disk first second)
