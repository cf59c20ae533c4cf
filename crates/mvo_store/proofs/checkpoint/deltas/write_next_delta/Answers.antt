use Rattle.mvo_store.specs.Jobs.Job.{Checkpoint}
use Rattle.mvo_store.proofs.Written.{fill_step, delta_fills, delta_holds}
use Rattle.mvo_store.proofs.checkpoint.deltas.write_next_delta.Goals as goal

pub returns-then-written-eq0 : goal.returns-then-written-eq0
returns-then-written-eq0 g c =
    let v = c.args.checkpoint.now in
    let e = c.write_delta.ensures in
    fill_step g.D.Disk c.args.disk.now c.write_delta.new.disk c.args.manifest.now (Checkpoint v) _ c.write_delta.result e.count e.refused v.pair.delta_file _ (delta_fills g.D.Disk _ _ c.args.manifest.now v (rw c.if-written-eq0.true at c.requires.at)) e.rest e.any_moment (delta_holds g.D.Disk _ c.write_delta.result v.pair e.holds e.durable)
