use Rattle.std.proofs.Common.{◌∙◌, ap}
use Rattle.mvo_store.specs.declared.merge.stage.MergeStage.TheVariants.{Data as MergeAtData}
use Rattle.mvo_store.specs.declared.merge.merging.Merging.{Merging}
use Rattle.mvo_store.specs.Jobs.{merge_due_of}
use Rattle.mvo_store.proofs.Unwritten.{merge_data_step, at_merge_data}
use Rattle.mvo_store.proofs.Written.{fill_step, merged_data_fills, records_hold}
use Rattle.mvo_store.proofs.jobs.step_files.write_merge_data.Goals as goal

pub returns : goal.returns
returns g c =
    let e = c.write_data.ensures in
    let at = at_merge_data _ (ap (λ (k : Merging). merge_due_of k.stage) c.merge.view_is ∙ c.requires.at) in
    rw (← c.merge.view_is) (merge_data_step g.D.Disk _ _ _ _ at.0 at.1 c.write_data.result (fill_step g.D.Disk _ _ _ _ _ c.write_data.result e.count e.refused _ _ (merged_data_fills g.D.Disk _ _ _ (record { seen = _; stage = MergeAtData 0 })) e.rest e.any_moment (records_hold g.D.Disk _ c.write_data.result _ _ (rw c.deref.ensures.value at e.holds) e.durable)))
