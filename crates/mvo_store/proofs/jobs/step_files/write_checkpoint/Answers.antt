use Rattle.std.proofs.Common.{◌≡◌, ◌∙◌, ap, sym}
use Rattle.mvo_store.specs.declared.checkpoint.stage.CheckpointStage.TheVariants.{Data as AtData, Install as AtInstall}
use Rattle.mvo_store.specs.declared.checkpoint.checkpointing.Checkpointing.{Checkpointing}
use Rattle.mvo_store.specs.Jobs.{install_at}
use Rattle.mvo_store.specs.Jobs.Job.{Checkpoint}
use Rattle.mvo_store.proofs.Unwritten.{data_step}
use Rattle.mvo_store.proofs.Written.{fill_step, data_fills, records_hold}
use Rattle.mvo_store.proofs.jobs.step_files.write_checkpoint.Goals as goal

pub returns-in-Data : goal.returns-in-Data
returns-in-Data g c =
    let e = c.write_data.ensures in
    rw (← c.checkpoint.view_is) (data_step g.D.Disk _ _ _ _ _ c.in-Data.is c.write_data.result (fill_step g.D.Disk _ _ _ _ _ c.write_data.result e.count e.refused _ _ (data_fills g.D.Disk _ _ _ (record { pair = _; made = _; next = _; stage = AtData 0; placed = _ })) e.rest e.any_moment (records_hold g.D.Disk _ c.write_data.result _ _ (rw c.deref.ensures.value at e.holds) e.durable)))

pub write_install-requires-clause-stands : goal.write_install-requires-clause-stands
write_install-requires-clause-stands g c =
    let v = c.args.checkpoint.now in
    let at : v.stage ≡ AtInstall c.in-Install.step = ap (λ (k : Checkpointing). k.stage) (sym c.checkpoint.view_is) ∙ c.in-Install.is in
    let e = ap (install_at v.next) at ∙ ap (λ (k : Checkpointing). install_at k.next (AtInstall c.in-Install.step)) (sym c.checkpoint.view_is) in
    λ honest. (c.args.manifest.now, Checkpoint v, e, c.requires.stands honest)

pub returns-in-Install : goal.returns-in-Install
returns-in-Install g c =
    let v = c.args.checkpoint.now in
    let at : v.stage ≡ AtInstall c.in-Install.step = ap (λ (k : Checkpointing). k.stage) (sym c.checkpoint.view_is) ∙ c.in-Install.is in
    let e = ap (install_at v.next) at ∙ ap (λ (k : Checkpointing). install_at k.next (AtInstall c.in-Install.step)) (sym c.checkpoint.view_is) in
    c.write_install.ensures c.args.manifest.now (Checkpoint v) e
