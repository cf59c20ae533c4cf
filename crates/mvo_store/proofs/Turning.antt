-- What holds of each job that runs, where one of them makes a step.
use Rattle.std.proofs.Common.{◌≡◌, Bool, true, false, cond, Option, Some, None, refl, sym, ap, subst}
use Rattle.std.specs.Prelude.{is_some}
use Rattle.std.specs.List.{AllByRecursion}
use Rattle.mvo_store.specs.declared.jobs.due.Due.{Due}
use Rattle.mvo_store.specs.declared.jobs.due.Due.TheVariants.{MergeDelta}
use Rattle.mvo_store.specs.declared.checkpoint.stage.CheckpointStage.{CheckpointStage}
use Rattle.mvo_store.specs.declared.checkpoint.stage.CheckpointStage.TheVariants.{Data as AtData, Delta as AtDelta, Install as AtInstall}
use Rattle.mvo_store.specs.declared.checkpoint.checkpointing.Checkpointing.{Checkpointing}
use Rattle.mvo_store.specs.declared.checkpoint.checkpoint_job.CheckpointJob.{CheckpointJob}
use Rattle.mvo_store.specs.declared.checkpoint.checkpoint_job.CheckpointJob.TheVariants.{Reading as Reads, Running as Runs}
use Rattle.mvo_store.specs.declared.checkpoint.reading.CheckpointReading.{CheckpointReading}
use Rattle.mvo_store.specs.declared.merge.merging.Merging.{Merging}
use Rattle.mvo_store.specs.declared.merge.merge_job.MergeJob.{MergeJob}
use Rattle.mvo_store.specs.declared.merge.reading.MergeReading.{MergeReading}
use Rattle.mvo_store.specs.declared.merge.merge_job.MergeJob.TheVariants.{Reading, Running}
use Rattle.mvo_store.specs.declared.jobs.jobs.Jobs.{Jobs}
use Rattle.mvo_store.specs.declared.jobs.jobs.Jobs.TheVariants.{Rotation as RotationAlone, Merge as MergeAlone, Beside}
use Rattle.mvo_store.specs.Jobs.{Job, no_jobs, jobs_of, keeps_all_out, keeps_checkpoint_out, keeps_merge_out, has_checkpoint, is_merge_read, is_segment_read, due_of, merge_due_of, step_due, job_due, is_step_due, is_of_merge, with_step, after_step, checkpoint_by, merge_by, checkpoint_behind, with_data_file, after_install}
use Rattle.mvo_store.specs.Jobs.Job.{Checkpoint, Merge}
use Rattle.mvo_store.specs.Standing.{ShareNone}
use Rattle.mvo_store.proofs.Beside.{IsDueIn, due_in_jobs, checkpoint_step, merge_step}
use Rattle.mvo_store.proofs.Beside.IsDueIn.{TheRotation, TheMerge, TheCheckpoint, OfMerge}

-- a job is there whose step is due
pub some_due : (step : Due) (jobs : Jobs) → is_step_due step jobs ≡ true → (j : Job) × (job_due step jobs ≡ Some j)
some_due step jobs is = go (job_due step jobs) refl is
  where
    go : (o : Option Job) → job_due step jobs ≡ o → is_some o ≡ true → (j : Job) × (job_due step jobs ≡ Some j)
    go None e t = absurd (cc t)
    go (Some j) e t = (j, e)

-- its step is that
pub step_is : {step : Due} {jobs : Jobs} {j : Job} → IsDueIn step jobs j → step_due j ≡ step
step_is (TheRotation fresh i at) = at
step_is (TheMerge seen placed i at) = at
step_is (TheCheckpoint c g at) = at
step_is (OfMerge c g at) = at

-- those that run then
pub with_checkpoint_step : (step : Due) (c : Checkpointing) (g : Option MergeJob) → is_of_merge step ≡ false → with_step step (Beside (Some (Runs c)) g) ≡ Beside (Some (Runs (checkpoint_behind c))) g
with_checkpoint_step step c g is = ap (λ (b : Bool). cond b (Beside (Some (Runs c)) (merge_by g)) (Beside (Some (Runs (checkpoint_behind c))) g)) is

pub with_merge_step : (step : Due) (c : Option CheckpointJob) (g : Merging) → is_of_merge step ≡ true → with_step step (Beside c (Some (Running g))) ≡ Beside c (Some (Running (with_data_file g)))
with_merge_step step c g is = ap (λ (b : Bool). cond b (Beside c (Some (Running (with_data_file g)))) (Beside (checkpoint_by c) (Some (Running g)))) is

-- what holds of each holds of that one
pub of_due : (P : Job → Type 0) {step : Due} {jobs : Jobs} {j : Job} → IsDueIn step jobs j → AllByRecursion P (jobs_of jobs) → P j
of_due P (TheRotation fresh i at) all = all.0
of_due P (TheMerge seen placed i at) all = all.0
of_due P (TheCheckpoint c g at) all = all.0
of_due P (OfMerge None g at) all = all.0
of_due P (OfMerge (Some (Reads r)) g at) all = all.0
of_due P (OfMerge (Some (Runs c)) g at) all = all.1.0

-- With that one a step on, and the other one as another fact says of it.
pub all_stepped : (P Q : Job → Type 0) {step : Due} {jobs : Jobs} {j : Job} → IsDueIn step jobs j → AllByRecursion P (jobs_of jobs) → Q (after_step j)
    → ((c : Checkpointing) (g : Merging) → jobs ≡ Beside (Some (Runs c)) (Some (Running g)) → j ≡ Checkpoint c → P (Merge g) → Q (Merge g))
    → ((c : Checkpointing) (g : Merging) → jobs ≡ Beside (Some (Runs c)) (Some (Running g)) → j ≡ Merge g → P (Checkpoint c) → Q (Checkpoint c))
    → AllByRecursion Q (jobs_of (with_step step jobs))
all_stepped P Q (TheRotation fresh i at) all now of_merge of_checkpoint = (now, tt)
all_stepped P Q (TheMerge seen placed i at) all now of_merge of_checkpoint = (now, tt)
all_stepped P Q {step} (TheCheckpoint c None at) all now of_merge of_checkpoint = subst (λ (k : Jobs). AllByRecursion Q (jobs_of k)) (sym (with_checkpoint_step step c None (checkpoint_step c.stage step at))) (now, tt)
all_stepped P Q {step} (TheCheckpoint c (Some (Reading r)) at) all now of_merge of_checkpoint = subst (λ (k : Jobs). AllByRecursion Q (jobs_of k)) (sym (with_checkpoint_step step c (Some (Reading r)) (checkpoint_step c.stage step at))) (now, tt)
all_stepped P Q {step} (TheCheckpoint c (Some (Running g)) at) all now of_merge of_checkpoint = subst (λ (k : Jobs). AllByRecursion Q (jobs_of k)) (sym (with_checkpoint_step step c (Some (Running g)) (checkpoint_step c.stage step at))) (now, (of_merge c g refl refl all.1.0, tt))
all_stepped P Q {step} (OfMerge None g at) all now of_merge of_checkpoint = subst (λ (k : Jobs). AllByRecursion Q (jobs_of k)) (sym (with_merge_step step None g (merge_step g.stage step at))) (now, tt)
all_stepped P Q {step} (OfMerge (Some (Reads r)) g at) all now of_merge of_checkpoint = subst (λ (k : Jobs). AllByRecursion Q (jobs_of k)) (sym (with_merge_step step (Some (Reads r)) g (merge_step g.stage step at))) (now, tt)
all_stepped P Q {step} (OfMerge (Some (Runs c)) g at) all now of_merge of_checkpoint = subst (λ (k : Jobs). AllByRecursion Q (jobs_of k)) (sym (with_merge_step step (Some (Runs c)) g (merge_step g.stage step at))) (of_checkpoint c g refl refl all.0, (now, tt))

-- no step takes a file
pub share_stepped : {step : Due} {jobs : Jobs} {j : Job} → IsDueIn step jobs j → ShareNone jobs → ShareNone (with_step step jobs)
share_stepped (TheRotation fresh i at) apart = tt
share_stepped (TheMerge seen placed i at) apart = tt
share_stepped {step} (TheCheckpoint c None at) apart = subst ShareNone (sym (with_checkpoint_step step c None (checkpoint_step c.stage step at))) tt
share_stepped {step} (TheCheckpoint c (Some (Reading r)) at) apart = subst ShareNone (sym (with_checkpoint_step step c (Some (Reading r)) (checkpoint_step c.stage step at))) tt
share_stepped {step} (TheCheckpoint c (Some (Running g)) at) apart = subst ShareNone (sym (with_checkpoint_step step c (Some (Running g)) (checkpoint_step c.stage step at))) apart
share_stepped {step} (OfMerge None g at) apart = subst ShareNone (sym (with_merge_step step None g (merge_step g.stage step at))) tt
share_stepped {step} (OfMerge (Some (Reads r)) g at) apart = subst ShareNone (sym (with_merge_step step (Some (Reads r)) g (merge_step g.stage step at))) tt
share_stepped {step} (OfMerge (Some (Runs c)) g at) apart = subst ShareNone (sym (with_merge_step step (Some (Runs c)) g (merge_step g.stage step at))) apart

-- what is behind an install shares none
pub share_installed : (jobs : Jobs) → ShareNone (after_install jobs)
share_installed (RotationAlone fresh i) = tt
share_installed (MergeAlone seen placed i) = tt
share_installed (Beside c None) = tt
share_installed (Beside c (Some g)) = tt

-- ---- those beside which one begins

-- a rotation
pub begins_alone : (jobs : Jobs) → keeps_all_out jobs ≡ false → jobs ≡ no_jobs
begins_alone (RotationAlone fresh i) e = absurd (cc e)
begins_alone (MergeAlone seen placed i) e = absurd (cc e)
begins_alone (Beside None None) e = refl
begins_alone (Beside None (Some g)) e = absurd (cc e)
begins_alone (Beside (Some c) g) e = absurd (cc e)

-- a merge whose pairs are read, where one is
pub is_read : (jobs : Jobs) → is_merge_read jobs ≡ true → (c : Option CheckpointJob) × (r : MergeReading) × (jobs ≡ Beside c (Some (Reading r)))
is_read (RotationAlone fresh i) e = absurd (cc e)
is_read (MergeAlone seen placed i) e = absurd (cc e)
is_read (Beside c None) e = absurd (cc e)
is_read (Beside c (Some (Running g))) e = absurd (cc e)
is_read (Beside c (Some (Reading r))) e = (c, r, refl)

-- a checkpoint whose segment is read, where one is
pub is_segment : (jobs : Jobs) → is_segment_read jobs ≡ true → (r : CheckpointReading) × (g : Option MergeJob) × (jobs ≡ Beside (Some (Reads r)) g)
is_segment (RotationAlone fresh i) e = absurd (cc e)
is_segment (MergeAlone seen placed i) e = absurd (cc e)
is_segment (Beside None g) e = absurd (cc e)
is_segment (Beside (Some (Runs c)) g) e = absurd (cc e)
is_segment (Beside (Some (Reads r)) g) e = (r, g, refl)

-- a checkpoint
pub begins_beside_merge : (jobs : Jobs) → keeps_checkpoint_out jobs ≡ false → (g : Option MergeJob) × (jobs ≡ Beside None g)
begins_beside_merge (RotationAlone fresh i) e = absurd (cc e)
begins_beside_merge (MergeAlone seen placed i) e = absurd (cc e)
begins_beside_merge (Beside None g) e = (g, refl)
begins_beside_merge (Beside (Some c) g) e = absurd (cc e)

-- a merge
pub begins_beside_checkpoint : (jobs : Jobs) → keeps_merge_out jobs ≡ false → (c : Option CheckpointJob) × (jobs ≡ Beside c None)
begins_beside_checkpoint (RotationAlone fresh i) e = absurd (cc e)
begins_beside_checkpoint (MergeAlone seen placed i) e = absurd (cc e)
begins_beside_checkpoint (Beside c None) e = (c, refl)
begins_beside_checkpoint (Beside c (Some g)) e = absurd (cc e)

-- the last file of a merge is written where no checkpoint runs
pub ends_alone : (jobs : Jobs) → is_step_due MergeDelta jobs ≡ true → has_checkpoint jobs ≡ false → (g : Merging) × (jobs ≡ Beside None (Some (Running g))) × (merge_due_of g.stage ≡ MergeDelta)
ends_alone jobs due none = let j = some_due MergeDelta jobs due in go (due_in_jobs MergeDelta jobs j.0 j.1) none
  where
    no_step : {A : Type 0} (stage : CheckpointStage) → due_of stage ≡ MergeDelta → A
    no_step (AtData written) e = absurd (cc e)
    no_step (AtDelta written) e = absurd (cc e)
    no_step (AtInstall step) e = absurd (cc e)

    go : {jobs : Jobs} {j : Job} → IsDueIn MergeDelta jobs j → has_checkpoint jobs ≡ false → (g : Merging) × (jobs ≡ Beside None (Some (Running g))) × (merge_due_of g.stage ≡ MergeDelta)
    go (TheRotation fresh i at) e = absurd (cc at)
    go (TheMerge seen placed i at) e = absurd (cc at)
    go (TheCheckpoint c g at) e = no_step c.stage at
    go (OfMerge None g at) e = (g, refl, at)
    go (OfMerge (Some c) g at) e = absurd (cc e)
