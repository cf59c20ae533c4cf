-- The jobs: which step of one comes next, which files they take, and what a step makes of them.
use Rattle.std.specs.Prelude.{ℕ, ◌+◌, ◌==◌, ◌||◌, nat_lt, Bool, true, false, List, [], ◌∷◌, ◌++◌, length, Option, Some, None, is_some, if◌then◌else◌}
use Rattle.std.specs.List.{list_any}
use Rattle.std.specs.Option.{option_map}
use Rattle.mvo_frame.specs.declared.segment.Segment.{Segment}
use Rattle.mvo_pair.specs.declared.pair.Pair.{Pair}
use Rattle.mvo_pair.specs.Data.{EntryData}
use Rattle.mvo_pair.specs.Slices.{with_slice}
use Rattle.mvo_manifest.specs.Data.{ManifestData}
use Rattle.mvo_store.specs.declared.install.install_step.InstallStep.{InstallStep}
use Rattle.mvo_store.specs.declared.install.install_step.InstallStep.TheVariants.{Close, Body, Open}
use Rattle.mvo_store.specs.declared.install.install.Install.{Install as InstallData}
use Rattle.mvo_store.specs.declared.checkpoint.stage.CheckpointStage.{CheckpointStage}
use Rattle.mvo_store.specs.declared.checkpoint.stage.CheckpointStage.TheVariants.{Data as AtData, Delta as AtDelta, Install as AtInstall}
use Rattle.mvo_store.specs.declared.checkpoint.checkpointing.Checkpointing.{Checkpointing}
use Rattle.mvo_store.specs.declared.checkpoint.reading.CheckpointReading.{CheckpointReading}
use Rattle.mvo_store.specs.declared.checkpoint.checkpoint_job.CheckpointJob.{CheckpointJob}
use Rattle.mvo_store.specs.declared.checkpoint.checkpoint_job.CheckpointJob.TheVariants.{Reading as Reads, Running as Runs}
use Rattle.mvo_store.specs.declared.merge.stage.MergeStage.{MergeStage}
use Rattle.mvo_store.specs.declared.merge.stage.MergeStage.TheVariants.{Data as MergeAtData, Delta as MergeAtDelta}
use Rattle.mvo_store.specs.declared.merge.merging.Merging.{Merging}
use Rattle.mvo_store.specs.declared.merge.reading.MergeReading.{MergeReading}
use Rattle.mvo_store.specs.declared.merge.merge_job.MergeJob.{MergeJob}
use Rattle.mvo_store.specs.declared.merge.merge_job.MergeJob.TheVariants.{Reading, Running}
use Rattle.mvo_store.specs.declared.merge.seen_pairs.SeenPairs.{SeenPairs}
use Rattle.mvo_store.specs.declared.jobs.due.Due.{Due}
use Rattle.mvo_store.specs.declared.jobs.due.Due.TheVariants.{Data, Delta, MergeData, MergeDelta, Install}
use Rattle.mvo_store.specs.declared.jobs.progress.Progress.{Progress}
use Rattle.mvo_store.specs.declared.jobs.progress.Progress.TheVariants.{More, Ready}
use Rattle.mvo_store.specs.declared.jobs.jobs.Jobs.{Jobs}
use Rattle.mvo_store.specs.declared.jobs.jobs.Jobs.TheVariants.{Rotation as RotationAlone, Merge as MergeAlone, Beside}

-- ---- those that run

-- one of them, by itself
pub data Job : Type 0 where
  Rotation : (fresh : Segment) → InstallData → Job
  Checkpoint : Checkpointing → Job
  Merge : Merging → Job
  MergeInstall : SeenPairs → (placed : ℕ) → InstallData → Job

abbrev pub no_jobs : Jobs
no_jobs = Beside None None

-- one whose segment is read takes no file, and none of its steps is due
abbrev pub checkpoint_alone : Option CheckpointJob → List Job
checkpoint_alone None = []
checkpoint_alone (Some (Reads r)) = []
checkpoint_alone (Some (Runs c)) = Checkpoint c ∷ []

-- so it is with one whose pairs are read
abbrev pub merge_alone : Option MergeJob → List Job
merge_alone None = []
merge_alone (Some (Reading g)) = []
merge_alone (Some (Running g)) = Merge g ∷ []

-- each of them, but a checkpoint whose segment is read, and a merge whose pairs are
abbrev pub jobs_of : Jobs → List Job
jobs_of (RotationAlone fresh i) = Rotation fresh i ∷ []
jobs_of (MergeAlone seen placed i) = MergeInstall seen placed i ∷ []
jobs_of (Beside c g) = checkpoint_alone c ++ merge_alone g

-- the merge whose pairs are read
abbrev pub reading_of : Jobs → Option MergeReading
reading_of (Beside c (Some (Reading g))) = Some g
reading_of jobs = None

abbrev pub is_merge_read : Jobs → Bool
is_merge_read jobs = is_some (reading_of jobs)

-- the checkpoint whose segment is read
abbrev pub segment_read_of : Jobs → Option CheckpointReading
segment_read_of (Beside (Some (Reads r)) g) = Some r
segment_read_of jobs = None

abbrev pub is_segment_read : Jobs → Bool
is_segment_read jobs = is_some (segment_read_of jobs)

-- ---- which of them keep another out

-- a rotation
abbrev pub keeps_all_out : Jobs → Bool
keeps_all_out (Beside None None) = false
keeps_all_out jobs = true

-- a checkpoint
abbrev pub keeps_checkpoint_out : Jobs → Bool
keeps_checkpoint_out (Beside None g) = false
keeps_checkpoint_out jobs = true

-- a merge
abbrev pub keeps_merge_out : Jobs → Bool
keeps_merge_out (Beside c None) = false
keeps_merge_out jobs = true

-- a checkpoint runs
abbrev pub has_checkpoint : Jobs → Bool
has_checkpoint (Beside (Some c) g) = true
has_checkpoint jobs = false

-- a rotation runs
abbrev pub has_rotation : Jobs → Bool
has_rotation (RotationAlone fresh i) = true
has_rotation jobs = false

-- ---- which step comes next

-- the steps, numbered
abbrev pub step_number : Due → ℕ
step_number Data = 0
step_number Delta = 1
step_number MergeData = 2
step_number MergeDelta = 3
step_number (Install Close) = 4
step_number (Install Body) = 5
step_number (Install Open) = 6

-- of a checkpoint
abbrev pub due_of : CheckpointStage → Due
due_of (AtData written) = Data
due_of (AtDelta written) = Delta
due_of (AtInstall step) = Install step

-- of a merge whose files aren't all written
abbrev pub merge_due_of : MergeStage → Due
merge_due_of (MergeAtData written) = MergeData
merge_due_of MergeAtDelta = MergeDelta

abbrev pub step_due : Job → Due
step_due (Rotation fresh i) = Install i.step
step_due (Checkpoint c) = due_of c.stage
step_due (Merge g) = merge_due_of g.stage
step_due (MergeInstall g placed i) = Install i.step

abbrev pub is_step_of : Due → Job → Bool
is_step_of step j = step_number (step_due j) == step_number step

-- The one of these whose next step it is. There is one at most.
abbrev pub first_due : Due → List Job → Option Job
first_due step [] = None
first_due step (j ∷ js) = if is_step_of step j then Some j else first_due step js

abbrev pub job_due : Due → Jobs → Option Job
job_due step jobs = first_due step (jobs_of jobs)

-- the next step of the first of these
abbrev pub first_step : List Job → Option Due
first_step [] = None
first_step (j ∷ js) = Some (step_due j)

-- a step that may be made: with a checkpoint beside a merge it is that of the checkpoint
abbrev pub next_due : Jobs → Option Due
next_due jobs = first_step (jobs_of jobs)

-- this step of a job that runs is the next
abbrev pub is_step_due : Due → Jobs → Bool
is_step_due step jobs = is_some (job_due step jobs)

-- ---- what is installed

-- the install of a checkpoint, once its files are written
abbrev pub install_at : ManifestData → CheckpointStage → Option InstallData
install_at next (AtData written) = None
install_at next (AtDelta written) = None
install_at next (AtInstall step) = Some (record { next = next; step = step })

-- the install that is under way
abbrev pub install_of : Job → Option InstallData
install_of (Rotation fresh i) = Some i
install_of (Checkpoint c) = install_at c.next c.stage
install_of (Merge g) = None
install_of (MergeInstall g placed i) = Some i

-- The job whose manifest is the next to be installed. A merge that isn't ready has none, nor has a
-- checkpoint whose segment is read.
abbrev pub next_installed : Jobs → Option Job
next_installed (RotationAlone fresh i) = Some (Rotation fresh i)
next_installed (MergeAlone seen placed i) = Some (MergeInstall seen placed i)
next_installed (Beside None g) = None
next_installed (Beside (Some (Reads r)) g) = None
next_installed (Beside (Some (Runs c)) g) = Some (Checkpoint c)

-- ---- which files they take

-- the job gives the file new content
abbrev pub job_takes_file : Job → ℕ → Bool
job_takes_file (Rotation fresh i) n = fresh.file == n
job_takes_file (Checkpoint c) n = c.pair.data_file == n || c.pair.delta_file == n
job_takes_file (Merge g) n = g.seen.pair.data_file == n || g.seen.pair.delta_file == n
job_takes_file (MergeInstall g placed i) n =
    g.pair.data_file == n || g.pair.delta_file == n

-- one of those that run does
abbrev pub takes_file : Jobs → ℕ → Bool
takes_file jobs n = list_any (λ j. job_takes_file j n) (jobs_of jobs)

-- the pair of a checkpoint
abbrev pub checkpoint_pair : Jobs → Option Pair
checkpoint_pair (Beside (Some (Runs c)) g) = Some c.pair
checkpoint_pair jobs = None

-- that of a merge whose files aren't all written
abbrev pub merge_pair : Jobs → Option Pair
merge_pair (Beside c (Some (Running g))) = Some g.seen.pair
merge_pair jobs = None

-- ---- those that begin

-- a checkpoint, where none is kept out
abbrev pub with_checkpoint : Checkpointing → Jobs → Jobs
with_checkpoint c (Beside None g) = Beside (Some (Runs c)) g
with_checkpoint c jobs = jobs

-- so where its segment is read first
abbrev pub with_segment_read : CheckpointReading → Jobs → Jobs
with_segment_read r (Beside None g) = Beside (Some (Reads r)) g
with_segment_read r jobs = jobs

-- a merge, where none is kept out
abbrev pub with_merge : Merging → Jobs → Jobs
with_merge g (Beside c None) = Beside c (Some (Running g))
with_merge g jobs = jobs

-- so where its pairs are read first
abbrev pub with_reading : MergeReading → Jobs → Jobs
with_reading g (Beside c None) = Beside c (Some (Reading g))
with_reading g jobs = jobs

-- those that run, but a merge whose pairs are read
abbrev pub without_reading : Jobs → Jobs
without_reading (Beside c (Some (Reading g))) = Beside c None
without_reading jobs = jobs

-- but a checkpoint whose segment is
abbrev pub without_segment_read : Jobs → Jobs
without_segment_read (Beside (Some (Reads r)) g) = Beside None g
without_segment_read jobs = jobs

-- ---- what a step makes of them

-- Opening the gate is the last.
abbrev pub next_step : InstallStep → InstallStep
next_step Close = Body
next_step Body = Open
next_step Open = Open

abbrev pub stepped : InstallData → InstallData
stepped i = record i { step = next_step i.step }

-- Of a checkpoint with so many older delta files to write: they come behind the new pair's own.
abbrev pub stage_behind : ℕ → CheckpointStage → CheckpointStage
stage_behind older (AtData written) = AtDelta 0
stage_behind older (AtDelta written) =
    if nat_lt written older then AtDelta (written + 1) else AtInstall Close
stage_behind older (AtInstall step) = AtInstall (next_step step)

abbrev pub checkpoint_behind : Checkpointing → Checkpointing
checkpoint_behind c = record c { stage = stage_behind (length c.made.deltas) c.stage }

-- a merge whose data file is written
abbrev pub with_data_file : Merging → Merging
with_data_file g = record g { stage = MergeAtDelta }

-- the job with one step behind it, other than the last file of a merge
abbrev pub after_step : Job → Job
after_step (Rotation fresh i) = Rotation fresh (stepped i)
after_step (Checkpoint c) = Checkpoint (checkpoint_behind c)
after_step (Merge g) = Merge (with_data_file g)
after_step (MergeInstall g placed i) = MergeInstall g placed (stepped i)

abbrev pub checkpoint_job_by : CheckpointJob → CheckpointJob
checkpoint_job_by (Reads r) = Reads r
checkpoint_job_by (Runs c) = Runs (checkpoint_behind c)

abbrev pub checkpoint_by : Option CheckpointJob → Option CheckpointJob
checkpoint_by None = None
checkpoint_by (Some c) = Some (checkpoint_job_by c)

abbrev pub merge_job_by : MergeJob → MergeJob
merge_job_by (Reading g) = Reading g
merge_job_by (Running g) = Running (with_data_file g)

abbrev pub merge_by : Option MergeJob → Option MergeJob
merge_by None = None
merge_by (Some g) = Some (merge_job_by g)

-- the step is one of a merge whose files aren't all written
abbrev pub is_of_merge : Due → Bool
is_of_merge MergeData = true
is_of_merge MergeDelta = true
is_of_merge step = false

-- Those that run, where this step was the next of one of them and is behind it. The other one is
-- as it was.
abbrev pub with_step : Due → Jobs → Jobs
with_step step (RotationAlone fresh i) = RotationAlone fresh (stepped i)
with_step step (MergeAlone seen placed i) = MergeAlone seen placed (stepped i)
with_step step (Beside c g) =
    if is_of_merge step then Beside c (merge_by g) else Beside (checkpoint_by c) g

-- A merge with its last file written, and with this manifest to be installed, runs alone.
abbrev pub with_manifest : ManifestData → Jobs → Jobs
with_manifest next (Beside None (Some (Running g))) =
    MergeAlone g.seen 0 (record { next = next; step = Close })
with_manifest next jobs = jobs

-- Those that run on once the next manifest is installed: a merge that isn't ready.
abbrev pub after_install : Jobs → Jobs
after_install (RotationAlone fresh i) = no_jobs
after_install (MergeAlone seen placed i) = no_jobs
after_install (Beside c g) = Beside None g

-- ---- how far a checkpoint is

-- Of one with so many older delta files to write: Ready with the last, and More with each before
-- it.
abbrev pub progress_at : ℕ → CheckpointStage → Progress
progress_at older (AtData written) = More
progress_at older (AtDelta written) = if nat_lt written older then More else Ready
progress_at older (AtInstall step) = More

abbrev pub progress_of : Jobs → Progress
progress_of (Beside (Some (Runs c)) g) = progress_at (length c.made.deltas) c.stage
progress_of jobs = More

-- ---- what a slice of a data file makes of them

-- how many records the data file of a checkpoint holds behind the next slice, and that of a merge
abbrev pub slice_end_at : List EntryData → CheckpointStage → ℕ
slice_end_at es (AtData written) = with_slice es written
slice_end_at es stage = 0

abbrev pub merge_slice_end_at : List EntryData → MergeStage → ℕ
merge_slice_end_at es (MergeAtData written) = with_slice es written
merge_slice_end_at es MergeAtDelta = 0

abbrev pub slice_end : Job → ℕ
slice_end (Checkpoint c) = slice_end_at c.made.records c.stage
slice_end (Merge g) = merge_slice_end_at g.seen.made.records g.stage
slice_end j = 0

abbrev pub slice_end_of : Option Job → ℕ
slice_end_of None = 0
slice_end_of (Some j) = slice_end j

-- the stage where the data file holds so many of so many records
abbrev pub stage_upto : ℕ → ℕ → CheckpointStage
stage_upto upto all = if nat_lt upto all then AtData upto else AtDelta 0

abbrev pub merge_stage_upto : ℕ → ℕ → MergeStage
merge_stage_upto upto all = if nat_lt upto all then MergeAtData upto else MergeAtDelta

-- the jobs at that stage
abbrev pub checkpoint_upto : ℕ → Checkpointing → Checkpointing
checkpoint_upto upto c = record c { stage = stage_upto upto (length c.made.records) }

abbrev pub checkpoint_job_upto : ℕ → CheckpointJob → CheckpointJob
checkpoint_job_upto upto (Reads r) = Reads r
checkpoint_job_upto upto (Runs c) = Runs (checkpoint_upto upto c)

abbrev pub merge_upto : ℕ → Merging → Merging
merge_upto upto g = record g { stage = merge_stage_upto upto (length g.seen.made.records) }

abbrev pub merge_job_upto : ℕ → MergeJob → MergeJob
merge_job_upto upto (Reading g) = Reading g
merge_job_upto upto (Running g) = Running (merge_upto upto g)

abbrev pub job_upto : ℕ → Job → Job
job_upto upto (Checkpoint c) = Checkpoint (checkpoint_upto upto c)
job_upto upto (Merge g) = Merge (merge_upto upto g)
job_upto upto j = j

-- Those that run, where the data file of the one whose step this is holds so many records.
abbrev pub jobs_upto : ℕ → Due → Jobs → Jobs
jobs_upto upto step (Beside c g) =
    if is_of_merge step then Beside c (option_map (merge_job_upto upto) g)
    else Beside (option_map (checkpoint_job_upto upto) c) g
jobs_upto upto step jobs = jobs

-- so it is behind the next slice
abbrev pub sliced : Due → Jobs → Jobs
sliced step jobs = jobs_upto (slice_end_of (job_due step jobs)) step jobs

-- the step writes the data file of a job
abbrev pub is_of_data : Due → Bool
is_of_data Data = true
is_of_data MergeData = true
is_of_data step = false

-- whether more slices are left where the step is due, or isn't due any more
abbrev pub slices_left : Bool → Progress
slices_left true = More
slices_left false = Ready
