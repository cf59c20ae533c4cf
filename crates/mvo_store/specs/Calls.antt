-- The calls of a store: when each is refused, what it makes of the store, and what becomes of its
-- rows.
use Rattle.std.specs.Prelude.{◌≡◌, ◌≢◌, ◌⊎◌, ℕ, ◌+◌, List, [], true, false, Option, Some, None, Result, Ok, Err, OnOk, IfErr, ⊤}
use Rattle.mvo_types.specs.declared.refusal.Refusal.{Refusal}
use Rattle.mvo_types.specs.declared.refusal.Refusal.TheVariants.{DiskFault, OutOfMemory}
use Rattle.mvo_types.specs.Keys.{Map}
use Rattle.mvo_disk.specs.declared.disk.Disk.{Ghosts}
use Rattle.mvo_disk.specs.Disk.{IsHonest}
use Rattle.mvo_group.specs.Data.{GroupData}
use Rattle.mvo_format.specs.declared.format.TheConstants.{LAST_FORMAT}
use Rattle.mvo_pair.specs.Files.{delta_bytes}
use Rattle.mvo_manifest.specs.Data.{ManifestData}
use Rattle.mvo_load.specs.Read.{IsMisread}
use Rattle.mvo_store.specs.declared.jobs.due.Due.{Due}
use Rattle.mvo_store.specs.declared.jobs.due.Due.TheVariants.{Data, Delta, MergeData, MergeDelta, Install}
use Rattle.mvo_store.specs.declared.install.install_step.InstallStep.TheVariants.{Close, Body, Open}
use Rattle.mvo_store.specs.declared.call.StoreCall.{StoreCall}
use Rattle.mvo_store.specs.declared.call.StoreCall.TheVariants.{AppendBody, AppendOpen, RotateWrite}
use Rattle.mvo_store.specs.declared.call.StoreCall.TheVariants.{CheckpointRead, MergeRead, Step, Reclaim}
use Rattle.mvo_store.specs.declared.jobs.jobs.Jobs.TheVariants.{Beside}
use Rattle.mvo_store.specs.declared.merge.merging.Merging.{Merging}
use Rattle.mvo_store.specs.declared.merge.merge_job.MergeJob.TheVariants.{Running}
use Rattle.mvo_store.specs.declared.jobs.progress.Progress.{Progress}
use Rattle.mvo_store.specs.declared.jobs.progress.Progress.TheVariants.{More, Ready as AllWritten}
use Rattle.mvo_store.specs.declared.done.Done.{Done}
use Rattle.mvo_store.specs.declared.done.Done.TheVariants.{Written, Durable, Ready}
use Rattle.mvo_store.specs.declared.done.Done.TheVariants.{Progress as Progressed, Shut}
use Rattle.mvo_store.specs.declared.done.Done.TheVariants.{Installed, Reclaimed}
use Rattle.mvo_store.specs.StoreData.{StoreData}
use Rattle.mvo_store.specs.Standing.{IsKeeping, after_taken}
use Rattle.mvo_store.specs.Causes.{why_not_take, why_not_append_body, why_not_append_open}
use Rattle.mvo_store.specs.Causes.{replaces_last, why_not_rotate, why_not_checkpoint, why_not_merge}
use Rattle.mvo_store.specs.Causes.{why_not_due, why_not_merge_delta, why_not_install_open}
use Rattle.mvo_store.specs.Causes.{why_not_place, why_not_merge_read, why_not_reclaim}
use Rattle.mvo_store.specs.Causes.{why_not_segment_read}
use Rattle.mvo_store.specs.Jobs.{Job, no_jobs, job_due, is_step_due, is_merge_read, without_reading, is_segment_read, segment_read_of, without_segment_read, with_step, sliced, slices_left, with_manifest, progress_of}
use Rattle.mvo_store.specs.Steps.{IsRotationOf, IsCheckpointOf, IsMergeOf, IsBegunReading, IsMergeReadOn, HasInstalledNext, HasPlaced}
use Rattle.mvo_store.specs.Steps.{IsBegunSegment, IsSegmentReadOn}
use Rattle.mvo_ckpt.specs.declared.building.Built.TheVariants.{More as MoreToBuild}
use Rattle.mvo_store.specs.declared.checkpoint.reading.CheckpointReading.{CheckpointReading}
use Rattle.mvo_store.specs.declared.checkpoint.reading.CheckpointReading.TheVariants.{Pair}
use Rattle.mvo_store.specs.Placing.{are_places_left}
use Rattle.mvo_store.specs.Files.{IsLeastFree}
use Rattle.mvo_store.specs.Merging.{merged_at, pair_with}
use Rattle.mvo_store.specs.Writing.{IsFileDue, AreLateEntries}
use Rattle.mvo_store.specs.Reclaiming.{IsUnused, IsLeastDead, HasReclaimed}

-- what is asked of a store: to take a group, a call, or a slice of one
pub data StoreStep : Type 0 where
  Take : GroupData → StoreStep
  Call : StoreCall → StoreStep
  -- to write the next slice of the data file of the job whose step this is
  Slice : Due → StoreStep
  -- to make the next slice of the changes that a job makes of the places
  Place : StoreStep
  -- to begin to read the pair at a place and the one behind it, which are to be merged, in slices
  MergeBegin : (place : ℕ) → StoreStep
  -- to read the next slice of them
  MergeReadOn : StoreStep
  -- to forget what is read of them
  MergeForget : StoreStep
  -- to begin to read the oldest sealed segment, of which a checkpoint is to be made, in slices
  CheckpointBegin : StoreStep
  -- to read the next slice of it, or build one of its pair
  CheckpointReadOn : StoreStep
  -- to forget what is read and built of it
  CheckpointForget : StoreStep
  -- to cut the end of a long file off that nobody names
  Shorten : StoreStep

-- ---- when it is refused

-- the first refusal of the call's list whose test is true
abbrev pub why_not_store : {D : Type 0} → StoreData D → StoreStep → Option Refusal
why_not_store s (Take g) = why_not_take s
why_not_store s (Call AppendBody) = why_not_append_body s
why_not_store s (Call AppendOpen) = why_not_append_open s
why_not_store s (Call RotateWrite) = why_not_rotate s
why_not_store s (Call CheckpointRead) = why_not_checkpoint s
why_not_store s (Call (MergeRead place)) = why_not_merge place s
why_not_store s (Call (Step MergeDelta)) = why_not_merge_delta s
why_not_store s (Call (Step (Install Open))) = why_not_install_open s
why_not_store s (Call (Step step)) = why_not_due step s
why_not_store s (Call Reclaim) = why_not_reclaim s
why_not_store s (Slice step) = why_not_due step s
why_not_store s Place = why_not_place s
why_not_store s (MergeBegin place) = why_not_merge place s
why_not_store s MergeReadOn = why_not_merge_read s
why_not_store s MergeForget = why_not_merge_read s
why_not_store s CheckpointBegin = why_not_checkpoint s
why_not_store s CheckpointReadOn = why_not_segment_read s
why_not_store s CheckpointForget = why_not_segment_read s
why_not_store s Shorten = why_not_reclaim s

-- What may refuse it where no cause stands: want of memory and a fault of the disk. Opening or
-- closing a gate and emptying or cutting a file take no memory, and taking a group, putting places
-- and forgetting what is read ask for neither. What is read may break a rule.
abbrev pub MayMeet : StoreStep → Refusal → Type 0
MayMeet (Take g) e = ⊥
MayMeet Place e = ⊥
MayMeet MergeForget e = ⊥
MayMeet CheckpointForget e = ⊥
MayMeet (Call AppendOpen) e = e ≡ DiskFault
MayMeet (Call (Step (Install Close))) e = e ≡ DiskFault
MayMeet (Call (Step (Install Open))) e = e ≡ DiskFault
MayMeet (Call Reclaim) e = e ≡ DiskFault
MayMeet Shorten e = e ≡ DiskFault
MayMeet (Call CheckpointRead) e = (e ≡ OutOfMemory) ⊎ ((e ≡ DiskFault) ⊎ IsMisread e)
MayMeet (Call (MergeRead place)) e = (e ≡ OutOfMemory) ⊎ ((e ≡ DiskFault) ⊎ IsMisread e)
MayMeet (Call (Step MergeDelta)) e = (e ≡ OutOfMemory) ⊎ ((e ≡ DiskFault) ⊎ IsMisread e)
MayMeet (MergeBegin place) e = (e ≡ OutOfMemory) ⊎ ((e ≡ DiskFault) ⊎ IsMisread e)
MayMeet MergeReadOn e = (e ≡ OutOfMemory) ⊎ ((e ≡ DiskFault) ⊎ IsMisread e)
MayMeet CheckpointBegin e = (e ≡ OutOfMemory) ⊎ ((e ≡ DiskFault) ⊎ IsMisread e)
MayMeet CheckpointReadOn e = (e ≡ OutOfMemory) ⊎ ((e ≡ DiskFault) ⊎ IsMisread e)
MayMeet call e = (e ≡ OutOfMemory) ⊎ (e ≡ DiskFault)

-- the first cause that stands is the refusal
abbrev pub IsRefused : {A : Type 0} → StoreStep → Option Refusal → Result A Refusal → Type 0
IsRefused call (Some cause) result = result ≡ Err cause
IsRefused call None (Ok a) = Unit {0}
IsRefused call None (Err e) = MayMeet call e

-- what taking a group came to, but for the group, which comes back
abbrev pub without_group : {A : Type 0} → Result A (Refusal × GroupData) → Result A Refusal
without_group (Ok a) = Ok a
without_group (Err e) = Err e.0

-- ---- what it makes of the store

-- no call of the device failed
abbrev pub HasNoFault : {D : Type 0} → Ghosts D → StoreData D → StoreData D → Type 0
HasNoFault d old new = d.fault_count new.disk ≡ d.fault_count old.disk

-- the body of the pending group is written
abbrev pub IsBodyWritten : {D : Type 0} → StoreData D → StoreData D → Type 0
IsBodyWritten old new = new ≡ record old {
  disk = new.disk;
  segment = record old.segment { next = new.segment.next };
  written = true;
}

-- the pending group is durable
pub record IsDurable {D : Type 0} (old new : StoreData D) : Type 0 where
  pub group : GroupData
  pub there : old.pending ≡ Some group
  pub after : new ≡ record old {
    disk = new.disk;
    segment = record old.segment { gate = old.segment.next };
    mark = group.mark;
    pending = None;
    written = false;
  }

-- nothing but the jobs and the disk is another
abbrev pub HasNewJobs : {D : Type 0} → StoreData D → StoreData D → Type 0
HasNewJobs old new = new ≡ record old { disk = new.disk; jobs = new.jobs }

-- a rotation runs, and nothing of it is installed yet
pub record HasBegunRotation {D : Type 0} (old new : StoreData D) : Type 0 where
  pub none : old.jobs ≡ no_jobs
  pub rotation : IsRotationOf (replaces_last old) old.manifest new.jobs
  pub after : HasNewJobs old new

-- a checkpoint of the oldest sealed segment runs, and nothing of it is written yet
pub record IsReadToCheckpoint {D : Type 0} (d : Ghosts D) (old new : StoreData D) : Type 0 where
  pub checkpoint : IsCheckpointOf (IsHonest (d.moment new.disk)) (d.content old.disk) old.manifest
      old.jobs new.jobs
  pub after : new ≡ record old {
    disk = new.disk;
    places = record old.places { room = new.places.room };
    jobs = new.jobs;
  }

-- a merge of the pair at a place and the one behind it runs, and nothing of it is written yet
pub record IsReadToMerge {D : Type 0} (d : Ghosts D) (place : ℕ) (old new : StoreData D) : Type 0
  where
    pub merge : IsMergeOf (IsHonest (d.moment new.disk)) (d.content old.disk) old.manifest place
        old.jobs new.jobs
    pub after : HasNewJobs old new

-- A merge of the pair at a place and the one behind it runs, of which nothing is read yet.
pub record HasBegunReading {D : Type 0} (place : ℕ) (old new : StoreData D) : Type 0 where
  pub merge : IsBegunReading old.manifest place old.jobs new.jobs
  pub after : HasNewJobs old new

-- The merge that runs has more of its pairs read, or all, and then nothing of it is written yet.
pub record HasReadOn {D : Type 0} (d : Ghosts D) (old new : StoreData D) : Type 0 where
  pub merge : IsMergeReadOn (IsHonest (d.moment new.disk)) (d.content old.disk) old.manifest
      old.jobs new.jobs
  pub after : HasNewJobs old new

-- A checkpoint of the oldest sealed segment runs, of which no group is read yet.
pub record HasBegunSegment {D : Type 0} (old new : StoreData D) : Type 0 where
  pub checkpoint : IsBegunSegment old.manifest old.jobs new.jobs
  pub after : HasNewJobs old new

-- The checkpoint that runs has more of its segment read or of its pair built, or all, and then
-- nothing of it is written yet.
pub record HasReadSegmentOn {D : Type 0} (d : Ghosts D) (old new : StoreData D) : Type 0 where
  pub checkpoint : IsSegmentReadOn (IsHonest (d.moment new.disk)) (d.content old.disk) old.manifest
      old.jobs new.jobs
  pub after : new ≡ record old {
    disk = new.disk;
    places = record old.places { room = new.places.room };
    jobs = new.jobs;
  }

-- the job whose step this was has it behind it, and the other one is as it was
abbrev pub HasStepped : {D : Type 0} → Due → StoreData D → StoreData D → Type 0
HasStepped step old new =
    new ≡ record old { disk = new.disk; jobs = with_step step old.jobs }

-- the job whose step this is has one slice more of its data file, and the other one is as it was
abbrev pub HasSliced : {D : Type 0} → Due → StoreData D → StoreData D → Type 0
HasSliced step old new = new ≡ record old { disk = new.disk; jobs = sliced step old.jobs }

-- The merge that ran alone has its last file, which holds the numbers that came late, renumbered.
-- Its manifest, which is made of the installed one, is to be installed.
pub record IsMergeEnded {D : Type 0} (d : Ghosts D) (old new : StoreData D) : Type 0 where
  pub merge : Merging
  pub was : old.jobs ≡ Beside None (Some (Running merge))
  pub late : List ℕ
  pub are : AreLateEntries (IsHonest (d.moment new.disk)) (d.content old.disk) old.manifest
      merge.seen late
  pub bytes : d.content new.disk merge.seen.pair.delta_file ≡ delta_bytes LAST_FORMAT.version late
  pub after : new ≡ record old {
    disk = new.disk;
    jobs = with_manifest (merged_at old.manifest merge.seen.place (pair_with merge.seen late))
        old.jobs;
  }

-- what an accepted call makes of the store
abbrev pub Makes : {D : Type 0} → Ghosts D → StoreStep → StoreData D → StoreData D → Type 0
Makes d (Take g) old new = new ≡ record old { pending = Some g }
Makes d (Call AppendBody) old new = IsBodyWritten old new
Makes d (Call AppendOpen) old new = IsDurable old new
Makes d (Call RotateWrite) old new = HasBegunRotation old new
Makes d (Call CheckpointRead) old new = IsReadToCheckpoint d old new
Makes d (Call (MergeRead place)) old new = IsReadToMerge d place old new
Makes d (Call (Step MergeDelta)) old new = IsMergeEnded d old new
Makes d (Call (Step (Install Open))) old new =
    HasInstalledNext (IsHonest (d.moment new.disk)) old new
Makes d (Call (Step step)) old new = HasStepped step old new
Makes d (Call Reclaim) old new = new ≡ record old { disk = new.disk }
Makes d (Slice step) old new = HasSliced step old new
Makes d Place old new = HasPlaced (IsHonest (d.moment new.disk)) old new
Makes d (MergeBegin place) old new = HasBegunReading place old new
Makes d MergeReadOn old new = HasReadOn d old new
Makes d MergeForget old new = new ≡ record old { jobs = without_reading old.jobs }
Makes d CheckpointBegin old new = HasBegunSegment old new
Makes d CheckpointReadOn old new = HasReadSegmentOn d old new
Makes d CheckpointForget old new = new ≡ record old { jobs = without_segment_read old.jobs }
Makes d Shorten old new = new ≡ record old { disk = new.disk }

-- so it does, and no call of the device failed
pub record IsMade {D : Type 0} (d : Ghosts D) (call : StoreStep) (old new : StoreData D) : Type 0
  where
    pub makes : Makes d call old new
    pub no_fault : HasNoFault d old new

-- ---- what it answers

-- the mark of the last group that is durable
abbrev pub AnswersMark : {D : Type 0} → StoreData D → ℕ → Type 0
AnswersMark new mark = mark ≡ new.mark

-- whether the delta file that was due is the last
abbrev pub AnswersProgress : {D : Type 0} → StoreData D → Progress → Type 0
AnswersProgress old progress = progress ≡ progress_of old.jobs

-- whether more slices of the data file are left: its step is due still
abbrev pub AnswersSlice : {D : Type 0} → Due → StoreData D → Progress → Type 0
AnswersSlice step new progress = progress ≡ slices_left (is_step_due step new.jobs)

-- whether more changes of the places are left
abbrev pub AnswersPlaces : {D : Type 0} → StoreData D → Progress → Type 0
AnswersPlaces new progress = progress ≡ slices_left (are_places_left new.jobs)

-- whether more of the pairs that are to be merged is left to be read
abbrev pub AnswersReading : {D : Type 0} → StoreData D → Progress → Type 0
AnswersReading new progress = progress ≡ slices_left (is_merge_read new.jobs)

-- whether more of the segment is left to be read, or of its pair to be built and planned
abbrev pub AnswersCheckpointReading : {D : Type 0} → StoreData D → Progress → Type 0
AnswersCheckpointReading new progress = progress ≡ slices_left (is_segment_read new.jobs)

-- the generation of the installed manifest
abbrev pub AnswersGeneration : {D : Type 0} → StoreData D → ℕ → Type 0
AnswersGeneration new generation = generation ≡ new.manifest.generation

-- what an accepted call answers
abbrev pub AnswersCall : {D : Type 0} → Ghosts D → StoreData D → StoreCall → Done → StoreData D
    → Type 0
AnswersCall d old AppendBody Written new = ⊤
AnswersCall d old AppendOpen (Durable mark) new = AnswersMark new mark
AnswersCall d old RotateWrite Ready new = ⊤
AnswersCall d old CheckpointRead (Progressed More) new = ⊤
AnswersCall d old (MergeRead place) (Progressed More) new = ⊤
AnswersCall d old (Step Data) (Progressed More) new = ⊤
AnswersCall d old (Step Delta) (Progressed progress) new = AnswersProgress old progress
AnswersCall d old (Step MergeData) (Progressed More) new = ⊤
AnswersCall d old (Step MergeDelta) (Progressed AllWritten) new = ⊤
AnswersCall d old (Step (Install Close)) Shut new = ⊤
AnswersCall d old (Step (Install Body)) Written new = ⊤
AnswersCall d old (Step (Install Open)) (Installed g) new = AnswersGeneration new g.0
AnswersCall d old Reclaim (Reclaimed answer) new = HasReclaimed d old answer new
AnswersCall d old call done new = ⊥

-- ---- what a refusal leaves

-- the store met a fault: it is down, and nothing else of it has changed
pub record IsFault {D : Type 0} (d : Ghosts D) (old new : StoreData D) : Type 0 where
  pub after : new ≡ record old { disk = new.disk; down = true }
  pub count : d.fault_count new.disk ≡ d.fault_count old.disk + 1

-- time has passed on the disk, and nothing else has changed
pub record HasLooked {D : Type 0} (d : Ghosts D) (old new : StoreData D) : Type 0 where
  pub after : new ≡ record old { disk = new.disk }
  pub no_fault : HasNoFault d old new

-- What is read and built of a checkpoint is let go: no checkpoint runs any more.
pub record HasLetPairGo {D : Type 0} (d : Ghosts D) (old new : StoreData D) : Type 0 where
  pub after : new ≡ record old { disk = new.disk; jobs = without_segment_read old.jobs }
  pub no_fault : HasNoFault d old new

-- so it is where its pair is being built, and else it is as it was
abbrev pub LeavesSegmentRead : {D : Type 0} → Ghosts D → Option CheckpointReading → StoreData D →
    StoreData D → Type 0
LeavesSegmentRead d (Some (Pair mark (MoreToBuild b))) old new = HasLetPairGo d old new
LeavesSegmentRead d r old new = HasLooked d old new

-- A call that reads files first has looked at the disk before memory is refused. Where a pair is
-- being built, it is let go.
abbrev pub LeftByMemory : {D : Type 0} → Ghosts D → StoreStep → StoreData D → StoreData D → Type 0
LeftByMemory d (Call CheckpointRead) old new = HasLooked d old new
LeftByMemory d (Call (MergeRead place)) old new = HasLooked d old new
LeftByMemory d (Call (Step MergeDelta)) old new = HasLooked d old new
LeftByMemory d (MergeBegin place) old new = HasLooked d old new
LeftByMemory d MergeReadOn old new = HasLooked d old new
LeftByMemory d CheckpointBegin old new = HasLooked d old new
LeftByMemory d CheckpointReadOn old new =
    LeavesSegmentRead d (segment_read_of old.jobs) old new
LeftByMemory d call old new = new ≡ old

-- A file came back otherwise than it was written: the store is down, and nothing else of it has
-- changed.
pub record HasMisread {D : Type 0} (d : Ghosts D) (old new : StoreData D) : Type 0 where
  pub after : new ≡ record old { disk = new.disk; down = true }
  pub no_fault : HasNoFault d old new
  pub lied : IsHonest (d.moment new.disk) → ⊥

-- nothing changes, but after a fault and what was misread
pub record LeftByRefusal {D : Type 0} (d : Ghosts D) (call : StoreStep) (e : Refusal)
    (old new : StoreData D) : Type 0 where
  pub fault : e ≡ DiskFault → IsFault d old new
  pub memory : e ≡ OutOfMemory → LeftByMemory d call old new
  pub misread : IsMisread e → HasMisread d old new
  pub other : e ≢ DiskFault → e ≢ OutOfMemory → (IsMisread e → ⊥) → new ≡ old

-- ---- what it comes to

-- It is refused by the first cause that stands, and else by what it may meet; accepted, it makes
-- of the store what it is for, and refused it leaves it.
pub record ComesTo {D A : Type 0} (d : Ghosts D) (old : StoreData D) (call : StoreStep)
    (result : Result A Refusal) (new : StoreData D) : Type 0 where
  pub refused : IsRefused call (why_not_store old call) result
  pub made : OnOk result (IsMade d call old new)
  pub left : IfErr result (λ e. LeftByRefusal d call e old new)

-- the rows behind it: a group that became durable is among them
abbrev pub rows_behind : {D A : Type 0} → StoreData D → StoreStep → Result A Refusal → Map → Map
rows_behind s (Call AppendOpen) (Ok a) rows = after_taken rows s.pending
rows_behind s call result rows = rows

-- ---- the files

-- a file that may be cut: the least dead one, where the disk has answered as written
pub record IsReclaimable {D : Type 0} (d : Ghosts D) (honest : Type 0) (s : StoreData D) (n : ℕ)
    : Type 0 where
  pub unused : IsUnused s.manifest s.jobs n
  pub least : honest → IsLeastDead (d.content s.disk) s.manifest s.jobs n

-- the file of the next step of a job
abbrev pub IsFileOfJob : ManifestData → Option Job → ℕ → Type 0
IsFileOfJob m None n = ⊥
IsFileOfJob m (Some j) n = IsFileDue m j n

-- that of the job whose step this is
abbrev pub IsFileOf : {D : Type 0} → Due → StoreData D → ℕ → Type 0
IsFileOf step s n = IsFileOfJob s.manifest (job_due step s.jobs) n

-- The one file that a call may write, accepted or refused. None where it takes a group or reads.
abbrev pub MayWrite : {D : Type 0} → Ghosts D → Type 0 → StoreData D → StoreStep → ℕ → Type 0
MayWrite d honest s (Call AppendBody) n = n ≡ s.segment.file
MayWrite d honest s (Call AppendOpen) n = n ≡ s.segment.file
MayWrite d honest s (Call RotateWrite) n = IsLeastFree s.manifest [] n
MayWrite d honest s (Call (Step step)) n = IsFileOf step s n
MayWrite d honest s (Slice step) n = IsFileOf step s n
MayWrite d honest s (Call Reclaim) n = IsReclaimable d honest s n
MayWrite d honest s Shorten n = IsUnused s.manifest s.jobs n
MayWrite d honest s call n = ⊥

-- so far as the disk has answered as written behind it
abbrev pub MayTouch : {D : Type 0} → Ghosts D → StoreStep → StoreData D → StoreData D → ℕ → Type 0
MayTouch d call old new n = MayWrite d (IsHonest (d.moment new.disk)) old call n

-- All others keep their content and exactly their images.
pub record KeepsOthers {D : Type 0} (d : Ghosts D) (call : StoreStep) (old new : StoreData D)
    : Type 0 where
  pub content : (n : ℕ) → (MayTouch d call old new n → ⊥) →
      d.content new.disk n ≡ d.content old.disk n
  pub images : (n : ℕ) (c : List ℕ) → (MayTouch d call old new n → ⊥) →
      d.may_leave new.disk n c → d.may_leave old.disk n c
  pub keeps : (n : ℕ) (c : List ℕ) → (MayTouch d call old new n → ⊥) →
      d.may_leave old.disk n c → d.may_leave new.disk n c

-- ---- all of it

-- So it is; a wrong answer of the disk isn't forgotten; where it has answered as written up to the
-- end of the call, a stop at any moment leaves the rows; and the other files stay.
pub record IsStoreStep {D A : Type 0} (d : Ghosts D) (old : StoreData D) (call : StoreStep)
    (result : Result A Refusal) (new : StoreData D) : Type 0 where
  pub comes : ComesTo d old call result new
  pub honest : IsHonest (d.moment new.disk) → IsHonest (d.moment old.disk)
  pub keeps : IsHonest (d.moment new.disk) → IsKeeping d (rows_behind old call result) old new
  pub others : KeepsOthers d call old new
