-- A store of which a job makes a step, or has opened the gate of its manifest.
use Rattle.std.proofs.Common.{rules, ◌≡◌, ◌≢◌, inl, inr, ℕ, ◌+◌, ◌&&◌, Bool, true, false, List, [], ◌∷◌, length, Option, Some, None, Ok, Err, refl, sym, ap, subst, ◌∙◌, arith, ◌<◌, ◌++◌, ◌^◌, cond, ltb}
use Rattle.std.specs.Prelude.{map, nat_eq}
use Rattle.std.specs.Bool.{OnTrue, OnFalse}
use Rattle.std.proofs.lemmas.Bool.{ltb-true}
use Rattle.std.specs.List.{Contains, IsDistinct}
use Rattle.mvo_types.specs.Keys.{Map}
use Rattle.mvo_types.specs.declared.refusal.Refusal.{Refusal}
use Rattle.mvo_types.specs.declared.refusal.Refusal.TheVariants.{DiskFault, OutOfMemory}
use Rattle.mvo_types.specs.declared.row.RowKey.{RowKey}
use Rattle.mvo_types.specs.declared.limits.TheConstants.{MAX_SEGMENT_LEN}
use Rattle.mvo_disk.specs.declared.disk.Disk.{Ghosts}
use Rattle.mvo_disk.specs.Disk.{OthersStay, IsHonest}
use Rattle.mvo_disk.specs.Moments.{weaker}
use Rattle.mvo_group.specs.Data.{GroupData}
use Rattle.mvo_frame.specs.declared.segment.Segment.{Segment}
use Rattle.mvo_frame.specs.Standing.{gate_of}
use Rattle.mvo_pair.specs.Writing.{IsWriteRefusal}
use Rattle.mvo_pair.specs.Data.{EntryData}
use Rattle.mvo_pair.specs.declared.pair.Pair.{Pair}
use Rattle.mvo_manifest.specs.Data.{ManifestData, named}
use Rattle.mvo_manifest.specs.Rules.{IsFile}
use Rattle.mvo_places.specs.Places.{PlaceMap, PlaceTable, ArePlaces, file_of, taken_places}
use Rattle.mvo_ckpt.specs.Writes.{records_of, gone_of}
use Rattle.mvo_ckpt.proofs.Taking.{places_taken_over}
use Rattle.mvo_merge.specs.Merged.{merged as records_merged}
use Rattle.mvo_merge.specs.Moved.{HaveOwnKeys, moved}
use Rattle.mvo_merge.proofs.Kept.{own_keys}
use Rattle.mvo_load.proofs.Pairing.{data_files_differ}
use Rattle.mvo_recovery.specs.Parts.{IsLastFile, Parts}
use Rattle.mvo_recovery.specs.Settled.{IsSettled, other_slot}
use Rattle.mvo_recovery.specs.Checkpoint.{NewNumbers, raise, lives_after_checkpoint, checkpointed, checkpointed_parts}
use Rattle.mvo_recovery.specs.Merging.{merged_manifest}
use Rattle.mvo_recovery.specs.beside.Seen.{pairs_now}
use Rattle.mvo_recovery.proofs.beside.Proved.{places_beside}
use Rattle.mvo_recovery.proofs.Named.{slot_below, last_named, named_is_no_slot, last_once}
use Rattle.mvo_recovery.proofs.Checkpointed.{last_stays, last_after}
use Rattle.mvo_recovery.proofs.Installed.{after_install as settled_after}
use Rattle.mvo_recovery.proofs.Rotating.{rotated_last}
use Rattle.mvo_store.specs.declared.install.install_step.InstallStep.TheVariants.{Close, Open}
use Rattle.mvo_store.specs.declared.jobs.due.Due.{Due}
use Rattle.mvo_store.specs.declared.jobs.due.Due.TheVariants.{MergeDelta, Install}
use Rattle.mvo_store.specs.declared.jobs.jobs.Jobs.{Jobs}
use Rattle.mvo_store.specs.declared.jobs.jobs.Jobs.TheVariants.{Rotation as RotationAlone, Merge as MergeAlone, Beside}
use Rattle.mvo_store.specs.StoreData.{StoreData, opening}
use Rattle.mvo_store.specs.Causes.{why_not_due}
use Rattle.mvo_store.specs.Jobs.{Job, job_takes_file, has_rotation, step_due, merge_due_of, job_due, is_step_due, stage_behind, with_step, after_step, next_installed, after_install, reading_of}
use Rattle.mvo_store.specs.Jobs.Job.{Rotation, Checkpoint, Merge, MergeInstall}
use Rattle.mvo_store.specs.Standing.{IsRunning, HaveJobs, ShareNone, JobsHaveRoom, JobHasRoom, IsUp, MayBeLeft, HasSlots, HasBody, HasWork, MayTakeOver, HaveKeys}
use Rattle.mvo_store.specs.PairsRead.{IsSafeReading, HasReading}
use Rattle.mvo_store.specs.Reading.{HaveReadings}
use Rattle.mvo_store.specs.SegmentRead.{oldest_file, AreSafeSegmentRead, HasSegmentRead}
use Rattle.mvo_store.specs.Safe.{IsWithin, IsAmong, IsSafeWork, AreSafe, HasNext, IsSafe, IsStoreSound}
use Rattle.mvo_store.specs.Writing.{StandsWith, StillGives, IsFileDue, IsFileAt, IsMergeFileAt, WritesFile, WritesFor, HasMadeStep, TakesMemory, IsStepRefusal, IsOpened}
use Rattle.mvo_store.specs.Calls.{why_not_store, MayMeet, Makes, HasStepped, IsFileOf, IsFileOfJob, MayTouch, KeepsOthers, IsStoreStep, rows_behind}
use Rattle.mvo_store.specs.Calls.StoreStep.{Call}
use Rattle.mvo_store.specs.declared.call.StoreCall.TheVariants.{Step}
use Rattle.mvo_store.specs.declared.install.install.Install.{Install as InstallData}
use Rattle.mvo_store.specs.declared.checkpoint.stage.CheckpointStage.TheVariants.{Data as AtData, Delta as AtDelta, Install as AtInstall}
use Rattle.mvo_store.specs.declared.checkpoint.stage.CheckpointStage.{CheckpointStage}
use Rattle.mvo_store.specs.declared.merge.stage.MergeStage.{MergeStage}
use Rattle.mvo_store.specs.declared.merge.stage.MergeStage.TheVariants.{Data as MergeAtData, Delta as MergeAtDelta}
use Rattle.mvo_store.specs.declared.merge.merging.Merging.{Merging}
use Rattle.mvo_store.specs.declared.merge.merge_job.MergeJob.TheVariants.{Reading, Running}
use Rattle.mvo_store.specs.declared.checkpoint.checkpointing.Checkpointing.{Checkpointing}
use Rattle.mvo_store.specs.declared.checkpoint.checkpoint_job.CheckpointJob.TheVariants.{Running as Runs}
use Rattle.mvo_store.specs.declared.merge.seen_pairs.SeenPairs.{SeenPairs}
use Rattle.mvo_store.specs.Checkpoint.{gained, made_of, IsCheckpointInto}
use Rattle.mvo_store.specs.Merging.{seen_with, pair_with, IsMergeReady}
use Rattle.mvo_store.specs.Steps.{manifest_after, places_after, segment_after}
use Rattle.mvo_store.proofs.Keeping.{give_or, stays_up, AllLeave, OnlyNow, CountsNow, may_step, Begins, begins, file_others, fault_step, other_step, same_left, err_is, stays_safe}
use Rattle.mvo_store.proofs.Working.{Installing, Installs, installs, installing, due_installs, slot_of_install, merged_parts_now}
use Rattle.mvo_store.proofs.Beside.{IsDueIn, due_in_jobs, merge_stays, checkpoint_stays, merge_runs_on}
use Rattle.mvo_store.proofs.Beside.IsDueIn.{TheRotation, TheMerge, TheCheckpoint, OfMerge}
use Rattle.mvo_store.proofs.Turning.{some_due, step_is, of_due, all_stepped, share_stepped, share_installed}
use Rattle.mvo_store.specs.Placing.{places_so_far, HavePlacesSoFar}
use Rattle.mvo_store.proofs.Changes.{same_changes, as_they_are, step_changes, step_reads, install_changes}
use Rattle.mvo_store.proofs.Readings.{reading_counted, reading_goes_on}
use Rattle.mvo_store.proofs.Segments.{step_segment, segment_beside, opened_segment, opened_safe_segment}
use Rattle.mvo_store.proofs.Still.{merge_safe_after, reading_safe_after}
use Rattle.mvo_store.proofs.Olds.{step_stays, known_next}
use Rattle.mvo_store.specs.Old.{KnowsOld, AreUnmarked}
use Rattle.mvo_store.proofs.Working.Installing.{OfRotation, OfCheckpoint, OfMerge as OfMergeReady}
use Rattle.mvo_load.specs.Read.{IsMisread}

-- the job whose step is due stands among those that run
pub due_is : (step : Due) (jobs : Jobs) (j : Job) → job_due step jobs ≡ Some j → IsDueIn step jobs j
due_is = due_in_jobs

-- only a fault refuses the opening of a gate
pub fault_only : {D : Type 0} (fault_count : D → ℕ) (due : Due) (old new : D) (e : Refusal) → due ≡ Install Open → IsStepRefusal fault_count due old new e → (e ≡ DiskFault) × (fault_count new ≡ fault_count old + 1)
fault_only fault_count due old new e at refused = grind arith

-- a fault is counted, and memory leaves the disk
pub count_of : {D : Type 0} (fault_count : D → ℕ) (old new : D) (e : Refusal) → e ≡ DiskFault → IsWriteRefusal fault_count old new e → fault_count new ≡ fault_count old + 1
count_of fault_count old new e fault refused = grind arith

pub memory_left : {D : Type 0} (fault_count : D → ℕ) (old new : D) (e : Refusal) → e ≢ DiskFault → IsWriteRefusal fault_count old new e → (e ≡ OutOfMemory) × (new ≡ old)
memory_left fault_count old new e ne refused = grind arith

-- ---- the calls

-- a step other than the last file of a merge and the opening of a manifest's gate
abbrev pub IsPlain : Due → Type 0
IsPlain step = (step ≢ MergeDelta) × (step ≢ Install Open)

-- each such call is a step of a job
pub why_of : {D : Type 0} (s : StoreData D) (step : Due) → IsPlain step → why_not_store s (Call (Step step)) ≡ why_not_due step s
why_of s (Install Open) other = absurd (other.1 refl)
why_of s MergeDelta other = absurd (other.0 refl)
why_of s step other = refl

module _ {D : Type 0} (d : Ghosts D) (old new : StoreData D) where
  pub makes_of : (step : Due) → IsPlain step → HasStepped step old new → Makes d (Call (Step step)) old new
  makes_of (Install Open) other h = absurd (other.1 refl)
  makes_of MergeDelta other h = absurd (other.0 refl)
  makes_of step other h = h

  due_file : (step : Due) (n : ℕ) → IsFileOf step old n → MayTouch d (Call (Step step)) old new n
  due_file (Install Close) n h = h
  due_file step n h = h

-- and keeps the rows
pub rows_of : {D A : Type 0} (s : StoreData D) (a : A) (step : Due) (rows : Map) → rows_behind {A = A} s (Call (Step step)) (Ok a) rows ≡ rows
rows_of s a (Install Close) rows = refl
rows_of s a step rows = refl

pub begins_due : {D : Type 0} (d : Ghosts D) (s t : StoreData D) (step : Due) → IsPlain step → s ≡ t → why_not_due step t ≡ None → (s.down ≡ false → IsStoreSound d s) → Begins d s (Call (Step step))
begins_due d s t step other same none = begins d s t (Call (Step step)) same (why_of t step other ∙ none)

pub due_in : {D : Type 0} (s : StoreData D) (step : Due) → IsPlain step → why_not_store s (Call (Step step)) ≡ None → is_step_due step s.jobs ≡ true
due_in s step other none = may_step step s (sym (why_of s step other) ∙ none)

-- the job whose step it is
pub due_job : {D : Type 0} (s : StoreData D) (step : Due) → IsPlain step → why_not_store s (Call (Step step)) ≡ None → (j : Job) × (job_due step s.jobs ≡ Some j)
due_job s step other none = some_due step s.jobs (due_in s step other none)

pub memory_of : (step : Due) → TakesMemory step → MayMeet (Call (Step step)) OutOfMemory
memory_of (Install Close) h = absurd h
memory_of (Install Open) h = absurd h
memory_of step h = inl refl

pub fault_of : (step : Due) → MayMeet (Call (Step step)) DiskFault
fault_of (Install Close) = refl
fault_of (Install Open) = refl
fault_of MergeDelta = inr (inl refl)
fault_of step = inr refl

-- ---- a store

step_room : (places : PlaceTable) (j : Job) → JobHasRoom places j → JobHasRoom places (after_step j)
step_room places (Rotation fresh i) room = tt
step_room places (Checkpoint c) room = room
step_room places (Merge g) room = tt
step_room places (MergeInstall g placed i) room = tt

-- ---- what safety needs of a job

within_behind : (older : ℕ) (stage : CheckpointStage) → IsWithin older stage → IsWithin older (stage_behind older stage)
within_behind older (AtData written) within = omega arith
within_behind older (AtDelta written) within = go (ltb written older) refl
  where
    go : (b : Bool) → ltb written older ≡ b → IsWithin older (cond b (AtDelta (written + 1)) (AtInstall Close))
    go true is = omega (arith, ltb-true written older is)
    go false is = tt
within_behind older (AtInstall step) within = tt

among_behind : (all older : ℕ) (stage : CheckpointStage) → IsAmong all (stage_behind older stage)
among_behind all older (AtData written) = tt
among_behind all older (AtDelta written) = go (ltb written older)
  where
    go : (b : Bool) → IsAmong all (cond b (AtDelta (written + 1)) (AtInstall Close))
    go true = tt
    go false = tt
among_behind all older (AtInstall step) = tt

-- with one step behind it the job is safe
pub step_safe : (m : ManifestData) (j : Job) → IsSafeWork m j → IsSafeWork m (after_step j)
step_safe m (Rotation fresh i) safe = record { file = safe.file; few = safe.few; next_is = safe.next_is }
step_safe m (Checkpoint c) safe = record { generation = safe.generation; pair = safe.pair; known = safe.known; within = within_behind (length c.made.deltas) c.stage safe.within; among = among_behind (length c.made.records) (length c.made.deltas) c.stage; placed = safe.placed; next_is = safe.next_is }
step_safe m (Merge g) safe = record { pair = safe.pair; among = tt; still = safe.still; may_become = safe.may_become }
step_safe m (MergeInstall g placed i) safe = record { pair = safe.pair; within = safe.within; next_is = safe.next_is }

-- there is room for the places of what it installs
pub safe_take_over : (m : ManifestData) (places : PlaceTable) (j : Job) → IsSafeWork m j → JobHasRoom places j → MayTakeOver places j
safe_take_over m places (Rotation fresh i) safe room = tt
safe_take_over m places (Checkpoint c) safe room = record { file = safe.pair.data_file.1; few = safe.pair.few; room = room; placed = safe.placed }
safe_take_over m places (Merge g) safe room = tt
safe_take_over m places (MergeInstall g placed i) safe room = record { file = safe.pair.data_file.1; few = safe.pair.few; within = safe.within }

-- where its manifest is installed, the segment that takes frames is a file of the disk
opened_file : (m : ManifestData) (j : Job) (segment : Segment) → IsSafeWork m j → IsFile segment.file → IsFile (segment_after j segment).file
opened_file m (Rotation fresh i) segment safe file = safe.file
opened_file m j segment safe file = file

opened_few : (m : ManifestData) (j : Job) (segment : Segment) → IsSafeWork m j → segment.gate < MAX_SEGMENT_LEN → (segment_after j segment).gate < MAX_SEGMENT_LEN
opened_few m (Rotation fresh i) segment safe few = safe.few
opened_few m j segment safe few = few

opened_next : {jobs : Jobs} {j : Job} → IsDueIn (Install Open) jobs j → (segment : Segment) (b : Bool) (o : Option GroupData) → (b && has_rotation jobs) ≡ false → (b ≡ true → HasNext o segment.next) → b ≡ true → HasNext o (segment_after j segment).next
opened_next (TheRotation fresh i at) segment true o free has is = absurd (cc free)
opened_next (TheRotation fresh i at) segment false o free has is = absurd (cc is)
opened_next (TheMerge seen placed i at) segment b o free has is = has is
opened_next (TheCheckpoint c g at) segment b o free has is = has is
opened_next (OfMerge c g at) segment b o free has is = has is

-- the job is a rotation
abbrev is_rotation : Job → Bool
is_rotation (Rotation fresh i) = true
is_rotation j = false

-- no step of a merge whose files aren't all written opens a gate
pub never_opens : {A : Type 0} (stage : MergeStage) → merge_due_of stage ≡ Install Open → A
never_opens (MergeAtData written) e = absurd (cc e)
never_opens MergeAtDelta e = absurd (cc e)

-- the job that opens a gate is the one whose manifest is the next
pub installed_is : {jobs : Jobs} {j : Job} → IsDueIn (Install Open) jobs j → next_installed jobs ≡ Some j
installed_is (TheRotation fresh i at) = refl
installed_is (TheMerge seen placed i at) = refl
installed_is (TheCheckpoint c g at) = refl
installed_is (OfMerge c g at) = never_opens g.stage at

-- those that run on are safe
opened_jobs : (m : ManifestData) {jobs : Jobs} {j : Job} → IsDueIn (Install Open) jobs j → AreSafe m jobs → ShareNone jobs → AreSafe (manifest_after j m) (after_install jobs)
opened_jobs m (TheRotation fresh i at) all apart = tt
opened_jobs m (TheMerge seen placed i at) all apart = tt
opened_jobs m (TheCheckpoint c None at) all apart = tt
opened_jobs m (TheCheckpoint c (Some (Reading r)) at) all apart = tt
opened_jobs m (TheCheckpoint c (Some (Running g)) at) all apart = (merge_safe_after m c g apart all.0 all.1.0, tt)
opened_jobs m (OfMerge c g at) all apart = never_opens g.stage at

-- and need no room
opened_room : (places : PlaceTable) (jobs : Jobs) → JobsHaveRoom places (after_install jobs)
opened_room places (RotationAlone fresh i) = tt
opened_room places (MergeAlone seen placed i) = tt
opened_room places (Beside c None) = tt
opened_room places (Beside c (Some (Reading r))) = tt
opened_room places (Beside c (Some (Running g))) = (tt, tt)

-- the merge whose pairs are read
opened_reading : (m : ManifestData) {jobs : Jobs} {j : Job} → IsDueIn (Install Open) jobs j → AreSafe m jobs → IsSafeReading m (reading_of jobs) → IsSafeReading (manifest_after j m) (reading_of (after_install jobs))
opened_reading m (TheRotation fresh i at) all read = tt
opened_reading m (TheMerge seen placed i at) all read = tt
opened_reading m (TheCheckpoint c None at) all read = tt
opened_reading m (TheCheckpoint c (Some (Reading r)) at) all read = reading_safe_after m c r all.0 read
opened_reading m (TheCheckpoint c (Some (Running g)) at) all read = tt
opened_reading m (OfMerge c g at) all read = never_opens g.stage at

module _ {D : Type 0} {d : Ghosts D} {s : StoreData D} (safe : IsSafe d s) {step : Due} {j : Job} (due : IsDueIn step s.jobs j) where
  pub safe_work : IsSafeWork s.manifest j
  safe_work = of_due (IsSafeWork s.manifest) due safe.jobs

  pub safe_room : JobHasRoom s.places j
  safe_room = of_due (JobHasRoom s.places) due safe.room_for

  pub stepped_safe : (new : D) → d.fault_count new ≡ d.fault_count s.disk → IsSafe d (record s { disk = new; jobs = with_step step s.jobs })
  stepped_safe new count = stays_safe safe new s.places (with_step step s.jobs)
      (all_stepped (IsSafeWork s.manifest) (IsSafeWork s.manifest) due safe.jobs (step_safe s.manifest j safe_work) (λ c g e k p. p) (λ c g e k p. p)) (share_stepped due safe.apart)
      (record { pairs = subst (IsSafeReading s.manifest) (sym (step_reads step s.jobs)) safe.reading.pairs; segment = subst (AreSafeSegmentRead s.manifest s.places.at) (sym (step_segment step s.jobs)) safe.reading.segment })
      (all_stepped (JobHasRoom s.places) (JobHasRoom s.places) due safe.room_for (step_room s.places j safe_room) (λ c g e k p. p) (λ c g e k p. p)) count

pub opened_safe : {D : Type 0} {d : Ghosts D} {s : StoreData D} (safe : IsSafe d s) {j : Job} (due : IsDueIn (Install Open) s.jobs j) → (new : D) (places : PlaceTable) (marks : List Bool) → (s.written && has_rotation s.jobs) ≡ false → d.fault_count new ≡ d.fault_count s.disk
    → IsSafe d (record s { disk = new; manifest = manifest_after j s.manifest; places = places; old_marks = marks; segment = segment_after j s.segment; jobs = after_install s.jobs })
opened_safe {D} {d} {s} safe {j} due new places marks free count = record {
  file = opened_file s.manifest j s.segment (safe_work safe due) safe.file;
  few = opened_few s.manifest j s.segment (safe_work safe due) safe.few;
  written = opened_next due s.segment s.written s.pending free safe.written;
  jobs = opened_jobs s.manifest due safe.jobs safe.apart;
  apart = share_installed s.jobs;
  reading = record {
    pairs = opened_reading s.manifest due safe.jobs safe.reading.pairs;
    segment = opened_safe_segment (manifest_after j s.manifest) places.at s.jobs;
  };
  room_for = opened_room places s.jobs;
  room = subst (λ n. n + 1 < 2 ^ 64) (sym count) safe.room;
}

-- the file of a checkpoint's step, and of a merge's
pub at_checkpoint : (m : ManifestData) (j : Job) (c : Checkpointing) (n : ℕ) → j ≡ Checkpoint c → IsFileDue m j n → IsFileAt m c c.stage n
at_checkpoint m j c n is at = subst (λ (k : Job). IsFileDue m k n) is at

pub at_merge : (m : ManifestData) (j : Job) (g : Merging) (n : ℕ) → j ≡ Merge g → IsFileDue m j n → IsMergeFileAt g.seen.pair g.stage n
at_merge m j g n is at = subst (λ (k : Job). IsFileDue m k n) is at

module _ {D : Type 0} (d : Ghosts D) (s : StoreData D) (step : Due) (j : Job) (is : job_due step s.jobs ≡ Some j) where
  abbrev due_here : IsDueIn step s.jobs j
  due_here = due_is step s.jobs j is

  pub stands_of : (rows : Map) (up : IsUp d s rows) → StandsWith d s.disk s.manifest up.parts j
  stands_of rows up = record { settled = up.settled; job = of_due (IsRunning (d.content s.disk) (d.may_leave s.disk) s.manifest up.parts) due_here up.jobs }

  -- the other files are as they were
  pub step_others : (t : StoreData D) → WritesFile d s.disk t.disk (IsFileDue s.manifest j) → KeepsOthers d (Call (Step step)) s t
  step_others t w = file_others d (Call (Step step)) s t w.file (due_file d s t step w.file (subst (λ (o : Option Job). IsFileOfJob s.manifest o w.file) (sym is) w.is)) w.rest

  module _ (new : D) (writes : IsHonest (d.moment new) → WritesFor d s.disk new s.manifest j) where
    as_it_was : new ≡ s.disk → s.down ≡ false → record s { disk = new; down = false } ≡ s
    as_it_was same up = ap (λ (k : D). record s { disk = k; down = false }) same ∙ ap (λ (b : Bool). record s { down = b }) (sym up)

    -- a stop within the step leaves the rows
    pub step_leaves : IsHonest (d.moment new) → AllLeave d s new
    step_leaves honest rows up slots =
        let w = writes honest up.parts (stands_of rows up) in
        weaker d.moment d.left_since s.disk new (StillGives up.parts) (MayBeLeft rows s.mark (opening s)) (λ image g. record { slots = g.slots; gives = give_or d s rows up image g.gives }) (w.leaves slots)

    module _ (behind : Job) (makes : IsHonest (d.moment new) → HasMadeStep d s.disk new s.manifest j behind) where
      pub step_slots : IsHonest (d.moment new) → (rows : Map) → IsUp d s rows → HasSlots (d.content s.disk) → HasSlots (d.content new)
      step_slots honest rows up = (makes honest up.parts (stands_of rows up)).slots

    -- THE STORE STANDS with the step behind the job, and the other one as it stood.
    pub step_up : (IsHonest (d.moment new) → HasMadeStep d s.disk new s.manifest j (after_step j)) → step ≢ Install Open → d.fault_count new ≡ d.fault_count s.disk → IsHonest (d.moment new) → (rows : Map) → IsUp d s rows → IsUp d (record s { disk = new; jobs = with_step step s.jobs }) rows
    step_up makes other count honest rows up =
        let stood = stands_of rows up in
        let w = writes honest up.parts stood in
        let made = makes honest up.parts stood in
        let stands = made.stands (λ e. other (sym (step_is due_here) ∙ e)) in
        let both = λ (c : Checkpointing) (g : Merging) (e : s.jobs ≡ Beside (Some (Runs c)) (Some (Running g))). subst ShareNone e up.apart in
        stays_up d s rows up new s.places (with_step step s.jobs) stands.settled (w.rest.content s.segment.file (λ e. w.other (subst (IsLastFile s.manifest) e up.last)))
        (step_stays (d.content s.disk) (d.content new) (d.may_leave s.disk) s.manifest up.parts up.settled made.counts j stood.job.work w.file w.is w.rest.content)
        (all_stepped (IsRunning (d.content s.disk) (d.may_leave s.disk) s.manifest up.parts) (IsRunning (d.content new) (d.may_leave new) s.manifest up.parts) due_here up.jobs stands.job
        (λ c g e k runs. merge_stays (d.content s.disk) (d.content new) (d.may_leave s.disk) (d.may_leave new) s.manifest up.parts up.settled w.file w.rest c g (both c g e) (at_checkpoint s.manifest j c w.file k w.is) runs.work made.counts)
        (λ c g e k runs. checkpoint_stays (d.content s.disk) (d.content new) (d.may_leave s.disk) (d.may_leave new) s.manifest up.parts up.settled w.file w.rest c g (both c g e) (at_merge s.manifest j g w.file k w.is) (merge_work c g e k rows up) runs))
        (share_stepped due_here up.apart)
        (record {
          pairs = subst (HasReading (d.content new) s.manifest) (sym (step_reads step s.jobs)) (reading_counted (d.content s.disk) (d.content new) s.manifest up.settled.installed.own.is up.parts.lives up.settled.installed.parts.live made.counts (reading_of s.jobs) up.reading.pairs);
          segment = subst (HasSegmentRead s.manifest s.places.at (d.content new (oldest_file s.manifest))) (sym (step_segment step s.jobs)) (segment_beside s.manifest s.places.at (d.content s.disk) (d.content new) up.settled.installed.own.is (d.may_leave s.disk) up.parts due_here stood.job.work w.file w.is w.rest.content up.reading.segment);
        })
        (same_changes s.manifest.pairs up.parts.lives s.jobs (with_step step s.jobs) s.places.at (step_changes step s.jobs) up.places)
        (all_stepped (JobHasRoom s.places) (JobHasRoom s.places) due_here up.room_for (step_room s.places j (of_due (JobHasRoom s.places) due_here up.room_for)) (λ c g e k p. p) (λ c g e k p. p)) count
      where
        merge_work : (c : Checkpointing) (g : Merging) → s.jobs ≡ Beside (Some (Runs c)) (Some (Running g)) → j ≡ Merge g → (rows : Map) (up : IsUp d s rows) → HasWork (d.content s.disk) (d.may_leave s.disk) s.manifest up.parts (Merge g)
        merge_work c g e k rows up = subst (λ (i : Job). HasWork (d.content s.disk) (d.may_leave s.disk) s.manifest up.parts i) k (stands_of rows up).job.work

    -- memory or a fault refuses it
    pub step_refused : {A : Type 0} → OnlyNow d → CountsNow d → Begins d s (Call (Step step)) → (IsHonest (d.moment new) → IsHonest (d.moment s.disk)) → WritesFile d s.disk new (IsFileDue s.manifest j) → (e : Refusal) → IsStepRefusal d.fault_count (step_due j) s.disk new e
        → (b : Bool) → OnTrue b (e ≡ DiskFault) → OnFalse b (e ≢ DiskFault) → IsStoreStep {A = A} d s (Call (Step step)) (Err e) (record s { disk = new; down = b })
    step_refused {A} only_now counts_now b was file e refused true fault other = fault_step b counts_now new e fault (fault_of step) (count_of d.fault_count s.disk new e fault refused.refusal) was step_leaves
        (step_others (record s { disk = new; down = true }) file)
    step_refused {A} only_now counts_now b was file e refused false fault other =
        let left = memory_left d.fault_count s.disk new e other refused.refusal in
        let memory : MayMeet (Call (Step step)) e = subst (MayMeet (Call (Step step))) (sym left.0) (memory_of step (subst TakesMemory (step_is due_here) (refused.memory left.0))) in
        other_step d only_now s (record s { disk = new; down = false }) (Call (Step step)) e (as_it_was left.1 b.up) other (λ is. subst IsMisread left.0 is) (λ _. same_left d (Call (Step step)) tt s) (err_is d A (Call (Step step)) (why_not_store s (Call (Step step))) e b.none memory)

    -- the store stays as it stood, unless the disk met a fault
    pub refused_sound : IsStoreSound d s → (due : Due) (e : Refusal) → IsStepRefusal d.fault_count due s.disk new e → s.down ≡ false → (b : Bool) → OnFalse b (e ≢ DiskFault) → b ≡ false → IsStoreSound d (record s { disk = new; down = b })
    refused_sound sound due e refused up true other is = absurd (cc is)
    refused_sound sound due e refused up false other is = subst (λ (t : StoreData D). IsStoreSound d t) (sym (as_it_was (memory_left d.fault_count s.disk new e other refused.refusal).1 up)) sound

-- raised counts leave the data files
files_stay : (new : NewNumbers) (ps : List Pair) → map file_of (map (raise new) ps) ≡ map file_of ps
files_stay new [] = refl
files_stay new (p ∷ ps) = ap (λ (ns : List ℕ). p.data_file ∷ ns) (files_stay new ps)

-- a body is written behind parts of the same groups
body_as : (x y : Parts) → y.middle ≡ x.middle → y.last ≡ x.last → (o : Option GroupData) (gate next : ℕ) (bytes : List ℕ) → HasBody x o gate next bytes → HasBody y o gate next bytes
body_as x y middle last None gate next bytes has = has
body_as x y middle last (Some g) gate next bytes has = rw (middle, last) has

module _ {D : Type 0} (d : Ghosts D) (s : StoreData D) (rows : Map) (up : IsUp d s rows) where
  abbrev m : ManifestData
  m = s.manifest

  -- the records of a merge have each a key of their own
  pub have_keys : {step : Due} {j : Job} → IsDueIn step s.jobs j → HaveKeys j
  have_keys {step} {j} due = go j (of_due (IsRunning (d.content s.disk) (d.may_leave s.disk) m up.parts) due up.jobs).work
    where
      go : (j : Job) → HasWork (d.content s.disk) (d.may_leave s.disk) m up.parts j → HaveKeys j
      go (MergeInstall g placed i) has = subst HaveOwnKeys (sym has.merge.records) (own_keys has.merge.live_left has.merge.live_right has.merge.seen.apart)
      go j has = tt

  module _ (new : D) (slot : ℕ) (at : slot ≡ other_slot m) (rest : OthersStay slot (d.content s.disk) (d.content new) (d.may_leave s.disk) (d.may_leave new)) (count : d.fault_count new ≡ d.fault_count s.disk) where
    last_apart : s.segment.file ≢ slot
    last_apart e = named_is_no_slot m s.segment.file up.settled.installed.own.is (last_named m up.last.0 s.segment.file up.last.1) (subst (λ k. k < 2) (sym (e ∙ at)) (slot_below (m.generation + 1)))

    -- THE NEXT MANIFEST IS INSTALLED.
    next_settled : (next : ManifestData) → next.generation ≡ m.generation + 1 → (i : Installs (d.content s.disk) (d.may_leave s.disk) up.parts next) → IsOpened d new m next → IsSettled (d.content new) (d.may_leave new) next i.parts
    next_settled next one_more i is = settled_after (d.content s.disk) (d.content new) (d.may_leave s.disk) (d.may_leave new) m up.parts up.settled (other_slot m) refl
        (subst (λ k. OthersStay k (d.content s.disk) (d.content new) (d.may_leave s.disk) (d.may_leave new)) at rest) is.durable next i.parts one_more i.ready is.has

    -- a slot isn't named
    named_stays : (next : ManifestData) (y : Parts) → IsSettled (d.content new) (d.may_leave new) next y → (n : ℕ) → Contains (named next) n → d.content new n ≡ d.content s.disk n
    named_stays next y settled n inside = rest.content n (λ e. named_is_no_slot next n settled.installed.own.is inside (subst (λ k. k < 2) (sym (e ∙ at)) (slot_below (m.generation + 1))))

    -- the store is up with it, with these places, marks and this segment
    with_next : (next : ManifestData) (i : Installs (d.content s.disk) (d.may_leave s.disk) up.parts next) (places : PlaceTable) (left : List Bool) (segment : Segment) (jobs : Jobs) → KnowsOld (d.content new) next 1024 left → HaveJobs (d.content new) (d.may_leave new) next i.parts jobs → ShareNone jobs → HaveReadings (d.content new) next places.at jobs → JobsHaveRoom places jobs → IsSettled (d.content new) (d.may_leave new) next i.parts → IsLastFile next segment.file
        → segment.gate ≡ gate_of i.parts.last → segment.gate < MAX_SEGMENT_LEN → (s.written ≡ true → HasBody i.parts s.pending segment.gate segment.next (d.content new segment.file)) → HavePlacesSoFar next.pairs i.parts.lives jobs places.at
        → IsUp d (record s { disk = new; manifest = next; places = places; old_marks = left; segment = segment; jobs = jobs }) rows
    with_next next i places left segment jobs marks runs apart reading room settled last gate few written are =
        let rows_are = up.rows_are ∙ sym i.same.rows in
        let mark_is = up.mark_is ∙ sym i.same.mark in
        search (rules, arith)

    -- the segment that took frames takes them then
    installed_up : (next : ManifestData) (i : Installs (d.content s.disk) (d.may_leave s.disk) up.parts next) (places : PlaceTable) (left : List Bool) (jobs : Jobs) → KnowsOld (d.content new) next 1024 left → HaveJobs (d.content new) (d.may_leave new) next i.parts jobs → ShareNone jobs → HaveReadings (d.content new) next places.at jobs → JobsHaveRoom places jobs → IsSettled (d.content new) (d.may_leave new) next i.parts
        → i.parts.middle ≡ up.parts.middle → i.parts.last ≡ up.parts.last → IsLastFile next s.segment.file → HavePlacesSoFar next.pairs i.parts.lives jobs places.at
        → IsUp d (record s { disk = new; manifest = next; places = places; old_marks = left; jobs = jobs }) rows
    installed_up next i places left jobs marks runs apart reading room settled same_middle same_last last = with_next next i places left s.segment jobs marks runs apart reading room settled last (up.gate ∙ ap gate_of (sym same_last)) up.few
        (λ e. subst (λ (b : List ℕ). HasBody i.parts s.pending s.segment.gate s.segment.next b) (sym (rest.content s.segment.file last_apart)) (body_as up.parts i.parts same_middle same_last s.pending s.segment.gate s.segment.next (d.content s.disk s.segment.file) (up.written e)))

    -- the places then
    checkpoint_places : (c : Checkpointing) (places : PlaceTable) → (has : IsCheckpointInto (d.content s.disk) m up.parts c.pair c.made c.next)
        → IsSettled (d.content new) (d.may_leave new) c.next (checkpointed_parts m up.parts (made_of c.pair c.made has.segment) has.log.others)
        → places.at ≡ taken_places c.pair.data_file c.made.records c.made.gone up.places.at → ArePlaces c.next.pairs (lives_after_checkpoint m up.parts (made_of c.pair c.made has.segment)) places.at
    checkpoint_places c places has settled are =
        let made = has.made_is in
        let gs = has.segment.groups in
        let file = c.pair.data_file in
        let old_at = up.places.at in
        let same : map file_of (map (raise (gained c.made.deltas)) m.pairs) ≡ map file_of m.pairs = files_stay (gained c.made.deltas) m.pairs in
        let apart : IsDistinct nat_eq (map file_of (map (raise (gained c.made.deltas)) m.pairs ++ c.pair ∷ [])) = subst (λ (n : ManifestData). IsDistinct nat_eq (map file_of n.pairs)) has.next_is (data_files_differ c.next settled.installed.own.is) in
        let taken = places_taken_over gs m.pairs (map (raise (gained c.made.deltas)) m.pairs) up.parts.lives old_at c.pair up.places.are same apart in
        let at_is : places.at ≡ taken_places file (records_of gs) (gone_of gs) old_at = are ∙ ap (λ (es : List EntryData). taken_places file es c.made.gone old_at) made.records ∙ ap (λ (ks : List RowKey). taken_places file (records_of gs) ks old_at) made.gone in
        rw (at_is, made.lives, has.next_is) taken

    merge_places : (g : SeenPairs) (next : ManifestData) (places : PlaceTable) → (is : IsMergeReady (d.content s.disk) (d.may_leave s.disk) m g next)
        → IsSettled (d.content new) (d.may_leave new) next (merged_parts_now (d.content s.disk) (d.may_leave s.disk) m up.parts g next is)
        → places.at ≡ moved g.left.data_file g.right.data_file g.pair.data_file g.made.records up.places.at → ArePlaces next.pairs (merged_parts_now (d.content s.disk) (d.may_leave s.disk) m up.parts g next is).lives places.at
    merge_places g next places is settled to =
        let merge = is.merge in
        let saw = seen_with g merge.live_left merge.live_right in
        let differ : IsDistinct nat_eq (map file_of (merged_manifest m (pairs_now merge.seen (pair_with g is.late))).pairs) = subst (λ (n : ManifestData). IsDistinct nat_eq (map file_of n.pairs)) is.next_is (data_files_differ next settled.installed.own.is) in
        let now = places_beside (d.content s.disk) m up.parts saw (pair_with g is.late) merge.seen is.now up.places.at up.settled.installed.own.is up.settled.installed.parts.live differ up.places.are in
        let at_is : places.at ≡ moved g.left.data_file g.right.data_file g.pair.data_file (records_merged merge.live_left merge.live_right) up.places.at = to ∙ ap (λ (es : List EntryData). moved g.left.data_file g.right.data_file g.pair.data_file es up.places.at) merge.records in
        rw (at_is, is.next_is) now

    -- it is known which files are old
    known_after : {j : Job} {i : InstallData} (view : Installing j i) → HasWork (d.content s.disk) (d.may_leave s.disk) m up.parts j → (left : List Bool) → AreUnmarked (job_takes_file j) s.old_marks left → (y : Parts) → IsSettled (d.content new) (d.may_leave new) (manifest_after j m) y → KnowsOld (d.content new) (manifest_after j m) 1024 left
    known_after {j} view has left un y settled = known_next (d.content s.disk) (d.may_leave s.disk) m up.parts up.settled view has (d.content new) (named_stays (manifest_after j m) y settled) s.old_marks left up.marks un

    -- THE STORE IS UP WITH IT, and with the jobs that run on.
    open_up : {j : Job} {i : InstallData} → Installing j i → HasWork (d.content s.disk) (d.may_leave s.disk) m up.parts j → (places : PlaceTable) (left : List Bool) → AreUnmarked (job_takes_file j) s.old_marks left → IsOpened d new m (manifest_after j m) → places.at ≡ places_after j up.places.at → (is_rotation j ≡ true → s.written ≡ false)
        → (jobs : Jobs) → ((y : Parts) → HaveJobs (d.content new) (d.may_leave new) (manifest_after j m) y jobs) → ShareNone jobs → HaveReadings (d.content new) (manifest_after j m) places.at jobs → JobsHaveRoom places jobs → ((at : PlaceMap) → places_so_far (next_installed jobs) at ≡ at)
        → IsUp d (record s { disk = new; manifest = manifest_after j m; places = places; old_marks = left; segment = segment_after j s.segment; jobs = jobs }) rows
    open_up (OfRotation fresh k) has places left un opened to free jobs runs apart reading room none =
        let i = installs (d.content s.disk) (d.may_leave s.disk) m up.parts up.settled (OfRotation fresh k) has in
        let settled = next_settled k.next (ap (λ (n : ManifestData). n.generation) has.next_is) i opened in
        with_next k.next i places left fresh jobs (known_after (OfRotation fresh k) has left un i.parts settled) (runs i.parts) apart reading room settled (subst (λ (n : ManifestData). IsLastFile n fresh.file) (sym has.next_is) (rotated_last has.replaces m fresh.file))
        has.gate (omega (arith, has.gate)) (λ e. absurd (cc (sym e ∙ free refl))) (as_they_are k.next.pairs i.parts.lives jobs places.at none (rw (to, has.next_is) up.places.are))
    open_up (OfCheckpoint pair c next step placed) has places left un opened to free jobs runs apart reading room none =
        let i = installs (d.content s.disk) (d.may_leave s.disk) m up.parts up.settled (OfCheckpoint pair c next step placed) has in
        let settled = next_settled next (ap (λ (n : ManifestData). n.generation) has.into.next_is) i opened in
        let made = made_of pair c has.into.segment in
        let log = has.into.log in
        let stays = last_stays (d.content s.disk) (d.may_leave s.disk) m up.parts made log in
        let it : s.segment.file ≡ log.last_file = last_once m stays.0 log.last_file s.segment.file stays.1 up.last in
        installed_up next i places left jobs (known_after (OfCheckpoint pair c next step placed) has left un i.parts settled) (runs i.parts) apart reading room settled refl refl
        (subst (λ (n : ManifestData). IsLastFile n s.segment.file) (sym has.into.next_is) (subst (IsLastFile (checkpointed m made)) (sym it) (last_after (d.content s.disk) (d.may_leave s.disk) m up.parts made log)))
        (as_they_are next.pairs i.parts.lives jobs places.at none (checkpoint_places (record { pair = pair; made = c; next = next; stage = AtInstall step; placed = placed }) places has.into settled to))
    open_up (OfMergeReady g placed k) has places left un opened to free jobs runs apart reading room none =
        let i = installs (d.content s.disk) (d.may_leave s.disk) m up.parts up.settled (OfMergeReady g placed k) has in
        let settled = next_settled k.next (ap (λ (n : ManifestData). n.generation) has.next_is) i opened in
        installed_up k.next i places left jobs (known_after (OfMergeReady g placed k) has left un i.parts settled) (runs i.parts) apart reading room settled refl refl (subst (λ (n : ManifestData). IsLastFile n s.segment.file) (sym has.next_is) (up.last.0, up.last.1)) (as_they_are k.next.pairs i.parts.lives jobs places.at none (merge_places g k.next places has settled to))

    -- a merge that isn't ready runs on
    runs_on_after : {jobs : Jobs} {j : Job} → IsDueIn (Install Open) jobs j → HaveJobs (d.content s.disk) (d.may_leave s.disk) m up.parts jobs → ShareNone jobs → AreSafe m jobs → (y : Parts) → HaveJobs (d.content new) (d.may_leave new) (manifest_after j m) y (after_install jobs)
    runs_on_after (TheRotation fresh i due) runs apart safe y = tt
    runs_on_after (TheMerge seen placed i due) runs apart safe y = tt
    runs_on_after (TheCheckpoint c None due) runs apart safe y = tt
    runs_on_after (TheCheckpoint c (Some (Reading r)) due) runs apart safe y = tt
    runs_on_after (TheCheckpoint c (Some (Running g)) due) runs apart safe y = (
      merge_runs_on (d.content s.disk) (d.content new) (d.may_leave s.disk) (d.may_leave new) m up.parts up.settled (subst (λ k. OthersStay k (d.content s.disk) (d.content new) (d.may_leave s.disk) (d.may_leave new)) at rest) c g apart runs.0.work.into safe.0.generation runs.1.0.work y,
      tt,
    )
    runs_on_after (OfMerge c g due) runs apart safe y = never_opens g.stage due

    -- so does one whose pairs are read
    reads_on_after : {jobs : Jobs} {j : Job} → IsDueIn (Install Open) jobs j → HaveJobs (d.content s.disk) (d.may_leave s.disk) m up.parts jobs → HasReading (d.content s.disk) m (reading_of jobs) → HasReading (d.content new) (manifest_after j m) (reading_of (after_install jobs))
    reads_on_after (TheRotation fresh i due) runs reads = tt
    reads_on_after (TheMerge seen placed i due) runs reads = tt
    reads_on_after (TheCheckpoint c None due) runs reads = tt
    reads_on_after (TheCheckpoint c (Some (Reading r)) due) runs reads = reading_goes_on (d.content s.disk) (d.content new) (d.may_leave s.disk) (d.may_leave new) m up.parts up.settled (subst (λ k. OthersStay k (d.content s.disk) (d.content new) (d.may_leave s.disk) (d.may_leave new)) at rest) c runs.0.work.into r reads
    reads_on_after (TheCheckpoint c (Some (Running g)) due) runs reads = tt
    reads_on_after (OfMerge c g due) runs reads = never_opens g.stage due

  -- a rotation's last step waits for no body
  free_of : {jobs : Jobs} {j : Job} → IsDueIn (Install Open) jobs j → (s.written && has_rotation jobs) ≡ false → is_rotation j ≡ true → s.written ≡ false
  free_of (TheRotation fresh i due) free is = not_written s.written free
    where
      not_written : (b : Bool) → (b && true) ≡ false → b ≡ false
      not_written true e = absurd (cc e)
      not_written false e = refl
  free_of (TheMerge seen placed i due) free is = absurd (cc is)
  free_of (TheCheckpoint c g due) free is = absurd (cc is)
  free_of (OfMerge c g due) free is = absurd (cc is)

  -- THE STORE IS UP with what the step of a job that opens the gate has made.
  pub opened_up : (safe : IsSafe d s) (j : Job) (due : IsDueIn (Install Open) s.jobs j) (new : D) → WritesFor d s.disk new m j → (behind : Job) → HasMadeStep d s.disk new m j behind → d.fault_count new ≡ d.fault_count s.disk
      → (places : PlaceTable) → places.at ≡ places_after j up.places.at → (left : List Bool) → AreUnmarked (job_takes_file j) s.old_marks left → (s.written && has_rotation s.jobs) ≡ false
      → IsUp d (record s { disk = new; manifest = manifest_after j m; places = places; old_marks = left; segment = segment_after j s.segment; jobs = after_install s.jobs }) rows
  opened_up safe j due new writes behind makes count places to left un free =
      let stands : StandsWith d s.disk m up.parts j = record { settled = up.settled; job = of_due (IsRunning (d.content s.disk) (d.may_leave s.disk) m up.parts) due up.jobs } in
      let w = writes up.parts stands in
      let i = installing j _ (due_installs m j Open (step_is due)) in
      let slot = slot_of_install m w.file i w.is in
      open_up new w.file slot w.rest count i stands.job.work places left un ((makes up.parts stands).opened (step_is due)) to (free_of due free) (after_install s.jobs)
      (runs_on_after new w.file slot w.rest count due up.jobs up.apart safe.jobs) (share_installed s.jobs) (record { pairs = reads_on_after new w.file slot w.rest count due up.jobs up.reading.pairs; segment = opened_segment (manifest_after j m) places.at (d.content new (oldest_file (manifest_after j m))) s.jobs }) (opened_room places s.jobs) (install_changes s.jobs)
