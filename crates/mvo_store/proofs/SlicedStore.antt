-- A store of which a job has one slice more of its data file.
use Rattle.std.proofs.Common.{◌≡◌, ◌≢◌, inl, inr, ℕ, Bool, true, false, cond, ltb, length, Option, Some, None, Ok, Err, refl, sym, ap, subst, ◌∙◌, arith}
use Rattle.std.specs.Bool.{OnTrue, OnFalse}
use Rattle.std.specs.List.{AllByRecursion}
use Rattle.std.specs.Option.{option_map}
use Rattle.std.proofs.lemmas.Bool.{ltb-true}
use Rattle.mvo_types.specs.Keys.{Map}
use Rattle.mvo_types.specs.declared.refusal.Refusal.{Refusal}
use Rattle.mvo_types.specs.declared.refusal.Refusal.TheVariants.{DiskFault}
use Rattle.mvo_disk.specs.declared.disk.Disk.{Ghosts}
use Rattle.mvo_disk.specs.Disk.{IsHonest}
use Rattle.mvo_manifest.specs.Data.{ManifestData}
use Rattle.mvo_places.specs.Places.{PlaceTable}
use Rattle.mvo_recovery.specs.Parts.{IsLastFile}
use Rattle.mvo_load.specs.Read.{IsMisread}
use Rattle.mvo_store.specs.declared.jobs.due.Due.{Due}
use Rattle.mvo_store.specs.declared.jobs.due.Due.TheVariants.{Install}
use Rattle.mvo_store.specs.declared.install.install_step.InstallStep.TheVariants.{Open}
use Rattle.mvo_store.specs.declared.jobs.jobs.Jobs.{Jobs}
use Rattle.mvo_store.specs.declared.jobs.jobs.Jobs.TheVariants.{Beside}
use Rattle.mvo_store.specs.declared.checkpoint.checkpointing.Checkpointing.{Checkpointing}
use Rattle.mvo_store.specs.declared.checkpoint.checkpoint_job.CheckpointJob.{CheckpointJob}
use Rattle.mvo_store.specs.declared.checkpoint.checkpoint_job.CheckpointJob.TheVariants.{Reading as Reads, Running as Runs}
use Rattle.mvo_store.specs.declared.checkpoint.stage.CheckpointStage.{CheckpointStage}
use Rattle.mvo_store.specs.declared.checkpoint.stage.CheckpointStage.TheVariants.{Data as AtData, Delta as AtDelta}
use Rattle.mvo_store.specs.declared.merge.stage.MergeStage.{MergeStage}
use Rattle.mvo_store.specs.declared.merge.stage.MergeStage.TheVariants.{Data as MergeAtData, Delta as MergeAtDelta}
use Rattle.mvo_store.specs.declared.merge.merging.Merging.{Merging}
use Rattle.mvo_store.specs.declared.merge.merge_job.MergeJob.{MergeJob}
use Rattle.mvo_store.specs.declared.merge.merge_job.MergeJob.TheVariants.{Reading, Running}
use Rattle.mvo_store.specs.StoreData.{StoreData}
use Rattle.mvo_store.specs.Causes.{why_not_due}
use Rattle.mvo_store.specs.Jobs.{Job, jobs_of, step_due, job_due, is_of_data, slice_end_of, stage_upto, merge_stage_upto, checkpoint_upto, checkpoint_job_upto, merge_upto, merge_job_upto, job_upto, jobs_upto, reading_of, sliced}
use Rattle.mvo_store.specs.Jobs.Job.{Rotation, Checkpoint, Merge, MergeInstall}
use Rattle.mvo_store.specs.Standing.{IsRunning, ShareNone, JobHasRoom, IsUp, HasWork}
use Rattle.mvo_store.specs.PairsRead.{IsSafeReading, HasReading}
use Rattle.mvo_store.specs.SegmentRead.{oldest_file, AreSafeSegmentRead, HasSegmentRead}
use Rattle.mvo_store.specs.Safe.{IsWithin, IsAmong, IsMergeAmong, IsSafeWork, IsStoreSound}
use Rattle.mvo_store.specs.Writing.{WritesFile, IsFileDue, IsStepTo, IsSliceStep, IsDueSlice}
use Rattle.mvo_store.specs.Calls.{MayMeet, IsFileOfJob, KeepsOthers, IsStoreStep}
use Rattle.mvo_store.specs.Calls.StoreStep.{Slice}
use Rattle.mvo_store.proofs.Keeping.{OnlyNow, CountsNow, begins, may_step, stays_up, stays_safe, file_others, fault_step, other_step, done_step, err_is}
use Rattle.mvo_store.proofs.Beside.{IsDueIn, due_in_jobs, checkpoint_step, merge_step, merge_stays, checkpoint_stays}
use Rattle.mvo_store.proofs.Beside.IsDueIn.{TheRotation, TheMerge, TheCheckpoint, OfMerge}
use Rattle.mvo_store.proofs.Turning.{some_due, step_is, of_due}
use Rattle.mvo_store.proofs.Olds.{step_stays}
use Rattle.mvo_store.proofs.Dues.{safe_work, safe_room, stands_of, step_leaves, step_slots, at_checkpoint, at_merge, count_of, memory_left, refused_sound}
use Rattle.mvo_store.proofs.Changes.{same_changes, slice_changes, slice_reads}
use Rattle.mvo_store.proofs.Readings.{reading_counted}
use Rattle.mvo_store.proofs.Segments.{slice_segment, segment_beside}
use Rattle.mvo_store.proofs.Made.{IsDueAt}

-- ---- the jobs, of which one is at another stage

pub data IsBehind : Jobs → Job → Job → Jobs → Type 0 where
  CheckpointAt : (c : Checkpointing) (stage : CheckpointStage) (g : Option MergeJob) → IsBehind (Beside (Some (Runs c)) g) (Checkpoint c) (Checkpoint (record c { stage = stage })) (Beside (Some (Runs (record c { stage = stage }))) g)
  MergeAt : (c : Option CheckpointJob) (g : Merging) (stage : MergeStage) → IsBehind (Beside c (Some (Running g))) (Merge g) (Merge (record g { stage = stage })) (Beside c (Some (Running (record g { stage = stage }))))

-- so they are behind a slice
pub slice_behind : {step : Due} → is_of_data step ≡ true → {jobs : Jobs} {j : Job} → IsDueIn step jobs j → (n : ℕ) → IsBehind jobs j (job_upto n j) (jobs_upto n step jobs)
slice_behind of_data (TheRotation fresh i at) n = absurd (cc (sym (subst (λ (s : Due). is_of_data s ≡ true) (sym at) of_data)))
slice_behind of_data (TheMerge seen placed i at) n = absurd (cc (sym (subst (λ (s : Due). is_of_data s ≡ true) (sym at) of_data)))
slice_behind {step} of_data (TheCheckpoint c g at) n =
    subst (IsBehind (Beside (Some (Runs c)) g) (Checkpoint c) (Checkpoint (checkpoint_upto n c))) (sym (ap (λ b. cond b (Beside (Some (Runs c)) (option_map (merge_job_upto n) g)) (Beside (Some (Runs (checkpoint_upto n c))) g)) (checkpoint_step c.stage step at)))
    (CheckpointAt c (stage_upto n (length c.made.records)) g)
slice_behind {step} of_data (OfMerge c g at) n =
    subst (IsBehind (Beside c (Some (Running g))) (Merge g) (Merge (merge_upto n g))) (sym (ap (λ b. cond b (Beside c (Some (Running (merge_upto n g)))) (Beside (option_map (checkpoint_job_upto n) c) (Some (Running g)))) (merge_step g.stage step at)))
    (MergeAt c g (merge_stage_upto n (length g.seen.made.records)))

-- With that one at the other stage, and the other one as another fact says of it.
all_behind : (P Q : Job → Type 0) {jobs jobs' : Jobs} {j behind : Job} → IsBehind jobs j behind jobs' → AllByRecursion P (jobs_of jobs) → Q behind
    → ((c : Checkpointing) (g : Merging) → jobs ≡ Beside (Some (Runs c)) (Some (Running g)) → j ≡ Checkpoint c → P (Merge g) → Q (Merge g))
    → ((c : Checkpointing) (g : Merging) → jobs ≡ Beside (Some (Runs c)) (Some (Running g)) → j ≡ Merge g → P (Checkpoint c) → Q (Checkpoint c))
    → AllByRecursion Q (jobs_of jobs')
all_behind P Q (CheckpointAt c stage None) all now of_merge of_checkpoint = (now, tt)
all_behind P Q (CheckpointAt c stage (Some (Reading r))) all now of_merge of_checkpoint = (now, tt)
all_behind P Q (CheckpointAt c stage (Some (Running g))) all now of_merge of_checkpoint = (now, (of_merge c g refl refl all.1.0, tt))
all_behind P Q (MergeAt None g stage) all now of_merge of_checkpoint = (now, tt)
all_behind P Q (MergeAt (Some (Reads r)) g stage) all now of_merge of_checkpoint = (now, tt)
all_behind P Q (MergeAt (Some (Runs c)) g stage) all now of_merge of_checkpoint = (of_checkpoint c g refl refl all.0, (now, tt))

-- it takes no file
share_behind : {jobs jobs' : Jobs} {j behind : Job} → IsBehind jobs j behind jobs' → ShareNone jobs → ShareNone jobs'
share_behind (CheckpointAt c stage None) apart = tt
share_behind (CheckpointAt c stage (Some (Reading r))) apart = tt
share_behind (CheckpointAt c stage (Some (Running g))) apart = apart
share_behind (MergeAt None g stage) apart = tt
share_behind (MergeAt (Some (Reads r)) g stage) apart = tt
share_behind (MergeAt (Some (Runs c)) g stage) apart = apart

-- ---- safety

within_upto : (older n all : ℕ) → IsWithin older (stage_upto n all)
within_upto older n all = go (ltb n all)
  where
    go : (b : Bool) → IsWithin older (cond b (AtData n) (AtDelta 0))
    go true = tt
    go false = omega arith

among_upto : (n all : ℕ) → IsAmong all (stage_upto n all)
among_upto n all = go (ltb n all) refl
  where
    go : (b : Bool) → ltb n all ≡ b → IsAmong all (cond b (AtData n) (AtDelta 0))
    go true is = omega (arith, ltb-true n all is)
    go false is = tt

merge_among_upto : (n all : ℕ) → IsMergeAmong all (merge_stage_upto n all)
merge_among_upto n all = go (ltb n all) refl
  where
    go : (b : Bool) → ltb n all ≡ b → IsMergeAmong all (cond b (MergeAtData n) MergeAtDelta)
    go true is = omega (arith, ltb-true n all is)
    go false is = tt

upto_safe : (m : ManifestData) (n : ℕ) (j : Job) → IsSafeWork m j → IsSafeWork m (job_upto n j)
upto_safe m n (Rotation fresh i) safe = safe
upto_safe m n (Checkpoint c) safe = record { generation = safe.generation; pair = safe.pair; known = safe.known; within = within_upto (length c.made.deltas) n (length c.made.records); among = among_upto n (length c.made.records); placed = safe.placed; next_is = safe.next_is }
upto_safe m n (Merge g) safe = record { pair = safe.pair; among = merge_among_upto n (length g.seen.made.records); still = safe.still; may_become = safe.may_become }
upto_safe m n (MergeInstall g placed i) safe = safe

upto_room : (places : PlaceTable) (n : ℕ) (j : Job) → JobHasRoom places j → JobHasRoom places (job_upto n j)
upto_room places n (Rotation fresh i) room = tt
upto_room places n (Checkpoint c) room = room
upto_room places n (Merge g) room = tt
upto_room places n (MergeInstall g placed i) room = tt

-- a step that writes a data file opens no gate
no_gate : (step : Due) → is_of_data step ≡ true → step ≢ Install Open
no_gate step of_data e = absurd (cc (sym (subst (λ (s : Due). is_of_data s ≡ true) e of_data)))

-- ---- the store

-- a slice may be written: no cause refuses it, and its step is the next of a job
pub slice_at : {D : Type 0} (d : Ghosts D) (s t : StoreData D) (step : Due) → s ≡ t → why_not_due step t ≡ None → (s.down ≡ false → IsStoreSound d s) → IsDueAt d s (Slice step) step
slice_at d s t step same none invariant =
    let b = begins d s t (Slice step) same none invariant in
    let j = some_due step s.jobs (may_step step s b.none) in
    record { begins = b; job = j.0; is = j.1 }

module _ {D : Type 0} {d : Ghosts D} {s : StoreData D} {step : Due} (of_data : is_of_data step ≡ true) (b : IsDueAt d s (Slice step) step) (new : D) where
  here : IsDueIn step s.jobs b.job
  here = due_in_jobs step s.jobs b.job b.is

  slice_others : (t : StoreData D) → WritesFile d s.disk t.disk (IsFileDue s.manifest b.job) → KeepsOthers d (Slice step) s t
  slice_others t w = file_others d (Slice step) s t w.file (subst (λ (o : Option Job). IsFileOfJob s.manifest o w.file) (sym b.is) w.is) w.rest

  module _ (upto : ℕ) (made : IsDueSlice d s.disk new s.manifest (job_due step s.jobs) (Ok upto)) where
    written : IsSliceStep d s.disk new s.manifest b.job (Ok upto)
    written = subst (λ (o : Option Job). IsDueSlice d s.disk new s.manifest o (Ok upto)) b.is made

    abbrev e : IsStepTo d s.disk new s.manifest b.job (job_upto upto b.job) (Ok tt)
    e = written.1

    abbrev after : StoreData D
    after = record s { disk = new; jobs = jobs_upto upto step s.jobs }

    behind : IsBehind s.jobs b.job (job_upto upto b.job) (jobs_upto upto step s.jobs)
    behind = slice_behind of_data here upto

    -- what the slice was to make of the jobs
    pub is_sliced : sliced step s.jobs ≡ jobs_upto upto step s.jobs
    is_sliced = ap (λ n. jobs_upto n step s.jobs) (ap slice_end_of b.is ∙ sym written.0)

    -- THE STORE STANDS with the slice behind the job, and the other one as it stood.
    up_so : IsHonest (d.moment new) → (rows : Map) → IsUp d s rows → IsUp d after rows
    up_so honest rows up =
        let stood = stands_of d s step b.job b.is rows up in
        let w = e.writes honest up.parts stood in
        let made = e.makes honest up.parts stood in
        let stands = made.stands (λ gate. no_gate step of_data (sym (step_is here) ∙ gate)) in
        let both = λ (c : Checkpointing) (g : Merging) (is : s.jobs ≡ Beside (Some (Runs c)) (Some (Running g))). subst ShareNone is up.apart in
        stays_up d s rows up new s.places (jobs_upto upto step s.jobs) stands.settled (w.rest.content s.segment.file (λ is. w.other (subst (IsLastFile s.manifest) is up.last)))
        (step_stays (d.content s.disk) (d.content new) (d.may_leave s.disk) s.manifest up.parts up.settled made.counts b.job stood.job.work w.file w.is w.rest.content)
        (all_behind (IsRunning (d.content s.disk) (d.may_leave s.disk) s.manifest up.parts) (IsRunning (d.content new) (d.may_leave new) s.manifest up.parts) behind up.jobs stands.job
        (λ c g is k runs. merge_stays (d.content s.disk) (d.content new) (d.may_leave s.disk) (d.may_leave new) s.manifest up.parts up.settled w.file w.rest c g (both c g is) (at_checkpoint s.manifest b.job c w.file k w.is) runs.work made.counts)
        (λ c g is k runs. checkpoint_stays (d.content s.disk) (d.content new) (d.may_leave s.disk) (d.may_leave new) s.manifest up.parts up.settled w.file w.rest c g (both c g is) (at_merge s.manifest b.job g w.file k w.is)
        (subst (λ (i : Job). HasWork (d.content s.disk) (d.may_leave s.disk) s.manifest up.parts i) k stood.job.work) runs))
        (share_behind behind up.apart)
        (record {
          pairs = subst (HasReading (d.content new) s.manifest) (sym (slice_reads upto step s.jobs)) (reading_counted (d.content s.disk) (d.content new) s.manifest up.settled.installed.own.is up.parts.lives up.settled.installed.parts.live made.counts (reading_of s.jobs) up.reading.pairs);
          segment = subst (HasSegmentRead s.manifest s.places.at (d.content new (oldest_file s.manifest))) (sym (slice_segment upto step s.jobs)) (segment_beside s.manifest s.places.at (d.content s.disk) (d.content new) up.settled.installed.own.is (d.may_leave s.disk) up.parts here stood.job.work w.file w.is w.rest.content up.reading.segment);
        })
        (same_changes s.manifest.pairs up.parts.lives s.jobs (jobs_upto upto step s.jobs) s.places.at (slice_changes upto step s.jobs) up.places)
        (all_behind (JobHasRoom s.places) (JobHasRoom s.places) behind up.room_for (upto_room s.places upto b.job (of_due (JobHasRoom s.places) here up.room_for)) (λ c g is k p. p) (λ c g is k p. p)) e.count

    pub slice_sound : IsStoreSound d after
    slice_sound = record {
      safe = stays_safe b.begins.sound.safe new s.places (jobs_upto upto step s.jobs)
          (all_behind (IsSafeWork s.manifest) (IsSafeWork s.manifest) behind b.begins.sound.safe.jobs (upto_safe s.manifest upto b.job (safe_work b.begins.sound.safe here)) (λ c g is k p. p) (λ c g is k p. p)) (share_behind behind b.begins.sound.safe.apart)
          (record { pairs = subst (IsSafeReading s.manifest) (sym (slice_reads upto step s.jobs)) b.begins.sound.safe.reading.pairs; segment = subst (AreSafeSegmentRead s.manifest s.places.at) (sym (slice_segment upto step s.jobs)) b.begins.sound.safe.reading.segment })
          (all_behind (JobHasRoom s.places) (JobHasRoom s.places) behind b.begins.sound.safe.room_for (upto_room s.places upto b.job (safe_room b.begins.sound.safe here)) (λ c g is k p. p) (λ c g is k p. p)) e.count;
      up = λ honest. let now = b.begins.sound.up (e.honest honest) in (now.0, up_so honest now.0 now.1);
    }

    -- THE SLICE IS WRITTEN.
    pub slice_done : {A : Type 0} (a : A) → IsStoreStep {A = A} d s (Slice step) (Ok a) after
    slice_done a = done_step b.begins after e.honest (step_leaves d s step b.job b.is new e.writes) (step_slots d s step b.job b.is new e.writes (job_upto upto b.job) e.makes)
        (slice_others after (e.file (safe_work b.begins.sound.safe here))) a (ap (λ (jobs : Jobs). record s { disk = new; jobs = jobs }) (sym is_sliced)) e.count up_so

  module _ (refusal : Refusal) (made : IsDueSlice d s.disk new s.manifest (job_due step s.jobs) (Err refusal)) (down : Bool) (other : OnFalse down (refusal ≢ DiskFault)) where
    r : IsSliceStep d s.disk new s.manifest b.job (Err refusal)
    r = subst (λ (o : Option Job). IsDueSlice d s.disk new s.manifest o (Err refusal)) b.is made

    pub slice_refused_sound : down ≡ false → IsStoreSound d (record s { disk = new; down = down })
    slice_refused_sound is = refused_sound d s step b.job b.is new r.writes b.begins.sound (step_due b.job) refusal r.refused b.begins.up down other is

  -- memory or a fault refuses it
  pub slice_refused : {A : Type 0} → OnlyNow d → CountsNow d → (refusal : Refusal) → IsDueSlice d s.disk new s.manifest (job_due step s.jobs) (Err refusal) → (down : Bool) → OnTrue down (refusal ≡ DiskFault) → OnFalse down (refusal ≢ DiskFault)
      → IsStoreStep {A = A} d s (Slice step) (Err refusal) (record s { disk = new; down = down })
  slice_refused {A} only_now counts_now refusal made true fault other =
      let r : IsSliceStep d s.disk new s.manifest b.job (Err refusal) = subst (λ (o : Option Job). IsDueSlice d s.disk new s.manifest o (Err refusal)) b.is made in
      fault_step b.begins counts_now new refusal fault (inr refl) (count_of d.fault_count s.disk new refusal fault r.refused.refusal) r.honest (step_leaves d s step b.job b.is new r.writes)
      (slice_others (record s { disk = new; down = true }) (r.file (safe_work b.begins.sound.safe here)))
  slice_refused {A} only_now counts_now refusal made false fault other =
      let r : IsSliceStep d s.disk new s.manifest b.job (Err refusal) = subst (λ (o : Option Job). IsDueSlice d s.disk new s.manifest o (Err refusal)) b.is made in
      let left = memory_left d.fault_count s.disk new refusal other r.refused.refusal in
      let memory : MayMeet (Slice step) refusal = inl left.0 in
      let same : record s { disk = new; down = false } ≡ s = ap (λ (k : D). record s { disk = k; down = false }) left.1 ∙ ap (λ (b : Bool). record s { down = b }) (sym b.begins.up) in
      other_step d only_now s (record s { disk = new; down = false }) (Slice step) refusal same other (λ is. subst IsMisread left.0 is) (λ _. refl) (err_is d A (Slice step) _ refusal b.begins.none memory)
