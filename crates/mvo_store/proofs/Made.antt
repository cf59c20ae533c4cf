-- A call that makes a step of a job, or begins a checkpoint or a merge: what the store is behind it.
use Rattle.std.proofs.Common.{◌≡◌, ◌≢◌, ℕ, List, ◌≤◌, ◌&&◌, Bool, true, false, Option, Some, None, Result, Ok, Err, length, refl, sym, ap, subst, ◌∙◌, arith}
use Rattle.std.specs.Prelude.{is_some, IfSome}
use Rattle.std.specs.Bool.{OnTrue, OnFalse}
use Rattle.mvo_types.specs.Keys.{Map}
use Rattle.mvo_types.specs.declared.refusal.Refusal.{Refusal}
use Rattle.mvo_types.specs.declared.refusal.Refusal.TheVariants.{DiskFault}
use Rattle.mvo_disk.specs.declared.disk.Disk.{Ghosts}
use Rattle.mvo_disk.specs.Disk.{Image, AllOf, AllStay, LeavesOnly, IsHonest}
use Rattle.mvo_pair.specs.declared.pair.Pair.{Pair}
use Rattle.mvo_manifest.specs.Data.{ManifestData}
use Rattle.mvo_places.specs.Places.{PlaceMap, PlaceTable, ArePlaces}
use Rattle.mvo_recovery.specs.Parts.{Parts}
use Rattle.mvo_recovery.specs.Rotation.{rotated}
use Rattle.mvo_frame.specs.declared.segment.Segment.{Segment}
use Rattle.mvo_store.specs.declared.jobs.due.Due.{Due}
use Rattle.mvo_store.specs.declared.jobs.due.Due.TheVariants.{Install}
use Rattle.mvo_store.specs.declared.install.install_step.InstallStep.TheVariants.{Open}
use Rattle.mvo_store.specs.declared.jobs.jobs.Jobs.{Jobs}
use Rattle.mvo_store.specs.declared.jobs.jobs.Jobs.TheVariants.{Beside}
use Rattle.mvo_store.specs.declared.checkpoint.checkpointing.Checkpointing.{Checkpointing}
use Rattle.mvo_store.specs.declared.checkpoint.checkpoint_job.CheckpointJob.{CheckpointJob}
use Rattle.mvo_store.specs.declared.checkpoint.checkpoint_job.CheckpointJob.TheVariants.{Running as Runs}
use Rattle.mvo_store.specs.declared.merge.merging.Merging.{Merging}
use Rattle.mvo_store.specs.declared.merge.merge_job.MergeJob.{MergeJob}
use Rattle.mvo_store.specs.declared.merge.merge_job.MergeJob.TheVariants.{Running}
use Rattle.mvo_store.specs.StoreData.{StoreData}
use Rattle.mvo_store.specs.Causes.{replaces_last, why_not_due, why_not_install_open}
use Rattle.mvo_store.specs.Files.{files_taken}
use Rattle.mvo_store.specs.Merging.{seen_with, pair_with}
use Rattle.mvo_store.specs.Jobs.{Job, job_takes_file, job_due, is_step_due, step_due, after_step, with_step, with_checkpoint, with_merge, next_installed, after_install, has_rotation, reading_of, segment_read_of, merge_pair, checkpoint_pair}
use Rattle.mvo_store.specs.Old.{AreUnmarked}
use Rattle.mvo_store.specs.Planning.{IsNewCheckpoint, IsReadCheckpoint}
use Rattle.mvo_store.specs.MergePlanning.{IsNewMerge}
use Rattle.mvo_store.specs.MergeReading.{IsReadMerge}
use Rattle.mvo_store.specs.PairsRead.{IsSafeReading, HasReading}
use Rattle.mvo_store.specs.SegmentRead.{oldest_file, AreSafeSegmentRead, HasSegmentRead}
use Rattle.mvo_store.proofs.Segments.{beside_segment}
use Rattle.mvo_store.specs.Safe.{IsSafeCheckpoint, IsSafeMerge, IsSafeWork, AreSafe, IsSafe, IsStoreSound}
use Rattle.mvo_store.specs.Standing.{IsRotating, IsRunning, HasWork, HaveJobs, ShareNone, JobsHaveRoom, JobHasRoom, IsUp, MayTakeOverOf, HaveKeysOf}
use Rattle.mvo_store.specs.Steps.{manifest_after, places_after, manifest_by, segment_by, places_by, filled_by, IsNextBy, IsNextOf, IsCheckpointOf, IsMergeOf}
use Rattle.mvo_store.specs.Writing.{JobStandsFor, IsJobStep, IsDueStep}
use Rattle.mvo_store.specs.Calls.{StoreStep, IsReadToCheckpoint, IsReadToMerge, IsStoreStep}
use Rattle.mvo_store.specs.Calls.StoreStep.{Call}
use Rattle.mvo_store.specs.declared.call.StoreCall.TheVariants.{CheckpointRead, MergeRead, Step}
use Rattle.mvo_store.specs.Placing.{places_so_far}
use Rattle.mvo_store.proofs.Changes.{same_changes, as_they_are, merge_changes, checkpoint_changes, beside_reads, free_places}
use Rattle.mvo_store.proofs.Keeping.{OnlyNow, CountsNow, Begins, begins, may_open, none_keeps_checkpoint, none_keeps_merge, stays_safe, fault_step, done_step}
use Rattle.mvo_store.proofs.Beside.{IsDueIn, due_in_jobs}
use Rattle.mvo_store.proofs.Beside.IsDueIn.{TheRotation, TheMerge, TheCheckpoint, OfMerge}
use Rattle.mvo_store.proofs.Turning.{some_due, step_is, begins_beside_merge, begins_beside_checkpoint}
use Rattle.mvo_store.proofs.Beginning.{checkpoint_shares_none, merge_shares_none, with_checkpoint_all, with_merge_all, merge_room}
use Rattle.mvo_store.proofs.Dues.{IsPlain, begins_due, due_job, makes_of, rows_of, fault_only, safe_work, safe_room, safe_take_over, never_opens, installed_is, stepped_safe, opened_safe, stands_of, step_others, step_leaves, step_slots, step_up, step_refused, refused_sound, have_keys, opened_up}
use Rattle.mvo_store.proofs.Looks.{looked_up, looked_done}
use Rattle.mvo_store.proofs.Logged.{replaces_same}
use Rattle.mvo_store.proofs.CameLate.{merged_there}

-- ---- a step that is due

-- no cause refuses the call, and the step is the next of this job
pub record IsDueAt {D : Type 0} (d : Ghosts D) (s : StoreData D) (call : StoreStep) (step : Due) : Type 0 where
  pub begins : Begins d s call
  pub job : Job
  pub is : job_due step s.jobs ≡ Some job

-- so it is of a step other than the last file of a merge and the opening of a gate
pub due_at : {D : Type 0} (d : Ghosts D) (s t : StoreData D) (step : Due) → IsPlain step → s ≡ t → why_not_due step t ≡ None → (s.down ≡ false → IsStoreSound d s) → IsDueAt d s (Call (Step step)) step
due_at d s t step plain same none invariant =
    let b = begins_due d s t step plain same none invariant in
    let j = due_job s step plain b.none in
    record { begins = b; job = j.0; is = j.1 }

-- and of the opening of a gate
pub open_at : {D : Type 0} (d : Ghosts D) (s t : StoreData D) → s ≡ t → why_not_install_open t ≡ None → (s.down ≡ false → IsStoreSound d s) → IsDueAt d s (Call (Step (Install Open))) (Install Open)
open_at d s t same none invariant =
    let b = begins d s t (Call (Step (Install Open))) same none invariant in
    let j = some_due (Install Open) s.jobs (may_open s b.none).0 in
    record { begins = b; job = j.0; is = j.1 }

module _ {D : Type 0} {d : Ghosts D} {s : StoreData D} {call : StoreStep} {step : Due} (b : IsDueAt d s call step) where
  -- how its job stands among those that run
  pub due_here : IsDueIn step s.jobs b.job
  due_here = due_in_jobs step s.jobs b.job b.is

  pub is_due_here : is_step_due step s.jobs ≡ true
  is_due_here = ap is_some b.is

  pub stands_here : IsHonest (d.moment s.disk) → IfSome (job_due step s.jobs) (JobStandsFor d s.disk s.manifest)
  stands_here honest =
      let now = b.begins.sound.up honest in
      subst (λ (o : Option Job). IfSome o (JobStandsFor d s.disk s.manifest)) (sym b.is) (now.1.parts, stands_of d s step b.job b.is now.0 now.1)

  -- what writing its file came to
  written_here : (new : D) (result : Result (Unit {0}) Refusal) → IsDueStep d s.disk new s.manifest (job_due step s.jobs) result → IsJobStep d s.disk new s.manifest b.job result
  written_here new result made = subst (λ (o : Option Job). IsDueStep d s.disk new s.manifest o result) b.is made

module _ {D : Type 0} {d : Ghosts D} {s : StoreData D} {step : Due} (plain : IsPlain step) (b : IsDueAt d s (Call (Step step)) step) (new : D) where
  module _ (made : IsDueStep d s.disk new s.manifest (job_due step s.jobs) (Ok tt)) where
    abbrev e : IsJobStep d s.disk new s.manifest b.job (Ok tt)
    e = written_here b new (Ok tt) made

    abbrev stepped : StoreData D
    stepped = record s { disk = new; jobs = with_step step s.jobs }

    up_so : IsHonest (d.moment new) → (rows : Map) → IsUp d s rows → IsUp d stepped rows
    up_so = step_up d s step b.job b.is new e.writes e.makes plain.1 e.count

    -- THE STORE IS SOUND WITH THE STEP BEHIND IT.
    pub due_sound : IsStoreSound d stepped
    due_sound = record {
      safe = stepped_safe b.begins.sound.safe (due_here b) new e.count;
      up = λ honest. let now = b.begins.sound.up (e.honest honest) in (now.0, up_so honest now.0 now.1);
    }

    pub due_done : IsStoreStep {A = Unit {0}} d s (Call (Step step)) (Ok tt) stepped
    due_done = done_step b.begins stepped e.honest (step_leaves d s step b.job b.is new e.writes) (step_slots d s step b.job b.is new e.writes (after_step b.job) e.makes)
        (step_others d s step b.job b.is stepped (e.file (safe_work b.begins.sound.safe (due_here b)))) tt (makes_of d s stepped step plain refl) e.count
        (λ honest rows up. subst (λ (r : Map). IsUp d stepped r) (sym (rows_of {A = Unit {0}} s tt step rows)) (up_so honest rows up))

  module _ (refusal : Refusal) (made : IsDueStep d s.disk new s.manifest (job_due step s.jobs) (Err refusal)) (down : Bool) (other : OnFalse down (refusal ≢ DiskFault)) where
    abbrev r : IsJobStep d s.disk new s.manifest b.job (Err refusal)
    r = written_here b new (Err refusal) made

    pub due_refused : OnlyNow d → CountsNow d → OnTrue down (refusal ≡ DiskFault) → IsStoreStep {A = Unit {0}} d s (Call (Step step)) (Err refusal) (record s { disk = new; down = down })
    due_refused only_now counts_now fault = step_refused d s step b.job b.is new r.writes only_now counts_now b.begins r.honest (r.file (safe_work b.begins.sound.safe (due_here b))) refusal r.refused down fault other

    pub due_refused_sound : down ≡ false → IsStoreSound d (record s { disk = new; down = down })
    due_refused_sound is = refused_sound d s step b.job b.is new r.writes b.begins.sound (step_due b.job) refusal r.refused b.begins.up down other is

-- ---- the opening of a gate

-- what the manifest of a job is made of
next_by : (content : Image) (may : ℕ → List ℕ → Type 0) (m : ManifestData) (x : Parts) {jobs : Jobs} {j : Job} → (replaces : Bool) → ((fresh : Segment) (next : ManifestData) → (has : IsRotating content may m x fresh next) → has.replaces ≡ replaces) → IsDueIn (Install Open) jobs j → IsSafeWork m j → HasWork content may m x j → IsNextBy replaces m j (manifest_after j m)
next_by content may m x replaces same (TheRotation fresh i at) safe has = has.next_is ∙ ap (λ r. rotated r m fresh.file) (same fresh i.next has)
next_by content may m x replaces same (TheMerge seen placed i at) safe has =
    let merge = has.merge in
    (length has.late, has.next_is ∙ sym (merged_there content m (seen_with seen merge.live_left merge.live_right) merge.seen (pair_with seen has.late)))
next_by content may m x replaces same (TheCheckpoint c g at) safe has = safe.next_is
next_by content may m x replaces same (OfMerge c g at) safe has = never_opens g.stage at

module _ {D : Type 0} {d : Ghosts D} {s : StoreData D} (b : IsDueAt d s (Call (Step (Install Open))) (Install Open)) where
  next_is : next_installed s.jobs ≡ Some b.job
  next_is = installed_is (due_here b)

  pub may_take_over : MayTakeOverOf s.places (next_installed s.jobs)
  may_take_over = subst (MayTakeOverOf s.places) (sym next_is) (safe_take_over s.manifest s.places b.job (safe_work b.begins.sound.safe (due_here b)) (safe_room b.begins.sound.safe (due_here b)))

  keys_here : (rows : Map) → IsUp d s rows → HaveKeysOf (next_installed s.jobs)
  keys_here rows up = subst HaveKeysOf (sym next_is) (have_keys d s rows up (due_here b))

  module _ (new : D) where
    module _ (made : IsDueStep d s.disk new s.manifest (job_due (Install Open) s.jobs) (Ok tt)) (places : PlaceTable) (took : HaveKeysOf (next_installed s.jobs) → (at : PlaceMap) → s.places.at ≡ places_so_far (next_installed s.jobs) at → places.at ≡ places_by (next_installed s.jobs) at) (left : List Bool) (un : AreUnmarked (filled_by (next_installed s.jobs)) s.old_marks left) where
      abbrev i : IsJobStep d s.disk new s.manifest b.job (Ok tt)
      i = written_here b new (Ok tt) made

      abbrev with_next : Option Job → StoreData D
      with_next o = record s {
        disk = new;
        manifest = manifest_by o s.manifest;
        places = places;
        old_marks = left;
        segment = segment_by o s.segment;
        jobs = after_install s.jobs;
      }

      abbrev opened : StoreData D
      opened = with_next (next_installed s.jobs)

      free : (s.written && has_rotation s.jobs) ≡ false
      free = (may_open s b.begins.none).1

      moved_so : (rows : Map) (up : IsUp d s rows) → places.at ≡ places_after b.job up.places.at
      moved_so rows up = subst (λ (o : Option Job). places.at ≡ places_by o up.places.at) next_is (took (keys_here rows up) up.places.at up.places.so_far)

      un_here : AreUnmarked (job_takes_file b.job) s.old_marks left
      un_here = subst (λ (o : Option Job). AreUnmarked (filled_by o) s.old_marks left) next_is un

      open_up : IsHonest (d.moment new) → (rows : Map) → IsUp d s rows → IsUp d opened rows
      open_up honest rows up = subst (λ (o : Option Job). IsUp d (with_next o) rows) (sym next_is) (opened_up d s rows up b.begins.sound.safe b.job (due_here b) new (i.writes honest) (after_step b.job) (i.makes honest) i.count places (moved_so rows up) left un_here free)

      next_so : (rows : Map) → IsUp d s rows → IsNextOf (replaces_last s) s.manifest (next_installed s.jobs) (manifest_by (next_installed s.jobs) s.manifest)
      next_so rows up = subst (λ (o : Option Job). IsNextOf (replaces_last s) s.manifest o (manifest_by o s.manifest)) (sym next_is)
          (next_by (d.content s.disk) (d.may_leave s.disk) s.manifest up.parts (replaces_last s) (replaces_same d s rows up) (due_here b) (safe_work b.begins.sound.safe (due_here b)) (stands_of d s (Install Open) b.job b.is rows up).job.work)

      -- THE STORE IS SOUND WITH THE NEXT MANIFEST.
      pub open_sound : IsStoreSound d opened
      open_sound = record {
        safe = subst (λ (o : Option Job). IsSafe d (with_next o)) (sym next_is) (opened_safe b.begins.sound.safe (due_here b) new places left free i.count);
        up = λ honest. let now = b.begins.sound.up (i.honest honest) in (now.0, open_up honest now.0 now.1);
      }

      pub open_done : {A : Type 0} (a : A) → IsStoreStep {A = A} d s (Call (Step (Install Open))) (Ok a) opened
      open_done a = done_step b.begins opened i.honest (step_leaves d s (Install Open) b.job b.is new i.writes) (step_slots d s (Install Open) b.job b.is new i.writes (after_step b.job) i.makes)
          (step_others d s (Install Open) b.job b.is opened (i.file (safe_work b.begins.sound.safe (due_here b)))) a
          (record {
            after = refl;
            next = λ honest. let now = b.begins.sound.up (i.honest honest) in next_so now.0 now.1;
            places = λ honest. let now = b.begins.sound.up (i.honest honest) in took (keys_here now.0 now.1);
            marks = un;
          }) i.count open_up

    -- only a fault refuses it
    pub open_refused : {A : Type 0} → CountsNow d → (refusal : Refusal) → IsDueStep d s.disk new s.manifest (job_due (Install Open) s.jobs) (Err refusal) → IsStoreStep {A = A} d s (Call (Step (Install Open))) (Err refusal) (record s { disk = new; down = true })
    open_refused counts_now refusal made =
        let r = written_here b new (Err refusal) made in
        let fault = fault_only d.fault_count (step_due b.job) s.disk new refusal (step_is (due_here b)) r.refused in
        fault_step b.begins counts_now new refusal fault.0 refl fault.1 r.honest (step_leaves d s (Install Open) b.job b.is new r.writes) (step_others d s (Install Open) b.job b.is (record s { disk = new; down = true }) (r.file (safe_work b.begins.sound.safe (due_here b))))

-- ---- a checkpoint is read

module _ {D : Type 0} {d : Ghosts D} {s : StoreData D} (b : Begins d s (Call CheckpointRead)) (new : D) (rest : AllStay (d.content s.disk) (d.content new) (d.may_leave s.disk) (d.may_leave new)) (any_moment : LeavesOnly d.moment d.left_since s.disk new (AllOf (d.may_leave s.disk))) (count : d.fault_count new ≡ d.fault_count s.disk)
    (taken : Option Pair) (taken_is : taken ≡ merge_pair s.jobs) (c : Checkpointing) (safe : IsSafeCheckpoint s.manifest c) (to : IsNewCheckpoint (IsHonest (d.moment new)) (d.content s.disk) s.manifest (files_taken taken) c) (stands : IsHonest (d.moment new) → IsReadCheckpoint (d.content s.disk) (d.may_leave s.disk) s.manifest s.places.at c)
    (places : PlaceTable) (same : places.at ≡ s.places.at) (room : length c.made.records ≤ places.room) where
  -- nothing of it is changed yet
  unplaced : c.placed ≡ 0
  unplaced = to.plan.unplaced

  -- the merge that runs, if one does
  merge_here : (g : Option MergeJob) × (s.jobs ≡ Beside None g)
  merge_here = begins_beside_merge s.jobs (none_keeps_checkpoint s b.none)

  abbrev g : Option MergeJob
  g = merge_here.0

  abbrev now_run : Jobs
  now_run = Beside (Some (Runs c)) g

  abbrev read : Jobs → StoreData D
  read jobs = record s { disk = new; places = places; jobs = jobs }

  jobs_are : now_run ≡ with_checkpoint c s.jobs
  jobs_are = sym (ap (with_checkpoint c) merge_here.1)

  to_here : IsNewCheckpoint (IsHonest (d.moment new)) (d.content s.disk) s.manifest (files_taken (merge_pair (Beside None g))) c
  to_here = subst (λ (o : Option Pair). IsNewCheckpoint (IsHonest (d.moment new)) (d.content s.disk) s.manifest (files_taken o) c) (taken_is ∙ ap merge_pair merge_here.1) to

  apart : ShareNone now_run
  apart = checkpoint_shares_none s.manifest c g to_here.plan.data_file to_here.plan.delta_file

  have_room : JobsHaveRoom places now_run
  have_room = with_checkpoint_all (JobHasRoom places) c g (omega (arith, room)) (merge_room places g)

  are_safe : AreSafe s.manifest now_run
  are_safe = with_checkpoint_all (IsSafeWork s.manifest) c g safe (subst (AreSafe s.manifest) merge_here.1 b.sound.safe.jobs)

  are_free : (rows : Map) (up : IsUp d s rows) → ArePlaces s.manifest.pairs up.parts.lives s.places.at
  are_free rows up = free_places s.manifest.pairs up.parts.lives s.jobs s.places.at (none_keeps_checkpoint s b.none) up.places

  -- the merge whose pairs are read, if one is, is the same
  same_reading : reading_of now_run ≡ reading_of s.jobs
  same_reading = beside_reads (Some (Runs c)) None g ∙ sym (ap reading_of merge_here.1)

  read_up : IsHonest (d.moment new) → (rows : Map) → IsUp d s rows → IsUp d (read now_run) rows
  read_up honest rows up = looked_up b new rest rows up places now_run (as_they_are s.manifest.pairs up.parts.lives now_run places.at (λ at. checkpoint_changes c g at unplaced) (subst (λ (at : PlaceMap). ArePlaces s.manifest.pairs up.parts.lives at) (sym same) (are_free rows up))) have_room
      (with_checkpoint_all (IsRunning (d.content s.disk) (d.may_leave s.disk) s.manifest up.parts) c g (stands honest up.parts up.settled (are_free rows up)) (subst (HaveJobs (d.content s.disk) (d.may_leave s.disk) s.manifest up.parts) merge_here.1 up.jobs)) apart (record { pairs = subst (HasReading (d.content s.disk) s.manifest) (sym same_reading) up.reading.pairs; segment = tt }) count

  -- THE STORE IS SOUND WITH THE CHECKPOINT.
  pub checkpoint_sound : IsStoreSound d (read (with_checkpoint c s.jobs))
  checkpoint_sound = subst (λ (k : Jobs). IsStoreSound d (read k)) jobs_are (record {
    safe = stays_safe b.sound.safe new places now_run are_safe apart (record { pairs = subst (IsSafeReading s.manifest) (sym same_reading) b.sound.safe.reading.pairs; segment = tt }) have_room count;
    up = λ honest. let now = b.sound.up (any_moment.later.honest honest) in (now.0, read_up honest now.0 now.1);
  })

  makes : IsReadToCheckpoint d s (read now_run)
  makes = record {
    checkpoint = subst (λ (k : Jobs). IsCheckpointOf (IsHonest (d.moment new)) (d.content s.disk) s.manifest k now_run) (sym merge_here.1) (record { checkpoint = c; is = refl; read = to_here });
    after = ap (λ (at : PlaceMap). record s { disk = new; places = record { at = at; room = places.room }; jobs = now_run }) same;
  }

  pub checkpoint_done : IsStoreStep {A = Unit {0}} d s (Call CheckpointRead) (Ok tt) (read (with_checkpoint c s.jobs))
  checkpoint_done = subst (λ (k : Jobs). IsStoreStep {A = Unit {0}} d s (Call CheckpointRead) (Ok tt) (read k)) jobs_are (looked_done b new rest any_moment places now_run tt makes count read_up)

-- ---- a merge is read

module _ {D : Type 0} {d : Ghosts D} {s : StoreData D} {place : ℕ} (b : Begins d s (Call (MergeRead place))) (new : D) (rest : AllStay (d.content s.disk) (d.content new) (d.may_leave s.disk) (d.may_leave new)) (any_moment : LeavesOnly d.moment d.left_since s.disk new (AllOf (d.may_leave s.disk))) (count : d.fault_count new ≡ d.fault_count s.disk)
    (taken : Option Pair) (taken_is : taken ≡ checkpoint_pair s.jobs) (g : Merging) (safe : IsSafeMerge s.manifest g) (to : IsNewMerge (IsHonest (d.moment new)) (d.content s.disk) s.manifest (files_taken taken) place g) (stands : IsHonest (d.moment new) → IsReadMerge (d.content s.disk) (d.may_leave s.disk) s.manifest g) where
  -- the checkpoint that runs, if one does
  checkpoint_here : (c : Option CheckpointJob) × (s.jobs ≡ Beside c None)
  checkpoint_here = begins_beside_checkpoint s.jobs (none_keeps_merge place s b.none)

  abbrev c : Option CheckpointJob
  c = checkpoint_here.0

  abbrev both_run : Jobs
  both_run = Beside c (Some (Running g))

  abbrev merging : Jobs → StoreData D
  merging jobs = record s { disk = new; jobs = jobs }

  both_are : both_run ≡ with_merge g s.jobs
  both_are = sym (ap (with_merge g) checkpoint_here.1)

  to_both : IsNewMerge (IsHonest (d.moment new)) (d.content s.disk) s.manifest (files_taken (checkpoint_pair (Beside c None))) place g
  to_both = subst (λ (o : Option Pair). IsNewMerge (IsHonest (d.moment new)) (d.content s.disk) s.manifest (files_taken o) place g) (taken_is ∙ ap checkpoint_pair checkpoint_here.1) to

  -- the checkpoint whose segment is read, if one is, is the same
  same_segment : segment_read_of both_run ≡ segment_read_of s.jobs
  same_segment = beside_segment c (Some (Running g)) None ∙ sym (ap segment_read_of checkpoint_here.1)

  both_apart : ShareNone both_run
  both_apart = merge_shares_none s.manifest c g to_both.plan.data_file to_both.plan.delta_file

  both_room : JobsHaveRoom s.places (Beside c None) → JobsHaveRoom s.places both_run
  both_room has = with_merge_all (JobHasRoom s.places) c g tt has

  both_safe : AreSafe s.manifest both_run
  both_safe = with_merge_all (IsSafeWork s.manifest) c g safe (subst (AreSafe s.manifest) checkpoint_here.1 b.sound.safe.jobs)

  merge_up : IsHonest (d.moment new) → (rows : Map) → IsUp d s rows → IsUp d (merging both_run) rows
  merge_up honest rows up = looked_up b new rest rows up s.places both_run (same_changes s.manifest.pairs up.parts.lives s.jobs both_run s.places.at (λ at. merge_changes c (Some (Running g)) None at ∙ ap (λ (k : Jobs). places_so_far (next_installed k) at) (sym checkpoint_here.1)) up.places) (both_room (subst (JobsHaveRoom s.places) checkpoint_here.1 up.room_for))
      (with_merge_all (IsRunning (d.content s.disk) (d.may_leave s.disk) s.manifest up.parts) c g (stands honest up.parts up.places.at up.settled up.places.are) (subst (HaveJobs (d.content s.disk) (d.may_leave s.disk) s.manifest up.parts) checkpoint_here.1 up.jobs)) both_apart (record { pairs = tt; segment = subst (HasSegmentRead s.manifest s.places.at (d.content s.disk (oldest_file s.manifest))) (sym same_segment) up.reading.segment }) count

  -- THE STORE IS SOUND WITH THE MERGE.
  pub merge_sound : IsStoreSound d (merging (with_merge g s.jobs))
  merge_sound = subst (λ (k : Jobs). IsStoreSound d (merging k)) both_are (record {
    safe = stays_safe b.sound.safe new s.places both_run both_safe both_apart (record { pairs = tt; segment = subst (AreSafeSegmentRead s.manifest s.places.at) (sym same_segment) b.sound.safe.reading.segment }) (both_room (subst (JobsHaveRoom s.places) checkpoint_here.1 b.sound.safe.room_for)) count;
    up = λ honest. let now = b.sound.up (any_moment.later.honest honest) in (now.0, merge_up honest now.0 now.1);
  })

  merge_makes : IsReadToMerge d place s (merging both_run)
  merge_makes = record {
    merge = subst (λ (k : Jobs). IsMergeOf (IsHonest (d.moment new)) (d.content s.disk) s.manifest place k both_run) (sym checkpoint_here.1) (record { merge = g; is = refl; read = to_both });
    after = refl;
  }

  pub merge_done : IsStoreStep {A = Unit {0}} d s (Call (MergeRead place)) (Ok tt) (merging (with_merge g s.jobs))
  merge_done = subst (λ (k : Jobs). IsStoreStep {A = Unit {0}} d s (Call (MergeRead place)) (Ok tt) (merging k)) both_are (looked_done b new rest any_moment s.places both_run tt merge_makes count merge_up)
