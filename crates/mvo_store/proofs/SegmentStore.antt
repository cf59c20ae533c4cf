-- A store of which a checkpoint begins to read its segment, or reads or builds a slice of it.
use Rattle.std.proofs.Common.{◌≡◌, ◌≢◌, ◌⊎◌, inl, inr, Bool, true, false, Option, Some, None, Ok, Err, refl, sym, ap, subst, ◌∙◌, arith}
use Rattle.std.specs.Bool.{OnTrue, OnFalse}
use Rattle.std.specs.List.{AllByRecursion}
use Rattle.mvo_types.specs.Keys.{Map}
use Rattle.mvo_types.specs.declared.refusal.Refusal.{Refusal}
use Rattle.mvo_types.specs.declared.refusal.Refusal.TheVariants.{OutOfMemory}
use Rattle.mvo_disk.specs.declared.disk.Disk.{Ghosts}
use Rattle.mvo_disk.specs.Disk.{Image, AllOf, AllStay, LeavesOnly, IsHonest}
use Rattle.mvo_pair.specs.declared.pair.Pair.{Pair}
use Rattle.mvo_pair.specs.Writing.{IsStop, CountsFaults}
use Rattle.mvo_load.specs.Read.{IsMisread}
use Rattle.mvo_manifest.specs.Data.{ManifestData}
use Rattle.mvo_places.specs.Places.{PlaceMap, PlaceTable, ArePlaces}
use Rattle.mvo_store.specs.declared.checkpoint.checkpointing.Checkpointing.{Checkpointing}
use Rattle.mvo_store.specs.declared.checkpoint.reading.CheckpointReading.{CheckpointReading}
use Rattle.mvo_store.specs.declared.checkpoint.reading.CheckpointReading.TheVariants.{Frames, Whole, Pair as PairRead}
use Rattle.mvo_ckpt.specs.declared.building.Built.TheVariants.{More, Ready}
use Rattle.mvo_store.specs.declared.checkpoint.checkpoint_job.CheckpointJob.{CheckpointJob}
use Rattle.mvo_store.specs.declared.checkpoint.checkpoint_job.CheckpointJob.TheVariants.{Reading as Reads, Running as Runs}
use Rattle.mvo_store.specs.declared.merge.merge_job.MergeJob.{MergeJob}
use Rattle.mvo_store.specs.declared.merge.merge_job.MergeJob.TheVariants.{Reading, Running}
use Rattle.mvo_store.specs.declared.jobs.jobs.Jobs.{Jobs}
use Rattle.mvo_store.specs.declared.jobs.jobs.Jobs.TheVariants.{Beside}
use Rattle.mvo_store.specs.StoreData.{StoreData}
use Rattle.mvo_store.specs.Files.{files_taken}
use Rattle.mvo_store.specs.Jobs.{Job, jobs_of, reading_of, segment_read_of, next_installed, with_segment_read, without_segment_read, merge_pair}
use Rattle.mvo_store.specs.Planning.{IsStoppedBeside}
use Rattle.mvo_store.specs.PairsRead.{IsSafeReading, HasReading}
use Rattle.mvo_store.specs.Reading.{AreSafeReadings, HaveReadings}
use Rattle.mvo_store.specs.SegmentRead.{oldest_file, IsSafeSegmentRead, AreSafeSegmentRead, IsSegmentRead, HasSegmentRead, IsSegmentBegun, IsBeingBuiltOf}
use Rattle.mvo_store.specs.SegmentSlices.{IsSegmentSlice, IsSegmentBeside, AreSegmentReadTo, AreKeptOrLetGo}
use Rattle.mvo_store.specs.Placing.{places_so_far}
use Rattle.mvo_store.specs.Safe.{IsSafeWork, AreSafe, IsStoreSound}
use Rattle.mvo_store.specs.Standing.{IsRunning, HaveJobs, ShareNone, JobsHaveRoom, JobHasRoom, IsUp}
use Rattle.mvo_store.specs.Steps.{ComesOfSegment, IsSegmentReadOn, IsBegunSegment, IsPlannedRead}
use Rattle.mvo_store.specs.Calls.{StoreStep, HasBegunSegment, HasReadSegmentOn, HasLooked, HasLetPairGo, LeavesSegmentRead, IsStoreStep}
use Rattle.mvo_store.specs.Calls.StoreStep.{CheckpointBegin, CheckpointReadOn, CheckpointForget}
use Rattle.mvo_store.proofs.Keeping.{OnlyNow, CountsNow, Begins, none_keeps_checkpoint, may_read_segment, stays_up, stays_safe, slots_as, still_leaves, all_others, looked_step, done_step}
use Rattle.mvo_store.proofs.Turning.{is_segment, begins_beside_merge}
use Rattle.mvo_store.proofs.Changes.{same_changes, as_they_are, checkpoint_changes, beside_reads}
use Rattle.mvo_store.proofs.Beginning.{checkpoint_shares_none, with_checkpoint_all, merge_room}
use Rattle.mvo_store.proofs.Looks.{looked_up, looked_done, looks_leave, looked_refused, refused_still}

-- ---- a checkpoint whose segment is read

-- shares no file
share_segment : (r : CheckpointReading) (g : Option MergeJob) → ShareNone (Beside (Some (Reads r)) g)
share_segment r g = tt

share_merge : (g : Option MergeJob) → ShareNone (Beside None g)
share_merge g = tt

-- and is none of those that hold of each job
segment_all : (P : Job → Type 0) (r : CheckpointReading) (g : Option MergeJob) → AllByRecursion P (jobs_of (Beside None g)) → AllByRecursion P (jobs_of (Beside (Some (Reads r)) g))
segment_all P r g all = all

pair_beside : (c d : Option CheckpointJob) (g : Option MergeJob) → merge_pair (Beside c g) ≡ merge_pair (Beside d g)
pair_beside c d None = refl
pair_beside c d (Some (Reading r)) = refl
pair_beside c d (Some (Running g)) = refl

-- ---- it begins

module _ {D : Type 0} {d : Ghosts D} {s : StoreData D} (b : Begins d s CheckpointBegin) (new : D) (rest : AllStay (d.content s.disk) (d.content new) (d.may_leave s.disk) (d.may_leave new)) (any_moment : LeavesOnly d.moment d.left_since s.disk new (AllOf (d.may_leave s.disk))) (count : d.fault_count new ≡ d.fault_count s.disk)
    (r : CheckpointReading) (safe : (at : PlaceMap) → IsSafeSegmentRead s.manifest at r) (begun : IsSegmentBegun s.manifest r) (stands : IsHonest (d.moment new) → (at : PlaceMap) → IsSegmentRead s.manifest at (d.content s.disk (oldest_file s.manifest)) r) where
  -- the merge that runs, if one does
  merge_here : (g : Option MergeJob) × (s.jobs ≡ Beside None g)
  merge_here = begins_beside_merge s.jobs (none_keeps_checkpoint s b.none)

  abbrev g : Option MergeJob
  g = merge_here.0

  abbrev both_run : Jobs
  both_run = Beside (Some (Reads r)) g

  abbrev reading : Jobs → StoreData D
  reading jobs = record s { disk = new; jobs = jobs }

  both_are : both_run ≡ with_segment_read r s.jobs
  both_are = sym (ap (with_segment_read r) merge_here.1)

  -- the merge whose pairs are read, if one is, is the same
  same_reading : reading_of both_run ≡ reading_of s.jobs
  same_reading = beside_reads (Some (Reads r)) None g ∙ sym (ap reading_of merge_here.1)

  reading_up : IsHonest (d.moment new) → (rows : Map) → IsUp d s rows → IsUp d (reading both_run) rows
  reading_up honest rows up = looked_up b new rest rows up s.places both_run
      (same_changes s.manifest.pairs up.parts.lives s.jobs both_run s.places.at (λ at. ap (λ (k : Jobs). places_so_far (next_installed k) at) (sym merge_here.1)) up.places)
      (subst (JobsHaveRoom s.places) merge_here.1 up.room_for)
      (subst (HaveJobs (d.content s.disk) (d.may_leave s.disk) s.manifest up.parts) merge_here.1 up.jobs) (share_segment r g)
      (record { pairs = subst (HasReading (d.content s.disk) s.manifest) (sym same_reading) up.reading.pairs; segment = stands honest s.places.at }) count

  -- THE STORE IS SOUND WITH THE READING.
  pub begun_sound : IsStoreSound d (reading (with_segment_read r s.jobs))
  begun_sound = subst (λ (k : Jobs). IsStoreSound d (reading k)) both_are (record {
    safe = stays_safe b.sound.safe new s.places both_run (subst (AreSafe s.manifest) merge_here.1 b.sound.safe.jobs) (share_segment r g)
        (record { pairs = subst (IsSafeReading s.manifest) (sym same_reading) b.sound.safe.reading.pairs; segment = safe s.places.at }) (subst (JobsHaveRoom s.places) merge_here.1 b.sound.safe.room_for) count;
    up = λ honest. let now = b.sound.up (any_moment.later.honest honest) in (now.0, reading_up honest now.0 now.1);
  })

  begun_makes : HasBegunSegment s (reading both_run)
  begun_makes = record {
    checkpoint = subst (λ (k : Jobs). IsBegunSegment s.manifest k both_run) (sym merge_here.1) (record { reading = r; is = refl; begun = begun });
    after = refl;
  }

  pub begun_done : IsStoreStep {A = Unit {0}} d s CheckpointBegin (Ok tt) (reading (with_segment_read r s.jobs))
  begun_done = subst (λ (k : Jobs). IsStoreStep {A = Unit {0}} d s CheckpointBegin (Ok tt) (reading k)) both_are (looked_done b new rest any_moment s.places both_run tt begun_makes count reading_up)

-- ---- a slice

module _ {D : Type 0} {d : Ghosts D} {s : StoreData D} (b : Begins d s CheckpointReadOn) where
  -- the checkpoint whose segment is read, and the merge that runs, if one does
  segment_here : (r : CheckpointReading) × (g : Option MergeJob) × (s.jobs ≡ Beside (Some (Reads r)) g)
  segment_here = is_segment s.jobs (may_read_segment s b.none)

  -- where it changes none, the places are those of the live records
  pub free_here : (rows : Map) (up : IsUp d s rows) → ArePlaces s.manifest.pairs up.parts.lives s.places.at
  free_here rows up =
      let so : s.places.at ≡ up.places.at = up.places.so_far ∙ ap (λ (k : Jobs). places_so_far (next_installed k) up.places.at) segment_here.2 in
      subst (λ (at : PlaceMap). ArePlaces s.manifest.pairs up.parts.lives at) (sym so) up.places.are

-- what safety needs of what is read, and what stands of it
pub segment_safe : {D : Type 0} {d : Ghosts D} {s : StoreData D} (b : Begins d s CheckpointReadOn) → AreSafeSegmentRead s.manifest s.places.at (segment_read_of s.jobs)
segment_safe b = b.sound.safe.reading.segment

pub segment_stands : {D : Type 0} {d : Ghosts D} {s : StoreData D} (b : Begins d s CheckpointReadOn) → IsHonest (d.moment s.disk) → HasSegmentRead s.manifest s.places.at (d.content s.disk (oldest_file s.manifest)) (segment_read_of s.jobs)
segment_stands b honest = (b.sound.up honest).1.reading.segment

-- what is said of other files that are taken
planned_with : (honest : Type 0) (content : Image) (m : ManifestData) (taken other : Option Pair) (r : CheckpointReading) (c : Checkpointing) → taken ≡ other → IsPlannedRead honest content m (files_taken taken) r c → IsPlannedRead honest content m (files_taken other) r c
planned_with honest content m taken other r c same h = subst (λ (o : Option Pair). IsPlannedRead honest content m (files_taken o) r c) same h

module _ {D : Type 0} {d : Ghosts D} {s : StoreData D} (b : Begins d s CheckpointReadOn) (new : D) (rest : AllStay (d.content s.disk) (d.content new) (d.may_leave s.disk) (d.may_leave new)) (any_moment : LeavesOnly d.moment d.left_since s.disk new (AllOf (d.may_leave s.disk))) (count : d.fault_count new ≡ d.fault_count s.disk) where
  abbrev honest : Type 0
  honest = IsHonest (d.moment new)

  read_here : (r : CheckpointReading) × (g : Option MergeJob) × (s.jobs ≡ Beside (Some (Reads r)) g)
  read_here = segment_here b

  abbrev from : CheckpointReading
  from = read_here.0

  abbrev running : Option MergeJob
  running = read_here.1

  read_safe : IsSafeSegmentRead s.manifest s.places.at from
  read_safe = subst (AreSafeSegmentRead s.manifest s.places.at) (ap segment_read_of read_here.2) b.sound.safe.reading.segment

  module _ (taken : Option Pair) (taken_is : taken ≡ merge_pair s.jobs) (places : PlaceTable) (same : places.at ≡ s.places.at) (jobs : Jobs) (to : AreSegmentReadTo (IsHonest (d.moment new)) (d.content s.disk) (d.may_leave s.disk) s.manifest s.places.at places.room (files_taken taken) s.jobs jobs) where
    slice : IsSegmentBeside honest (d.content s.disk) (d.may_leave s.disk) s.manifest s.places.at places.room (files_taken taken) running from jobs
    slice = subst (λ (k : Jobs). AreSegmentReadTo honest (d.content s.disk) (d.may_leave s.disk) s.manifest s.places.at places.room (files_taken taken) k jobs) read_here.2 to

    taken_here : taken ≡ merge_pair (Beside None running)
    taken_here = taken_is ∙ ap merge_pair read_here.2 ∙ pair_beside (Some (Reads from)) None running

    abbrev To : CheckpointJob → Type 0
    To j = IsSegmentSlice honest (d.content s.disk) (d.may_leave s.disk) s.manifest s.places.at places.room (files_taken taken) from j

    same_pairs : (j : CheckpointJob) → reading_of (Beside (Some j) running) ≡ reading_of s.jobs
    same_pairs j = beside_reads (Some j) (Some (Reads from)) running ∙ sym (ap reading_of read_here.2)

    -- the jobs, whichever the checkpoint is
    others_safe : AreSafe s.manifest (Beside None running)
    others_safe = subst (AreSafe s.manifest) read_here.2 b.sound.safe.jobs

    now_safe : (j : CheckpointJob) → To j → AreSafe s.manifest (Beside (Some j) running)
    now_safe (Reads n) h = others_safe
    now_safe (Runs c) h = with_checkpoint_all (IsSafeWork s.manifest) c running h.safe others_safe

    planned_here : (c : Checkpointing) → To (Runs c) → IsPlannedRead honest (d.content s.disk) s.manifest (files_taken (merge_pair (Beside None running))) from c
    planned_here c h = planned_with honest (d.content s.disk) s.manifest taken (merge_pair (Beside None running)) from c taken_here h.read

    now_apart : (j : CheckpointJob) → To j → ShareNone (Beside (Some j) running)
    now_apart (Reads n) h = share_segment n running
    now_apart (Runs c) h = let read = planned_here c h in checkpoint_shares_none s.manifest c running read.some.plan.data_file read.some.plan.delta_file

    safe_segment : (j : CheckpointJob) → To j → AreSafeSegmentRead s.manifest places.at (segment_read_of (Beside (Some j) running))
    safe_segment (Reads n) h = subst (λ (at : PlaceMap). IsSafeSegmentRead s.manifest at n) (sym same) (record { may = read_safe.may; read = h.safe })
    safe_segment (Runs c) h = tt

    now_reading : (j : CheckpointJob) → To j → AreSafeReadings s.manifest places.at (Beside (Some j) running)
    now_reading j h = record { pairs = subst (IsSafeReading s.manifest) (sym (same_pairs j)) b.sound.safe.reading.pairs; segment = safe_segment j h }

    now_room : (j : CheckpointJob) → To j → JobsHaveRoom places (Beside (Some j) running)
    now_room (Reads n) h = merge_room places running
    now_room (Runs c) h = with_checkpoint_all (JobHasRoom places) c running (omega (arith, h.fits)) (merge_room places running)

    now_stand : honest → (rows : Map) (up : IsUp d s rows) (j : CheckpointJob) → To j → HaveJobs (d.content s.disk) (d.may_leave s.disk) s.manifest up.parts (Beside (Some j) running)
    now_stand now rows up (Reads n) h = subst (HaveJobs (d.content s.disk) (d.may_leave s.disk) s.manifest up.parts) read_here.2 up.jobs
    now_stand now rows up (Runs c) h =
        with_checkpoint_all (IsRunning (d.content s.disk) (d.may_leave s.disk) s.manifest up.parts) c running (h.stands now up.parts up.settled (free_here b rows up))
        (subst (HaveJobs (d.content s.disk) (d.may_leave s.disk) s.manifest up.parts) read_here.2 up.jobs)

    has_segment : honest → (j : CheckpointJob) → To j → HasSegmentRead s.manifest places.at (d.content s.disk (oldest_file s.manifest)) (segment_read_of (Beside (Some j) running))
    has_segment now (Reads n) h = subst (λ (at : PlaceMap). IsSegmentRead s.manifest at (d.content s.disk (oldest_file s.manifest)) n) (sym same) (record { sealed = read_safe.may.sealed; read = h.of now })
    has_segment now (Runs c) h = tt

    now_has : honest → (rows : Map) → IsUp d s rows → (j : CheckpointJob) → To j → HaveReadings (d.content s.disk) s.manifest places.at (Beside (Some j) running)
    now_has now rows up j h = record {
      pairs = subst (HasReading (d.content s.disk) s.manifest) (sym (same_pairs j)) up.reading.pairs;
      segment = has_segment now j h;
    }

    no_changes : (j : CheckpointJob) → To j → (at : PlaceMap) → places_so_far (next_installed (Beside (Some j) running)) at ≡ at
    no_changes (Reads n) h at = refl
    no_changes (Runs c) h at = checkpoint_changes c running at h.read.some.plan.unplaced

    now_to : (j : CheckpointJob) → To j → ComesOfSegment honest (d.content s.disk) s.manifest (files_taken (merge_pair (Beside None running))) from j
    now_to (Reads n) h = h.next
    now_to (Runs c) h = planned_here c h

    abbrev after : Jobs → StoreData D
    after k = record s { disk = new; places = places; jobs = k }

    abbrev runs_now : Jobs
    runs_now = Beside (Some slice.checkpoint) running

    read_up : IsHonest (d.moment new) → (rows : Map) → IsUp d s rows → IsUp d (after runs_now) rows
    read_up now rows up = looked_up b new rest rows up places runs_now
        (as_they_are s.manifest.pairs up.parts.lives runs_now places.at (no_changes slice.checkpoint slice.to) (subst (λ (at : PlaceMap). ArePlaces s.manifest.pairs up.parts.lives at) (sym same) (free_here b rows up)))
        (now_room slice.checkpoint slice.to) (now_stand now rows up slice.checkpoint slice.to) (now_apart slice.checkpoint slice.to) (now_has now rows up slice.checkpoint slice.to) count

    -- THE STORE IS SOUND WITH THE SLICE.
    pub read_sound : IsStoreSound d (after jobs)
    read_sound = subst (λ (k : Jobs). IsStoreSound d (after k)) (sym slice.is) (record {
      safe = stays_safe b.sound.safe new places runs_now (now_safe slice.checkpoint slice.to) (now_apart slice.checkpoint slice.to) (now_reading slice.checkpoint slice.to) (now_room slice.checkpoint slice.to) count;
      up = λ now. let was = b.sound.up (any_moment.later.honest now) in (was.0, read_up now was.0 was.1);
    })

    read_makes : HasReadSegmentOn d s (after runs_now)
    read_makes = record {
      checkpoint = subst (λ (k : Jobs). IsSegmentReadOn honest (d.content s.disk) s.manifest k runs_now) (sym read_here.2) (record { checkpoint = slice.checkpoint; is = refl; read = now_to slice.checkpoint slice.to });
      after = ap (λ (at : PlaceMap). record s { disk = new; places = record { at = at; room = places.room }; jobs = runs_now }) same;
    }

    pub read_done : {A : Type 0} (a : A) → IsStoreStep {A = A} d s CheckpointReadOn (Ok a) (after jobs)
    read_done {A} a = subst (λ (k : Jobs). IsStoreStep {A = A} d s CheckpointReadOn (Ok a) (after k)) (sym slice.is) (looked_done b new rest any_moment places runs_now a read_makes count read_up)

-- ---- what is left for want of memory

module _ {D : Type 0} {d : Ghosts D} {s t : StoreData D} where
  -- it is as it was, unless its pair is being built
  left_kept : (o : Option CheckpointReading) → (IsBeingBuiltOf o → ⊥) → HasLooked d s t → LeavesSegmentRead d o s t
  left_kept None not h = h
  left_kept (Some (Frames r)) not h = h
  left_kept (Some (Whole r)) not h = h
  left_kept (Some (PairRead mark (Ready c))) not h = h
  left_kept (Some (PairRead mark (More b))) not h = absurd (not tt)

  -- and then it is let go
  left_gone : (o : Option CheckpointReading) → IsBeingBuiltOf o → HasLetPairGo d s t → LeavesSegmentRead d o s t
  left_gone None was h = absurd was
  left_gone (Some (Frames r)) was h = absurd was
  left_gone (Some (Whole r)) was h = absurd was
  left_gone (Some (PairRead mark (Ready c))) was h = absurd was
  left_gone (Some (PairRead mark (More b))) was h = h

-- ---- it runs no longer

module _ {D : Type 0} {d : Ghosts D} {s : StoreData D} {call : StoreStep} (b : Begins d s call) (r : CheckpointReading) (g : Option MergeJob) (is : s.jobs ≡ Beside (Some (Reads r)) g) (new : D) (rest : AllStay (d.content s.disk) (d.content new) (d.may_leave s.disk) (d.may_leave new)) (any_moment : LeavesOnly d.moment d.left_since s.disk new (AllOf (d.may_leave s.disk))) (count : d.fault_count new ≡ d.fault_count s.disk) where
  abbrev left : Jobs
  left = Beside None g

  abbrev left_with : Jobs → StoreData D
  left_with k = record s { disk = new; jobs = k }

  left_is : left ≡ without_segment_read s.jobs
  left_is = sym (ap without_segment_read is)

  same_left : reading_of left ≡ reading_of s.jobs
  same_left = beside_reads None (Some (Reads r)) g ∙ sym (ap reading_of is)

  left_up : (rows : Map) → IsUp d s rows → IsUp d (left_with left) rows
  left_up rows up = looked_up b new rest rows up s.places left
      (same_changes s.manifest.pairs up.parts.lives s.jobs left s.places.at (λ at. ap (λ (k : Jobs). places_so_far (next_installed k) at) (sym is)) up.places)
      (subst (JobsHaveRoom s.places) is up.room_for)
      (subst (HaveJobs (d.content s.disk) (d.may_leave s.disk) s.manifest up.parts) is up.jobs) (share_merge g)
      (record { pairs = subst (HasReading (d.content s.disk) s.manifest) (sym same_left) up.reading.pairs; segment = tt }) count

  -- THE STORE IS SOUND without it.
  pub left_sound : IsStoreSound d (left_with (without_segment_read s.jobs))
  left_sound = subst (λ (k : Jobs). IsStoreSound d (left_with k)) left_is (record {
    safe = stays_safe b.sound.safe new s.places left (subst (AreSafe s.manifest) is b.sound.safe.jobs) (share_merge g)
        (record { pairs = subst (IsSafeReading s.manifest) (sym same_left) b.sound.safe.reading.pairs; segment = tt }) (subst (JobsHaveRoom s.places) is b.sound.safe.room_for) count;
    up = λ honest. let now = b.sound.up (any_moment.later.honest honest) in (now.0, left_up now.0 now.1);
  })

-- where its pair is let go
module _ {D : Type 0} {d : Ghosts D} {s : StoreData D} (b : Begins d s CheckpointReadOn) (was : IsBeingBuiltOf (segment_read_of s.jobs)) (new : D) (rest : AllStay (d.content s.disk) (d.content new) (d.may_leave s.disk) (d.may_leave new)) (any_moment : LeavesOnly d.moment d.left_since s.disk new (AllOf (d.may_leave s.disk))) (count : d.fault_count new ≡ d.fault_count s.disk) where
  here : (r : CheckpointReading) × (g : Option MergeJob) × (s.jobs ≡ Beside (Some (Reads r)) g)
  here = segment_here b

  pub let_go_sound : IsStoreSound d (record s { disk = new; jobs = without_segment_read s.jobs })
  let_go_sound = left_sound b here.0 here.1 here.2 new rest any_moment count

  pub let_go_step : {A : Type 0} → IsStoreStep {A = A} d s CheckpointReadOn (Err OutOfMemory) (record s { disk = new; jobs = without_segment_read s.jobs })
  let_go_step = looked_step b (record s { disk = new; jobs = without_segment_read s.jobs }) any_moment.later.honest (λ _. looks_leave b new rest any_moment)
      (λ _ rows up. slots_as (d.content s.disk) (d.content new) (rest.content 0) (rest.content 1)) (all_others d CheckpointReadOn s (record s { disk = new; jobs = without_segment_read s.jobs }) rest)
      (inl refl) (left_gone (segment_read_of s.jobs) was (record { after = refl; no_fault = count }))
      (λ _ rows up. subst (λ (k : Jobs). IsUp d (record s { disk = new; jobs = k }) rows) (left_is b here.0 here.1 here.2 new rest any_moment count) (left_up b here.0 here.1 here.2 new rest any_moment count rows up))

-- and where it is forgotten
module _ {D : Type 0} {d : Ghosts D} {s : StoreData D} (b : Begins d s CheckpointForget) where
  forgets : (r : CheckpointReading) × (g : Option MergeJob) × (s.jobs ≡ Beside (Some (Reads r)) g)
  forgets = is_segment s.jobs (may_read_segment s b.none)

  abbrev all_stay : AllStay (d.content s.disk) (d.content s.disk) (d.may_leave s.disk) (d.may_leave s.disk)
  all_stay = record { content = λ n. refl; images = λ n c left. left; keeps = λ n c left. left }

  kept_pairs : reading_of (Beside None forgets.1) ≡ reading_of s.jobs
  kept_pairs = beside_reads None (Some (Reads forgets.0)) forgets.1 ∙ sym (ap reading_of forgets.2)

  kept_up : (rows : Map) → IsUp d s rows → IsUp d (record s { jobs = Beside None forgets.1 }) rows
  kept_up rows up = stays_up d s rows up s.disk s.places (Beside None forgets.1) up.settled refl (λ n _. refl)
      (subst (HaveJobs (d.content s.disk) (d.may_leave s.disk) s.manifest up.parts) forgets.2 up.jobs) (share_merge forgets.1)
      (record { pairs = subst (HasReading (d.content s.disk) s.manifest) (sym kept_pairs) up.reading.pairs; segment = tt })
      (same_changes s.manifest.pairs up.parts.lives s.jobs (Beside None forgets.1) s.places.at (λ at. ap (λ (k : Jobs). places_so_far (next_installed k) at) (sym forgets.2)) up.places)
      (subst (JobsHaveRoom s.places) forgets.2 up.room_for) refl

  kept_is : Beside None forgets.1 ≡ without_segment_read s.jobs
  kept_is = sym (ap without_segment_read forgets.2)

  pub forgotten_segment_sound : IsStoreSound d (record s { jobs = without_segment_read s.jobs })
  forgotten_segment_sound = subst (λ (k : Jobs). IsStoreSound d (record s { jobs = k })) kept_is (record {
    safe = stays_safe b.sound.safe s.disk s.places (Beside None forgets.1) (subst (AreSafe s.manifest) forgets.2 b.sound.safe.jobs) (share_merge forgets.1)
        (record { pairs = subst (IsSafeReading s.manifest) (sym kept_pairs) b.sound.safe.reading.pairs; segment = tt }) (subst (JobsHaveRoom s.places) forgets.2 b.sound.safe.room_for) refl;
    up = λ honest. let now = b.sound.up honest in (now.0, kept_up now.0 now.1);
  })

  pub forgotten_segment_done : OnlyNow d → IsStoreStep {A = Unit {0}} d s CheckpointForget (Ok tt) (record s { jobs = without_segment_read s.jobs })
  forgotten_segment_done only_now = subst (λ (k : Jobs). IsStoreStep {A = Unit {0}} d s CheckpointForget (Ok tt) (record s { jobs = k })) kept_is (done_step b (record s { jobs = Beside None forgets.1 }) (λ honest. honest) (λ _. still_leaves d only_now s) (λ _ rows up slots. slots)
      (all_others d CheckpointForget s (record s { jobs = Beside None forgets.1 }) all_stay) tt
      (ap (λ (k : Jobs). record s { jobs = k }) kept_is) refl (λ _. kept_up))

-- ---- a slice is refused

module _ {D : Type 0} {d : Ghosts D} {s : StoreData D} (b : Begins d s CheckpointReadOn) (new : D) (rest : AllStay (d.content s.disk) (d.content new) (d.may_leave s.disk) (d.may_leave new)) (any_moment : LeavesOnly d.moment d.left_since s.disk new (AllOf (d.may_leave s.disk))) (e : Refusal) (count : CountsFaults {X = Unit {0}} (d.fault_count s.disk) (d.fault_count new) (Err e)) where
  abbrev refused_with : Jobs → Bool → StoreData D
  refused_with k down = record s { disk = new; jobs = k; down = down }

  no_fault : e ≡ OutOfMemory → d.fault_count new ≡ d.fault_count s.disk
  no_fault is = subst (λ (k : Refusal). CountsFaults {X = Unit {0}} (d.fault_count s.disk) (d.fault_count new) (Err k)) is count

  still_up : (k : Jobs) → ◌≡◌ {A = StoreData D} (record s { disk = new; jobs = k }) (refused_with k false)
  still_up k = ap (λ (down : Bool). record s { disk = new; jobs = k; down = down }) b.up

  -- it is as it was, or its pair is let go
  pub slice_refused : {A : Type 0} → CountsNow d → IsStop e ⊎ IsMisread e → (IsHonest (d.moment new) → IsStoppedBeside (d.content s.disk) (d.may_leave s.disk) s.manifest s.places.at e) → (jobs : Jobs) → AreKeptOrLetGo e s.jobs jobs → (down : Bool) → OnTrue down (e ≢ OutOfMemory) → OnFalse down (e ≡ OutOfMemory) → IsStoreStep {A = A} d s CheckpointReadOn (Err e) (refused_with jobs down)
  slice_refused {A} counts_now why stop jobs (inl same) down ne is =
      subst (λ (k : Jobs). IsStoreStep {A = A} d s CheckpointReadOn (Err e) (refused_with k down)) (sym same.0)
      (looked_refused b new rest any_moment counts_now e (inl refl) (inr (inl refl)) (λ broken. inr (inr broken)) (λ n. left_kept (segment_read_of s.jobs) same.1 (record { after = refl; no_fault = n })) count why (λ honest rows up. stop honest up.parts up.settled (free_here b rows up)) down ne is)
  slice_refused counts_now why stop jobs (inr gone) true ne is = absurd (ne gone.0)
  slice_refused {A} counts_now why stop jobs (inr gone) false ne is =
      subst (λ (k : Jobs). IsStoreStep {A = A} d s CheckpointReadOn (Err e) (refused_with k false)) (sym gone.2)
      (subst (λ (k : Refusal). IsStoreStep {A = A} d s CheckpointReadOn (Err k) (refused_with (without_segment_read s.jobs) false)) (sym gone.0)
      (subst (λ (t : StoreData D). IsStoreStep {A = A} d s CheckpointReadOn (Err OutOfMemory) t) (still_up (without_segment_read s.jobs)) (let_go_step b gone.1 new rest any_moment (no_fault gone.0))))

  pub slice_still : (jobs : Jobs) → AreKeptOrLetGo e s.jobs jobs → (down : Bool) → OnFalse down (e ≡ OutOfMemory) → down ≡ false → IsStoreSound d (refused_with jobs down)
  slice_still jobs (inl same) down is up = subst (λ (k : Jobs). IsStoreSound d (refused_with k down)) (sym same.0) (refused_still b new rest any_moment e count down is up)
  slice_still jobs (inr gone) true is up = absurd (cc up)
  slice_still jobs (inr gone) false is up =
      subst (λ (k : Jobs). IsStoreSound d (refused_with k false)) (sym gone.2)
      (subst (λ (t : StoreData D). IsStoreSound d t) (still_up (without_segment_read s.jobs)) (let_go_sound b gone.1 new rest any_moment (no_fault gone.0)))
