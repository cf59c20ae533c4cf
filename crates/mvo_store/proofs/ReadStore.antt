-- A store of which a merge begins to read its two pairs, or reads a slice of them.
use Rattle.std.proofs.Common.{◌≡◌, ℕ, Option, Some, None, Ok, refl, sym, ap, subst, ◌∙◌}
use Rattle.std.specs.List.{AllByRecursion}
use Rattle.mvo_types.specs.Keys.{Map}
use Rattle.mvo_disk.specs.declared.disk.Disk.{Ghosts}
use Rattle.mvo_disk.specs.Disk.{Image, AllOf, AllStay, LeavesOnly, IsHonest}
use Rattle.mvo_pair.specs.declared.pair.Pair.{Pair}
use Rattle.mvo_manifest.specs.Data.{ManifestData}
use Rattle.mvo_places.specs.Places.{PlaceTable}
use Rattle.mvo_store.specs.declared.checkpoint.checkpoint_job.CheckpointJob.{CheckpointJob}
use Rattle.mvo_store.specs.declared.checkpoint.checkpoint_job.CheckpointJob.TheVariants.{Reading as Reads, Running as Runs}
use Rattle.mvo_store.specs.declared.merge.merging.Merging.{Merging}
use Rattle.mvo_store.specs.declared.merge.reading.MergeReading.{MergeReading}
use Rattle.mvo_store.specs.declared.merge.merge_job.MergeJob.{MergeJob}
use Rattle.mvo_store.specs.declared.merge.merge_job.MergeJob.TheVariants.{Reading, Running}
use Rattle.mvo_store.specs.declared.jobs.jobs.Jobs.{Jobs}
use Rattle.mvo_store.specs.declared.jobs.jobs.Jobs.TheVariants.{Beside}
use Rattle.mvo_store.specs.StoreData.{StoreData}
use Rattle.mvo_store.specs.Files.{files_taken}
use Rattle.mvo_store.specs.Jobs.{Job, jobs_of, reading_of, segment_read_of, next_installed, with_reading, checkpoint_pair}
use Rattle.mvo_store.specs.MergePlanning.{IsMergeRead}
use Rattle.mvo_store.specs.PairsRead.{IsSafeRead, IsSafeReading, IsReadFrom, HasReading, IsReadingOf}
use Rattle.mvo_store.specs.Reading.{AreSafeReadings, HaveReadings}
use Rattle.mvo_store.specs.SegmentRead.{oldest_file, AreSafeSegmentRead, HasSegmentRead}
use Rattle.mvo_store.proofs.Segments.{beside_segment}
use Rattle.mvo_store.specs.ReadSlices.{IsReadBeside, IsSliceTo, IsSliceBeside, AreReadTo}
use Rattle.mvo_store.specs.Placing.{places_so_far}
use Rattle.mvo_store.specs.Safe.{IsSafeWork, AreSafe, IsStoreSound}
use Rattle.mvo_store.specs.Standing.{IsRunning, HaveJobs, ShareNone, JobsHaveRoom, JobHasRoom, IsUp}
use Rattle.mvo_store.specs.Steps.{ComesOfReading, IsMergeReadOn, IsBegunReading}
use Rattle.mvo_store.specs.Calls.{HasBegunReading, HasReadOn, IsStoreStep}
use Rattle.mvo_store.specs.Calls.StoreStep.{MergeBegin, MergeReadOn}
use Rattle.mvo_store.proofs.Keeping.{Begins, none_keeps_merge, may_read_on, stays_safe}
use Rattle.mvo_store.proofs.Turning.{is_read, begins_beside_checkpoint}
use Rattle.mvo_store.proofs.Changes.{same_changes, merge_changes}
use Rattle.mvo_store.proofs.Beginning.{merge_shares_none, with_merge_all}
use Rattle.mvo_store.proofs.Looks.{looked_up, looked_done}

-- a merge whose pairs are read shares no file
share_reading : (c : Option CheckpointJob) (g : MergeReading) → ShareNone (Beside c (Some (Reading g)))
share_reading None g = tt
share_reading (Some (Reads r)) g = tt
share_reading (Some (Runs c)) g = tt

-- ---- it begins

module _ {D : Type 0} {d : Ghosts D} {s : StoreData D} {place : ℕ} (b : Begins d s (MergeBegin place)) (new : D) (rest : AllStay (d.content s.disk) (d.content new) (d.may_leave s.disk) (d.may_leave new)) (any_moment : LeavesOnly d.moment d.left_since s.disk new (AllOf (d.may_leave s.disk))) (count : d.fault_count new ≡ d.fault_count s.disk)
    (g : MergeReading) (safe : IsSafeRead s.manifest g) (begun : IsReadingOf s.manifest place g) (stands : IsHonest (d.moment new) → IsReadBeside (d.content s.disk) (d.may_leave s.disk) s.manifest g) where
  -- the checkpoint that runs, if one does
  checkpoint_here : (c : Option CheckpointJob) × (s.jobs ≡ Beside c None)
  checkpoint_here = begins_beside_checkpoint s.jobs (none_keeps_merge place s b.none)

  abbrev c : Option CheckpointJob
  c = checkpoint_here.0

  abbrev both_run : Jobs
  both_run = Beside c (Some (Reading g))

  abbrev reading : Jobs → StoreData D
  reading jobs = record s { disk = new; jobs = jobs }

  both_are : both_run ≡ with_reading g s.jobs
  both_are = sym (ap (with_reading g) checkpoint_here.1)

  -- the checkpoint whose segment is read, if one is, is the same
  same_segment : segment_read_of both_run ≡ segment_read_of s.jobs
  same_segment = beside_segment c (Some (Reading g)) None ∙ sym (ap segment_read_of checkpoint_here.1)

  reading_up : IsHonest (d.moment new) → (rows : Map) → IsUp d s rows → IsUp d (reading both_run) rows
  reading_up honest rows up = looked_up b new rest rows up s.places both_run
      (same_changes s.manifest.pairs up.parts.lives s.jobs both_run s.places.at (λ at. merge_changes c (Some (Reading g)) None at ∙ ap (λ (k : Jobs). places_so_far (next_installed k) at) (sym checkpoint_here.1)) up.places)
      (subst (JobsHaveRoom s.places) checkpoint_here.1 up.room_for)
      (subst (HaveJobs (d.content s.disk) (d.may_leave s.disk) s.manifest up.parts) checkpoint_here.1 up.jobs) (share_reading c g)
      (record { pairs = stands honest up.parts up.places.at up.settled up.places.are; segment = subst (HasSegmentRead s.manifest s.places.at (d.content s.disk (oldest_file s.manifest))) (sym same_segment) up.reading.segment }) count

  -- THE STORE IS SOUND WITH THE READING.
  pub begun_sound : IsStoreSound d (reading (with_reading g s.jobs))
  begun_sound = subst (λ (k : Jobs). IsStoreSound d (reading k)) both_are (record {
    safe = stays_safe b.sound.safe new s.places both_run (subst (AreSafe s.manifest) checkpoint_here.1 b.sound.safe.jobs) (share_reading c g) (record { pairs = safe; segment = subst (AreSafeSegmentRead s.manifest s.places.at) (sym same_segment) b.sound.safe.reading.segment }) (subst (JobsHaveRoom s.places) checkpoint_here.1 b.sound.safe.room_for) count;
    up = λ honest. let now = b.sound.up (any_moment.later.honest honest) in (now.0, reading_up honest now.0 now.1);
  })

  begun_makes : HasBegunReading place s (reading both_run)
  begun_makes = record {
    merge = subst (λ (k : Jobs). IsBegunReading s.manifest place k both_run) (sym checkpoint_here.1) (record { reading = g; is = refl; begun = begun });
    after = refl;
  }

  pub begun_done : IsStoreStep {A = Unit {0}} d s (MergeBegin place) (Ok tt) (reading (with_reading g s.jobs))
  begun_done = subst (λ (k : Jobs). IsStoreStep {A = Unit {0}} d s (MergeBegin place) (Ok tt) (reading k)) both_are (looked_done b new rest any_moment s.places both_run tt begun_makes count reading_up)

-- ---- a slice

-- what is said where more is known
weaker_read : (H K : Type 0) (content : Image) (m : ManifestData) (taken other : Option Pair) (r : MergeReading) (g : Merging) → taken ≡ other → (K → H) → IsMergeRead H content m (files_taken taken) r g → IsMergeRead K content m (files_taken other) r g
weaker_read H K content m taken other r g same so h = subst (λ (o : Option Pair). IsMergeRead K content m (files_taken o) r g) same (record {
  left_is = h.left_is;
  right_is = h.right_is;
  still = h.still;
  plan = h.plan;
  left = h.left;
  right = h.right;
  left_has = λ now. h.left_has (so now);
  right_has = λ now. h.right_has (so now);
  records = h.records;
  renumbering = h.renumbering;
})

pair_beside : (c : Option CheckpointJob) (g h : Option MergeJob) → checkpoint_pair (Beside c g) ≡ checkpoint_pair (Beside c h)
pair_beside None g h = refl
pair_beside (Some (Reads r)) g h = refl
pair_beside (Some (Runs c)) g h = refl

-- what holds of a job beside the merge that is read
beside_all : (P : Job → Type 0) (c : Option CheckpointJob) (r : MergeReading) → AllByRecursion P (jobs_of (Beside c (Some (Reading r)))) → AllByRecursion P (jobs_of (Beside c None))
beside_all P c r all = all

module _ {D : Type 0} {d : Ghosts D} {s : StoreData D} (b : Begins d s MergeReadOn) (new : D) (rest : AllStay (d.content s.disk) (d.content new) (d.may_leave s.disk) (d.may_leave new)) (any_moment : LeavesOnly d.moment d.left_since s.disk new (AllOf (d.may_leave s.disk))) (count : d.fault_count new ≡ d.fault_count s.disk)
    (taken : Option Pair) (taken_is : taken ≡ checkpoint_pair s.jobs) (jobs : Jobs) (to : AreReadTo (IsHonest (d.moment new)) (d.content s.disk) (d.may_leave s.disk) s.manifest (files_taken taken) s.jobs jobs) where
  abbrev honest : Type 0
  honest = IsHonest (d.moment new)

  -- the merge that is read, and the checkpoint that runs, if one does
  read_here : (c : Option CheckpointJob) × (r : MergeReading) × (s.jobs ≡ Beside c (Some (Reading r)))
  read_here = is_read s.jobs (may_read_on s b.none)

  abbrev running : Option CheckpointJob
  running = read_here.0

  abbrev from : MergeReading
  from = read_here.1

  slice : IsSliceBeside honest (d.content s.disk) (d.may_leave s.disk) s.manifest (files_taken taken) running from jobs
  slice = subst (λ (k : Jobs). AreReadTo honest (d.content s.disk) (d.may_leave s.disk) s.manifest (files_taken taken) k jobs) read_here.2 to

  taken_here : taken ≡ checkpoint_pair (Beside running None)
  taken_here = taken_is ∙ ap checkpoint_pair read_here.2 ∙ pair_beside running (Some (Reading from)) None

  was_read : (rows : Map) → IsUp d s rows → IsReadFrom (d.content s.disk) s.manifest from
  was_read rows up = subst (HasReading (d.content s.disk) s.manifest) (ap reading_of read_here.2) up.reading.pairs

  now_read : honest → IsReadFrom (d.content s.disk) s.manifest from
  now_read now = let up = b.sound.up (any_moment.later.honest now) in was_read up.0 up.1

  abbrev To : MergeJob → Type 0
  To j = IsSliceTo honest (d.content s.disk) (d.may_leave s.disk) s.manifest (files_taken taken) from j

  -- the jobs, whichever the merge is
  now_safe : (j : MergeJob) → To j → AreSafe s.manifest (Beside running (Some j))
  now_safe (Reading n) h = subst (AreSafe s.manifest) read_here.2 b.sound.safe.jobs
  now_safe (Running g) h = with_merge_all (IsSafeWork s.manifest) running g h.safe (beside_all (IsSafeWork s.manifest) running from (subst (AreSafe s.manifest) read_here.2 b.sound.safe.jobs))

  now_apart : (j : MergeJob) → To j → ShareNone (Beside running (Some j))
  now_apart (Reading n) h = share_reading running n
  now_apart (Running g) h =
      let read = weaker_read _ honest (d.content s.disk) s.manifest taken (checkpoint_pair (Beside running None)) from g taken_here (λ now. (now, now_read now)) h.read in
      merge_shares_none s.manifest running g read.plan.data_file read.plan.delta_file

  -- the checkpoint whose segment is read, if one is, is the same
  same_beside : (j : MergeJob) → segment_read_of (Beside running (Some j)) ≡ segment_read_of s.jobs
  same_beside j = beside_segment running (Some j) (Some (Reading from)) ∙ sym (ap segment_read_of read_here.2)

  now_pairs : (j : MergeJob) → To j → IsSafeReading s.manifest (reading_of (Beside running (Some j)))
  now_pairs (Reading n) h = h.safe
  now_pairs (Running g) h = tt

  now_reading : (j : MergeJob) → To j → AreSafeReadings s.manifest s.places.at (Beside running (Some j))
  now_reading j h = record { pairs = now_pairs j h; segment = subst (AreSafeSegmentRead s.manifest s.places.at) (sym (same_beside j)) b.sound.safe.reading.segment }

  now_room : (places : PlaceTable) → JobsHaveRoom places s.jobs → (j : MergeJob) → JobsHaveRoom places (Beside running (Some j))
  now_room places room (Reading n) = subst (JobsHaveRoom places) read_here.2 room
  now_room places room (Running g) = with_merge_all (JobHasRoom places) running g tt (beside_all (JobHasRoom places) running from (subst (JobsHaveRoom places) read_here.2 room))

  now_stand : honest → (rows : Map) (up : IsUp d s rows) (j : MergeJob) → To j → HaveJobs (d.content s.disk) (d.may_leave s.disk) s.manifest up.parts (Beside running (Some j))
  now_stand now rows up (Reading n) h = subst (HaveJobs (d.content s.disk) (d.may_leave s.disk) s.manifest up.parts) read_here.2 up.jobs
  now_stand now rows up (Running g) h =
      with_merge_all (IsRunning (d.content s.disk) (d.may_leave s.disk) s.manifest up.parts) running g (h.stands now (was_read rows up) up.parts)
      (beside_all (IsRunning (d.content s.disk) (d.may_leave s.disk) s.manifest up.parts) running from (subst (HaveJobs (d.content s.disk) (d.may_leave s.disk) s.manifest up.parts) read_here.2 up.jobs))

  has_pairs : honest → (rows : Map) → IsUp d s rows → (j : MergeJob) → To j → HasReading (d.content s.disk) s.manifest (reading_of (Beside running (Some j)))
  has_pairs now rows up (Reading n) h = h.stands now (was_read rows up)
  has_pairs now rows up (Running g) h = tt

  now_has : honest → (rows : Map) → IsUp d s rows → (j : MergeJob) → To j → HaveReadings (d.content s.disk) s.manifest s.places.at (Beside running (Some j))
  now_has now rows up j h = record {
    pairs = has_pairs now rows up j h;
    segment = subst (HasSegmentRead s.manifest s.places.at (d.content s.disk (oldest_file s.manifest))) (sym (same_beside j)) up.reading.segment;
  }

  now_to : (j : MergeJob) → To j → ComesOfReading honest (d.content s.disk) s.manifest (files_taken (checkpoint_pair (Beside running None))) from j
  now_to (Reading n) h = h.further
  now_to (Running g) h = weaker_read _ honest (d.content s.disk) s.manifest taken (checkpoint_pair (Beside running None)) from g taken_here (λ now. (now, now_read now)) h.read

  abbrev after : Jobs → StoreData D
  after k = record s { disk = new; jobs = k }

  abbrev runs_now : Jobs
  runs_now = Beside running (Some slice.merge)

  read_up : IsHonest (d.moment new) → (rows : Map) → IsUp d s rows → IsUp d (after runs_now) rows
  read_up now rows up = looked_up b new rest rows up s.places runs_now
      (same_changes s.manifest.pairs up.parts.lives s.jobs runs_now s.places.at (λ at. merge_changes running (Some slice.merge) (Some (Reading from)) at ∙ ap (λ (k : Jobs). places_so_far (next_installed k) at) (sym read_here.2)) up.places)
      (now_room s.places up.room_for slice.merge) (now_stand now rows up slice.merge slice.to) (now_apart slice.merge slice.to) (now_has now rows up slice.merge slice.to) count

  -- THE STORE IS SOUND WITH THE SLICE.
  pub read_sound : IsStoreSound d (after jobs)
  read_sound = subst (λ (k : Jobs). IsStoreSound d (after k)) (sym slice.is) (record {
    safe = stays_safe b.sound.safe new s.places runs_now (now_safe slice.merge slice.to) (now_apart slice.merge slice.to) (now_reading slice.merge slice.to) (now_room s.places b.sound.safe.room_for slice.merge) count;
    up = λ now. let was = b.sound.up (any_moment.later.honest now) in (was.0, read_up now was.0 was.1);
  })

  read_makes : HasReadOn d s (after runs_now)
  read_makes = record {
    merge = subst (λ (k : Jobs). IsMergeReadOn honest (d.content s.disk) s.manifest k runs_now) (sym read_here.2) (record { merge = slice.merge; is = refl; read = now_to slice.merge slice.to });
    after = refl;
  }

  pub read_done : {A : Type 0} (a : A) → IsStoreStep {A = A} d s MergeReadOn (Ok a) (after jobs)
  read_done {A} a = subst (λ (k : Jobs). IsStoreStep {A = A} d s MergeReadOn (Ok a) (after k)) (sym slice.is) (looked_done b new rest any_moment s.places runs_now a read_makes count read_up)

-- what safety needs of the merge that is read
pub reads_safe : {D : Type 0} {d : Ghosts D} {s : StoreData D} (b : Begins d s MergeReadOn) → IsSafeReading s.manifest (reading_of s.jobs)
reads_safe b = b.sound.safe.reading.pairs

pub reads_here : {D : Type 0} {d : Ghosts D} {s : StoreData D} (rows : Map) → IsUp d s rows → HasReading (d.content s.disk) s.manifest (reading_of s.jobs)
reads_here rows up = up.reading.pairs
