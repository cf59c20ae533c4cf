-- A merge whose pairs were read is forgotten: the store behind it.
use Rattle.std.proofs.Common.{◌≡◌, Option, Some, None, Ok, refl, sym, ap, subst, ◌∙◌}
use Rattle.std.specs.List.{AllByRecursion}
use Rattle.mvo_types.specs.Keys.{Map}
use Rattle.mvo_disk.specs.declared.disk.Disk.{Ghosts}
use Rattle.mvo_store.specs.declared.checkpoint.checkpoint_job.CheckpointJob.{CheckpointJob}
use Rattle.mvo_store.specs.declared.checkpoint.checkpoint_job.CheckpointJob.TheVariants.{Reading as Reads, Running as Runs}
use Rattle.mvo_store.specs.declared.merge.reading.MergeReading.{MergeReading}
use Rattle.mvo_store.specs.declared.merge.merge_job.MergeJob.TheVariants.{Reading}
use Rattle.mvo_store.specs.declared.jobs.jobs.Jobs.{Jobs}
use Rattle.mvo_store.specs.declared.jobs.jobs.Jobs.TheVariants.{Beside}
use Rattle.mvo_store.specs.StoreData.{StoreData}
use Rattle.mvo_store.specs.Jobs.{Job, jobs_of, next_installed, without_reading, segment_read_of}
use Rattle.mvo_store.specs.Placing.{places_so_far}
use Rattle.mvo_store.specs.SegmentRead.{oldest_file, AreSafeSegmentRead, HasSegmentRead}
use Rattle.mvo_store.proofs.Segments.{beside_segment}
use Rattle.mvo_store.specs.Safe.{IsSafeWork, AreSafe, IsStoreSound}
use Rattle.mvo_store.specs.Standing.{IsRunning, HaveJobs, ShareNone, JobsHaveRoom, JobHasRoom, IsUp}
use Rattle.mvo_store.specs.Calls.{IsStoreStep}
use Rattle.mvo_store.specs.Calls.StoreStep.{MergeForget}
use Rattle.mvo_store.proofs.Keeping.{OnlyNow, Begins, stays_up, stays_safe, still_leaves, all_others, done_step, may_read_on}
use Rattle.mvo_store.proofs.Turning.{is_read}
use Rattle.mvo_store.proofs.Changes.{same_changes, merge_changes}

-- a checkpoint alone shares no file
share_alone : (c : Option CheckpointJob) → ShareNone (Beside c None)
share_alone None = tt
share_alone (Some (Reads r)) = tt
share_alone (Some (Runs c)) = tt

-- what holds of each job but the merge that is read
alone_all : (P : Job → Type 0) (c : Option CheckpointJob) (r : MergeReading) → AllByRecursion P (jobs_of (Beside c (Some (Reading r)))) → AllByRecursion P (jobs_of (Beside c None))
alone_all P c r all = all

module _ {D : Type 0} {d : Ghosts D} {s : StoreData D} (b : Begins d s MergeForget) where
  -- the merge that is read, and the checkpoint that runs, if one does
  read_here : (c : Option CheckpointJob) × (r : MergeReading) × (s.jobs ≡ Beside c (Some (Reading r)))
  read_here = is_read s.jobs (may_read_on s b.none)

  abbrev running : Option CheckpointJob
  running = read_here.0

  abbrev read : MergeReading
  read = read_here.1

  abbrev left : Jobs
  left = Beside running None

  abbrev after : Jobs → StoreData D
  after k = record s { jobs = k }

  left_is : left ≡ without_reading s.jobs
  left_is = sym (ap without_reading read_here.2)

  -- the checkpoint whose segment is read, if one is, is the same
  same_segment : segment_read_of left ≡ segment_read_of s.jobs
  same_segment = beside_segment running None (Some (Reading read)) ∙ sym (ap segment_read_of read_here.2)

  left_up : (rows : Map) → IsUp d s rows → IsUp d (after left) rows
  left_up rows up = stays_up d s rows up s.disk s.places left up.settled refl (λ n _. refl)
      (alone_all (IsRunning (d.content s.disk) (d.may_leave s.disk) s.manifest up.parts) running read (subst (HaveJobs (d.content s.disk) (d.may_leave s.disk) s.manifest up.parts) read_here.2 up.jobs))
      (share_alone running) (record { pairs = tt; segment = subst (HasSegmentRead s.manifest s.places.at (d.content s.disk (oldest_file s.manifest))) (sym same_segment) up.reading.segment })
      (same_changes s.manifest.pairs up.parts.lives s.jobs left s.places.at (λ at. merge_changes running None (Some (Reading read)) at ∙ ap (λ (k : Jobs). places_so_far (next_installed k) at) (sym read_here.2)) up.places)
      (alone_all (JobHasRoom s.places) running read (subst (JobsHaveRoom s.places) read_here.2 up.room_for)) refl

  -- THE STORE IS SOUND without it.
  pub forgotten_sound : IsStoreSound d (after (without_reading s.jobs))
  forgotten_sound = subst (λ (k : Jobs). IsStoreSound d (after k)) left_is (record {
    safe = stays_safe b.sound.safe s.disk s.places left
        (alone_all (IsSafeWork s.manifest) running read (subst (AreSafe s.manifest) read_here.2 b.sound.safe.jobs))
        (share_alone running) (record { pairs = tt; segment = subst (AreSafeSegmentRead s.manifest s.places.at) (sym same_segment) b.sound.safe.reading.segment })
        (alone_all (JobHasRoom s.places) running read (subst (JobsHaveRoom s.places) read_here.2 b.sound.safe.room_for)) refl;
    up = λ honest. let now = b.sound.up honest in (now.0, left_up now.0 now.1);
  })

  -- IT IS FORGOTTEN.
  pub forgotten_done : OnlyNow d → IsStoreStep {A = Unit {0}} d s MergeForget (Ok tt) (after (without_reading s.jobs))
  forgotten_done only_now = subst (λ (k : Jobs). IsStoreStep {A = Unit {0}} d s MergeForget (Ok tt) (after k)) left_is (done_step b (after left) (λ honest. honest) (λ _. still_leaves d only_now s) (λ _ rows up slots. slots)
      (all_others d MergeForget s (after left) (record { content = λ n. refl; images = λ n c left. left; keeps = λ n c left. left })) tt
      (ap after left_is) refl (λ _. left_up))
