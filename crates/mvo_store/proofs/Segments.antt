-- A checkpoint whose segment is read, beside a step of another job, or an append, or an install.
use Rattle.std.proofs.Common.{◌≡◌, ◌≢◌, inl, inr, ℕ, ◌≤◌, Bool, true, false, cond, List, [], ◌∷◌, ◌++◌, length, get_or, Option, Some, None, refl, sym, subst, arith}
use Rattle.std.specs.List.{Contains}
use Rattle.std.specs.Option.{option_map}
use Rattle.std.proofs.lemmas.List.Elements.{Contains-get_or}
use Rattle.mvo_disk.specs.Disk.{Image}
use Rattle.mvo_manifest.specs.Data.{ManifestData, named}
use Rattle.mvo_manifest.specs.Rules.{IsManifest}
use Rattle.mvo_places.specs.Places.{PlaceMap}
use Rattle.mvo_recovery.specs.Parts.{Parts, IsLastFile}
use Rattle.mvo_recovery.proofs.Named.{contains_here, pairs_named, segments_named, sealed_not_last}
use Rattle.mvo_store.specs.declared.jobs.due.Due.{Due}
use Rattle.mvo_store.specs.declared.jobs.jobs.Jobs.{Jobs}
use Rattle.mvo_store.specs.declared.jobs.jobs.Jobs.TheVariants.{Rotation as RotationAlone, Merge as MergeAlone, Beside}
use Rattle.mvo_store.specs.declared.checkpoint.checkpoint_job.CheckpointJob.{CheckpointJob}
use Rattle.mvo_store.specs.declared.checkpoint.checkpoint_job.CheckpointJob.TheVariants.{Reading as Reads, Running as Runs}
use Rattle.mvo_store.specs.declared.checkpoint.reading.CheckpointReading.{CheckpointReading}
use Rattle.mvo_store.specs.declared.merge.merge_job.MergeJob.{MergeJob}
use Rattle.mvo_store.specs.declared.merge.stage.MergeStage.{MergeStage}
use Rattle.mvo_store.specs.declared.merge.stage.MergeStage.TheVariants.{Data as MergeAtData, Delta as MergeAtDelta}
use Rattle.mvo_store.specs.Jobs.{Job, is_of_merge, merge_by, checkpoint_by, with_step, merge_job_upto, checkpoint_job_upto, jobs_upto, next_installed, after_install, reading_of, segment_read_of}
use Rattle.mvo_store.specs.Placing.{with_places, places_so_far}
use Rattle.mvo_store.specs.PairsRead.{HasReading}
use Rattle.mvo_store.specs.Reading.{HaveReadings}
use Rattle.mvo_store.specs.SegmentRead.{oldest_file, AreSafeSegmentRead, HasSegmentRead}
use Rattle.mvo_store.specs.Standing.{HasWork, HaveKeysOf}
use Rattle.mvo_store.specs.Writing.{IsFileDue, IsMergeFileAt}
use Rattle.mvo_store.proofs.Working.{IsOfPair, merge_new, new_of_pair}
use Rattle.mvo_store.proofs.Readings.{reading_framed}
use Rattle.mvo_store.proofs.Beside.{IsDueIn}
use Rattle.mvo_store.proofs.Beside.IsDueIn.{TheRotation, TheMerge, TheCheckpoint, OfMerge}

-- ---- the file of the oldest segment

pub oldest_named : (m : ManifestData) → IsManifest m → Contains (named m) (oldest_file m)
oldest_named m is = segments_named m (oldest_file m) (Contains-get_or m.segments 0 0 (omega (arith, is.rules.some)))

-- where one is sealed, it isn't the last
first_of : (xs : List ℕ) (last : ℕ) → 2 ≤ length (xs ++ last ∷ []) → Contains xs (get_or (xs ++ last ∷ []) 0 0)
first_of [] last some = absurd (omega (arith, some))
first_of (x ∷ xs) last some = contains_here x xs

pub oldest_not_last : (m : ManifestData) → IsManifest m → 2 ≤ length m.segments → (file : ℕ) → IsLastFile m file → oldest_file m ≢ file
oldest_not_last m is some file last =
    sealed_not_last m last.0 file last.1 is (oldest_file m)
    (subst (λ (l : List ℕ). Contains last.0 (get_or l 0 0)) (sym last.1) (first_of last.0 file (subst (λ (l : List ℕ). 2 ≤ length l) last.1 some)))

-- ---- what is read of it stays

module _ (m : ManifestData) (at : PlaceMap) where
  -- where its bytes do
  pub segment_same : (old new : List ℕ) → new ≡ old → (o : Option CheckpointReading) → HasSegmentRead m at old o → HasSegmentRead m at new o
  segment_same old new same o h = subst (λ (bytes : List ℕ). HasSegmentRead m at bytes o) (sym same) h

  module _ (old new : Image) (is : IsManifest m) where
    -- where the files that the manifest names do
    pub segment_framed : ((n : ℕ) → Contains (named m) n → new n ≡ old n) → (o : Option CheckpointReading) → HasSegmentRead m at (old (oldest_file m)) o → HasSegmentRead m at (new (oldest_file m)) o
    segment_framed same o h = segment_same (old (oldest_file m)) (new (oldest_file m)) (same (oldest_file m) (oldest_named m is)) o h

    -- where all but the last segment do
    pub segment_appended : (file : ℕ) → IsLastFile m file → ((n : ℕ) → n ≢ file → new n ≡ old n) → (o : Option CheckpointReading) → HasSegmentRead m at (old (oldest_file m)) o → HasSegmentRead m at (new (oldest_file m)) o
    segment_appended file last rest None h = tt
    segment_appended file last rest (Some r) h = segment_same (old (oldest_file m)) (new (oldest_file m)) (rest (oldest_file m) (oldest_not_last m is h.sealed file last)) (Some r) h

    -- and beside a step of another job
    pub segment_beside : (may : ℕ → List ℕ → Type 0) (x : Parts) {step : Due} {jobs : Jobs} {j : Job} → IsDueIn step jobs j → HasWork old may m x j → (file : ℕ) → IsFileDue m j file → ((n : ℕ) → n ≢ file → new n ≡ old n) → HasSegmentRead m at (old (oldest_file m)) (segment_read_of jobs) → HasSegmentRead m at (new (oldest_file m)) (segment_read_of jobs)
    segment_beside may x (TheRotation fresh i due) has file of rest h = tt
    segment_beside may x (TheMerge seen placed i due) has file of rest h = tt
    segment_beside may x (TheCheckpoint c g due) has file of rest h = tt
    segment_beside may x (OfMerge None g due) has file of rest h = tt
    segment_beside may x (OfMerge (Some (Runs c)) g due) has file of rest h = tt
    segment_beside may x (OfMerge (Some (Reads r)) g due) has file of rest h =
        segment_framed (λ n is_named. rest n (λ e. (new_of_pair m g.seen.pair (merge_new m _ g.seen.pair _ _ has.merge.may_merge) file (go g.stage of)).unnamed (subst (Contains (named m)) e is_named))) (Some r) h
      where
        go : (stage : MergeStage) → IsMergeFileAt g.seen.pair stage file → IsOfPair g.seen.pair file
        go (MergeAtData written) e = inl e
        go MergeAtDelta e = inr e

-- ---- the checkpoint whose segment is read is the same

-- whatever merge runs beside it
pub beside_segment : (c : Option CheckpointJob) (g h : Option MergeJob) → segment_read_of (Beside c g) ≡ segment_read_of (Beside c h)
beside_segment None g h = refl
beside_segment (Some (Reads r)) g h = refl
beside_segment (Some (Runs c)) g h = refl

-- and behind a step
pub step_segment : (step : Due) (jobs : Jobs) → segment_read_of (with_step step jobs) ≡ segment_read_of jobs
step_segment step (RotationAlone fresh i) = refl
step_segment step (MergeAlone seen placed i) = refl
step_segment step (Beside c g) = go (is_of_merge step)
  where
    by_checkpoint : (c : Option CheckpointJob) → segment_read_of (Beside (checkpoint_by c) g) ≡ segment_read_of (Beside c g)
    by_checkpoint None = refl
    by_checkpoint (Some (Reads r)) = refl
    by_checkpoint (Some (Runs c)) = refl

    go : (b : Bool) → segment_read_of (cond b (Beside c (merge_by g)) (Beside (checkpoint_by c) g)) ≡ segment_read_of (Beside c g)
    go true = beside_segment c (merge_by g) g
    go false = by_checkpoint c

-- and behind a slice of a data file
pub slice_segment : (upto : ℕ) (step : Due) (jobs : Jobs) → segment_read_of (jobs_upto upto step jobs) ≡ segment_read_of jobs
slice_segment upto step (RotationAlone fresh i) = refl
slice_segment upto step (MergeAlone seen placed i) = refl
slice_segment upto step (Beside c g) = go (is_of_merge step)
  where
    by_checkpoint : (c : Option CheckpointJob) → segment_read_of (Beside (option_map (checkpoint_job_upto upto) c) g) ≡ segment_read_of (Beside c g)
    by_checkpoint None = refl
    by_checkpoint (Some (Reads r)) = refl
    by_checkpoint (Some (Runs c)) = refl

    go : (b : Bool) → segment_read_of (cond b (Beside c (option_map (merge_job_upto upto) g)) (Beside (option_map (checkpoint_job_upto upto) c) g)) ≡ segment_read_of (Beside c g)
    go true = beside_segment c (option_map (merge_job_upto upto) g) g
    go false = by_checkpoint c

-- ---- behind a slice of places they are as they were

module _ (m : ManifestData) (old new : PlaceMap) where
  abbrev Took : Jobs → Type 0
  Took jobs = HaveKeysOf (next_installed jobs) → (at : PlaceMap) → old ≡ places_so_far (next_installed jobs) at → new ≡ places_so_far (next_installed (with_places jobs)) at

  pub segment_placed : (bytes : List ℕ) (jobs : Jobs) → Took jobs → HasSegmentRead m old bytes (segment_read_of jobs) → HasSegmentRead m new bytes (segment_read_of (with_places jobs))
  segment_placed bytes (RotationAlone fresh i) took h = tt
  segment_placed bytes (MergeAlone seen placed i) took h = tt
  segment_placed bytes (Beside None g) took h = tt
  segment_placed bytes (Beside (Some (Reads r)) g) took h = subst (λ (at : PlaceMap). HasSegmentRead m at bytes (Some r)) (sym (took tt old refl)) h
  segment_placed bytes (Beside (Some (Runs c)) g) took h = tt

  pub safe_placed_segment : (jobs : Jobs) → Took jobs → AreSafeSegmentRead m old (segment_read_of jobs) → AreSafeSegmentRead m new (segment_read_of (with_places jobs))
  safe_placed_segment (RotationAlone fresh i) took h = tt
  safe_placed_segment (MergeAlone seen placed i) took h = tt
  safe_placed_segment (Beside None g) took h = tt
  safe_placed_segment (Beside (Some (Reads r)) g) took h = subst (λ (at : PlaceMap). AreSafeSegmentRead m at (Some r)) (sym (took tt old refl)) h
  safe_placed_segment (Beside (Some (Runs c)) g) took h = tt

-- ---- none is read behind an install

pub opened_segment : (m : ManifestData) (at : PlaceMap) (bytes : List ℕ) (jobs : Jobs) → HasSegmentRead m at bytes (segment_read_of (after_install jobs))
opened_segment m at bytes (RotationAlone fresh i) = tt
opened_segment m at bytes (MergeAlone seen placed i) = tt
opened_segment m at bytes (Beside c g) = tt

pub opened_safe_segment : (m : ManifestData) (at : PlaceMap) (jobs : Jobs) → AreSafeSegmentRead m at (segment_read_of (after_install jobs))
opened_safe_segment m at (RotationAlone fresh i) = tt
opened_safe_segment m at (MergeAlone seen placed i) = tt
opened_safe_segment m at (Beside c g) = tt

-- ---- with what is read of a merge

pub readings_framed : (old new : Image) (m : ManifestData) → IsManifest m → ((n : ℕ) → Contains (named m) n → new n ≡ old n) → (at : PlaceMap) (jobs : Jobs) → HaveReadings old m at jobs → HaveReadings new m at jobs
readings_framed old new m is same at jobs h = record {
  pairs = reading_framed old new m (λ n has. same n (pairs_named m n has)) (reading_of jobs) h.pairs;
  segment = segment_framed m at old new is same (segment_read_of jobs) h.segment;
}

-- beside none of either
pub none_read : (content : Image) (m : ManifestData) (at : PlaceMap) (jobs : Jobs) → reading_of jobs ≡ None → segment_read_of jobs ≡ None → HaveReadings content m at jobs
none_read content m at jobs none nor = record {
  pairs = subst (HasReading content m) (sym none) tt;
  segment = subst (HasSegmentRead m at (content (oldest_file m))) (sym nor) tt;
}
