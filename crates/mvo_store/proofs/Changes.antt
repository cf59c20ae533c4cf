-- The changes of places that a job has made, beside what becomes of the jobs.
use Rattle.std.proofs.Common.{◌≡◌, ℕ, Bool, true, false, cond, List, Option, Some, None, refl, sym, ap, subst, ◌∙◌}
use Rattle.std.specs.Option.{option_map}
use Rattle.mvo_pair.specs.declared.pair.Pair.{Pair}
use Rattle.mvo_pair.specs.Data.{Numbered}
use Rattle.mvo_places.specs.Places.{PlaceMap, ArePlaces, taken_upto}
use Rattle.mvo_places.proofs.Upto.{none_taken}
use Rattle.mvo_store.specs.declared.jobs.due.Due.{Due}
use Rattle.mvo_store.specs.declared.jobs.jobs.Jobs.{Jobs}
use Rattle.mvo_store.specs.declared.jobs.jobs.Jobs.TheVariants.{Rotation as RotationAlone, Merge as MergeAlone, Beside}
use Rattle.mvo_store.specs.declared.checkpoint.checkpointing.Checkpointing.{Checkpointing}
use Rattle.mvo_store.specs.declared.checkpoint.reading.CheckpointReading.{CheckpointReading}
use Rattle.mvo_store.specs.declared.checkpoint.checkpoint_job.CheckpointJob.{CheckpointJob}
use Rattle.mvo_store.specs.declared.checkpoint.checkpoint_job.CheckpointJob.TheVariants.{Reading as Reads, Running as Runs}
use Rattle.mvo_store.specs.declared.merge.merge_job.MergeJob.{MergeJob}
use Rattle.mvo_store.specs.declared.merge.merge_job.MergeJob.TheVariants.{Reading, Running}
use Rattle.mvo_store.specs.Jobs.{keeps_checkpoint_out, is_of_merge, merge_by, with_step, merge_job_upto, checkpoint_job_upto, jobs_upto, next_installed, after_install, reading_of, checkpoint_by}
use Rattle.mvo_store.specs.Placing.{checkpoint_job_placed, with_places, places_so_far, HavePlacesSoFar}
use Rattle.mvo_store.proofs.Turning.{begins_beside_merge}

-- ---- they are the same

-- where those of the jobs are
pub same_changes : (ps : List Pair) (lives : List (List Numbered)) (old new : Jobs) (places : PlaceMap) → ((at : PlaceMap) → places_so_far (next_installed new) at ≡ places_so_far (next_installed old) at) → HavePlacesSoFar ps lives old places → HavePlacesSoFar ps lives new places
same_changes ps lives old new places same have = record { at = have.at; are = have.are; so_far = have.so_far ∙ sym (same have.at) }

-- where a checkpoint whose segment is read begins, or no longer runs
pub segment_changes : (r : CheckpointReading) (g : Option MergeJob) (at : PlaceMap) → places_so_far (next_installed (Beside (Some (Reads r)) g)) at ≡ places_so_far (next_installed (Beside None g)) at
segment_changes r g at = refl

-- behind a step
pub step_changes : (step : Due) (jobs : Jobs) (at : PlaceMap) → places_so_far (next_installed (with_step step jobs)) at ≡ places_so_far (next_installed jobs) at
step_changes step (RotationAlone fresh i) at = refl
step_changes step (MergeAlone seen placed i) at = refl
step_changes step (Beside None g) at = go (is_of_merge step)
  where
    go : (b : Bool) → places_so_far (next_installed (cond b (Beside None (merge_by g)) (Beside None g))) at ≡ at
    go true = refl
    go false = refl
step_changes step (Beside (Some c) g) at = go c (is_of_merge step)
  where
    go : (c : CheckpointJob) (b : Bool) → places_so_far (next_installed (cond b (Beside (Some c) (merge_by g)) (Beside (checkpoint_by (Some c)) g))) at ≡ places_so_far (next_installed (Beside (Some c) g)) at
    go (Reads r) true = refl
    go (Reads r) false = refl
    go (Runs c) true = refl
    go (Runs c) false = refl

-- and behind a slice of a data file
pub slice_changes : (upto : ℕ) (step : Due) (jobs : Jobs) (at : PlaceMap) → places_so_far (next_installed (jobs_upto upto step jobs)) at ≡ places_so_far (next_installed jobs) at
slice_changes upto step (RotationAlone fresh i) at = refl
slice_changes upto step (MergeAlone seen placed i) at = refl
slice_changes upto step (Beside None g) at = go (is_of_merge step)
  where
    go : (b : Bool) → places_so_far (next_installed (cond b (Beside None (option_map (merge_job_upto upto) g)) (Beside None g))) at ≡ at
    go true = refl
    go false = refl
slice_changes upto step (Beside (Some c) g) at = go c (is_of_merge step)
  where
    go : (c : CheckpointJob) (b : Bool) → places_so_far (next_installed (cond b (Beside (Some c) (option_map (merge_job_upto upto) g)) (Beside (Some (checkpoint_job_upto upto c)) g))) at ≡ places_so_far (next_installed (Beside (Some c) g)) at
    go (Reads r) true = refl
    go (Reads r) false = refl
    go (Runs c) true = refl
    go (Runs c) false = refl

-- and where a merge begins
pub merge_changes : (c : Option CheckpointJob) (g h : Option MergeJob) (at : PlaceMap) → places_so_far (next_installed (Beside c g)) at ≡ places_so_far (next_installed (Beside c h)) at
merge_changes None g h at = refl
merge_changes (Some (Reads r)) g h at = refl
merge_changes (Some (Runs c)) g h at = refl

-- ---- the merge whose pairs are read

-- is the same, whatever checkpoint runs beside it
pub beside_reads : (a b : Option CheckpointJob) (g : Option MergeJob) → reading_of (Beside a g) ≡ reading_of (Beside b g)
beside_reads a b None = refl
beside_reads a b (Some (Reading r)) = refl
beside_reads a b (Some (Running g)) = refl

-- and behind a step
pub step_reads : (step : Due) (jobs : Jobs) → reading_of (with_step step jobs) ≡ reading_of jobs
step_reads step (RotationAlone fresh i) = refl
step_reads step (MergeAlone seen placed i) = refl
step_reads step (Beside c g) = go (is_of_merge step)
  where
    by_merge : (g : Option MergeJob) → reading_of (Beside c (merge_by g)) ≡ reading_of (Beside c g)
    by_merge None = refl
    by_merge (Some (Reading r)) = refl
    by_merge (Some (Running g)) = refl

    go : (b : Bool) → reading_of (cond b (Beside c (merge_by g)) (Beside (checkpoint_by c) g)) ≡ reading_of (Beside c g)
    go true = by_merge g
    go false = beside_reads (checkpoint_by c) c g

-- and behind a slice of a data file
pub slice_reads : (upto : ℕ) (step : Due) (jobs : Jobs) → reading_of (jobs_upto upto step jobs) ≡ reading_of jobs
slice_reads upto step (RotationAlone fresh i) = refl
slice_reads upto step (MergeAlone seen placed i) = refl
slice_reads upto step (Beside c g) = go (is_of_merge step)
  where
    by_merge : (g : Option MergeJob) → reading_of (Beside c (option_map (merge_job_upto upto) g)) ≡ reading_of (Beside c g)
    by_merge None = refl
    by_merge (Some (Reading r)) = refl
    by_merge (Some (Running g)) = refl

    go : (b : Bool) → reading_of (cond b (Beside c (option_map (merge_job_upto upto) g)) (Beside (option_map (checkpoint_job_upto upto) c) g)) ≡ reading_of (Beside c g)
    go true = by_merge g
    go false = beside_reads (option_map (checkpoint_job_upto upto) c) c g

-- and behind a slice of places
pub place_reads : (jobs : Jobs) → reading_of (with_places jobs) ≡ reading_of jobs
place_reads (RotationAlone fresh i) = refl
place_reads (MergeAlone seen placed i) = refl
place_reads (Beside c g) = beside_reads (option_map checkpoint_job_placed c) c g

-- ---- there are none

-- where a checkpoint begins
pub checkpoint_changes : (c : Checkpointing) (g : Option MergeJob) (at : PlaceMap) → c.placed ≡ 0 → places_so_far (next_installed (Beside (Some (Runs c)) g)) at ≡ at
checkpoint_changes c g at none = ap (λ (n : ℕ). taken_upto c.pair.data_file c.made.records c.made.gone n at) none ∙ none_taken c.pair.data_file c.made.records c.made.gone at

-- and behind an install
pub install_changes : (jobs : Jobs) (at : PlaceMap) → places_so_far (next_installed (after_install jobs)) at ≡ at
install_changes (RotationAlone fresh i) at = refl
install_changes (MergeAlone seen placed i) at = refl
install_changes (Beside c g) at = refl

-- THE PLACES ARE THOSE OF THE LIVE RECORDS where a checkpoint may begin.
pub free_places : (ps : List Pair) (lives : List (List Numbered)) (jobs : Jobs) (places : PlaceMap) → keeps_checkpoint_out jobs ≡ false → HavePlacesSoFar ps lives jobs places → ArePlaces ps lives places
free_places ps lives jobs places free have =
    let here = begins_beside_merge jobs free in
    let same : places ≡ have.at = have.so_far ∙ ap (λ (k : Jobs). places_so_far (next_installed k) have.at) here.1 in
    subst (λ (at : PlaceMap). ArePlaces ps lives at) (sym same) have.are

-- places of which nothing is to be changed
pub as_they_are : (ps : List Pair) (lives : List (List Numbered)) (jobs : Jobs) (places : PlaceMap) → ((at : PlaceMap) → places_so_far (next_installed jobs) at ≡ at) → ArePlaces ps lives places → HavePlacesSoFar ps lives jobs places
as_they_are ps lives jobs places none are = record { at = places; are = are; so_far = sym (none places) }
