-- What a slice makes of a reading of two pairs.
use Rattle.std.specs.Prelude.{◌≡◌, ◌⊎◌, ℕ, Bool, true, false, List, [], Option, Some, Ok, Err}
use Rattle.mvo_types.specs.declared.refusal.Refusal.{Refusal}
use Rattle.mvo_format.specs.declared.format.TheConstants.{LAST_FORMAT}
use Rattle.mvo_pair.specs.declared.pair.Pair.{Pair}
use Rattle.mvo_pair.specs.Data.{Numbered}
use Rattle.mvo_pair.specs.Coming.{still_found, at_start}
use Rattle.mvo_pair.specs.Writing.{IsStop}
use Rattle.mvo_manifest.specs.Data.{ManifestData}
use Rattle.mvo_manifest.specs.Rules.{IsManifest}
use Rattle.mvo_places.specs.Places.{PlaceMap, ArePlaces}
use Rattle.mvo_recovery.specs.image.Opens.{Image}
use Rattle.mvo_recovery.specs.Parts.{Parts}
use Rattle.mvo_recovery.specs.Settled.{IsSettled}
use Rattle.mvo_load.specs.Read.{IsMisread}
use Rattle.mvo_load.specs.Sliced.{IsReadUpTo, IsSliceOf}
use Rattle.mvo_merge.specs.Merged.{MergedData}
use Rattle.mvo_merge.specs.SoFar.{with_left, with_right}
use Rattle.mvo_store.specs.declared.checkpoint.checkpoint_job.CheckpointJob.{CheckpointJob}
use Rattle.mvo_store.specs.declared.merge.merging.Merging.{Merging}
use Rattle.mvo_store.specs.declared.merge.reading.MergeReading.{MergeReading}
use Rattle.mvo_store.specs.declared.merge.merge_job.MergeJob.{MergeJob}
use Rattle.mvo_store.specs.declared.merge.merge_job.MergeJob.TheVariants.{Reading, Running}
use Rattle.mvo_store.specs.declared.jobs.jobs.Jobs.{Jobs}
use Rattle.mvo_store.specs.declared.jobs.jobs.Jobs.TheVariants.{Beside}
use Rattle.mvo_store.specs.Jobs.Job.{Merge}
use Rattle.mvo_store.specs.MergePlanning.{HasLive, IsPlannedMerge, IsMergeRead}
use Rattle.mvo_store.specs.PairsRead.{IsSafeRead, IsReadFrom, IsReadFurther}
use Rattle.mvo_store.specs.Safe.{IsSafeMerge}
use Rattle.mvo_store.specs.Standing.{IsRunning}

-- the next live records come to the pair that is read now
abbrev pub with_side : Bool → List Numbered → MergedData → MergedData
with_side true live made = with_left live made
with_side false live made = with_right live made

-- The next records of the pair that is read now are read, and come to what is made.
pub record IsReadSlice (honest : Type 0) (content : Image) (old new : MergeReading) : Type 0 where
  pub live : List Numbered
  pub slice : IsSliceOf honest (content old.reading.pair.data_file) old.reading old.so_far live
      new.so_far
  pub after : new ≡ record old {
    so_far = new.so_far;
    made = with_side old.is_left live old.made;
  }

-- Nothing more comes of the left pair, whatever stands behind what is read, and the right one is
-- begun.
pub record IsTurned (honest : Type 0) (content : Image) (old new : MergeReading) : Type 0 where
  pub ended : (rest : List ℕ) → still_found old.reading old.so_far rest ≡ Ok []
  pub begun : IsReadUpTo LAST_FORMAT.version old.right honest content new.reading [] at_start
  pub after : new ≡ record old { is_left = false; reading = new.reading; so_far = at_start }

-- The delta file of the pair that is read now is refused, whatever stands behind what is read.
abbrev pub IsEndRefusal : MergeReading → Refusal → Type 0
IsEndRefusal g e = (rest : List ℕ) → still_found g.reading g.so_far rest ≡ Err e

-- A pair isn't begun to be read: only memory or a fault stops it where its files hold live records.
pub record IsBeginRefusal (honest : Type 0) (content : Image) (p : Pair) (e : Refusal) : Type 0
  where
    pub why : IsStop e ⊎ IsMisread e
    pub stop : honest → (live : List Numbered) → HasLive content p live → IsStop e

-- A reading that begins stands beside the settled manifest of which these are the places.
abbrev pub IsReadBeside : Image → (ℕ → List ℕ → Type 0) → ManifestData → MergeReading → Type 0
IsReadBeside content may m g = (x : Parts) (at : PlaceMap) → IsSettled content may m x →
    ArePlaces m.pairs x.lives at → IsReadFrom content m g

-- Nothing more comes of the right pair, whatever stands behind what is read, and the merge is
-- planned of what is made of both.
pub record IsEndedAs (m : ManifestData) (taken : List ℕ) (old : MergeReading) (g : Merging) : Type 0
  where
    pub is : IsManifest m
    pub ended : (rest : List ℕ) → still_found old.reading old.so_far rest ≡ Ok []
    pub planned : IsPlannedMerge m taken old.place old.left old.right old.made g

abbrev pub IsEndedTo : ManifestData → List ℕ → MergeReading → MergeJob → Type 0
IsEndedTo m taken old (Reading new) = ⊥
IsEndedTo m taken old (Running g) = IsEndedAs m taken old g

-- ---- what a slice comes to

-- It is read further, and is safe and stands as it did.
pub record IsFurther (honest : Type 0) (content : Image) (m : ManifestData)
    (old new : MergeReading) : Type 0 where
  pub further : IsReadFurther old new
  pub safe : IsSafeRead m new
  pub stands : honest → IsReadFrom content m old → IsReadFrom content m new

-- The merge is planned of it, is safe and stands.
pub record IsPlannedOf (honest : Type 0) (content : Image) (may : ℕ → List ℕ → Type 0)
    (m : ManifestData) (taken : List ℕ) (old : MergeReading) (g : Merging) : Type 0 where
  pub read : IsMergeRead (honest × IsReadFrom content m old) content m taken old g
  pub safe : IsSafeMerge m g
  pub stands : honest → IsReadFrom content m old → (x : Parts) →
      IsRunning content may m x (Merge g)

abbrev pub IsSliceTo : Type 0 → Image → (ℕ → List ℕ → Type 0) → ManifestData → List ℕ →
    MergeReading → MergeJob → Type 0
IsSliceTo honest content may m taken old (Reading new) = IsFurther honest content m old new
IsSliceTo honest content may m taken old (Running g) =
    IsPlannedOf honest content may m taken old g

-- so it is of the merge that is read, beside the checkpoint that runs, if one does
pub record IsSliceBeside (honest : Type 0) (content : Image) (may : ℕ → List ℕ → Type 0)
    (m : ManifestData) (taken : List ℕ) (c : Option CheckpointJob) (old : MergeReading)
    (new : Jobs) : Type 0 where
  pub merge : MergeJob
  pub is : new ≡ Beside c (Some merge)
  pub to : IsSliceTo honest content may m taken old merge

abbrev pub AreReadTo : Type 0 → Image → (ℕ → List ℕ → Type 0) → ManifestData → List ℕ → Jobs →
    Jobs → Type 0
AreReadTo honest content may m taken (Beside c (Some (Reading old))) new =
    IsSliceBeside honest content may m taken c old new
AreReadTo honest content may m taken old new = ⊥
