-- What a slice makes of a checkpoint whose segment is read.
use Rattle.std.specs.Prelude.{◌≡◌, ◌⊎◌, ◌≤◌, ℕ, List, length, Option, Some, None}
use Rattle.mvo_types.specs.declared.refusal.Refusal.{Refusal}
use Rattle.mvo_types.specs.declared.refusal.Refusal.TheVariants.{OutOfMemory}
use Rattle.mvo_group.specs.Data.{GroupData}
use Rattle.mvo_manifest.specs.Data.{ManifestData}
use Rattle.mvo_places.specs.Places.{PlaceMap}
use Rattle.mvo_ckpt.specs.Checkpoint.{BuiltCheckpoint}
use Rattle.mvo_ckpt.specs.Building.{IsBuiltCheckpointOf}
use Rattle.mvo_recovery.specs.image.Opens.{Image}
use Rattle.mvo_store.specs.declared.checkpoint.checkpointing.Checkpointing.{Checkpointing}
use Rattle.mvo_store.specs.declared.checkpoint.reading.CheckpointReading.{CheckpointReading}
use Rattle.mvo_store.specs.declared.checkpoint.checkpoint_job.CheckpointJob.{CheckpointJob}
use Rattle.mvo_store.specs.declared.checkpoint.checkpoint_job.CheckpointJob.TheVariants.{Reading as Reads, Running as Runs}
use Rattle.mvo_store.specs.declared.merge.merge_job.MergeJob.{MergeJob}
use Rattle.mvo_store.specs.declared.jobs.jobs.Jobs.{Jobs}
use Rattle.mvo_store.specs.declared.jobs.jobs.Jobs.TheVariants.{Beside}
use Rattle.mvo_store.specs.Jobs.{segment_read_of, without_segment_read}
use Rattle.mvo_store.specs.Planning.{MayPlan, IsPlanned, IsReadCheckpoint}
use Rattle.mvo_store.specs.Safe.{IsSafeCheckpoint}
use Rattle.mvo_store.specs.SegmentRead.{oldest_file, MayBeRead, IsReadOf, IsNextRead, IsBeingBuilt, IsBeingBuiltOf}
use Rattle.mvo_store.specs.Steps.{IsPlannedRead}

-- of some groups, of which this is made beside some places, a checkpoint may be made up to this
-- mark
abbrev pub MayPlanOf : ManifestData → ℕ → BuiltCheckpoint → Type 0
MayPlanOf m mark made = (at : PlaceMap) × (groups : List GroupData) × MayPlan m groups mark
    × IsBuiltCheckpointOf at m.pairs groups made

-- ---- what a slice comes to

-- The checkpoint is planned of what is made, whatever groups that is of, and there is room for its
-- places.
pub record IsEndedPlan (m : ManifestData) (taken : List ℕ) (room mark : ℕ) (made : BuiltCheckpoint)
    (c : Checkpointing) : Type 0 where
  pub planned : (at : PlaceMap) (groups : List GroupData) →
      IsBuiltCheckpointOf at m.pairs groups made → IsPlanned m taken at groups mark c
  pub fits : length c.made.records ≤ room

abbrev pub IsEndedPlanTo : ManifestData → List ℕ → ℕ → ℕ → BuiltCheckpoint → CheckpointJob → Type 0
IsEndedPlanTo m taken room mark made (Reads r) = ⊥
IsEndedPlanTo m taken room mark made (Runs c) = IsEndedPlan m taken room mark made c

-- It is read or built further, and is safe and stands as it did.
pub record IsSegmentFurther (honest : Type 0) (bytes : List ℕ) (m : ManifestData) (at : PlaceMap)
    (old new : CheckpointReading) : Type 0 where
  pub next : IsNextRead m old new
  pub safe : MayBeRead m at new
  pub of : honest → IsReadOf m at bytes new

-- The checkpoint is planned of it, is safe and stands, and there is room for its places.
pub record IsSegmentPlanned (honest : Type 0) (content : Image) (may : ℕ → List ℕ → Type 0)
    (m : ManifestData) (at : PlaceMap) (room : ℕ) (taken : List ℕ) (old : CheckpointReading)
    (c : Checkpointing) : Type 0 where
  pub read : IsPlannedRead honest content m taken old c
  pub safe : IsSafeCheckpoint m c
  pub fits : length c.made.records ≤ room
  pub stands : honest → IsReadCheckpoint content may m at c

abbrev pub IsSegmentSlice : Type 0 → Image → (ℕ → List ℕ → Type 0) → ManifestData → PlaceMap → ℕ →
    List ℕ → CheckpointReading → CheckpointJob → Type 0
IsSegmentSlice honest content may m at room taken old (Reads new) =
    IsSegmentFurther honest (content (oldest_file m)) m at old new
IsSegmentSlice honest content may m at room taken old (Runs c) =
    IsSegmentPlanned honest content may m at room taken old c

-- so the checkpoint that runs then is
abbrev pub IsSegmentSliceTo : Type 0 → Image → (ℕ → List ℕ → Type 0) → ManifestData → PlaceMap → ℕ →
    List ℕ → CheckpointReading → Option CheckpointJob → Type 0
IsSegmentSliceTo honest content may m at room taken old None = ⊥
IsSegmentSliceTo honest content may m at room taken old (Some j) =
    IsSegmentSlice honest content may m at room taken old j

-- Refused, it is as it was. But where its pair is being built only memory is refused, and it is let
-- go.
abbrev pub IsKeptOrLetGo : Refusal → CheckpointReading → Option CheckpointJob → Type 0
IsKeptOrLetGo e old None = (e ≡ OutOfMemory) × IsBeingBuilt old
IsKeptOrLetGo e old (Some j) = (j ≡ Reads old) × (IsBeingBuilt old → ⊥)

-- ---- beside the merge that runs, if one does

pub record IsSegmentBeside (honest : Type 0) (content : Image) (may : ℕ → List ℕ → Type 0)
    (m : ManifestData) (at : PlaceMap) (room : ℕ) (taken : List ℕ) (g : Option MergeJob)
    (old : CheckpointReading) (new : Jobs) : Type 0 where
  pub checkpoint : CheckpointJob
  pub is : new ≡ Beside (Some checkpoint) g
  pub to : IsSegmentSlice honest content may m at room taken old checkpoint

abbrev pub AreSegmentReadTo : Type 0 → Image → (ℕ → List ℕ → Type 0) → ManifestData → PlaceMap → ℕ →
    List ℕ → Jobs → Jobs → Type 0
AreSegmentReadTo honest content may m at room taken (Beside (Some (Reads old)) g) new =
    IsSegmentBeside honest content may m at room taken g old new
AreSegmentReadTo honest content may m at room taken old new = ⊥

abbrev pub AreKeptOrLetGo : Refusal → Jobs → Jobs → Type 0
AreKeptOrLetGo e old new = ((new ≡ old) × (IsBeingBuiltOf (segment_read_of old) → ⊥))
    ⊎ ((e ≡ OutOfMemory) × IsBeingBuiltOf (segment_read_of old) × (new ≡ without_segment_read old))
