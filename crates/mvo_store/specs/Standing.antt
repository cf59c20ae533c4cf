-- How a store stands over its disk, and what a stop leaves of it.
use Rattle.std.specs.Prelude.{Bool, ◌≡◌, ◌≢◌, ℕ, ◌<◌, ◌≤◌, ◌+◌, ◌-◌, ◌^◌, true, false, List, [], ◌∷◌, length}
use Rattle.std.specs.Prelude.{Option, Some, None}
use Rattle.std.specs.List.{AllByRecursion}
use Rattle.mvo_types.specs.Keys.{Map}
use Rattle.mvo_types.specs.declared.limits.TheConstants.{MAX_SEGMENT_LEN, MAX_FILE, MAX_PAIR_RECORDS}
use Rattle.mvo_disk.specs.declared.disk.Disk.{Ghosts}
use Rattle.mvo_disk.specs.Disk.{Image, AllOf, LeavesOnly}
use Rattle.mvo_group.specs.Data.{GroupData}
use Rattle.mvo_group.specs.Rules.{IsGroup}
use Rattle.mvo_format.specs.declared.format.TheConstants.{LAST_FORMAT}
use Rattle.mvo_format.specs.declared.header.TheConstants.{HEADER_LEN}
use Rattle.mvo_frame.specs.declared.segment.Segment.{Segment}
use Rattle.mvo_frame.specs.Standing.{gate_of, IsBodyBehindGate}
use Rattle.mvo_manifest.specs.Data.{ManifestData}
use Rattle.mvo_manifest.specs.Slots.{IsShut, IsStaged}
use Rattle.mvo_places.specs.Places.{PlaceTable}
use Rattle.mvo_merge.specs.Moved.{HaveOwnKeys}
use Rattle.mvo_recovery.specs.image.Files.{GivesRows}
use Rattle.mvo_places.specs.Rows.{after_groups}
use Rattle.mvo_recovery.specs.Parts.{Parts, rows_of_parts, mark_of_parts, IsLastFile}
use Rattle.mvo_recovery.specs.Settled.{IsSettled, other_slot, GivesWithOrWithout}
use Rattle.mvo_recovery.specs.Rotation.{rotated, IsFreshSegment, MayRotate, MayFollowLast}
use Rattle.mvo_store.specs.declared.install.install_step.InstallStep.{InstallStep}
use Rattle.mvo_store.specs.declared.install.install_step.InstallStep.TheVariants.{Close, Body, Open}
use Rattle.mvo_store.specs.declared.install.install.Install.{Install as InstallData}
use Rattle.mvo_store.specs.declared.merge.seen_pairs.SeenPairs.{SeenPairs}
use Rattle.mvo_store.specs.declared.checkpoint.checkpointing.Checkpointing.{Checkpointing}
use Rattle.mvo_store.specs.declared.checkpoint.checkpoint_job.CheckpointJob.TheVariants.{Running as Runs}
use Rattle.mvo_store.specs.declared.merge.merging.Merging.{Merging}
use Rattle.mvo_store.specs.declared.merge.merge_job.MergeJob.TheVariants.{Running}
use Rattle.mvo_store.specs.declared.jobs.jobs.Jobs.{Jobs}
use Rattle.mvo_store.specs.declared.jobs.jobs.Jobs.TheVariants.{Beside}
use Rattle.mvo_store.specs.Checkpoint.{IsCheckpointing}
use Rattle.mvo_store.specs.Merging.{IsMerging, IsMergeWritten, IsMergeReady}
use Rattle.mvo_load.specs.Old.{is_old}
use Rattle.mvo_store.specs.Old.{KnowsOld}
use Rattle.mvo_store.specs.Placing.{change_count, HavePlacesSoFar}
use Rattle.mvo_store.specs.Reading.{HaveReadings}
use Rattle.mvo_store.specs.Jobs.{Job, jobs_of, install_of, job_takes_file}
use Rattle.mvo_store.specs.Jobs.Job.{Rotation, Checkpoint, Merge, MergeInstall}
use Rattle.mvo_store.specs.StoreData.{StoreData, opening}

-- ---- a group that is being appended

-- it follows the mark
abbrev pub FollowsMark : ℕ → Option GroupData → Type 0
FollowsMark mark None = Unit {0}
FollowsMark mark (Some g) = (g.prev ≡ mark) × IsGroup g

-- its body is written behind these parts' last gate
abbrev pub HasBody : Parts → Option GroupData → ℕ → ℕ → List ℕ → Type 0
HasBody x None gate next bytes = ⊥
HasBody x (Some g) gate next bytes =
    IsBodyBehindGate LAST_FORMAT.version x.middle x.last g gate next bytes

-- ---- a job that runs

-- how far the install of a manifest is, in the other slot
abbrev pub HasInstall : InstallStep → ManifestData → ℕ → List ℕ → Type 0
HasInstall Close next slot bytes = Unit {0}
HasInstall Body next slot bytes = IsShut bytes
HasInstall Open next slot bytes = IsStaged slot next bytes

-- the install that is under way
abbrev pub HasInstallOf : Option InstallData → ℕ → List ℕ → Type 0
HasInstallOf None slot bytes = Unit {0}
HasInstallOf (Some i) slot bytes = HasInstall i.step i.next slot bytes

-- The segment is fresh in a file that isn't used, and the manifest names it last: behind the last
-- one, which has a group, or in its place, where it is old and has none.
pub record IsRotating (content : Image) (may : ℕ → List ℕ → Type 0) (m : ManifestData) (x : Parts)
    (fresh : Segment) (next : ManifestData) : Type 0 where
  pub replaces : Bool
  pub next_is : next ≡ rotated replaces m fresh.file
  pub may_rotate : MayRotate replaces m fresh.file
  pub ends : MayFollowLast replaces x
  pub old : (n : ℕ) → IsLastFile m n → replaces ≡ true → is_old (content n) ≡ true
  pub is_fresh : IsFreshSegment LAST_FORMAT content may fresh.file
  pub gate : fresh.gate ≡ HEADER_LEN

-- a merge whose files aren't all written
pub record IsMergingAt (content : Image) (may : ℕ → List ℕ → Type 0) (m : ManifestData)
    (g : Merging) : Type 0 where
  pub merge : IsMerging content m g.seen
  pub written : IsMergeWritten content may g.seen g.stage

-- how what a job has made stands for a manifest
abbrev pub HasWork : Image → (ℕ → List ℕ → Type 0) → ManifestData → Parts → Job → Type 0
HasWork content may m x (Rotation fresh i) = IsRotating content may m x fresh i.next
HasWork content may m x (Checkpoint c) = IsCheckpointing content may m x c
HasWork content may m x (Merge g) = IsMergingAt content may m g
HasWork content may m x (MergeInstall g placed i) = IsMergeReady content may m g i.next

pub record IsRunning (content : Image) (may : ℕ → List ℕ → Type 0) (m : ManifestData) (x : Parts)
    (j : Job) : Type 0 where
  pub work : HasWork content may m x j
  pub install : HasInstallOf (install_of j) (other_slot m) (content (other_slot m))

-- no file is taken by both
abbrev pub ShareNoFile : Job → Job → Type 0
ShareNoFile j k = (n : ℕ) → job_takes_file j n ≡ true → job_takes_file k n ≡ false

-- a checkpoint and a merge beside one another share no file
abbrev pub ShareNone : Jobs → Type 0
ShareNone (Beside (Some (Runs c)) (Some (Running g))) = ShareNoFile (Checkpoint c) (Merge g)
ShareNone jobs = Unit {0}

-- each of those that run stands beside the manifest
abbrev pub HaveJobs : Image → (ℕ → List ℕ → Type 0) → ManifestData → Parts → Jobs → Type 0
HaveJobs content may m x jobs = AllByRecursion (IsRunning content may m x) (jobs_of jobs)

-- there is room for the places of those records that the job installs and that have none yet
abbrev pub JobHasRoom : PlaceTable → Job → Type 0
JobHasRoom places (Rotation fresh i) = Unit {0}
JobHasRoom places (Checkpoint c) =
    length c.made.records ≤ places.room + (c.placed - length c.made.gone)
JobHasRoom places (Merge g) = Unit {0}
JobHasRoom places (MergeInstall g placed i) = Unit {0}

abbrev pub JobsHaveRoom : PlaceTable → Jobs → Type 0
JobsHaveRoom places jobs = AllByRecursion (JobHasRoom places) (jobs_of jobs)

-- the places of the checkpoint's records that have none yet can be put there without memory
pub record FitsRecords (places : PlaceTable) (c : Checkpointing) : Type 0 where
  pub file : c.pair.data_file ≤ MAX_FILE
  pub few : length c.made.records ≤ MAX_PAIR_RECORDS
  pub room : length c.made.records ≤ places.room + (c.placed - length c.made.gone)
  pub placed : c.placed ≤ change_count c.made

-- the records of the merged pair may have their places in its data file
pub record MovesRecords (g : SeenPairs) (placed : ℕ) : Type 0 where
  pub file : g.pair.data_file ≤ MAX_FILE
  pub few : length g.made.records ≤ MAX_PAIR_RECORDS
  pub within : placed ≤ length g.made.records

-- the records of a merge have each a key of their own
abbrev pub HaveKeys : Job → Type 0
HaveKeys (Rotation fresh i) = Unit {0}
HaveKeys (Checkpoint c) = Unit {0}
HaveKeys (Merge g) = Unit {0}
HaveKeys (MergeInstall g placed i) = HaveOwnKeys g.made.records

abbrev pub MayTakeOver : PlaceTable → Job → Type 0
MayTakeOver places (Rotation fresh i) = Unit {0}
MayTakeOver places (Checkpoint c) = FitsRecords places c
MayTakeOver places (Merge g) = Unit {0}
MayTakeOver places (MergeInstall g placed i) = MovesRecords g placed

-- the same of the job whose install is under way
abbrev pub HaveKeysOf : Option Job → Type 0
HaveKeysOf None = Unit {0}
HaveKeysOf (Some j) = HaveKeys j

abbrev pub MayTakeOverOf : PlaceTable → Option Job → Type 0
MayTakeOverOf places None = Unit {0}
MayTakeOverOf places (Some j) = MayTakeOver places j

-- ---- the store

-- The store is up: its manifest is installed, the files that it names give exactly these rows and
-- the store's mark, and all of that is durable. It knows the places of the live records, with what
-- its job has changed of them, and which of these files are old.
pub record IsUp {D : Type 0} (d : Ghosts D) (s : StoreData D) (rows : Map) : Type 0 where
  pub up : s.down ≡ false
  pub parts : Parts
  pub settled :
      IsSettled (d.content s.disk) (d.may_leave s.disk) s.manifest parts
  pub rows_are : rows ≡ rows_of_parts parts
  pub mark_is : s.mark ≡ mark_of_parts parts
  pub marks : KnowsOld (d.content s.disk) s.manifest 1024 s.old_marks
  pub last : IsLastFile s.manifest s.segment.file
  pub gate : s.segment.gate ≡ gate_of parts.last
  pub few : s.segment.gate < MAX_SEGMENT_LEN
  pub pending : FollowsMark s.mark s.pending
  pub written : s.written ≡ true → HasBody parts s.pending s.segment.gate s.segment.next
      (d.content s.disk s.segment.file)
  pub jobs : HaveJobs (d.content s.disk) (d.may_leave s.disk) s.manifest parts s.jobs
  pub apart : ShareNone s.jobs
  pub reading : HaveReadings (d.content s.disk) s.manifest s.places.at s.jobs
  pub places : HavePlacesSoFar s.manifest.pairs parts.lives s.jobs s.places.at
  pub room_for : JobsHaveRoom s.places s.jobs
  pub room : d.fault_count s.disk + 1 < 2 ^ 64

-- the image is well formed, and gives these rows and this mark
abbrev pub Gives : Map → ℕ → Image → Type 0
Gives rows mark image = GivesRows image rows mark

-- these, or those after the group that is being opened
abbrev pub GivesOr : Map → ℕ → Option GroupData → Image → Type 0
GivesOr rows mark None image = Gives rows mark image
GivesOr rows mark (Some g) image = GivesWithOrWithout rows mark g image

-- each slot has a gate: only a disk that isn't formatted has an empty one
pub record HasSlots (content : Image) : Type 0 where
  pub first : content 0 ≢ []
  pub second : content 1 ≢ []

-- What a stop may leave: each slot has a gate, and the image gives these rows and this mark, or
-- those after the group that is being opened.
pub record MayBeLeft (rows : Map) (mark : ℕ) (taken : Option GroupData) (image : Image) : Type 0
  where
    pub slots : HasSlots image
    pub gives : GivesOr rows mark taken image

-- A stop now leaves these rows at the store's mark, or also the group that is being opened. Unless
-- the disk met a fault, the store is up.
pub record KeepsRows {D : Type 0} (d : Ghosts D) (s : StoreData D) (rows : Map) : Type 0 where
  pub images : (image : Image) → AllOf (d.may_leave s.disk) image →
      MayBeLeft rows s.mark (opening s) image
  pub up : s.down ≡ false → IsUp d s rows × HasSlots (d.content s.disk)

-- a stop at any moment from one store to the next leaves these rows, or also the group that is
-- being opened
abbrev pub LeavesRows : {D : Type 0} → Ghosts D → Map → StoreData D → StoreData D → Type 0
LeavesRows d rows s t =
    LeavesOnly d.moment d.left_since s.disk t.disk (MayBeLeft rows s.mark (opening s))

-- the rows after the group
abbrev pub after_taken : Map → Option GroupData → Map
after_taken rows None = rows
after_taken rows (Some g) = after_groups rows (g ∷ [])

-- A step from one store to the next that keeps the rows of the first, but for what it makes of
-- them: it leaves them at any moment, and then stands so.
pub record IsKeeping {D : Type 0} (d : Ghosts D) (made : Map → Map) (s t : StoreData D) : Type 0
  where
    pub any_moment : (rows : Map) → KeepsRows d s rows → LeavesRows d rows s t
    pub keeps : (rows : Map) → KeepsRows d s rows → KeepsRows d t (made rows)

-- it keeps them as they are
abbrev pub KeepsAllRows : {D : Type 0} → Ghosts D → StoreData D → StoreData D → Type 0
KeepsAllRows d s t = IsKeeping d (λ rows. rows) s t
