-- What the code of a store rests on, whatever its disk answered: no byte of a file.
use Rattle.std.specs.Prelude.{◌≡◌, ◌+◌, ◌<◌, ◌≤◌, ◌^◌, ℕ, true, List, length, Option, Some, None}
use Rattle.std.specs.List.{AllByRecursion}
use Rattle.mvo_types.specs.Keys.{Map}
use Rattle.mvo_types.specs.declared.limits.TheConstants.{MAX_SEGMENT_LEN, MAX_PAIR_RECORDS}
use Rattle.mvo_disk.specs.declared.disk.Disk.{Ghosts}
use Rattle.mvo_disk.specs.Disk.{IsHonest}
use Rattle.mvo_group.specs.Data.{GroupData}
use Rattle.mvo_format.specs.declared.format.TheConstants.{LAST_FORMAT}
use Rattle.mvo_frame.specs.declared.segment.Segment.{Segment}
use Rattle.mvo_pair.specs.declared.pair.Pair.{Pair}
use Rattle.mvo_pair.specs.Data.{EntryData}
use Rattle.mvo_pair.specs.Files.{AreEntries}
use Rattle.mvo_ckpt.specs.Ended.{AreOfPairs}
use Rattle.mvo_manifest.specs.Data.{ManifestData}
use Rattle.mvo_manifest.specs.Rules.{IsFile}
use Rattle.mvo_recovery.specs.Installing.{IsNext}
use Rattle.mvo_store.specs.declared.checkpoint.stage.CheckpointStage.{CheckpointStage}
use Rattle.mvo_store.specs.declared.checkpoint.stage.CheckpointStage.TheVariants.{Data as AtData, Delta as AtDelta, Install as AtInstall}
use Rattle.mvo_store.specs.declared.checkpoint.checkpointing.Checkpointing.{Checkpointing}
use Rattle.mvo_store.specs.declared.merge.stage.MergeStage.{MergeStage}
use Rattle.mvo_store.specs.declared.merge.stage.MergeStage.TheVariants.{Data as MergeAtData, Delta as MergeAtDelta}
use Rattle.mvo_store.specs.declared.merge.merging.Merging.{Merging}
use Rattle.mvo_store.specs.declared.jobs.jobs.Jobs.{Jobs}
use Rattle.mvo_store.specs.declared.limits.TheConstants.{MAX_GENERATION}
use Rattle.mvo_store.specs.Jobs.{Job, jobs_of}
use Rattle.mvo_store.specs.Placing.{change_count}
use Rattle.mvo_store.specs.Reading.{AreSafeReadings}
use Rattle.mvo_store.specs.Jobs.Job.{Rotation, Checkpoint, Merge, MergeInstall}
use Rattle.mvo_store.specs.Checkpoint.{next_of}
use Rattle.mvo_store.specs.Merging.{StandStill, MayBecome}
use Rattle.mvo_store.specs.Standing.{IsUp, JobsHaveRoom, ShareNone}
use Rattle.mvo_store.specs.StoreData.{StoreData}

-- ---- a job that runs

-- The files of a new pair stand behind the slots. Its records keep the rules of a data file and
-- are no more than a pair may have.
pub record IsSafePair (p : Pair) (es : List EntryData) : Type 0 where
  pub data_file : IsFile p.data_file
  pub delta_file : IsFile p.delta_file
  pub few : length es ≤ MAX_PAIR_RECORDS
  pub are : AreEntries LAST_FORMAT p.lo.0 p.hi.0 es

-- no more delta files are written than there are
abbrev pub IsWithin : ℕ → CheckpointStage → Type 0
IsWithin older (AtData written) = Unit {0}
IsWithin older (AtDelta written) = written ≤ older
IsWithin older (AtInstall step) = Unit {0}

-- nor more records of a data file than there are
abbrev pub IsAmong : ℕ → CheckpointStage → Type 0
IsAmong all (AtData written) = written ≤ all
IsAmong all stage = Unit {0}

abbrev pub IsMergeAmong : ℕ → MergeStage → Type 0
IsMergeAmong all (MergeAtData written) = written ≤ all
IsMergeAmong all MergeAtDelta = Unit {0}

pub record IsSafeRotation (m : ManifestData) (fresh : Segment) (next : ManifestData) : Type 0 where
  pub file : IsFile fresh.file
  pub few : fresh.gate < MAX_SEGMENT_LEN
  pub next_is : IsNext m next

-- Each pair that gains numbers is one of the manifest's, and no more changes of the places are made
-- than there are. Once its manifest is installed, another may be.
pub record IsSafeCheckpoint (m : ManifestData) (c : Checkpointing) : Type 0 where
  pub generation : m.generation < MAX_GENERATION
  pub pair : IsSafePair c.pair c.made.records
  pub known : AreOfPairs m.pairs c.made.deltas
  pub within : IsWithin (length c.made.deltas) c.stage
  pub among : IsAmong (length c.made.records) c.stage
  pub placed : c.placed ≤ change_count c.made
  pub next_is : c.next ≡ next_of m c.pair c.made.deltas

-- Of the two pairs the manifest may make the one, so that it keeps the rules.
pub record IsSafeMerge (m : ManifestData) (g : Merging) : Type 0 where
  pub pair : IsSafePair g.seen.pair g.seen.made.records
  pub among : IsMergeAmong (length g.seen.made.records) g.stage
  pub still : StandStill m g.seen
  pub may_become : MayBecome m g.seen

-- No more of the records have their places than there are.
pub record IsSafeInstall (m : ManifestData) (p : Pair) (es : List EntryData) (placed : ℕ)
    (next : ManifestData) : Type 0 where
  pub pair : IsSafePair p es
  pub within : placed ≤ length es
  pub next_is : IsNext m next

abbrev pub IsSafeWork : ManifestData → Job → Type 0
IsSafeWork m (Rotation fresh i) = IsSafeRotation m fresh i.next
IsSafeWork m (Checkpoint c) = IsSafeCheckpoint m c
IsSafeWork m (Merge g) = IsSafeMerge m g
IsSafeWork m (MergeInstall g placed i) = IsSafeInstall m g.pair g.made.records placed i.next

abbrev pub AreSafe : ManifestData → Jobs → Type 0
AreSafe m jobs = AllByRecursion (IsSafeWork m) (jobs_of jobs)

-- ---- a store

-- the pending group's body ends in front of a gate within the limit
abbrev pub HasNext : Option GroupData → ℕ → Type 0
HasNext None next = ⊥
HasNext (Some g) next = next < MAX_SEGMENT_LEN

pub record IsSafe {D : Type 0} (d : Ghosts D) (s : StoreData D) : Type 0 where
  pub file : IsFile s.segment.file
  pub few : s.segment.gate < MAX_SEGMENT_LEN
  pub written : s.written ≡ true → HasNext s.pending s.segment.next
  pub jobs : AreSafe s.manifest s.jobs
  pub apart : ShareNone s.jobs
  pub reading : AreSafeReadings s.manifest s.places.at s.jobs
  pub room_for : JobsHaveRoom s.places s.jobs
  pub room : d.fault_count s.disk + 1 < 2 ^ 64

-- It is safe, and up with some rows where its disk has answered as written.
pub record IsStoreSound {D : Type 0} (d : Ghosts D) (s : StoreData D) : Type 0 where
  pub safe : IsSafe d s
  pub up : IsHonest (d.moment s.disk) → (rows : Map) × IsUp d s rows
