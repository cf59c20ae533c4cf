-- A checkpoint whose segment is read, and whose pair is built, in slices.
use Rattle.std.specs.Prelude.{◌≡◌, ℕ, ◌<◌, ◌≤◌, ◌+◌, List, [], length, slice_index_or, Option, Some, None}
use Rattle.mvo_types.specs.declared.limits.TheConstants.{MAX_PAIRS}
use Rattle.mvo_group.specs.Data.{GroupData}
use Rattle.mvo_format.specs.declared.format.TheConstants.{LAST_FORMAT}
use Rattle.mvo_frame.specs.declared.kind.Kind.TheVariants.{Sealed}
use Rattle.mvo_frame.specs.declared.lengths.TheConstants.{MAX_FRAME_LEN, SLICE_LEN}
use Rattle.mvo_frame.specs.Frames.{IsSegment, mark_after}
use Rattle.mvo_frame.specs.Slices.{ReaderData, IsReadTo, HasClosedGateAt}
use Rattle.mvo_manifest.specs.Data.{ManifestData}
use Rattle.mvo_places.specs.Places.{PlaceMap}
use Rattle.mvo_ckpt.specs.declared.building.Built.{Built}
use Rattle.mvo_ckpt.specs.declared.building.Built.TheVariants.{More, Ready}
use Rattle.mvo_ckpt.specs.declared.building.TheConstants.{SLICE_WRITES}
use Rattle.mvo_ckpt.specs.Building.{IsBuilt, IsSliceFurther}
use Rattle.mvo_load.specs.Read.{MayBeGroups}
use Rattle.mvo_load.specs.Framed.{MayBeReadTo, MayBeAllRead}
use Rattle.mvo_store.specs.declared.limits.TheConstants.{MAX_GENERATION}
use Rattle.mvo_store.specs.declared.checkpoint.reading.CheckpointReading.{CheckpointReading}
use Rattle.mvo_store.specs.declared.checkpoint.reading.CheckpointReading.TheVariants.{Frames, Whole, Pair}

-- the file of a manifest's oldest segment
abbrev pub oldest_file : ManifestData → ℕ
oldest_file m = slice_index_or m.segments 0 0

-- a segment is sealed, and there is room for a pair
pub record MayReadCheckpoint (m : ManifestData) : Type 0 where
  pub generation : m.generation < MAX_GENERATION
  pub sealed : 2 ≤ length m.segments
  pub room : length m.pairs < MAX_PAIRS

-- ---- whatever the disk has answered

-- Some of the frames of the oldest segment may be read so far.
pub record IsFramesRead (m : ManifestData) (r : ReaderData) : Type 0 where
  pub file : r.file ≡ oldest_file m
  pub some : MayBeReadTo LAST_FORMAT.version m.checkpoint_mark r

-- All of them may be.
pub record IsWholeRead (m : ManifestData) (r : ReaderData) : Type 0 where
  pub file : r.file ≡ oldest_file m
  pub some : MayBeAllRead LAST_FORMAT.version m.checkpoint_mark r

-- The pair of some groups up to this mark, as a sealed segment may hold them, is built so far,
-- beside these places.
pub record IsPairBuilt (m : ManifestData) (at : PlaceMap) (mark : ℕ) (b : Built) : Type 0 where
  pub groups : List GroupData
  pub may : MayBeGroups LAST_FORMAT.version m.checkpoint_mark Sealed groups
  pub mark_is : mark ≡ mark_after m.checkpoint_mark groups
  pub built : IsBuilt at m.pairs groups b

abbrev pub MayBeRead : ManifestData → PlaceMap → CheckpointReading → Type 0
MayBeRead m at (Frames r) = IsFramesRead m r
MayBeRead m at (Whole r) = IsWholeRead m r
MayBeRead m at (Pair mark b) = IsPairBuilt m at mark.0 b

-- A checkpoint may be made, and so much of it may have been read and built.
pub record IsSafeSegmentRead (m : ManifestData) (at : PlaceMap) (r : CheckpointReading) : Type 0
  where
    pub may : MayReadCheckpoint m
    pub read : MayBeRead m at r

abbrev pub AreSafeSegmentRead : ManifestData → PlaceMap → Option CheckpointReading → Type 0
AreSafeSegmentRead m at None = Unit {0}
AreSafeSegmentRead m at (Some r) = IsSafeSegmentRead m at r

-- ---- where the disk has answered as written

-- all the frames of these bytes are read
pub record IsWholeOf (m : ManifestData) (bytes : List ℕ) (r : ReaderData) : Type 0 where
  pub to : IsReadTo LAST_FORMAT.version m.checkpoint_mark bytes r
  pub closed : HasClosedGateAt r.gate bytes

-- The pair of the groups of the segment with these bytes is built so far.
pub record IsPairOf (m : ManifestData) (at : PlaceMap) (bytes : List ℕ) (mark : ℕ) (b : Built)
    : Type 0 where
  pub groups : List GroupData
  pub has : IsSegment LAST_FORMAT.version m.checkpoint_mark Sealed groups bytes
  pub mark_is : mark ≡ mark_after m.checkpoint_mark groups
  pub built : IsBuilt at m.pairs groups b

-- What is read is that of the segment with these bytes.
abbrev pub IsReadOf : ManifestData → PlaceMap → List ℕ → CheckpointReading → Type 0
IsReadOf m at bytes (Frames r) = IsReadTo LAST_FORMAT.version m.checkpoint_mark bytes r
IsReadOf m at bytes (Whole r) = IsWholeOf m bytes r
IsReadOf m at bytes (Pair mark b) = IsPairOf m at bytes mark.0 b

-- a segment is sealed, and that is so of it
pub record IsSegmentRead (m : ManifestData) (at : PlaceMap) (bytes : List ℕ)
    (r : CheckpointReading) : Type 0 where
  pub sealed : 2 ≤ length m.segments
  pub read : IsReadOf m at bytes r

abbrev pub HasSegmentRead : ManifestData → PlaceMap → List ℕ → Option CheckpointReading → Type 0
HasSegmentRead m at bytes None = Unit {0}
HasSegmentRead m at bytes (Some r) = IsSegmentRead m at bytes r

-- ---- how far it is

-- It reads the oldest segment, and no group is read yet.
abbrev pub IsSegmentBegun : ManifestData → CheckpointReading → Type 0
IsSegmentBegun m (Frames r) = (r.file ≡ oldest_file m) × (r.groups ≡ [])
IsSegmentBegun m r = ⊥

-- Frames of at most a slice's bytes, and what the last of them has beyond it, are read.
pub record IsFrameSlice (old new : ReaderData) : Type 0 where
  pub file : new.file ≡ old.file
  pub most : new.gate ≤ old.gate + SLICE_LEN + MAX_FRAME_LEN

-- It is read or built further by a slice: frames, up to the closed gate; then it is turned to its
-- pair, of which nothing is built; then so many writes, or the numbers of one pair, or the end.
abbrev pub IsNextRead : ManifestData → CheckpointReading → CheckpointReading → Type 0
IsNextRead m (Frames old) (Frames new) = IsFrameSlice old new × (old.gate < new.gate)
IsNextRead m (Frames old) (Whole new) = IsFrameSlice old new
IsNextRead m (Whole old) (Pair mark (More new)) = mark.0 ≡ old.mark
IsNextRead m (Pair mark (More old)) (Pair to new) =
    (to.0 ≡ mark.0) × IsSliceFurther m.pairs (SLICE_WRITES + 2) old new
IsNextRead m old new = ⊥

-- all of its pair is built
abbrev pub IsAllBuilt : CheckpointReading → Type 0
IsAllBuilt (Pair mark (Ready c)) = Unit {0}
IsAllBuilt r = ⊥

-- some of its pair is to be built
abbrev pub IsBeingBuilt : CheckpointReading → Type 0
IsBeingBuilt (Pair mark (More b)) = Unit {0}
IsBeingBuilt r = ⊥

abbrev pub IsBeingBuiltOf : Option CheckpointReading → Type 0
IsBeingBuiltOf None = ⊥
IsBeingBuiltOf (Some r) = IsBeingBuilt r
