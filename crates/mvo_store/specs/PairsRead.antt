-- A merge whose two pairs are read in slices.
use Rattle.std.specs.Prelude.{◌≡◌, ℕ, ◌+◌, ◌-◌, ◌<◌, ◌≤◌, Bool, true, false, List, [], drop, Option, Some, None, Ok}
use Rattle.mvo_format.specs.declared.format.TheConstants.{LAST_FORMAT}
use Rattle.mvo_pair.specs.declared.pair.Pair.{Pair}
use Rattle.mvo_pair.specs.Data.{Numbered}
use Rattle.mvo_pair.specs.Coming.{still_found, at_start}
use Rattle.mvo_manifest.specs.Data.{ManifestData}
use Rattle.mvo_recovery.specs.image.Opens.{Image}
use Rattle.mvo_recovery.specs.beside.Seen.{SeenData, WasSeen}
use Rattle.mvo_load.specs.Read.{MayBeLive}
use Rattle.mvo_load.specs.Sliced.{MayBeReadUpTo}
use Rattle.mvo_merge.specs.Merged.{MergedData}
use Rattle.mvo_merge.specs.SoFar.{merged_whole, with_left, with_right}
use Rattle.mvo_store.specs.declared.limits.TheConstants.{MAX_GENERATION}
use Rattle.mvo_store.specs.declared.merge.reading.MergeReading.{MergeReading}
use Rattle.mvo_store.specs.Causes.{are_too_many}
use Rattle.mvo_store.specs.Merging.{neighbours_at, HaveFiles, AreStill}

-- the one of the two that is read now
abbrev pub side_of : Bool → Pair → Pair → Pair
side_of true left right = left
side_of false left right = right

-- ---- whatever the disk has answered

-- The left pair is read so far, and this is made of it.
pub record IsLeftRead (g : MergeReading) : Type 0 where
  pub live : List Numbered
  pub so_far : MayBeReadUpTo LAST_FORMAT.version g.left g.reading live g.so_far
  pub made : g.made ≡ merged_whole live []

-- The left pair is read, and the right one so far.
pub record IsRightRead (g : MergeReading) : Type 0 where
  pub first : List Numbered
  pub may : MayBeLive LAST_FORMAT.version g.left first
  pub live : List Numbered
  pub so_far : MayBeReadUpTo LAST_FORMAT.version g.right g.reading live g.so_far
  pub made : g.made ≡ merged_whole first live

abbrev pub AreReadOn : Bool → MergeReading → Type 0
AreReadOn true g = IsLeftRead g
AreReadOn false g = IsRightRead g

-- The two stand in their places still, some bytes may have been read of them so far, and their live
-- records are no more than a pair may have.
pub record IsSafeRead (m : ManifestData) (g : MergeReading) : Type 0 where
  pub generation : m.generation ≤ MAX_GENERATION
  pub left_files : HaveFiles g.left
  pub right_files : HaveFiles g.right
  pub fits : are_too_many (Some (g.left, g.right)) ≡ false
  pub still : AreStill m g.place g.left g.right
  pub read : AreReadOn g.is_left g

abbrev pub IsSafeReading : ManifestData → Option MergeReading → Type 0
IsSafeReading m None = Unit {0}
IsSafeReading m (Some g) = IsSafeRead m g

-- ---- where the disk has answered as written

-- the two, with these live records
abbrev pub read_with : MergeReading → List Numbered → List Numbered → SeenData
read_with g left right = record {
  place = g.place;
  left = g.left;
  right = g.right;
  live_left = left;
  live_right = right;
}

-- what is made once the rest of the pair that is read now has come, and the right one behind it
abbrev pub with_rest : Bool → List Numbered → List Numbered → MergedData → MergedData
with_rest true rest right made = with_right right (with_left rest made)
with_rest false rest right made = with_right rest made

-- What still comes of the pair that is read now makes of what is made the whole of these.
pub record ComesToWhole (content : Image) (g : MergeReading) (left right : List Numbered) : Type 0
  where
    pub rest : List Numbered
    pub comes : still_found g.reading g.so_far
        (drop g.so_far.place (content (side_of g.is_left g.left g.right).data_file)) ≡ Ok rest
    pub whole : with_rest g.is_left rest right g.made ≡ merged_whole left right

-- The merge saw two neighbours with these live records, and what is read of them comes to these.
pub record IsReadFrom (content : Image) (m : ManifestData) (g : MergeReading) : Type 0 where
  pub left : List Numbered
  pub right : List Numbered
  pub seen : WasSeen content m (read_with g left right)
  pub comes : ComesToWhole content g left right

abbrev pub HasReading : Image → ManifestData → Option MergeReading → Type 0
HasReading content m None = Unit {0}
HasReading content m (Some g) = IsReadFrom content m g

-- ---- how far it is

-- Of the pair that is read now all is read.
abbrev pub IsSideWhole : MergeReading → Type 0
IsSideWhole g = g.reading.pair.records ≤ g.so_far.count

-- how many slices there may be at most: one a record that isn't read, one between the two pairs,
-- and one behind them
abbrev pub left_to_read : Bool → MergeReading → ℕ
left_to_read true g = (g.left.records - g.so_far.count) + (g.right.records + 2)
left_to_read false g = (g.right.records - g.so_far.count) + 1

-- It reads the same two pairs, of which less is left to be read.
pub record IsReadFurther (old new : MergeReading) : Type 0 where
  pub place : new.place ≡ old.place
  pub left : new.left ≡ old.left
  pub right : new.right ≡ old.right
  pub less : left_to_read new.is_left new < left_to_read old.is_left old

-- It reads the pair at this place and the one behind it, and nothing is read yet.
pub record IsReadingOf (m : ManifestData) (place : ℕ) (g : MergeReading) : Type 0 where
  pub place_is : g.place ≡ place
  pub two : neighbours_at place m.pairs ≡ Some (g.left, g.right)
  pub first : g.is_left ≡ true
  pub start : g.so_far ≡ at_start
