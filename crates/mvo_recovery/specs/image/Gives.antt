-- A well formed image, and the rows and the mark that it gives.
use Rattle.std.specs.Prelude.{◌≡◌, ℕ, List, [], ◌∷◌, ◌++◌, Option, Some, Ok}
use Rattle.mvo_types.specs.Keys.{Map}
use Rattle.mvo_group.specs.Data.{GroupData}
use Rattle.mvo_pair.specs.Data.{Numbered, AreApart}
use Rattle.mvo_pair.specs.Loading.{LoadsAs}
use Rattle.mvo_pair.specs.declared.pair.Pair.{Pair}
use Rattle.mvo_frame.specs.Frames.{mark_after}
use Rattle.mvo_places.specs.Rows.{rows_of, after_groups}
use Rattle.mvo_manifest.specs.Data.{ManifestData}
use Rattle.mvo_manifest.specs.Slots.{newest}
use Rattle.mvo_recovery.specs.image.Opens.{Image, SlotReading, SegmentReading, is_empty_list}

-- of the open slots, the manifest of the greater generation
pub record IsInstalledIn (slots : SlotReading) (image : Image) (m : ManifestData) : Type 0 where
  pub first : Option ManifestData
  pub second : Option ManifestData
  pub first_has : slots 0 (image 0) (Ok first)
  pub second_has : slots 1 (image 1) (Ok second)
  pub is : newest first second ≡ Some m

-- each pair has these live records, by versions up to this one
abbrev pub HaveLive : ℕ → Image → List Pair → List (List Numbered) → Type 0
HaveLive upto image [] [] = Unit {0}
HaveLive upto image [] (l ∷ ls) = ⊥
HaveLive upto image (p ∷ ps) [] = ⊥
HaveLive upto image (p ∷ ps) (l ∷ ls) =
    LoadsAs upto p (image p.data_file) (image p.delta_file) (Ok l) × HaveLive upto image ps ls

-- the segments have these groups, one segment after another, from a mark on to another
abbrev pub HaveGroups : SegmentReading → Image → List ℕ → ℕ → List GroupData → ℕ → Type 0
HaveGroups reads image [] mark gs upto = (gs ≡ []) × (upto ≡ mark)
HaveGroups reads image (n ∷ ns) mark gs upto =
    (here : List GroupData) × (later : List GroupData) × (gs ≡ here ++ later)
    × reads n mark (is_empty_list ns) (image n) (Ok here)
    × HaveGroups reads image ns (mark_after mark here) later upto

-- The image is well formed, and gives these rows and this mark.
pub record ImageGives (slots : SlotReading) (reads : ℕ → SegmentReading) (image : Image)
    (rows : Map) (mark : ℕ) : Type 0 where
  pub manifest : ManifestData
  pub installed : IsInstalledIn slots image manifest
  pub lives : List (List Numbered)
  pub live : HaveLive manifest.version image manifest.pairs lives
  pub distinct : AreApart lives
  pub groups : List GroupData
  pub have : HaveGroups (reads manifest.version) image manifest.segments manifest.checkpoint_mark
      groups mark
  pub rows_are : rows ≡ after_groups (rows_of lives) groups
