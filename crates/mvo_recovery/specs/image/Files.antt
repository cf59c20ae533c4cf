-- Opening an image whose slots and segments are read as their formats say.
use Rattle.std.specs.Prelude.{ℕ, Bool, true, false, List}
use Rattle.mvo_types.specs.Keys.{Map}
use Rattle.mvo_group.specs.Data.{GroupData}
use Rattle.mvo_format.specs.Found.{Found, Says, IsOtherVersion}
use Rattle.mvo_frame.specs.declared.kind.Kind.{Kind}
use Rattle.mvo_frame.specs.declared.kind.Kind.TheVariants.{Sealed, Last}
use Rattle.mvo_frame.specs.declared.magic.TheConstants.{MAGIC}
use Rattle.mvo_frame.specs.Frames.{IsSegment}
use Rattle.mvo_manifest.specs.Slots.{SlotSays}
use Rattle.mvo_format.specs.declared.format.TheConstants.{LAST_FORMAT}
use Rattle.mvo_recovery.specs.image.Opens.{Image, OpeningOutcome, SegmentReading, Opens}
use Rattle.mvo_recovery.specs.image.Gives.{ImageGives}

abbrev pub kind_of : Bool → Kind
kind_of true = Last
kind_of false = Sealed

-- what a segment's bytes say by versions up to this one: its groups, or another version, or neither
abbrev pub SegmentIs : ℕ → ℕ → ℕ → Kind → List ℕ → Found (List GroupData) → Type 0
SegmentIs upto file mark kind bytes =
    Says file (IsOtherVersion MAGIC upto bytes) (λ gs. IsSegment upto mark kind gs bytes)

abbrev pub SegmentSays : ℕ → SegmentReading
SegmentSays upto n mark last = SegmentIs upto n mark (kind_of last)

-- What opening an image answers: the files that a manifest names are of versions up to its own.
abbrev pub OpensAs : Image → OpeningOutcome → Type 0
OpensAs = Opens (SlotSays LAST_FORMAT.version) SegmentSays

-- The image is well formed, and gives these rows and this mark.
abbrev pub GivesRows : Image → Map → ℕ → Type 0
GivesRows = ImageGives (SlotSays LAST_FORMAT.version) SegmentSays
