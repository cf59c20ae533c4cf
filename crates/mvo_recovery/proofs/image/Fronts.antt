-- What the first bytes of a segment say is what it says.
use Rattle.std.proofs.Common.{ℕ, List, arith}
use Rattle.mvo_types.specs.declared.limits.TheConstants.{MAX_SEGMENT_LEN}
use Rattle.mvo_group.specs.Data.{GroupData}
use Rattle.mvo_format.specs.Found.{Found, IsOtherVersion}
use Rattle.mvo_format.proofs.Fronts.{says_alike, other_in_front, other_of_front}
use Rattle.mvo_frame.specs.declared.magic.TheConstants.{MAGIC}
use Rattle.mvo_frame.specs.declared.kind.Kind.{Kind}
use Rattle.mvo_frame.specs.Frames.{IsSegment}
use Rattle.mvo_frame.proofs.Fronts.{segment_front, segment_in_front, segment_of_front}
use Rattle.mvo_recovery.specs.image.Files.{SegmentIs}

module _ (upto : ℕ) (file mark : ℕ) (kind : Kind) (bytes : List ℕ) where
  abbrev OtherThan : List ℕ → Type 0
  OtherThan l = IsOtherVersion MAGIC upto l

  pub segment_says_of_front : (found : Found (List GroupData)) → SegmentIs upto file mark kind (segment_front bytes) found → SegmentIs upto file mark kind bytes found
  segment_says_of_front =
      says_alike file (OtherThan (segment_front bytes)) (OtherThan bytes) (λ gs. IsSegment upto mark kind gs (segment_front bytes)) (λ gs. IsSegment upto mark kind gs bytes)
      (other_of_front MAX_SEGMENT_LEN MAGIC upto bytes) (other_in_front MAX_SEGMENT_LEN MAGIC upto bytes (omega arith)) (λ gs. segment_of_front upto mark kind gs bytes) (λ gs. segment_in_front upto mark kind gs bytes)

  pub segment_says_in_front : (found : Found (List GroupData)) → SegmentIs upto file mark kind bytes found → SegmentIs upto file mark kind (segment_front bytes) found
  segment_says_in_front =
      says_alike file (OtherThan bytes) (OtherThan (segment_front bytes)) (λ gs. IsSegment upto mark kind gs bytes) (λ gs. IsSegment upto mark kind gs (segment_front bytes))
      (other_in_front MAX_SEGMENT_LEN MAGIC upto bytes (omega arith)) (other_of_front MAX_SEGMENT_LEN MAGIC upto bytes) (λ gs. segment_in_front upto mark kind gs bytes) (λ gs. segment_of_front upto mark kind gs bytes)
