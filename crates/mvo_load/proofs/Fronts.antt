-- The one answer of the bytes that were read is that of the files on the disk.
use Rattle.std.proofs.Common.{ℕ, List, take, Option, Result}
use Rattle.mvo_types.specs.declared.refusal.Refusal.{Refusal}
use Rattle.mvo_group.specs.Data.{GroupData}
use Rattle.mvo_format.specs.Found.{Found}
use Rattle.mvo_frame.specs.declared.kind.Kind.{Kind}
use Rattle.mvo_frame.proofs.Fronts.{segment_front}
use Rattle.mvo_pair.specs.declared.pair.Pair.{Pair}
use Rattle.mvo_pair.specs.Answers.{IsOnly}
use Rattle.mvo_pair.specs.Data.{Numbered}
use Rattle.mvo_pair.specs.Loading.{LoadsAs, data_reach, delta_reach}
use Rattle.mvo_pair.proofs.Fronts.{loads_of_front, loads_in_front, only_alike}
use Rattle.mvo_manifest.specs.Data.{ManifestData}
use Rattle.mvo_manifest.specs.Slots.{SlotSays}
use Rattle.mvo_manifest.proofs.Fronts.{slot_front, slot_of_front, slot_in_front}
use Rattle.mvo_recovery.specs.image.Files.{SegmentIs}
use Rattle.mvo_recovery.proofs.image.Fronts.{segment_says_of_front, segment_says_in_front}

pub slot_on_disk : (version slot : ℕ) (bytes : List ℕ) (found : Found (Option ManifestData)) → IsOnly (SlotSays version slot (slot_front bytes)) found → IsOnly (SlotSays version slot bytes) found
slot_on_disk version slot bytes = only_alike (SlotSays version slot (slot_front bytes)) (SlotSays version slot bytes) (slot_of_front version slot bytes) (slot_in_front version slot bytes)

pub segment_on_disk : (upto : ℕ) (file mark : ℕ) (kind : Kind) (bytes : List ℕ) (found : Found (List GroupData)) → IsOnly (SegmentIs upto file mark kind (segment_front bytes)) found → IsOnly (SegmentIs upto file mark kind bytes) found
segment_on_disk upto file mark kind bytes = only_alike (SegmentIs upto file mark kind (segment_front bytes)) (SegmentIs upto file mark kind bytes) (segment_says_of_front upto file mark kind bytes) (segment_says_in_front upto file mark kind bytes)

pub pair_on_disk : (upto : ℕ) (p : Pair) (a b : List ℕ) (out : Result (List Numbered) Refusal) → IsOnly (LoadsAs upto p (take (data_reach upto p) a) (take (delta_reach p) b)) out → IsOnly (LoadsAs upto p a b) out
pair_on_disk upto p a b = only_alike (LoadsAs upto p (take (data_reach upto p) a) (take (delta_reach p) b)) (LoadsAs upto p a b) (loads_of_front upto p a b) (loads_in_front upto p a b)
