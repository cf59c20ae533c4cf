-- The laws of opening.
use Rattle.std.proofs.Common.{ℕ, Bool, List, [], ◌∷◌, sym, arith}
use Rattle.std.specs.List.{AllByRecursion}
use Rattle.mvo_pair.specs.Loading.{LoadsAs}
use Rattle.mvo_pair.specs.Reading.{pair_found}
use Rattle.mvo_format.specs.declared.format.TheConstants.{LAST_FORMAT}
use Rattle.mvo_pair.specs.declared.pair.Pair.{Pair}
use Rattle.mvo_pair.proofs.Loads.{Fits, loads}
use Rattle.mvo_frame.specs.Reading.{segment_found}
use Rattle.mvo_frame.proofs.Walk.{segment_says, segment_alone}
use Rattle.mvo_manifest.specs.Rules.{PairsRise}
use Rattle.mvo_manifest.specs.Slots.{SlotSays}
use Rattle.mvo_manifest.specs.Finding.{slot_found}
use Rattle.mvo_manifest.proofs.Read.{slot_says, slot_alone, pick_says, pick_alone}
use Rattle.mvo_recovery.specs.image.Opens.{Image}
use Rattle.mvo_recovery.specs.image.Files.{kind_of, SegmentSays}
use Rattle.mvo_recovery.specs.image.Laws.{AreFiles, SlotIsExact, PickIsExact, SegmentIsExact, HasOneAnswer, IsExact}
use Rattle.mvo_recovery.proofs.image.One.{HasOne, opens_one}
use Rattle.mvo_recovery.proofs.image.Exact.{gives_opens, opens_gives}

pub slot_exact : SlotIsExact
slot_exact upto slot bytes fits = (slot_says upto slot bytes fits, λ z h. sym (slot_alone upto slot bytes fits z h))

pub pick_exact : PickIsExact
pick_exact upto first second fits fits_too = (pick_says upto first second fits fits_too, λ z h. sym (pick_alone upto first second fits fits_too z h))

pub segment_exact : SegmentIsExact
segment_exact upto file mark kind bytes fits = (segment_says upto file mark kind bytes fits, λ z h. sym (segment_alone upto file mark kind bytes fits z h))

module _ (image : Image) (is : AreFiles image) where
  slot_one : (n : ℕ) → HasOne (SlotSays LAST_FORMAT.version n (image n))
  slot_one n = (slot_found LAST_FORMAT.version n (image n), slot_exact LAST_FORMAT.version n (image n) (is n))

  segment_one : (upto n mark : ℕ) (last : Bool) → HasOne (SegmentSays upto n mark last (image n))
  segment_one upto n mark last = (segment_found upto n mark (kind_of last) (image n), segment_exact upto n mark (kind_of last) (image n) (is n))

  -- the pairs of a manifest have their words, and so each has one answer
  pairs_one : (upto lo hi : ℕ) (ps : List Pair) → PairsRise lo ps hi → AllByRecursion (λ p. HasOne (LoadsAs upto p (image p.data_file) (image p.delta_file))) ps
  pairs_one upto lo hi [] rise = tt
  pairs_one upto lo hi (p ∷ ps) rise =
      let fits : Fits p = record { hi = omega (arith, rise.0.top); records = omega (arith, rise.0.records) } in
      ((pair_found upto p (image p.data_file) (image p.delta_file), loads upto p (image p.data_file) (image p.delta_file) fits (is p.data_file) (λ es e. is p.delta_file)), pairs_one upto p.hi.0 hi ps rise.1)

pub one_answer : HasOneAnswer
one_answer image is =
    opens_one (SlotSays LAST_FORMAT.version) SegmentSays image (record {
      slot = slot_one image is;
      pair = λ n m has. pairs_one image is m.version 0 m.checkpoint_mark m.pairs has.0.is.rules.rise;
      segment = segment_one image is;
    })

pub exact : IsExact
exact image rows mark = (
  opens_gives (SlotSays LAST_FORMAT.version) SegmentSays image rows mark,
  gives_opens (SlotSays LAST_FORMAT.version) SegmentSays image rows mark,
)
