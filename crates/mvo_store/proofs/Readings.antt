-- A merge whose pairs are read, beside a step of another job, or an append, or an install.
use Rattle.std.proofs.Common.{◌≡◌, ℕ, ◌+◌, ◌≤◌, Bool, true, false, List, drop, Option, Some, None, sym, ap, subst, ◌∙◌, arith}
use Rattle.std.specs.List.{Contains, flat_map}
use Rattle.mvo_disk.specs.Disk.{Image, OthersStay}
use Rattle.mvo_pair.specs.Data.{Numbered}
use Rattle.mvo_pair.specs.Coming.{still_found}
use Rattle.mvo_manifest.specs.Data.{ManifestData, pair_files}
use Rattle.mvo_manifest.specs.Rules.{IsManifest}
use Rattle.mvo_recovery.specs.image.Gives.{HaveLive}
use Rattle.mvo_recovery.specs.Parts.{Parts}
use Rattle.mvo_recovery.specs.Settled.{IsSettled, other_slot}
use Rattle.mvo_recovery.specs.beside.Seen.{CountsStay}
use Rattle.mvo_recovery.proofs.Named.{named_is_no_slot, pairs_named, slot_below}
use Rattle.mvo_recovery.proofs.Pairs.{data_among}
use Rattle.mvo_recovery.proofs.beside.Seen.{in_left, in_right, seen_stays, seen_where_counts_stay, seen_beside_install}
use Rattle.mvo_store.specs.declared.checkpoint.checkpointing.Checkpointing.{Checkpointing}
use Rattle.mvo_store.specs.declared.merge.reading.MergeReading.{MergeReading}
use Rattle.mvo_store.specs.Checkpoint.{gained, IsCheckpointInto}
use Rattle.mvo_store.specs.PairsRead.{side_of, read_with, ComesToWhole, IsReadFrom, HasReading}

module _ (old new : Image) (m : ManifestData) where
  module _ (g : MergeReading) where
    side_stays : (b : Bool) → new g.left.data_file ≡ old g.left.data_file → new g.right.data_file ≡ old g.right.data_file → new (side_of b g.left g.right).data_file ≡ old (side_of b g.left g.right).data_file
    side_stays true left right = left
    side_stays false left right = right

    -- what still comes of the pairs stays with their data files
    comes_still : (left right : List Numbered) → new g.left.data_file ≡ old g.left.data_file → new g.right.data_file ≡ old g.right.data_file → ComesToWhole old g left right → ComesToWhole new g left right
    comes_still left right of_left of_right h = record {
      rest = h.rest;
      comes = ap (λ (bytes : List ℕ). still_found g.reading g.so_far (drop g.so_far.place bytes)) (side_stays g.is_left of_left of_right) ∙ h.comes;
      whole = h.whole;
    }

  -- THE READING STAYS where the files of the pairs do.
  pub reading_framed : ((n : ℕ) → Contains (flat_map pair_files m.pairs) n → new n ≡ old n) → (o : Option MergeReading) → HasReading old m o → HasReading new m o
  reading_framed same None h = tt
  reading_framed same (Some g) h =
      let saw = read_with g h.left h.right in
      let of_left : new g.left.data_file ≡ old g.left.data_file = same g.left.data_file (data_among m.pairs _ (in_left old m saw h.seen)) in
      let of_right : new g.right.data_file ≡ old g.right.data_file = same g.right.data_file (data_among m.pairs _ (in_right old m saw h.seen)) in
      record {
        left = h.left;
        right = h.right;
        seen = seen_stays old new m saw same h.seen;
        comes = comes_still g h.left h.right of_left of_right h.comes;
      }

  -- and where their data files do, and the numbers that count
  pub reading_counted : IsManifest m → (lives : List (List Numbered)) → HaveLive m.version old m.pairs lives → CountsStay m.version old new m.pairs → (o : Option MergeReading) → HasReading old m o → HasReading new m o
  reading_counted is lives have stay None h = tt
  reading_counted is lives have stay (Some g) h =
      let saw = read_with g h.left h.right in
      let of_left : new g.left.data_file ≡ old g.left.data_file = (stay _ (in_left old m saw h.seen)).0 in
      let of_right : new g.right.data_file ≡ old g.right.data_file = (stay _ (in_right old m saw h.seen)).0 in
      record {
        left = h.left;
        right = h.right;
        seen = seen_where_counts_stay old new m saw lives is have stay h.seen;
        comes = comes_still g h.left h.right of_left of_right h.comes;
      }

-- IT GOES ON where the manifest of the checkpoint beside it is installed.
module _ (old new : Image) (may_old may_new : ℕ → List ℕ → Type 0) (m : ManifestData) (x : Parts) (settled : IsSettled old may_old m x) (rest : OthersStay (other_slot m) old new may_old may_new) (c : Checkpointing) (into : IsCheckpointInto old m x c.pair c.made c.next) where
  pair_stays : (n : ℕ) → Contains (flat_map pair_files m.pairs) n → new n ≡ old n
  pair_stays n in_pairs = rest.content n (λ e. named_is_no_slot m n settled.installed.own.is (pairs_named m n in_pairs) (omega (arith, e, slot_below (m.generation + 1))))

  pub reading_goes_on : (g : MergeReading) → IsReadFrom old m g → IsReadFrom new c.next g
  reading_goes_on g h =
      let stays : IsReadFrom new m g = reading_framed old new m pair_stays (Some g) h in
      record {
        left = stays.left;
        right = stays.right;
        seen = seen_beside_install new m c.next (read_with g stays.left stays.right) (gained c.made.deltas) c.pair (subst (λ (k : ManifestData). m.version ≤ k.version) (sym into.next_is) (omega arith)) (ap (λ (k : ManifestData). k.pairs) into.next_is) stays.seen;
        comes = stays.comes;
      }
