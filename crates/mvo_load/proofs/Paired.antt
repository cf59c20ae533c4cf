-- What loading the pairs of a manifest answers, behind other reads and without an answer.
use Rattle.std.proofs.Common.{◌⊎◌, ℕ, [], Result, Err, subst}
use Rattle.std.specs.Prelude.{IfOk}
use Rattle.mvo_types.specs.Keys.{Map}
use Rattle.mvo_types.specs.declared.refusal.Refusal.{Refusal}
use Rattle.mvo_disk.specs.Disk.{IsHonest}
use Rattle.mvo_disk.specs.declared.disk.Disk.{Ghosts}
use Rattle.mvo_pair.specs.Answers.{IsOnly}
use Rattle.mvo_pair.specs.Writing.{IsStop}
use Rattle.mvo_manifest.specs.Data.{ManifestData}
use Rattle.mvo_recovery.specs.image.Opens.{Image, Segments}
use Rattle.mvo_recovery.specs.image.Files.{SegmentSays}
use Rattle.mvo_places.specs.Places.{PlaceTable}
use Rattle.mvo_load.specs.Leading.{FoundLeadsOn, OpensUpTo}
use Rattle.mvo_load.specs.Parts.{HaveRows, HavePlaces}
use Rattle.mvo_load.specs.Pairs.{HavePairs}
use Rattle.mvo_load.specs.Read.{IsDiskUnchanged, HasRead}
use Rattle.mvo_load.proofs.Unchanged.{same_image, then_read}

module _ {D : Type 0} (d : Ghosts D) (upto : ℕ) (m : ManifestData) where
  pub then_pairs : (a b c : D) (r : Result (Map × PlaceTable) Refusal) → IsDiskUnchanged d a b → HavePairs d upto m b c r → HavePairs d upto m a c r
  then_pairs a b c r one two =
      let same = same_image d a b one.rest.content in
      record {
        live = λ honest. subst (λ (image : Image). IfOk r (λ found. HaveRows upto image m.pairs found.0)) same (two.live honest);
        places = λ honest. subst (λ (image : Image). IfOk r (λ found. HavePlaces upto image m.pairs found.1.at)) same (two.places honest);
        leads = λ honest. subst (λ (image : Image). FoundLeadsOn (λ found. Segments (SegmentSays upto) image found.0 m.segments m.checkpoint_mark []) (OpensUpTo upto image m) r) same (two.leads honest);
        read = then_read d a b c r one two.read;
      }

  pub no_pairs : (a b : D) (e : Refusal) → (IsHonest (d.moment b) → IsStop e ⊎ IsOnly (OpensUpTo upto (d.content a) m) (Err e)) → HasRead {X = Map × PlaceTable} d a b (Err e) → HavePairs d upto m a b (Err e)
  no_pairs a b e leads read = record { live = λ _. tt; places = λ _. tt; leads = leads; read = read }
