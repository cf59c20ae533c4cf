-- What loading the pairs of a manifest answers.
use Rattle.std.specs.Prelude.{ℕ, [], Result, IfOk}
use Rattle.mvo_types.specs.Keys.{Map}
use Rattle.mvo_types.specs.declared.refusal.Refusal.{Refusal}
use Rattle.mvo_disk.specs.Disk.{IsHonest}
use Rattle.mvo_disk.specs.declared.disk.Disk.{Ghosts}
use Rattle.mvo_manifest.specs.Data.{ManifestData}
use Rattle.mvo_recovery.specs.image.Opens.{Segments}
use Rattle.mvo_recovery.specs.image.Files.{SegmentSays}
use Rattle.mvo_places.specs.Places.{PlaceTable}
use Rattle.mvo_load.specs.Leading.{FoundLeadsOn, OpensUpTo}
use Rattle.mvo_load.specs.Parts.{HaveRows, HavePlaces}
use Rattle.mvo_load.specs.Read.{HasRead}

-- The rows and the places of the live records of a manifest's pairs, of versions up to this one,
-- are found on a disk, and lead on to the log; or why they aren't. The disk was read alone.
pub record HavePairs {D : Type 0} (d : Ghosts D) (upto : ℕ) (m : ManifestData) (old new : D)
    (result : Result (Map × PlaceTable) Refusal) : Type 0 where
  pub live : IsHonest (d.moment new) →
      IfOk result (λ found. HaveRows upto (d.content old) m.pairs found.0)
  pub places : IsHonest (d.moment new) →
      IfOk result (λ found. HavePlaces upto (d.content old) m.pairs found.1.at)
  pub leads : IsHonest (d.moment new) →
      FoundLeadsOn (λ found. Segments (SegmentSays upto) (d.content old) found.0 m.segments
      m.checkpoint_mark []) (OpensUpTo upto (d.content old) m) result
  pub read : HasRead d old new result
