-- Runs of steps beside a merge that writes its files: of checkpoints, of that merge, and of
-- reclaims.
use Rattle.std.specs.Prelude.{◌≡◌, ⊤, ℕ, ◌≤◌, List, [], ◌∷◌, ◌++◌, map}
use Rattle.std.specs.List.{Contains}
use Rattle.mvo_disk.specs.Disk.{Image, Only, OthersStay, Touched, LeavesOnly, Moment}
use Rattle.mvo_format.specs.declared.format.Format.{Format}
use Rattle.mvo_format.specs.Formats.{IsFormatUpTo}
use Rattle.mvo_pair.specs.declared.pair.Pair.{Pair}
use Rattle.mvo_pair.specs.Files.{AreNumbers, HasDeadNumbers}
use Rattle.mvo_pair.specs.Writing.{KeepsNumbers, GainsNumbers}
use Rattle.mvo_manifest.specs.Data.{ManifestData}
use Rattle.mvo_recovery.specs.Parts.{Parts, MakeUpSame}
use Rattle.mvo_recovery.specs.Settled.{other_slot, IsUsed, IsSettled, GivesParts}
use Rattle.mvo_recovery.specs.Checkpoint.{NewNumbers, raise}
use Rattle.mvo_recovery.specs.beside.Seen.{SeenData, WasSeen}

module _ {D : Type 0} (moment : D → Moment) (left_since : D → Moment → Image → Type 0)
    (content : D → Image) (may : D → ℕ → List ℕ → Type 0) where
  -- a file that the manifest doesn't use is written or cut
  pub record WritesUnused (a : D) (m : ManifestData) (b : D) : Type 0 where
    pub file : ℕ
    pub unused : IsUsed m file → ⊥
    pub rest : OthersStay file (content a) (content b) (may a) (may b)
    pub touched : LeavesOnly moment left_since a b (Touched file (may a) (λ _. ⊤))

  -- numbers are written behind those that count in the delta file of a pair
  pub record WritesNumbers (a : D) (m : ManifestData) (b : D) : Type 0 where
    pub pair : Pair
    pub more : List ℕ
    pub has : Contains m.pairs pair
    pub rest : OthersStay pair.delta_file (content a) (content b) (may a) (may b)
    pub durable : Only (content b pair.delta_file) (may b pair.delta_file)
    pub gains :
        GainsNumbers (content a pair.delta_file) (content b pair.delta_file) pair.entries more
    pub follow : (own : Format) → IsFormatUpTo m.version own → (ns : List ℕ) →
        HasDeadNumbers own.version pair.records pair.entries ns (content a pair.delta_file) →
        AreNumbers pair.records (ns ++ more)
    pub keeps :
        KeepsNumbers moment left_since content may a b pair.delta_file pair.entries

  -- the other slot is closed, or a manifest is written behind its shut gate
  pub record WritesSlot (a : D) (m : ManifestData) (x : Parts) (b : D) : Type 0 where
    pub rest : OthersStay (other_slot m) (content a) (content b) (may a) (may b)
    pub settled : IsSettled (content b) (may b) m x
    pub gives : LeavesOnly moment left_since a b (GivesParts x)

  -- the manifest of a checkpoint is installed, of no earlier version
  pub record InstallsCheckpoint (a : D) (m : ManifestData) (x : Parts) (b : D) (n : ManifestData)
      (y : Parts) : Type 0 where
    pub numbers : NewNumbers
    pub pair : Pair
    pub version : m.version ≤ n.version
    pub pairs : n.pairs ≡ map (raise numbers) m.pairs ++ pair ∷ []
    pub rest : OthersStay (other_slot m) (content a) (content b) (may a) (may b)
    pub settled : IsSettled (content b) (may b) n y
    pub same : MakeUpSame x y
    pub gives : LeavesOnly moment left_since a b (GivesParts x)

  -- one step, from this disk with this manifest and these parts to those
  pub data IsMove (a : D) (m : ManifestData) (x : Parts) : D → ManifestData → Parts → Type 0 where
    Unused : (b : D) → WritesUnused a m b → IsMove a m x b m x
    Numbers : (b : D) → WritesNumbers a m b → IsMove a m x b m x
    Slot : (b : D) → WritesSlot a m x b → IsMove a m x b m x
    Installs : (b : D) (n : ManifestData) (y : Parts) → InstallsCheckpoint a m x b n y →
        IsMove a m x b n y

  -- one step after another
  pub data AreMoves (a : D) (m : ManifestData) (x : Parts) : D → ManifestData → Parts → Type 0 where
    Rests : AreMoves a m x a m x
    Goes : (b c : D) (n k : ManifestData) (y z : Parts) → AreMoves a m x b n y →
        IsMove b n y c k z → AreMoves a m x c k z

  -- The manifest there is settled, what the merge saw stays, the rows and the mark are the same,
  -- and a stop at any moment in between leaves these rows and this mark.
  pub record KeepsAll (s : SeenData) (a : D) (x : Parts) (b : D) (n : ManifestData) (y : Parts)
      : Type 0 where
    pub settled : IsSettled (content b) (may b) n y
    pub seen : WasSeen (content b) n s
    pub same : MakeUpSame x y
    pub gives : LeavesOnly moment left_since a b (GivesParts x)

  -- So it is over each run of such steps.
  abbrev pub RunsKeepAll : Type 0
  RunsKeepAll = (s : SeenData) (a : D) (m : ManifestData) (x : Parts) →
      IsSettled (content a) (may a) m x → WasSeen (content a) m s →
      (b : D) (n : ManifestData) (y : Parts) → AreMoves a m x b n y → KeepsAll s a x b n y
