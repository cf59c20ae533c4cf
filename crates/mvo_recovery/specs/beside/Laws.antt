-- The laws of a merge that runs beside checkpoints.
use Rattle.std.specs.Prelude.{◌≡◌, ◌≢◌, ℕ, ◌+◌, ◌<◌, ◌≤◌, ◌^◌, List, [], ◌∷◌, ◌++◌, length, drop, map, nat_eq}
use Rattle.std.specs.List.{Contains, IsDistinct, flat_map}
use Rattle.mvo_types.specs.declared.limits.TheConstants.{MAX_PAIR_RECORDS}
use Rattle.mvo_format.specs.declared.format.Format.{Format}
use Rattle.mvo_format.specs.declared.format.TheConstants.{LAST_FORMAT}
use Rattle.mvo_format.specs.Formats.{IsFormatUpTo}
use Rattle.mvo_pair.specs.declared.pair.Pair.{Pair}
use Rattle.mvo_pair.specs.Data.{Numbered}
use Rattle.mvo_pair.specs.Files.{AreNumbers, HasDeadNumbers}
use Rattle.mvo_pair.specs.Writing.{GainsNumbers}
use Rattle.mvo_manifest.specs.Data.{ManifestData, named, pair_files}
use Rattle.mvo_disk.specs.Disk.{Touched}
use Rattle.mvo_manifest.specs.Rules.{IsManifest}
use Rattle.mvo_manifest.specs.Slots.{IsShutOrOpen}
use Rattle.mvo_recovery.specs.image.Opens.{Image}
use Rattle.mvo_recovery.specs.image.Gives.{HaveLive}
use Rattle.mvo_pair.specs.Data.{AreApart}
use Rattle.mvo_places.specs.Places.{PlaceMap, ArePlaces, file_of}
use Rattle.mvo_merge.specs.Merged.{merged as records_of, renumbering_of, renumbered, without, live_after}
use Rattle.mvo_merge.specs.Moved.{moved}
use Rattle.mvo_merge.specs.Laws.{AreLate}
use Rattle.mvo_recovery.specs.Parts.{Parts, MakeUpSame}
use Rattle.mvo_recovery.specs.Settled.{other_slot, IsSettled, GivesParts}
use Rattle.mvo_recovery.specs.Installing.{IsNext, IsReady}
use Rattle.mvo_recovery.specs.Checkpoint.{NewNumbers, raise, CheckpointData, checkpointed}
use Rattle.mvo_recovery.specs.Merging.{MergeData, merged_manifest, HasRecords}
use Rattle.mvo_recovery.specs.beside.Seen.{SeenData, grown, Loads, WasSeen, CountsStay, pairs_now, MayMergeNow, NumbersNow, HasLate, lives_now, parts_now}

-- ---- what it saw stays

-- What is read of two neighbours is seen.
abbrev pub SeenAtRead : Image → Type 0
SeenAtRead content = (m : ManifestData) (before behind : List Pair) (p q : Pair)
    (left right : List Numbered) → m.pairs ≡ before ++ p ∷ q ∷ behind →
    Loads m.version content p left → Loads m.version content q right →
    AreApart (left ∷ right ∷ []) →
    WasSeen content m (record {
      place = length before;
      left = p;
      right = q;
      live_left = left;
      live_right = right;
    })

-- It stays where the files of the pairs stay.
abbrev pub SeenStays : Image → Image → Type 0
SeenStays old new = (m : ManifestData) (s : SeenData) →
    ((n : ℕ) → Contains (flat_map pair_files m.pairs) n → new n ≡ old n) →
    WasSeen old m s → WasSeen new m s

-- It stays where numbers are written behind those that count in the delta file of some pair.
abbrev pub SeenBesideNumbers : Image → Image → Type 0
SeenBesideNumbers old new = (m : ManifestData) (s : SeenData) (r : Pair)
    (more : List ℕ) (lives : List (List Numbered)) → IsManifest m →
    HaveLive m.version old m.pairs lives → Contains m.pairs r →
    ((n : ℕ) → Contains (named m) n → n ≢ r.delta_file → new n ≡ old n) →
    GainsNumbers (old r.delta_file) (new r.delta_file) r.entries more →
    ((own : Format) → IsFormatUpTo m.version own → (ns : List ℕ) →
    HasDeadNumbers own.version r.records r.entries ns (old r.delta_file) →
    AreNumbers r.records (ns ++ more)) →
    WasSeen old m s → WasSeen new m s

-- It stays where the data files of the pairs stay, and the numbers that count in their delta files.
abbrev pub SeenWhereCountsStay : Image → Image → Type 0
SeenWhereCountsStay old new = (m : ManifestData) (s : SeenData)
    (lives : List (List Numbered)) → IsManifest m → HaveLive m.version old m.pairs lives →
    CountsStay m.version old new m.pairs → WasSeen old m s → WasSeen new m s

-- It stays where a manifest is installed, of no earlier version, that raises the counts of pairs
-- and has one pair more.
abbrev pub SeenBesideInstall : Image → Type 0
SeenBesideInstall content = (m next : ManifestData) (s : SeenData) (numbers : NewNumbers)
    (p : Pair) → m.version ≤ next.version →
    next.pairs ≡ map (raise numbers) m.pairs ++ p ∷ [] →
    WasSeen content m s → WasSeen content next s

-- A file that neither the manifest nor a checkpoint names isn't named once that is installed.
abbrev pub StaysUnnamed : Type 0
StaysUnnamed = (m : ManifestData) (c : CheckpointData) (n : ℕ) →
    m.segments ≡ c.oldest ∷ c.later → (Contains (named m) n → ⊥) → n ≢ c.pair.data_file →
    n ≢ c.pair.delta_file → Contains (named (checkpointed m c)) n → ⊥

-- ---- what came late

-- The numbers behind those that were counted then are of live records of then, and the other ones
-- are live now.
abbrev pub FindsLate : Image → Type 0
FindsLate content = (upto : ℕ) (own : Format) (p : Pair) (more : ℕ) (was now : List Numbered)
    (ns : List ℕ) → IsFormatUpTo upto own → p.hi.0 < 2 ^ 64 →
    p.records ≤ MAX_PAIR_RECORDS → Loads upto content p was →
    Loads upto content (grown more p) now →
    HasDeadNumbers own.version p.records (p.entries + more) ns (content p.delta_file) →
    AreLate was (drop p.entries ns) × (now ≡ without (drop p.entries ns) was)
    × (length (drop p.entries ns) ≡ more)

-- ---- one pair for the two

-- the manifest of a merge may be installed, and changes neither rows nor mark
pub record IsMergedNow (content : Image) (may : ℕ → List ℕ → Type 0) (m : ManifestData)
    (x : Parts) (c : MergeData) (y : Parts) : Type 0 where
  pub is : IsManifest (merged_manifest m c)
  pub next : IsNext m (merged_manifest m c)
  pub ready : IsReady content may (merged_manifest m c) y
  pub same : MakeUpSame x y

-- Where the files of a pair, of a known version, hold the records that were seen, and the numbers
-- that came late, renumbered, it may be installed in the place of the two.
abbrev pub MergeBesideIsReady : Image → (ℕ → List ℕ → Type 0) → Type 0
MergeBesideIsReady content may = (f : Format) (m : ManifestData) (x : Parts) (s : SeenData)
    (pair : Pair) → IsSettled content may m x → (seen : WasSeen content m s) →
    (now : NumbersNow content m s seen) →
    let late_left = drop s.left.entries now.left in
    let late_right = drop s.right.entries now.right in
    let late = renumbered (renumbering_of s.live_left s.live_right) late_left late_right in
    MayMergeNow m s pair (records_of s.live_left s.live_right) (length late) →
    IsFormatUpTo LAST_FORMAT.version f →
    HasRecords f content may pair (records_of s.live_left s.live_right) →
    HasLate f content may pair late →
    IsMergedNow content may m x (pairs_now seen pair)
    (parts_now s (live_after s.live_left s.live_right late_left late_right) x)

-- Each image in which the other slot is shut, or open with that manifest, gives what the parts of
-- before make up.
abbrev pub InstallBesideKeeps : Image → (ℕ → List ℕ → Type 0) → Type 0
InstallBesideKeeps content may = (m : ManifestData) (x y : Parts) (c : MergeData) →
    IsSettled content may m x → IsMergedNow content may m x c y → (image : Image) →
    Touched (other_slot m) may (IsShutOrOpen (other_slot m) (merged_manifest m c)) image →
    GivesParts x image

-- ---- places

-- Where the places are those of the live records now, moving those of the records that were seen
-- makes them those of the live records then.
abbrev pub PlacesBeside : Type 0
PlacesBeside = (content : Image) (m : ManifestData) (x : Parts) (s : SeenData) (pair : Pair)
    (seen : WasSeen content m s) (now : NumbersNow content m s seen)
    (at : PlaceMap) → IsManifest m → HaveLive m.version content m.pairs x.lives →
    IsDistinct nat_eq (map file_of (merged_manifest m (pairs_now seen pair)).pairs) →
    ArePlaces m.pairs x.lives at →
    ArePlaces (merged_manifest m (pairs_now seen pair)).pairs
    (lives_now s (live_after s.live_left s.live_right (drop s.left.entries now.left)
    (drop s.right.entries now.right)) x.lives)
    (moved s.left.data_file s.right.data_file pair.data_file
    (records_of s.live_left s.live_right) at)
