-- A merge that runs beside checkpoints: what it saw of two pairs, and what stands of that.
use Rattle.std.specs.Prelude.{◌≡◌, ◌≢◌, ℕ, ◌+◌, ◌<◌, ◌≤◌, ◌^◌, List, [], ◌∷◌, ◌++◌, length, take, drop, Ok}
use Rattle.std.specs.List.{Contains}
use Rattle.mvo_types.specs.declared.limits.TheConstants.{MAX_PAIR_RECORDS}
use Rattle.mvo_disk.specs.Disk.{Only}
use Rattle.mvo_format.specs.declared.format.Format.{Format}
use Rattle.mvo_format.specs.Formats.{IsFormatUpTo}
use Rattle.mvo_pair.specs.declared.pair.Pair.{Pair}
use Rattle.mvo_pair.specs.Data.{EntryData, Numbered}
use Rattle.mvo_pair.specs.Files.{HasDeadNumbers}
use Rattle.mvo_pair.specs.Loading.{LoadsAs}
use Rattle.mvo_manifest.specs.Data.{ManifestData, named}
use Rattle.mvo_manifest.specs.Rules.{IsFile}
use Rattle.mvo_recovery.specs.image.Opens.{Image}
use Rattle.mvo_pair.specs.Data.{AreApart}
use Rattle.mvo_recovery.specs.Parts.{Parts}
use Rattle.mvo_recovery.specs.Merging.{MergeData}

-- ---- what it saw

pub record SeenData : Type 0 where
  -- how many pairs stand before the two
  pub place : ℕ
  -- the two, with the counts that they had then
  pub left : Pair
  pub right : Pair
  -- their live records then
  pub live_left : List Numbered
  pub live_right : List Numbered

-- the pair, of whose delta so many numbers more count
abbrev pub grown : ℕ → Pair → Pair
grown n p = record p { entries = p.entries + n }

-- the files of the pair, of versions up to this one, hold these live records
abbrev pub Loads : ℕ → Image → Pair → List Numbered → Type 0
Loads upto content p live = LoadsAs upto p (content p.data_file) (content p.delta_file) (Ok live)

-- The two stand in their places, and more of their deltas' numbers may count. With the counts of
-- then their files hold the live records of then.
pub record WasSeen (content : Image) (m : ManifestData) (s : SeenData) : Type 0 where
  pub before : List Pair
  pub behind : List Pair
  pub more_left : ℕ
  pub more_right : ℕ
  pub pairs : m.pairs ≡ before ++ grown more_left s.left ∷ grown more_right s.right ∷ behind
  pub at : length before ≡ s.place
  pub left : Loads m.version content s.left s.live_left
  pub right : Loads m.version content s.right s.live_right
  pub apart : AreApart (s.live_left ∷ s.live_right ∷ [])

-- the two as they are now, those before and behind them, and the pair that they become
abbrev pub pairs_now : {content : Image} {m : ManifestData} {s : SeenData} →
    WasSeen content m s → Pair → MergeData
pairs_now {content} {m} {s} seen pair = record {
  before = seen.before;
  left = grown seen.more_left s.left;
  right = grown seen.more_right s.right;
  behind = seen.behind;
  pair = pair;
}

-- The data files of these pairs, of versions up to this one, stay, and the numbers that count in
-- their delta files.
abbrev pub CountsStay : ℕ → Image → Image → List Pair → Type 0
CountsStay upto old new ps = (p : Pair) → Contains ps p →
    (new p.data_file ≡ old p.data_file) × ((own : Format) → IsFormatUpTo upto own →
    (ns : List ℕ) → HasDeadNumbers own.version p.records p.entries ns (old p.delta_file) →
    HasDeadNumbers own.version p.records p.entries ns (new p.delta_file))

-- ---- what is written

-- the manifest that is installed now may have one pair, of these records and with so many numbers,
-- in the place of the two
pub record MayMergeNow (m : ManifestData) (s : SeenData) (pair : Pair) (es : List EntryData)
    (late : ℕ) : Type 0 where
  pub generation : m.generation + 1 < 2 ^ 64
  pub lo : pair.lo.0 ≡ s.left.lo.0
  pub hi : pair.hi.0 ≡ s.right.hi.0
  pub counted : pair.records ≡ length es
  pub few : pair.records ≤ MAX_PAIR_RECORDS
  pub entries : pair.entries ≡ late
  pub data_file : IsFile pair.data_file
  pub delta_file : IsFile pair.delta_file
  pub data_unnamed : Contains (named m) pair.data_file → ⊥
  pub delta_unnamed : Contains (named m) pair.delta_file → ⊥
  pub two_files : pair.data_file ≢ pair.delta_file

-- the numbers that count now in the deltas of the two, and those of them that came late
pub record NumbersNow (content : Image) (m : ManifestData) (s : SeenData)
    (seen : WasSeen content m s) : Type 0 where
  pub left : List ℕ
  pub right : List ℕ
  pub left_own : Format
  pub right_own : Format
  pub left_known : IsFormatUpTo m.version left_own
  pub right_known : IsFormatUpTo m.version right_own
  pub left_has : HasDeadNumbers left_own.version s.left.records (s.left.entries + seen.more_left)
      left (content s.left.delta_file)
  pub right_has : HasDeadNumbers right_own.version s.right.records
      (s.right.entries + seen.more_right) right (content s.right.delta_file)

-- the delta file of the pair holds these numbers, durably
pub record HasLate (f : Format) (content : Image) (may : ℕ → List ℕ → Type 0) (p : Pair)
    (ns : List ℕ) : Type 0 where
  pub has : HasDeadNumbers f.version p.records p.entries ns (content p.delta_file)
  pub durable : Only (content p.delta_file) (may p.delta_file)

-- ---- what is installed

-- these live records in the place of those of the two
abbrev pub lives_now : SeenData → List Numbered → List (List Numbered) → List (List Numbered)
lives_now s live lives = take s.place lives ++ live ∷ drop (s.place + 2) lives

abbrev pub parts_now : SeenData → List Numbered → Parts → Parts
parts_now s live x = record {
  lives = lives_now s live x.lives;
  sealed = x.sealed;
  middle = x.middle;
  last = x.last;
}
