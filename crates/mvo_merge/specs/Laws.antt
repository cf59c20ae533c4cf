-- The laws of a merge.
use Rattle.std.specs.Prelude.{◌≡◌, ◌↔◌, ◌⊎◌, ℕ, ◌+◌, ◌-◌, ◌<◌, ◌≤◌, List, [], ◌∷◌, ◌++◌, length, map, All, Ok, nat_eq}
use Rattle.std.specs.List.{Contains, IsDistinct, enumerate_from}
use Rattle.mvo_types.specs.declared.limits.TheConstants.{MAX_PAIR_RECORDS}
use Rattle.mvo_format.specs.declared.format.Format.{Format}
use Rattle.mvo_format.specs.Formats.{IsFormatUpTo}
use Rattle.mvo_pair.specs.Data.{EntryData, Numbered, live_of, AreApart}
use Rattle.mvo_pair.specs.Files.{AreEntries, AreNumbers, HasEntries, HasDeadNumbers}
use Rattle.mvo_pair.specs.Loading.{LoadsAs}
use Rattle.mvo_pair.specs.declared.pair.Pair.{Pair}
use Rattle.mvo_places.specs.Rows.{rows_of}
use Rattle.mvo_places.specs.Places.{PlaceMap, Rise, ArePlaces, file_of}
use Rattle.mvo_merge.specs.Merged.{live_numbers, merged, renumbering_of, of_left, of_right, renumbered}
use Rattle.mvo_merge.specs.Merged.{entries_alone, without, live_after, under}
use Rattle.mvo_merge.specs.Moved.{HaveOwnKeys, moved}

-- ---- numbers that come late

-- The live records of a pair with rising numbers, and distinct numbers of some of them.
pub record AreLate (live : List Numbered) (late : List ℕ) : Type 0 where
  pub rise : Rise live
  pub among : All (Contains (live_numbers live)) late
  pub distinct : IsDistinct nat_eq late

-- Numbers that a delta file gains are those of live records.
abbrev pub GainedAreLate : Type 0
GainedAreLate = (below : ℕ) (ns late : List ℕ) (es : List EntryData) → length es ≡ below →
    AreNumbers below (ns ++ late) → AreLate (live_of ns es) late

-- With them it leaves the other live records.
abbrev pub MergeLeavesOthers : Type 0
MergeLeavesOthers = (ns late : List ℕ) (es : List EntryData) →
    live_of (ns ++ late) es ≡ without late (live_of ns es)

-- Where none comes late, all of them are left.
abbrev pub NoneIsLate : Type 0
NoneIsLate = (live : List Numbered) → Rise live → AreLate live [] × (without [] live ≡ live)

-- Then all records of a merged pair are live.
abbrev pub AllAreLive : Type 0
AllAreLive = (left right : List Numbered) →
    live_after left right [] [] ≡ enumerate_from 0 (merged left right)

-- ---- what is live

-- Live in the merged pair are, in order, the left pair's records that are live behind the late
-- numbers, each under its rank among those that were merged, and then the right pair's, each under
-- its rank behind all of the left pair's.
abbrev pub LiveInOne : Type 0
LiveInOne = (left right : List Numbered) (late_left late_right : List ℕ) →
    AreLate left late_left → AreLate right late_right →
    let new = renumbering_of left right in live_after left right late_left late_right
    ≡ map (under (of_left new)) (without late_left left)
    ++ map (under (of_right new)) (without late_right right)

-- So a record is live in the merged pair exactly where it is in one of the two.
abbrev pub LiveInEither : Type 0
LiveInEither = (left right : List Numbered) (late_left late_right : List ℕ) (e : EntryData) →
    AreLate left late_left → AreLate right late_right →
    Contains (entries_alone (live_after left right late_left late_right)) e
    ↔ (Contains (entries_alone (without late_left left)) e
    ⊎ Contains (entries_alone (without late_right right)) e)

-- The rows are those of before.
abbrev pub MergeKeepsRows : Type 0
MergeKeepsRows = (left right : List Numbered) (late_left late_right : List ℕ)
    (before behind : List (List Numbered)) → AreLate left late_left → AreLate right late_right →
    rows_of (before ++ live_after left right late_left late_right ∷ behind)
    ≡ rows_of (before ++ without late_left left ∷ without late_right right ∷ behind)

-- No two live records have one key.
abbrev pub MergeStaysApart : Type 0
MergeStaysApart = (left right : List Numbered) (late_left late_right : List ℕ)
    (before behind : List (List Numbered)) → AreLate left late_left → AreLate right late_right →
    AreApart (before ++ without late_left left ∷ without late_right right ∷ behind) →
    AreApart (before ++ live_after left right late_left late_right ∷ behind)

-- ---- the files

-- A pair has as many live records as it has records that its delta file doesn't name.
abbrev pub CountsLive : Type 0
CountsLive = (upto : ℕ) (p : Pair) (data_bytes delta_bytes : List ℕ) (live : List Numbered) →
    LoadsAs upto p data_bytes delta_bytes (Ok live) → length live + p.entries ≡ p.records

-- two pairs, the right one directly behind the left one, with their live records
pub record LoadAsNeighbours (upto : ℕ) (p q : Pair) (left right : List Numbered) : Type 0 where
  pub left_data : List ℕ
  pub left_delta : List ℕ
  pub right_data : List ℕ
  pub right_delta : List ℕ
  pub left_loads : LoadsAs upto p left_data left_delta (Ok left)
  pub right_loads : LoadsAs upto q right_data right_delta (Ok right)
  pub rises : p.lo.0 < p.hi.0
  pub next : q.lo.0 ≡ p.hi.0
  pub goes_on : q.lo.0 < q.hi.0

-- The records of two neighbours keep the rules of a data file from the lo of the left pair to the
-- hi of the right one, of each version that isn't earlier than theirs.
abbrev pub MergeGivesEntries : Type 0
MergeGivesEntries = (upto : ℕ) (f : Format) (p q : Pair) (left right : List Numbered) →
    IsFormatUpTo f.version f → upto ≤ f.version → LoadAsNeighbours upto p q left right →
    AreEntries f p.lo.0 q.hi.0 (merged left right)

-- They are as many as both pairs have live ones.
abbrev pub HasBoth : Type 0
HasBoth = (left right : List Numbered) →
    length (merged left right) ≡ length left + length right

-- They are no more than a pair may have, where the counts say so.
abbrev pub MergeIsFewEnough : Type 0
MergeIsFewEnough = (upto : ℕ) (p q : Pair) (left right : List Numbered) →
    LoadAsNeighbours upto p q left right →
    (p.records - p.entries) + (q.records - q.entries) ≤ MAX_PAIR_RECORDS →
    length left + length right ≤ MAX_PAIR_RECORDS

-- The late numbers, renumbered, keep the rules of a delta file.
abbrev pub GivesNumbers : Type 0
GivesNumbers = (left right : List Numbered) (late_left late_right : List ℕ) →
    AreLate left late_left → AreLate right late_right →
    AreNumbers (length (merged left right))
    (renumbered (renumbering_of left right) late_left late_right)

-- Where the files of a pair hold the records and the late numbers, it loads as the merged pair.
abbrev pub LoadsMerged : Type 0
LoadsMerged = (upto : ℕ) (f : Format) (p : Pair) (left right : List Numbered)
    (late_left late_right : List ℕ) (data_bytes delta_bytes : List ℕ) → IsFormatUpTo upto f →
    HasEntries f p.lo.0 p.hi.0 p.records (merged left right) data_bytes →
    HasDeadNumbers f.version p.records p.entries
    (renumbered (renumbering_of left right) late_left late_right) delta_bytes →
    LoadsAs upto p data_bytes delta_bytes (Ok (live_after left right late_left late_right))

-- ---- places

-- The records of two pairs whose live records are apart have each a key of their own.
abbrev pub OwnKeys : Type 0
OwnKeys = (left right : List Numbered) → AreApart (left ∷ right ∷ []) →
    HaveOwnKeys (merged left right)

-- Where the places are moved, each live record has its place, those of the merged pair in its data
-- file.
abbrev pub PlacesMerged : Type 0
PlacesMerged = (before behind : List Pair) (p q r : Pair) (lives more : List (List Numbered))
    (left right : List Numbered) (late_left late_right : List ℕ) (at : PlaceMap) →
    length before ≡ length lives → AreLate left late_left → AreLate right late_right →
    AreApart (left ∷ right ∷ []) →
    IsDistinct nat_eq (map file_of (before ++ r ∷ behind)) →
    ArePlaces (before ++ p ∷ q ∷ behind)
    (lives ++ without late_left left ∷ without late_right right ∷ more) at →
    ArePlaces (before ++ r ∷ behind) (lives ++ live_after left right late_left late_right ∷ more)
    (moved p.data_file q.data_file r.data_file (merged left right) at)
