-- What a merge makes of the live records of two pairs.
use Rattle.std.specs.Prelude.{ℕ, ◌+◌, List, ◌++◌, length, map, filter, not, nat_lt, ◌==◌}
use Rattle.std.specs.List.{count_by, list_any}
use Rattle.mvo_pair.specs.Data.{EntryData, Numbered, live_of}

-- the numbers of live records
abbrev pub live_numbers : List Numbered → List ℕ
live_numbers live = map (λ l. l.0) live

-- the records without their numbers
abbrev pub entries_alone : List Numbered → List EntryData
entries_alone live = map (λ l. l.1) live

-- the live records of the left pair, and then of the right one
abbrev pub merged : List Numbered → List Numbered → List EntryData
merged left right = entries_alone left ++ entries_alone right

-- ---- new numbers

-- how many of these numbers are smaller
abbrev pub rank : List ℕ → ℕ → ℕ
rank ns n = count_by (λ m. nat_lt m n) ns

-- the numbers that the records of a merged pair had in the left pair and in the right one
pub record RenumberingData : Type 0 where
  pub left : List ℕ
  pub right : List ℕ

abbrev pub renumbering_of : List Numbered → List Numbered → RenumberingData
renumbering_of left right = record { left = live_numbers left; right = live_numbers right }

-- a live record of the left pair has its rank among the live as its number
abbrev pub of_left : RenumberingData → ℕ → ℕ
of_left r n = rank r.left n

-- one of the right pair stands behind all those of the left one
abbrev pub of_right : RenumberingData → ℕ → ℕ
of_right r n = length r.left + rank r.right n

-- what the merged pair's delta names for numbers that came late to the two deltas
abbrev pub renumbered : RenumberingData → List ℕ → List ℕ → List ℕ
renumbered r left right = map (of_left r) left ++ map (of_right r) right

-- ---- what is live

-- the live records that these numbers don't name
abbrev pub without : List ℕ → List Numbered → List Numbered
without late live = filter (λ l. not (list_any (λ n. n == l.0) late)) live

-- those of the merged pair, where these numbers came late to the two deltas
abbrev pub live_after : List Numbered → List Numbered → List ℕ → List ℕ → List Numbered
live_after left right late_left late_right =
    live_of (renumbered (renumbering_of left right) late_left late_right) (merged left right)

-- a live record under a new number
abbrev pub under : (ℕ → ℕ) → Numbered → Numbered
under new l = (new l.0, l.1)

-- ---- a merge

pub record MergedData : Type 0 where
  pub records : List EntryData
  pub renumbering : RenumberingData
