-- A merge whose records come in slices.
use Rattle.std.specs.Prelude.{ℕ, List, [], ◌++◌}
use Rattle.mvo_pair.specs.Data.{EntryData, Numbered}
use Rattle.mvo_merge.specs.Merged.{MergedData, entries_alone, live_numbers, merged, renumbering_of}

-- records, with the numbers that they had in the left pair and in the right one
abbrev pub merged_of : List EntryData → List ℕ → List ℕ → MergedData
merged_of es left right =
    record { records = es; renumbering = record { left = left; right = right } }

abbrev pub nothing_merged : MergedData
nothing_merged = merged_of [] [] []

-- with these live records of the left pair behind them
abbrev pub with_left : List Numbered → MergedData → MergedData
with_left live m = merged_of (m.records ++ entries_alone live)
    (m.renumbering.left ++ live_numbers live) m.renumbering.right

-- with these of the right pair
abbrev pub with_right : List Numbered → MergedData → MergedData
with_right live m = merged_of (m.records ++ entries_alone live) m.renumbering.left
    (m.renumbering.right ++ live_numbers live)

-- what a merge makes of all of them
abbrev pub merged_whole : List Numbered → List Numbered → MergedData
merged_whole left right =
    record { records = merged left right; renumbering = renumbering_of left right }
