-- The live records that groups end, and those that they leave.
use Rattle.std.specs.Prelude.{◌≡◌, ℕ, true, not, ◌==◌, List, [], ◌∷◌, ◌++◌, map, filter}
use Rattle.std.specs.List.{enumerate_from, AllByRecursion, list_any}
use Rattle.mvo_group.specs.Data.{GroupData}
use Rattle.mvo_pair.specs.Data.{Numbered, key_of}
use Rattle.mvo_pair.specs.declared.pair.Pair.{Pair}
use Rattle.mvo_ckpt.specs.Writes.{writes_of, is_written, records_of}
use Rattle.mvo_ckpt.specs.Checkpoint.{DeltaData}

-- the numbers of a pair's live records whose keys are written
abbrev pub ended : List GroupData → List Numbered → List ℕ
ended gs live = map (λ l. l.0) (filter (λ l. is_written (writes_of gs) (key_of l)) live)

-- those whose keys aren't
abbrev pub left_in : List GroupData → List Numbered → List Numbered
left_in gs live = filter (λ l. not (is_written (writes_of gs) (key_of l))) live

-- what a pair's delta file gains, if anything
abbrev pub delta_by : ℕ → List ℕ → List DeltaData
delta_by file [] = []
delta_by file (n ∷ ns) = record { data_file = file; numbers = n ∷ ns } ∷ []

-- what the delta files of pairs with these live records gain, in the order of the pairs
abbrev pub deltas_of : List GroupData → List Pair → List (List Numbered) → List DeltaData
deltas_of gs [] lives = []
deltas_of gs (p ∷ ps) [] = []
deltas_of gs (p ∷ ps) (live ∷ lives) =
    delta_by p.data_file (ended gs live) ++ deltas_of gs ps lives

-- each delta is that of one of these pairs
abbrev pub AreOfPairs : List Pair → List DeltaData → Type 0
AreOfPairs ps ds = AllByRecursion (λ d. list_any (λ p. p.data_file == d.data_file) ps ≡ true) ds

-- the live records after a checkpoint, those of the new pair last
abbrev pub lives_after : List GroupData → List (List Numbered) → List (List Numbered)
lives_after gs lives = map (left_in gs) lives ++ enumerate_from 0 (records_of gs) ∷ []
