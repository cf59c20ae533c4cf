-- What opening an image answers: rows and mark, or the first broken rule. Looked at are slot 0,
-- slot 1, the pairs in order (of each the data file, the delta file, and its live records beside
-- those before), and the segments in order.
use Rattle.std.specs.Prelude.{◌≡◌, ◌⊎◌, ℕ, Bool, true, false, List, [], ◌∷◌, ◌++◌}
use Rattle.std.specs.Prelude.{Option, Some, None, Result, Ok, Err}
use Rattle.mvo_types.specs.Keys.{Map}
use Rattle.mvo_types.specs.declared.refusal.Refusal.{Refusal}
use Rattle.mvo_types.specs.declared.refusal.Refusal.TheVariants.{Corrupt, NotFormatted}
use Rattle.mvo_group.specs.Data.{GroupData}
use Rattle.mvo_pair.specs.Data.{Numbered, AreApart}
use Rattle.mvo_pair.specs.Loading.{LoadsAs}
use Rattle.mvo_pair.specs.declared.pair.Pair.{Pair}
use Rattle.mvo_manifest.specs.Data.{ManifestData}
use Rattle.mvo_manifest.specs.Slots.{newest}
use Rattle.mvo_frame.specs.Frames.{mark_after}
use Rattle.mvo_places.specs.Rows.{rows_of, after_groups}

-- the bytes of each file
abbrev pub Image : Type 0
Image = ℕ → List ℕ

-- rows and mark, or a refusal
abbrev pub OpeningOutcome : Type 0
OpeningOutcome = Result (Map × ℕ) Refusal

-- what a file of this number says of its bytes: a manifest, or none behind a closed gate
abbrev pub SlotReading : Type 1
SlotReading = ℕ → List ℕ → Result (Option ManifestData) Refusal → Type 0

-- what a segment of this number says of its bytes: the groups behind a mark, some but in the last
abbrev pub SegmentReading : Type 1
SegmentReading = ℕ → ℕ → Bool → List ℕ → Result (List GroupData) Refusal → Type 0

-- where something is found, the rest goes on with that; else it is refused
abbrev pub OpeningGoes : {X : Type 0} → (X → OpeningOutcome → Type 0) → Result X Refusal
    → OpeningOutcome → Type 0
OpeningGoes next (Ok x) out = next x out
OpeningGoes next (Err e) out = out ≡ Err e

-- what is found decides, and then what comes next
abbrev pub OpeningAfter : {X : Type 0} → (Result X Refusal → Type 0)
    → (X → OpeningOutcome → Type 0) → OpeningOutcome → Type 0
OpeningAfter {X} says next out =
    (found : Result X Refusal) × says found × OpeningGoes next found out

-- no two live records have one key, and the rest goes on; else the file has the second of two
abbrev pub Beside : ℕ → List (List Numbered) → (List (List Numbered) → OpeningOutcome → Type 0)
    → OpeningOutcome → Type 0
Beside file lives next out =
    (AreApart lives × next lives out) ⊎ ((AreApart lives → ⊥) × (out ≡ Err (Corrupt file)))

-- the pairs in order, of versions up to this one, behind the live records before
abbrev pub Pairs : ℕ → Image → (List (List Numbered) → OpeningOutcome → Type 0) → List Pair
    → List (List Numbered) → OpeningOutcome → Type 0
Pairs upto image next [] lives out = next lives out
Pairs upto image next (p ∷ ps) lives out =
    OpeningAfter (LoadsAs upto p (image p.data_file) (image p.delta_file)) (λ live.
    Beside p.data_file (lives ++ live ∷ []) (Pairs upto image next ps)) out

abbrev pub is_empty_list : List ℕ → Bool
is_empty_list [] = true
is_empty_list (n ∷ ns) = false

-- the segments in order, behind the groups before and their mark
abbrev pub Segments : SegmentReading → Image → Map → List ℕ → ℕ → List GroupData → OpeningOutcome
    → Type 0
Segments reads image rows [] mark before out = out ≡ Ok (after_groups rows before, mark)
Segments reads image rows (n ∷ ns) mark before out =
    OpeningAfter (reads n mark (is_empty_list ns) (image n)) (λ gs.
    Segments reads image rows ns (mark_after mark gs) (before ++ gs)) out

-- the files that a manifest names are of versions up to its own
abbrev pub OpensWith : (ℕ → SegmentReading) → Image → Option ManifestData → OpeningOutcome → Type 0
OpensWith reads image None out = out ≡ Err NotFormatted
OpensWith reads image (Some m) out =
    Pairs m.version image (λ lives.
    Segments (reads m.version) image (rows_of lives) m.segments m.checkpoint_mark []) m.pairs [] out

-- both slots are looked at before one is chosen
abbrev pub Opens : SlotReading → (ℕ → SegmentReading) → Image → OpeningOutcome → Type 0
Opens slots reads image out =
    OpeningAfter (slots 0 (image 0)) (λ a. OpeningAfter (slots 1 (image 1)) (λ b.
    OpensWith reads image (newest a b))) out
