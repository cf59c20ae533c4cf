-- The laws of opening.
use Rattle.std.specs.Prelude.{◌≡◌, ◌↔◌, ℕ, ◌<◌, List, Some, Ok, slice_index}
use Rattle.std.specs.FinMap.{get}
use Rattle.std.specs.List.{Contains}
use Rattle.mvo_types.specs.declared.row.RowKey.{RowKey}
use Rattle.mvo_types.specs.RowData.{ContentData}
use Rattle.mvo_types.specs.Keys.{Map}
use Rattle.mvo_pair.specs.Data.{Numbered, AreApart}
use Rattle.mvo_pair.specs.Answers.{IsOnly}
use Rattle.mvo_frame.specs.declared.kind.Kind.{Kind}
use Rattle.mvo_frame.specs.Reading.{segment_found}
use Rattle.mvo_manifest.specs.Slots.{SlotSays, PickSays}
use Rattle.mvo_manifest.specs.Finding.{slot_found, pick_found}
use Rattle.mvo_recovery.specs.image.Opens.{Image, OpeningOutcome}
use Rattle.mvo_recovery.specs.image.Files.{SegmentIs, OpensAs, GivesRows}
use Rattle.mvo_places.specs.Rows.{live_rows_in, rows_of}

abbrev pub AreBytes : List ℕ → Type 0
AreBytes bytes = (i : ℕ) → slice_index bytes i < 256

-- files hold bytes, as each value of the program has it
abbrev pub AreFiles : Image → Type 0
AreFiles image = (n : ℕ) → AreBytes (image n)

-- What is found of a slot is said of its bytes, and nothing else is.
abbrev pub SlotIsExact : Type 0
SlotIsExact = (upto slot : ℕ) (bytes : List ℕ) → AreBytes bytes →
    IsOnly (SlotSays upto slot bytes) (slot_found upto slot bytes)

-- So is what is found of both slots.
abbrev pub PickIsExact : Type 0
PickIsExact = (upto : ℕ) (first second : List ℕ) → AreBytes first → AreBytes second →
    IsOnly (PickSays upto first second) (pick_found upto first second)

-- So is what is found of a segment.
abbrev pub SegmentIsExact : Type 0
SegmentIsExact = (upto file mark : ℕ) (kind : Kind) (bytes : List ℕ) → AreBytes bytes →
    IsOnly (SegmentIs upto file mark kind bytes) (segment_found upto file mark kind bytes)

-- Opening has one answer.
abbrev pub HasOneAnswer : Type 0
HasOneAnswer = (image : Image) → AreFiles image →
    (out : OpeningOutcome) × IsOnly (OpensAs image) out

-- It is rows and a mark exactly where the image is well formed and gives them.
abbrev pub IsExact : Type 0
IsExact = (image : Image) (rows : Map) (mark : ℕ) →
    OpensAs image (Ok (rows, mark)) ↔ GivesRows image rows mark

-- Where no two live records have one key, the rows of some pairs are those of their live records.
abbrev pub RowsAreLive : Type 0
RowsAreLive = (lives : List (List Numbered)) → AreApart lives → (k : RowKey) (h : ContentData) →
    (get (rows_of lives) k ≡ Some h) ↔ Contains (live_rows_in lives) (k, h)
