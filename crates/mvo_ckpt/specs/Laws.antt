-- The laws of a checkpoint.
use Rattle.std.specs.Prelude.{◌≡◌, ◌↔◌, ℕ, ◌≤◌, List, [], ◌∷◌, ◌++◌, length, map, Some, nat_eq}
use Rattle.std.specs.List.{Contains, IsDistinct}
use Rattle.mvo_types.specs.declared.limits.TheConstants.{MAX_PAIR_RECORDS}
use Rattle.mvo_types.specs.RowData.{content_of}
use Rattle.mvo_types.specs.Write.Effect.{Put}
use Rattle.mvo_group.specs.Data.{GroupData}
use Rattle.mvo_format.specs.declared.format.Format.{Format}
use Rattle.mvo_format.specs.Formats.{IsFormatUpTo}
use Rattle.mvo_frame.specs.declared.kind.Kind.{Kind}
use Rattle.mvo_frame.specs.Frames.{IsSegment, mark_after}
use Rattle.mvo_pair.specs.Data.{EntryData, Numbered, live_of, AreApart}
use Rattle.mvo_pair.specs.Files.{AreEntries, AreNumbers}
use Rattle.mvo_pair.specs.declared.pair.Pair.{Pair}
use Rattle.mvo_places.specs.Rows.{rows_of, after_groups}
use Rattle.mvo_ckpt.specs.Writes.{writes_of, last_write, records_of, gone_of}
use Rattle.mvo_places.specs.Places.{PlaceMap, ArePlaces, file_of, taken_places}
use Rattle.mvo_ckpt.specs.Ended.{ended, left_in, lives_after}

-- The rows of the live records after a checkpoint are those before, after the groups.
abbrev pub CheckpointKeepsRows : Type 0
CheckpointKeepsRows = (gs : List GroupData) (lives : List (List Numbered)) →
    rows_of (lives_after gs lives) ≡ after_groups (rows_of lives) gs

-- No two of them have one key.
abbrev pub StaysApart : Type 0
StaysApart = (gs : List GroupData) (lives : List (List Numbered)) →
    AreApart lives → AreApart (lives_after gs lives)

-- The numbers that a delta file gains are those of records, and it doesn't name them yet.
abbrev pub NamesOthers : Type 0
NamesOthers = (gs : List GroupData) (below : ℕ) (ns : List ℕ) (es : List EntryData) →
    length es ≡ below → AreNumbers below ns →
    AreNumbers below (ns ++ ended gs (live_of ns es))

-- With them it leaves the live records whose keys aren't written.
abbrev pub LeavesOthers : Type 0
LeavesOthers = (gs : List GroupData) (ns : List ℕ) (es : List EntryData) →
    live_of (ns ++ ended gs (live_of ns es)) es ≡ left_in gs (live_of ns es)

-- The records of a segment's groups keep the rules of a data file between its two marks, in each
-- version that isn't earlier than the segment's.
abbrev pub GivesEntries : Type 0
GivesEntries = (upto : ℕ) (f : Format) (mark : ℕ) (kind : Kind) (gs : List GroupData)
    (bytes : List ℕ) → IsFormatUpTo f.version f → upto ≤ f.version →
    IsSegment upto mark kind gs bytes → AreEntries f mark (mark_after mark gs) (records_of gs)

-- They are no more than a pair may have.
abbrev pub IsFewEnough : Type 0
IsFewEnough = (upto mark : ℕ) (kind : Kind) (gs : List GroupData) (bytes : List ℕ) →
    IsSegment upto mark kind gs bytes → length (records_of gs) ≤ MAX_PAIR_RECORDS

-- They are the last writes of their keys, with the ends of the transactions that made them.
abbrev pub AreLastPuts : Type 0
AreLastPuts = (gs : List GroupData) (e : EntryData) → Contains (records_of gs) e ↔
    (last_write (writes_of gs) e.row.key ≡ Some (e.begin, (e.row.key, Put (content_of e.row))))

-- ---- places

-- Where a checkpoint's records and removed keys are taken over, each live record that it leaves has
-- its place: those of the older pairs, whose data files stay, and behind them those of the new one.
abbrev pub PlacesTakenOver : Type 0
PlacesTakenOver = (gs : List GroupData) (ps after : List Pair) (lives : List (List Numbered))
    (at : PlaceMap) (p : Pair) → ArePlaces ps lives at → map file_of after ≡ map file_of ps →
    IsDistinct nat_eq (map file_of (after ++ p ∷ [])) →
    ArePlaces (after ++ p ∷ []) (lives_after gs lives)
    (taken_places p.data_file (records_of gs) (gone_of gs) at)
