-- A segment that is read from a disk in slices.
use Rattle.std.specs.Prelude.{◌⊎◌, ℕ, List, Err}
use Rattle.mvo_types.specs.declared.refusal.Refusal.{Refusal}
use Rattle.mvo_frame.specs.declared.kind.Kind.{Kind}
use Rattle.mvo_frame.specs.Slices.{ReaderData, IsReadTo, HasClosedGateAt}
use Rattle.mvo_pair.specs.Answers.{IsOnly}
use Rattle.mvo_pair.specs.Writing.{IsStop}
use Rattle.mvo_recovery.specs.image.Files.{SegmentIs}

-- some bytes of a segment may have been read so far
abbrev pub MayBeReadTo : ℕ → ℕ → ReaderData → Type 0
MayBeReadTo upto mark r = (bytes : List ℕ) × IsReadTo upto mark bytes r

-- So far a segment of a version up to this one, whose first group follows this mark, is read. Where
-- the disk has answered as written, it is the file of these bytes.
pub record IsFramedTo (upto mark : ℕ) (honest : Type 0) (bytes : List ℕ) (r : ReaderData) : Type 0
  where
    pub some : MayBeReadTo upto mark r
    pub of_file : honest → IsReadTo upto mark bytes r

-- some bytes of a segment may have been read up to a closed gate
abbrev pub MayBeAllRead : ℕ → ℕ → ReaderData → Type 0
MayBeAllRead upto mark r =
    (bytes : List ℕ) × IsReadTo upto mark bytes r × HasClosedGateAt r.gate bytes

-- All of it is read, up to the closed gate.
pub record IsAllFramed (upto mark : ℕ) (honest : Type 0) (bytes : List ℕ) (r : ReaderData) : Type 0
  where
    pub some : MayBeAllRead upto mark r
    pub of_file : honest → HasClosedGateAt r.gate bytes

-- The call was stopped, or as a segment of either kind the bytes are refused so, and not otherwise.
abbrev pub IsStopOrOnly : ℕ → ℕ → ℕ → List ℕ → Refusal → Type 0
IsStopOrOnly upto file mark bytes e =
    IsStop e ⊎ ((kind : Kind) → IsOnly (SegmentIs upto file mark kind bytes) (Err e))
