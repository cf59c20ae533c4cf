-- Reading a segment in slices: which groups are read, and where the next slice begins.
use Rattle.std.specs.Prelude.{◌≡◌, ◌≢◌, ◌⊎◌, ℕ, ◌+◌, ◌-◌, ◌<◌, ◌≤◌, List, [], ◌∷◌, ◌++◌, length, take, drop, Option, Some, None, Ok, Err}
use Rattle.mvo_types.specs.declared.limits.TheConstants.{MAX_SEGMENT_LEN}
use Rattle.mvo_types.specs.declared.refusal.Refusal.{Refusal}
use Rattle.mvo_types.specs.declared.refusal.Refusal.TheVariants.{OutOfMemory}
use Rattle.mvo_group.specs.Data.{GroupData}
use Rattle.mvo_group.specs.Rules.{IsGroup}
use Rattle.mvo_group.specs.Allowed.{AreAllowed}
use Rattle.mvo_group.specs.Body.{body_of}
use Rattle.mvo_format.specs.declared.header.TheConstants.{OPEN, HEADER_LEN}
use Rattle.mvo_format.specs.declared.format.Format.{Format}
use Rattle.mvo_format.specs.Formats.{IsFormatUpTo}
use Rattle.mvo_format.specs.Found.{Found, Says, IsOtherVersion}
use Rattle.mvo_frame.specs.declared.magic.TheConstants.{MAGIC}
use Rattle.mvo_frame.specs.declared.lengths.TheConstants.{MAX_FRAME_LEN}
use Rattle.mvo_frame.specs.declared.kind.Kind.{Kind}
use Rattle.mvo_frame.specs.Frames.{sized, front, mark_after, IsSegment}
use Rattle.mvo_frame.specs.Reading.{step_found}
use Rattle.mvo_frame.specs.Standing.{gate_of}

-- what a reader holds: the format of the segment's version, its file, where the next gate stands,
-- the mark of the last group, or the one before the first, and the groups
pub record ReaderData : Type 0 where
  pub format : Format
  pub file : ℕ
  pub gate : ℕ
  pub mark : ℕ
  pub groups : List GroupData

-- each group follows those before it, and the gate behind its frame fits the segment
abbrev pub FramesFollow : ℕ → ℕ → List GroupData → Type 0
FramesFollow place mark [] = Unit {0}
FramesFollow place mark (g ∷ gs) =
    IsGroup g × (g.prev ≡ mark) × (place + 1 + length (sized (body_of g)) < MAX_SEGMENT_LEN)
    × FramesFollow (place + 1 + length (sized (body_of g))) g.mark gs

-- In front of the gate stand the header and the frames of the groups, and nothing else.
pub record IsReadTo (upto start : ℕ) (bytes : List ℕ) (r : ReaderData) : Type 0 where
  pub known : IsFormatUpTo upto r.format
  pub whole : take r.gate bytes ≡ front r.format.version r.groups
  pub follow : FramesFollow HEADER_LEN start r.groups
  pub allowed : AreAllowed r.format r.groups
  pub place : r.gate ≡ gate_of r.groups
  pub mark_is : r.mark ≡ mark_after start r.groups

-- a part of the bytes from a place on: the lengths frame's length of them, or all that there are
pub record IsWindow (at : ℕ) (bytes window : List ℕ) : Type 0 where
  pub reach : ℕ
  pub ample : MAX_FRAME_LEN ≤ reach
  pub part : window ≡ take reach (drop at bytes)

-- the gate at a place is closed
abbrev pub HasClosedGateAt : ℕ → List ℕ → Type 0
HasClosedGateAt at bytes =
    (gate : ℕ) × (rest : List ℕ) × (drop at bytes ≡ gate ∷ rest) × (gate ≢ OPEN)

-- what the bytes say of a segment: its groups, or another version, or neither
abbrev pub SegmentHas : ℕ → ℕ → ℕ → Kind → List ℕ → Found (List GroupData) → Type 0
SegmentHas upto file start kind bytes =
    Says file (IsOtherVersion MAGIC upto bytes) (λ gs. IsSegment upto start kind gs bytes)

-- memory alone, or what the bytes say of a segment of either kind
abbrev pub IsToldOf : ℕ → ℕ → ℕ → List ℕ → Refusal → Type 0
IsToldOf upto file start bytes e =
    (e ≡ OutOfMemory) ⊎ ((kind : Kind) → SegmentHas upto file start kind bytes (Err e))

-- what is found of the bytes behind the groups
abbrev pub group_next : ReaderData → List ℕ → Found (Option (GroupData × List ℕ))
group_next r bytes = step_found r.format r.file r.gate r.mark bytes

-- The gate in front is closed; or the group behind it is read, and these bytes stand behind it.
abbrev pub IsGroupRead : ReaderData → List ℕ → Option (List ℕ) → ReaderData → Type 0
IsGroupRead old bytes None new = (group_next old bytes ≡ Ok None) × (new ≡ old)
IsGroupRead old bytes (Some later) new =
    (g : GroupData) × (group_next old bytes ≡ Ok (Some (g, later)))
    × (new ≡ record old {
      gate = old.gate + (length bytes - length later);
      mark = g.mark;
      groups = old.groups ++ g ∷ [];
    })
