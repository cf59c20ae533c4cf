-- What a world says of its past, and what a stop leaves of it.
use Rattle.std.specs.Prelude.{◌≡◌, ◌+◌, ◌≤◌, ◌⊎◌, ℕ, List, [], ◌∷◌, ◌++◌, length, map}
use Rattle.std.specs.List.{AllByRecursion}
use Rattle.mvo_types.specs.Keys.{Map}
use Rattle.mvo_model.specs.Trace.{rows_up_to}
use Rattle.mvo_disk.specs.declared.disk.Disk.{Ghosts}
use Rattle.mvo_disk.specs.Disk.{Image, AllOf, LeavesOnly, IsHonest}
use Rattle.mvo_group.specs.Data.{GroupData}
use Rattle.mvo_theory.specs.State.{timeline}
use Rattle.mvo_theory.specs.Marks.{IsClosedAt, settled_to}
use Rattle.mvo_theory.specs.rests.Course.{Course}
use Rattle.mvo_readonly.specs.Whole.{WholeState}
use Rattle.mvo_readonly.specs.rests.Followed.{IsFollowed}
use Rattle.mvo_core.specs.Counting.{version_count}
use Rattle.mvo_core.specs.WholeStanding.{StandsWhole}
use Rattle.mvo_store.specs.Frames.{mark_after}
use Rattle.mvo_store.specs.Rows.{after_groups}
use Rattle.mvo_store.specs.Seen.{disk_of, mark_of}
use Rattle.mvo_store.specs.Standing.{Gives, KeepsRows, HasSlots}
use Rattle.mvo_world.specs.Past.{Past, course_of}
use Rattle.mvo_world.specs.Finishing.{HaveCountedWords}
use Rattle.mvo_world.specs.Collecting.{versions_ever}
use Rattle.mvo_types.specs.declared.limits.TheConstants.{RING_GROUPS}
use Rattle.mvo_world.specs.WholeJustified.{KnowsReaders}
use Rattle.mvo_world.specs.WorldData.{WorldData, waiting}
use Rattle.mvo_core.specs.Groups.{HaveRecordsOf}

-- it is one of these
abbrev pub IsOneOf : ℕ → List ℕ → Type 0
IsOneOf m [] = ⊥
IsOneOf m (n ∷ ns) = (m ≡ n) ⊎ IsOneOf m ns

-- The rows are those of the commits up to the mark, the opening one or that of a closed group, with
-- all that was acknowledged.
pub record IsPrefix (p : Past) (rows : Map) (mark : ℕ) : Type 0 where
  pub rows_are : rows ≡ rows_up_to mark p.rows p.steps
  pub known : IsOneOf mark (p.mark ∷ p.closed)
  pub covers : AllByRecursion (λ m. m ≤ mark) p.acknowledged

-- so are the rows and the mark that the image gives, which has a gate in each slot
pub record RecoversPrefix (p : Past) (image : Image) : Type 0 where
  pub slots : HasSlots image
  pub rows : Map
  pub mark : ℕ
  pub gives : Gives rows mark image
  pub prefix : IsPrefix p rows mark

-- its disk has answered as written so far
abbrev pub HasHonestDisk : {D : Type 0} → Ghosts D → WorldData D → Type 0
HasHonestDisk d w = IsHonest (d.moment (disk_of w.store))

-- The world stands after this past. Only what a stop leaves of it rests on what its disk answered.
pub record IsAfter {D : Type 0} (d : Ghosts D) (p : Past) (w : WorldData D) : Type 0 where
  -- the groups that are durable since the opening
  pub sent : List GroupData
  -- what happened in the core since the opening, for which a read-only transaction is Active until
  -- it ends and is rolled back then; and the state that the steps lead to, with the read-only ones
  pub own : Course
  pub state : WholeState
  pub core : StandsWhole p.rows p.steps own.steps state w.core
  -- What it keeps and counts, and on whom its transactions rest, is what was asked and answered.
  pub followed : IsFollowed (course_of p) own state
  -- its read-only transactions are those that began so
  pub readers : KnowsReaders p.read_only p.steps state
  -- of those that ended, the words that are left are those that no More took
  pub words : HaveCountedWords p.mores own.steps state.core
  -- of the versions that there ever were it has those that weren't collected
  pub versions : version_count w.core + p.collected ≡ versions_ever p
  -- up to the mark of the group that was closed last all that write are settled
  pub closed : IsClosedAt state.core.marks.closed state.core
  -- no commit ends at or below the opening mark
  pub before : IsClosedAt p.mark state.core
  pub none : settled_to p.mark (timeline state.core) ≡ []
  pub store : HasHonestDisk d w → KeepsRows d w.store (after_groups p.rows sent)
  pub mark : mark_of w.store ≡ mark_after p.mark sent
  pub groups : HaveRecordsOf state.core p.mark (sent ++ waiting w)
  pub marks : map (λ g. g.mark) (sent ++ waiting w) ≡ p.closed
  pub covers : AllByRecursion (λ m. m ≤ mark_of w.store) p.acknowledged
  -- those that the store hasn't taken are in the ring, which has no more than it may
  pub untaken : p.taken + length w.ring ≡ length p.closed
  pub room : length w.ring ≤ RING_GROUPS

-- a stop now leaves an image that recovers a prefix
abbrev pub MayLeavePrefix : {D : Type 0} → Ghosts D → Past → D → Type 0
MayLeavePrefix d p disk =
    (image : Image) → AllOf (d.may_leave disk) image → RecoversPrefix p image

-- so does a stop at any moment from one to the next
abbrev pub LeavesPrefix : {D : Type 0} → Ghosts D → Past → D → D → Type 0
LeavesPrefix d p old new = LeavesOnly d.moment d.left_since old new (RecoversPrefix p)
