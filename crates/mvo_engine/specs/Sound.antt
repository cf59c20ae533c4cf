-- What the values under the two locks keep.
use Rattle.std.specs.Prelude.{◌≡◌, ℕ, ◌≤◌, IsTrue, List, ◌++◌}
use Rattle.std.specs.Option.{option_to_list}
use Rattle.mvo_types.specs.Keys.{Map}
use Rattle.mvo_model.specs.Trace.{Step}
use Rattle.mvo_disk.specs.declared.disk.Disk.{Ghosts}
use Rattle.mvo_disk.specs.Disk.{Image, AllOf, IsHonest}
use Rattle.mvo_group.specs.Data.{GroupData}
use Rattle.mvo_theory.specs.Marks.{IsClosedAt}
use Rattle.mvo_readonly.specs.Whole.{WholeState}
use Rattle.mvo_core.specs.Data.{CoreData}
use Rattle.mvo_core.specs.Seen.{closed_mark_of}
use Rattle.mvo_core.specs.WholeStanding.{StandsWhole}
use Rattle.mvo_core.specs.Groups.{HaveRecordsOf}
use Rattle.mvo_store.specs.Frames.{mark_after}
use Rattle.mvo_store.specs.Rows.{after_groups}
use Rattle.mvo_store.specs.Seen.{disk_of, mark_of, pending_of}
use Rattle.mvo_store.specs.StoreData.{StoreData}
use Rattle.mvo_store.specs.Standing.{Gives, HasSlots, KeepsRows, FollowsMark}
use Rattle.mvo_engine.specs.run.Opening.{Opening}
use Rattle.mvo_engine.specs.Opening.{GaveWhenOpened, WasFormatted}

-- The mark up to which the groups lead that went through a ring. The first one leads from 0 to the
-- opening mark and has no records, unless that mark is 0.
abbrev pub last_mark : List GroupData → ℕ
last_mark groups = mark_after 0 groups

-- The core stands for a whole state to which steps over the opening rows led, its own and those of
-- read-only transactions. The groups that were sent hold its commits, up to the mark of the last
-- one.
pub record IsSoundCore (o : Opening) (c : CoreData) (sent : List GroupData) : Type 0 where
  pub rows : Map
  pub mark : ℕ
  pub gives : GaveWhenOpened rows mark o
  pub steps : List Step
  pub own : List Step
  pub whole : WholeState
  pub stands : StandsWhole rows steps own whole c
  pub closed : IsClosedAt whole.core.marks.closed whole.core
  pub groups : HaveRecordsOf whole.core 0 sent
  pub last : last_mark sent ≡ closed_mark_of c

-- The groups that were received are durable, but for the one that is being appended. Where the disk
-- was formatted, and as long as it answers as written, a stop now leaves the opening rows followed
-- by the durable ones, or also by that one.
pub record IsSoundStore {D : Type 0} (d : Ghosts D) (o : Opening) (s : StoreData D)
    (received : List GroupData) : Type 0 where
  pub rows : Map
  pub mark : ℕ
  pub gives : GaveWhenOpened rows mark o
  pub durable : List GroupData
  pub received_is : received ≡ durable ++ option_to_list (pending_of s)
  pub mark_is : mark_of s ≡ last_mark durable
  pub follows : FollowsMark (mark_of s) (pending_of s)
  pub was : IsHonest (d.moment (disk_of s)) → IsTrue o.honest
  pub keeps : IsHonest (d.moment (disk_of s)) → WasFormatted o →
      KeepsRows d s (after_groups rows durable)

-- An image is well formed, and gives the opening rows followed by a beginning of the groups that
-- were received, up to a mark at least this one.
pub record GivesReceived (o : Opening) (received : List GroupData) (least : ℕ)
    (image : Image) : Type 0 where
  pub rows : Map
  pub mark : ℕ
  pub opened : Gives rows mark o.image
  pub front : List GroupData
  pub behind : List GroupData
  pub received_is : received ≡ front ++ behind
  pub slots : HasSlots image
  pub gives : Gives (after_groups rows front) (last_mark front) image
  pub covers : least ≤ last_mark front

-- Each image that a stop now may leave of a disk that was formatted, and has answered as written,
-- gives the opening rows followed by a beginning of the groups that were received, up to a mark at
-- least the store's. A disk that has answered as written until now had so when it was opened.
pub record LeavesReceived {D : Type 0} (d : Ghosts D) (o : Opening) (received : List GroupData)
    (s : StoreData D) : Type 0 where
  pub was : IsHonest (d.moment (disk_of s)) → IsTrue o.honest
  pub images : IsHonest (d.moment (disk_of s)) → WasFormatted o → (image : Image) →
      AllOf (d.may_leave (disk_of s)) image → GivesReceived o received (mark_of s) image
