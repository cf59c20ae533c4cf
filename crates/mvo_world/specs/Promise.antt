-- What is promised of a disk over which events ran: their replies, and what a stop leaves.
use Rattle.std.specs.Prelude.{◌≡◌, ◌≤◌, ℕ, List, [], ◌∷◌}
use Rattle.mvo_types.specs.declared.limits.TheConstants.{MAX_STAMP}
use Rattle.mvo_types.specs.Keys.{Map}
use Rattle.mvo_disk.specs.declared.disk.Disk.{Ghosts}
use Rattle.mvo_disk.specs.Disk.{IsHonest}
use Rattle.mvo_store.specs.Standing.{Gives, HasSlots}
use Rattle.mvo_store.specs.Seen.{mark_of}
use Rattle.mvo_store.specs.Opening.{LeavesAsBefore}
use Rattle.mvo_world.specs.Past.{Past, opened_over, with_event, with_events, IsSerialPast}
use Rattle.mvo_world.specs.WorldData.{WorldData, IsJustOpened}
use Rattle.mvo_world.specs.Standing.{IsAfter, HasHonestDisk, MayLeavePrefix, LeavesPrefix}
use Rattle.mvo_world.specs.declared.event.Event.{Event}
use Rattle.mvo_world.specs.declared.reply.Reply.{Reply}

-- It was opened over these rows: those that the disk gave, where it answered as written until then.
-- It stands after its past if each slot had a gate; of a disk that has lied nothing is asked.
pub record IsOpenedOver {D : Type 0} (d : Ghosts D) (disk : D) (rows : Map) (w : WorldData D) :
    Type 0 where
  pub begins : IsJustOpened rows w
  pub after : (IsHonest (d.moment disk) → HasSlots (d.content disk)) →
      IsAfter d (opened_over rows (mark_of w.store)) w
  pub gives : HasHonestDisk d w → Gives rows (mark_of w.store) (d.content disk)
  pub stamp : mark_of w.store ≤ MAX_STAMP

-- Events with their replies lead from one disk to another. A stop before or within each of them
-- leaves an image that recovers a prefix of the past up to it, and so does a stop behind the last:
-- each as long as the disk has answered as written up to the end of it.
abbrev pub LeavePrefixes : {D : Type 0} → Ghosts D → Past → D → List Event → List Reply → D → Type 0
LeavePrefixes d p disk [] [] disk' =
    (disk' ≡ disk) × (IsHonest (d.moment disk) → MayLeavePrefix d p disk)
LeavePrefixes d p disk [] (r ∷ rs) disk' = ⊥
LeavePrefixes d p disk (e ∷ es) [] disk' = ⊥
LeavePrefixes {D} d p disk (e ∷ es) (r ∷ rs) disk' =
    (next : D) × (IsHonest (d.moment next) → LeavesPrefix d p disk next)
    × LeavePrefixes d (with_event p e r) next es rs disk'

-- The committed transactions were told what they are told one after another, by end, from some rows
-- on: those that the disk gave, where it answered as written until it was opened. A stop while it
-- is opened leaves what might have been left before. From then on each moment's images recover a
-- prefix of the commits up to it, with all that was acknowledged, as long as the disk answers as
-- written.
pub record KeepsPromise {D : Type 0} (d : Ghosts D) (disk : D) (events : List Event)
    (replies : List Reply) (disk' : D) : Type 0 where
  pub rows : Map
  pub mark : ℕ
  pub serial : IsSerialPast (with_events (opened_over rows mark) events replies)
  pub opened : D
  pub gives : IsHonest (d.moment opened) → Gives rows mark (d.content disk)
  pub opening : LeavesAsBefore d disk opened
  pub prefixes : LeavePrefixes d (opened_over rows mark) opened events replies disk'
