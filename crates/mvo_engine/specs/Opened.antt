-- A run before its first step.
use Rattle.std.specs.Prelude.{◌≡◌, ◌≤◌, ◌==◌, IsTrue, ℕ, List, [], ◌∷◌, None, if◌then◌else◌}
use Rattle.atomic_table.specs.Seated.{TableId}
use Rattle.rtrb.specs.declared.producer.Producer.{Producer}
use Rattle.rtrb.specs.declared.consumer.Consumer.{Consumer}
use Rattle.rtrb.specs.Ring.{sent, received}
use Rattle.mvo_types.specs.declared.limits.TheConstants.{MAX_STAMP}
use Rattle.mvo_types.specs.Keys.{Map}
use Rattle.mvo_disk.specs.declared.disk.Disk.{Ghosts}
use Rattle.mvo_disk.specs.Disk.{IsHonest}
use Rattle.mvo_group.specs.Data.{GroupData, group_of}
use Rattle.mvo_core.specs.Data.{CoreData}
use Rattle.mvo_core.specs.Standing.{HasOpenedOver}
use Rattle.mvo_store.specs.Seen.{disk_of, mark_of, pending_of}
use Rattle.mvo_store.specs.StoreData.{StoreData}
use Rattle.mvo_store.specs.Standing.{KeepsRows}
use Rattle.mvo_marks.specs.Marks.{SeatData}
use Rattle.mvo_world.specs.WorldData.{WorldData}
use Rattle.mvo_engine.specs.run.Rings.{RingName, ring_of, ring_from}
use Rattle.mvo_engine.specs.run.Opening.{Opening, opening_of}
use Rattle.mvo_engine.specs.Opening.{GaveWhenOpened, WasFormatted}

-- Core and store of a world as its opening gave it. Of a disk that has lied only the mark is known
-- to be a timestamp.
pub record HasOpened {D : Type 0} (d : Ghosts D) (o : Opening) (c : CoreData)
    (s : StoreData D) : Type 0 where
  pub rows : Map
  pub gives : GaveWhenOpened rows (mark_of s) o
  pub stamp : mark_of s ≤ MAX_STAMP
  pub core : HasOpenedOver rows (mark_of s) c
  pub pending : pending_of s ≡ None
  pub was : IsHonest (d.moment (disk_of s)) → IsTrue o.honest
  pub keeps : IsHonest (d.moment (disk_of s)) → WasFormatted o → KeepsRows d s rows

abbrev pub IsOpenedWorld : {D : Type 0} → Ghosts D → WorldData D → Type 0
IsOpenedWorld d w = HasOpened d (opening_of d (disk_of w.store)) w.core w.store

-- the group that leads from 0 to the opening mark, with no records; none where that is 0
abbrev pub opening_groups : ℕ → List GroupData
opening_groups mark = if mark == 0 then [] else group_of 0 mark [] ∷ []

module _ {A P : Type 0} where
  -- nothing but the opening group went through
  pub record IsFreshRing (mark : ℕ) (p : Producer GroupData A P) (c : Consumer GroupData A P)
      : Type 0 where
    pub one : ring_from c ≡ ring_of p
    pub sent_is : sent p ≡ opening_groups mark
    pub received_is : received c ≡ opening_groups mark

-- both are of these marks, and the opening mark is published
pub record AreFreshSeats (marks : TableId) (mark : ℕ) (publisher seat : SeatData) : Type 0 where
  pub publisher_is : publisher.marks ≡ marks
  pub seat_is : seat.marks ≡ marks
  pub published : publisher.known.published ≡ mark

-- what contracts see of the parts of a run that has no name yet
pub record FreshData (D : Type 0) : Type 0 where
  pub core : CoreData
  pub store : StoreData D
  pub marks : TableId
  pub ring : RingName
  pub ledger : ℕ  -- the name of the ledger
  pub parts : ℕ  -- into how many parts it is cut

-- what it was opened over
abbrev pub fresh_opening : {D : Type 0} → Ghosts D → FreshData D → Opening
fresh_opening d f = opening_of d (disk_of f.store)

-- what names the run is fixed by its parts
pub record IsNamedBy {D : Type 0} (d : Ghosts D) (o : Opening) (marks : TableId)
    (ring : RingName) (ledger parts : ℕ) (f : FreshData D) : Type 0 where
  pub opening_is : fresh_opening d f ≡ o
  pub marks_are : f.marks ≡ marks
  pub ring_is : f.ring ≡ ring
  pub ledger_is : f.ledger ≡ ledger
  pub parts_are : f.parts ≡ parts
