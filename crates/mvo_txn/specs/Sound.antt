-- What ties the queues to the seats.
use Rattle.std.specs.Prelude.{ℕ, ◌≡◌, ◌+◌, ◌<◌, ◌≤◌}
use Rattle.mvo_types.specs.declared.limits.TheConstants.{MAX_STAMP, MAX_UNFINISHED}
use Rattle.std.specs.FinMap as map
use Rattle.std.specs.VecDeque.{deque_len, deque_capacity}
use Rattle.mvo_txn.specs.declared.queue.Queue.{Queue}
use Rattle.mvo_txn.specs.declared.mark.Kind.{Kind}
use Rattle.mvo_txn.specs.declared.mark.Kind.TheVariants.{Begin, OpenEnd}
use Rattle.mvo_txn.specs.Seats.{SeatMap}
use Rattle.mvo_txn.specs.Queue.{queue_stamp, stamp_without, HasRisingStamps, IsQueue, StaysQueue, Trims}

-- the queue is one of all that count by this timestamp, up to the clock, and has room for more
-- than may be unfinished
pub record IsQueueOf {P : Type 0} (kind : Kind) (clock : ℕ) (m : SeatMap P) (q : Queue) : Type 0
  where
    pub kind_is : q.kind ≡ kind
    pub queue : IsQueue (queue_stamp kind m) (clock + 1) q.marks.items
    pub room : MAX_UNFINISHED < deque_capacity q.marks

pub record AreSeatsSound {P : Type 0} (clock : ℕ) (m : SeatMap P)
    (begins ends : Queue) : Type 0 where
  pub stamped : clock ≤ MAX_STAMP
  pub few : map.len m ≤ MAX_UNFINISHED
  pub begins_are : IsQueueOf Begin clock m begins
  pub open_ends_are : IsQueueOf OpenEnd clock m ends

-- a queue goes by the same timestamp as before, and has as much room
pub record KeepsForm (old new : Queue) : Type 0 where
  pub kind : new.kind ≡ old.kind
  pub room : deque_capacity new.marks ≡ deque_capacity old.marks

-- there is a place for one more, where the timestamps rise and there is room for more than have a
-- seat
abbrev pub HasPlace : {P : Type 0} → SeatMap P → Queue → Queue → Type 0
HasPlace m old new = (high : ℕ) → HasRisingStamps 1 high old.marks.items
    → map.len m < deque_capacity old.marks → deque_len new.marks < deque_capacity new.marks

-- a queue stays one
abbrev pub KeepsQueue : {P : Type 0} → SeatMap P → Queue → Queue → Type 0
KeepsQueue m old new = StaysQueue (queue_stamp old.kind m) old.marks.items new.marks.items

-- it becomes one of those beside this transaction, though its first need not have counted
abbrev pub TrimsQueue : {P : Type 0} → SeatMap P → ℕ → Queue → Queue → Type 0
TrimsQueue m gone old new =
    Trims (stamp_without gone (queue_stamp old.kind m)) old.marks.items new.marks.items
