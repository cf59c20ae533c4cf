use Rattle.std.proofs.Common.{◌≡◌, ◌-◌, ◌≤◌, false, length}
use Rattle.std.specs.List.{AllWithin}
use Rattle.mvo_txn.specs.Queue.{queue_stamp, is_current}
use Rattle.mvo_txn.proofs.queue.Queue.next.Given as goal

abbrev pub invariant-loop-mark : goal.invariant-loop-mark
invariant-loop-mark g l =
    (l.initial.place ≤ l.place)
    × AllWithin (λ m. is_current (queue_stamp l.self.kind l.seats) m ≡ false) l.self.marks.items l.initial.place l.place

abbrev pub decreases-loop-mark : goal.decreases-loop-mark
decreases-loop-mark g l = length l.self.marks.items - l.place
