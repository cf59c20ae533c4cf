use Rattle.std.proofs.Common.{ℕ}
use Rattle.std.specs.VecDeque.{deque_len}
use Rattle.mvo_txn.specs.Queue.{queue_stamp, stamp_without, IsListing}
use Rattle.mvo_txn.specs.Sound.{KeepsForm}
use Rattle.mvo_txn.proofs.queue.Queue.trim.Given as goal

abbrev pub invariant-loop-mark : goal.invariant-loop-mark
invariant-loop-mark g l =
    KeepsForm l.initial.self l.self
    × ((high : ℕ) → IsListing (stamp_without l.gone (queue_stamp l.initial.self.kind l.seats)) high l.initial.self.marks.items → IsListing (stamp_without l.gone (queue_stamp l.initial.self.kind l.seats)) high l.self.marks.items)

abbrev pub decreases-loop-mark : goal.decreases-loop-mark
decreases-loop-mark g l = deque_len l.self.marks
