use Rattle.std.proofs.Common.{◌≤◌, refl, sym, ◌∙◌, arith, ⊎_elim}
use Rattle.std.proofs.lemmas.Bool.{cases_lt, false≢true}
use Rattle.std.specs.VecDeque.{deque_len}
use Rattle.mvo_txn.specs.Queue.{queue_stamp}
use Rattle.mvo_txn.proofs.NextStamps.{none_next, some_next}
use Rattle.mvo_txn.proofs.queue.Queue.next.Goals as goal

pub returns-then-is_current : goal.returns-then-is_current
returns-then-is_current g c = λ high l.
    some_next (queue_stamp c.args.self.now.kind c.args.seats.now) high c.args.from c.place_of-place.result c.loop-mark.place c.args.self.now.marks.items l
    (c.place_of-place.ensures.place high l.rising) c.loop-mark.invariant.1 c.in-Some.mark.now c.loop-mark.invariant.0 (omega (arith, c.in-Some.ensures.variant.0 refl, c.args.self.now.marks.ok.0)) (sym c.in-Some.ensures.lookup) (sym c.is_current.ensures ∙ c.if-is_current.true)

pub returns : goal.returns
returns g c = λ high l.
    let none_there : deque_len c.args.self.now.marks ≤ c.loop-mark.place = ⊎_elim (λ lt. absurd (false≢true (c.in_default.ensures.variant.1 lt))) (λ ge. ge) (cases_lt c.loop-mark.place (deque_len c.args.self.now.marks)) in
    none_next (queue_stamp c.args.self.now.kind c.args.seats.now) high c.args.from c.place_of-place.result c.loop-mark.place c.args.self.now.marks.items l
    (c.place_of-place.ensures.place high l.rising) c.loop-mark.invariant.1 (omega (arith, sym c.args.self.now.marks.ok.0, none_there))
