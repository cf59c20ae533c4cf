use Rattle.std.proofs.Common.{sym, ap, subst, ◌∙◌, rules, arith, length}
use Rattle.std.proofs.lemmas.Fn.{filter_same}
use Rattle.mvo_txn.specs.Queue.{queue_stamp, IsQueue, is_current}
use Rattle.mvo_txn.proofs.Queues.{queue_filtered, current_if, if_current}
use Rattle.mvo_txn.proofs.Few.{few_current}
use Rattle.mvo_txn.proofs.queue.Queue.make_room.Goals as goal

pub returns-then-len-capacity-clause-kept : goal.returns-then-len-capacity-clause-kept
returns-then-len-capacity-clause-kept g c = λ high q.
    let f = queue_stamp c.args.self.now.kind c.args.seats.now in
    let e = filter_same _ (is_current f) _ (λ m b f' k. search rules) _ _ c.retain.ensures.filtered in
    subst (IsQueue f high) (sym e) (queue_filtered f (is_current f) (current_if f) (if_current f) high c.args.self.now.marks.items q)

pub returns-then-len-capacity-clause-place : goal.returns-then-len-capacity-clause-place
returns-then-len-capacity-clause-place g c = λ high r few.
    let f = queue_stamp c.args.self.now.kind c.args.seats.now in
    let e = filter_same _ (is_current f) _ (λ m b f' k. search rules) _ _ c.retain.ensures.filtered in
    let less = few_current c.args.self.now.kind c.args.seats.now 1 high c.args.self.now.marks.items r in
    let count = c.retain.new.self.ok.0 ∙ ap length e in
    omega (arith, less, few, count, c.retain.ensures.capacity)
