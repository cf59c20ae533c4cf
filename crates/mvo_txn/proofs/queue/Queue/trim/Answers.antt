use Rattle.std.proofs.Common.{sym, ap, ◌∙◌, subst}
use Rattle.mvo_txn.specs.Queue.{queue_stamp, stamp_without, is_current, IsListing}
use Rattle.mvo_txn.proofs.Queues.{listing_dropped}
use Rattle.mvo_txn.proofs.queue.Queue.trim.Goals as goal

pub loop-mark-preserved : goal.loop-mark-preserved
loop-mark-preserved g c = (
  record { kind = c.drop_first.ensures.form.kind ∙ c.loop-mark.invariant.0.kind; room = c.drop_first.ensures.form.room ∙ c.loop-mark.invariant.0.room },
  λ high l. subst (IsListing (stamp_without c.args.gone (queue_stamp c.args.self.now.kind c.args.seats.now)) high) (sym c.drop_first.ensures.rest)
      (listing_dropped (stamp_without c.args.gone (queue_stamp c.args.self.now.kind c.args.seats.now)) high c.loop-mark.self.marks.items c.in-Some.mark.now c.in-Some.ensures.lookup
      (ap (λ k. is_current (stamp_without c.args.gone (queue_stamp k c.args.seats.now)) c.in-Some.mark.now) (sym c.loop-mark.invariant.0.kind) ∙ sym c.is_left.ensures ∙ c.if-is_left.false)
      (c.loop-mark.invariant.1 high l)),
)
