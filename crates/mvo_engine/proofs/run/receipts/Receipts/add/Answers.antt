use Rattle.std.proofs.Common.{ap, ◌∙◌, arith}
use Rattle.mvo_engine.specs.run.Receiving.{ReceiptsState, AreBelow}
use Rattle.mvo_engine.proofs.run.Receiving.{up_to_append, count_append}
use Rattle.mvo_engine.proofs.run.receipts.Receipts.add.Goals as goal

pub invariant_of-self : goal.invariant_of-self
invariant_of-self g c =
    let i = c.self.invariant in
    let old = c.self.inside.list.list in
    let below : AreBelow c.args.receipt.end old = rw (ap (λ (s : ReceiptsState). s.list) c.self.view_is) c.requires.above in
    let more = count_append g.L.Run.watched old c.args.receipt in
    let now = c.count.ensures.amount in
    rw (c.push.ensures, c.end-self-inside.ensures) (c.count.ensures.parts ∙ i.0, (λ low. let was = i.1 low in omega (arith, more, was, now)), up_to_append old c.args.receipt below)
