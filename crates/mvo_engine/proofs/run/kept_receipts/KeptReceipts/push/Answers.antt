use Rattle.std.proofs.Common.{◌≤◌, drop, length, ap, arith}
use Rattle.mvo_engine.specs.run.Receiving.{KeptState, AreBelow}
use Rattle.mvo_engine.proofs.Forgetting.{left_rises}
use Rattle.mvo_engine.proofs.run.kept_receipts.KeptReceipts.push.Goals as goal

pub invariant_of-self : goal.invariant_of-self
invariant_of-self c =
    let i = c.self.invariant in
    let gone = c.self.inside.gone in
    let xs = c.self.inside.list.items in
    let all = c.push_reserved.new.self.items in
    let is = c.push_reserved.ensures.items in
    let within : gone ≤ length xs = omega arith in
    let below : AreBelow c.args.receipt.end (drop gone xs) = rw (ap (λ (s : KeptState). s.list) c.self.view_is) c.requires.above in
    (omega arith, left_rises gone xs all c.args.receipt within is i.1 below)
