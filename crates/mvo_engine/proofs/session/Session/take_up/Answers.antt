use Rattle.std.proofs.Common.{ap}
use Rattle.mvo_engine.specs.run.Receiving.{AreBelow}
use Rattle.mvo_engine.specs.States.{SessionState}
use Rattle.mvo_engine.proofs.Forgetting.{below_left}
use Rattle.mvo_engine.proofs.session.Session.take_up.Goals as goal

pub invariant_of-self : goal.invariant_of-self
invariant_of-self g c =
    let t = c.args.tx.0 in
    let above : AreBelow t c.self.inside.receipts.list = rw (ap (λ (s : SessionState). s.receipts) c.self.view_is) c.requires.above in
    (c.self.invariant.0, below_left c.forget.ensures.gone t above)
