use Rattle.std.proofs.Common.{◌≡◌, None}
use Rattle.mvo_engine.specs.Forgetting.{HasForgottenAny}
use Rattle.mvo_engine.specs.Transacting.{HaveFailed}
use Rattle.mvo_engine.proofs.session.Session.attempts.Given as goal

abbrev pub invariant-loop-failures : goal.invariant-loop-failures
invariant-loop-failures g l =
    HaveFailed g.L.Run.opening (g.W.Transaction.comes_to l.fn.work) l._failures l.fn.self l.self × HasForgottenAny g.L.Run.opening l.fn.self.receipts l.self.receipts × (l.self.tx ≡ None)
