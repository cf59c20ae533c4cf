use Rattle.std.proofs.Common.{◌≡◌}
use Rattle.mvo_engine.proofs.session.Session.wait_some.Given as goal

abbrev pub invariant-loop : goal.invariant-loop
invariant-loop g l = l.self ≡ record l.fn.self { durable = l.self.durable }
