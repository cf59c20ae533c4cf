use Rattle.std.proofs.Common.{◌≡◌}
use Rattle.mvo_engine.proofs.session.Session.take_part.Given as goal

abbrev pub invariant-loop : goal.invariant-loop
invariant-loop g l =
    (goal.iterator-loop g).can_next l.iterator' × (goal.iterator-loop g).is_finite l.iterator' × (l.self ≡ record l.fn.self { durable = l.self.durable })
