use Rattle.mvo_engine.proofs.Asking.{told_kind}
use Rattle.mvo_engine.proofs.session.Session.ask.Goals as goal

pub returns-clause-kind : goal.returns-clause-kind
returns-clause-kind g c = told_kind g.L.Run.opening _ c.args.op c.operate.result c.operate.ensures.none c.operate.ensures.core
