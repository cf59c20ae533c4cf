use Rattle.mvo_types.specs.declared.ids.TxId.{TxId}
use Rattle.mvo_engine.proofs.Beginning.{began_reading, not_begun_reading}
use Rattle.mvo_engine.proofs.session.Session.begin_read_only.Goals as goal

pub returns-in-Err-clause-core : goal.returns-in-Err-clause-core
returns-in-Err-clause-core g c = not_begun_reading TxId g.L.Run.opening c.args.self.now.tx c.in-Err.refusal c.in-Err.ensures.core

pub returns-clause-core : goal.returns-clause-core
returns-clause-core g c = began_reading g.L.Run.opening c.args.self.now.tx c.in-Ok.begun c.in-Ok.begun.0 c.in-Ok.ensures.core
