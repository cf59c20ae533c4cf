use Rattle.mvo_engine.proofs.Refused.{rollback_refused}
use Rattle.mvo_engine.proofs.session.Session.rollback_tx.Goals as goal

pub returns-in-Err-clause-err : goal.returns-in-Err-clause-err
returns-in-Err-clause-err g c = rollback_refused {A = Unit {0}} _ c.in-Err.refusal c.in-Err.ensures
