use Rattle.mvo_engine.proofs.Refused.{commit_refused}
use Rattle.mvo_engine.proofs.session.Session.commit_tx.Goals as goal

pub returns-in-Err-clause-err : goal.returns-in-Err-clause-err
returns-in-Err-clause-err g c = commit_refused _ _ c.in-Err.refusal c.in-Err.ensures.core
