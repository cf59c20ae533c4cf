use Rattle.std.proofs.Common.{sym}
use Rattle.mvo_engine.proofs.Beginning.{begun_so, not_begun_so}
use Rattle.mvo_engine.proofs.Refused.{beginning_refused}
use Rattle.mvo_engine.proofs.session.Session.begun.Goals as goal

pub returns-in-Ok-clause-start : goal.returns-in-Ok-clause-start
returns-in-Ok-clause-start g c =
    let told = c.tale_start-start.ensures in
    record { core = c.deref.result.now; sound = told.sound; is = sym told.start }

pub returns-clause-err : goal.returns-clause-err
returns-clause-err g c = beginning_refused _ _ _ _ c.in-Err.ensures.sound c.in-Err.ensures.step

pub returns-in-Ok-clause-core : goal.returns-in-Ok-clause-core
returns-in-Ok-clause-core g c = begun_so _ _ _ _ _ _ c.in-Ok.ensures.sound c.in-Ok.ensures.step

pub returns-clause-core : goal.returns-clause-core
returns-clause-core g c = not_begun_so _ _ _ _ _ c.in-Err.ensures.sound c.in-Err.ensures.step
