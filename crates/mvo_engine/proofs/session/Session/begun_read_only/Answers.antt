use Rattle.std.proofs.Common.{sym}
use Rattle.mvo_engine.proofs.Beginning.{reading_so, not_reading_so}
use Rattle.mvo_engine.proofs.Refused.{reading_beginning_refused}
use Rattle.mvo_engine.proofs.session.Session.begun_read_only.Goals as goal

pub returns-in-Ok-clause-start : goal.returns-in-Ok-clause-start
returns-in-Ok-clause-start g c =
    let told = c.tale_start-start.ensures in
    record { core = c.deref.result.now; sound = told.sound; is = sym told.start }

pub returns-in-Ok-clause-core : goal.returns-in-Ok-clause-core
returns-in-Ok-clause-core g c = reading_so _ _ _ _ _ _ c.in-Ok.ensures.sound c.in-Ok.ensures.step

pub returns-clause-core : goal.returns-clause-core
returns-clause-core g c = not_reading_so _ _ _ _ _ c.in-Err.ensures.sound c.in-Err.ensures.step

pub returns-clause-err : goal.returns-clause-err
returns-clause-err g c = reading_beginning_refused _ _ _ _ c.in-Err.ensures.sound c.in-Err.ensures.step
