use Rattle.std.proofs.Common.{subst}
use Rattle.mvo_engine.specs.Gathering.{HasGathered}
use Rattle.mvo_engine_tests.proofs.Days.{day_is}
use Rattle.mvo_engine_tests.proofs.tests.day.compare.Goals as goal

pub returns-in-Ok-All : goal.returns-in-Ok-All
returns-in-Ok-All g c =
    let l = c.clock.ensures.legal in
    let gathered = subst (HasGathered g.L.Run.watched c.args.core.now c.args.sessions.items) c.in-Ok-All.field-0-is c.in-Ok-All.ensures.gathered in
    record { day = day_is g.L.Run.watched c.args.core.now.core c.in-Ok-All.receipts.items l.rows l.steps l.own l.whole l.stands c.tale.ensures.stored gathered.2 }
