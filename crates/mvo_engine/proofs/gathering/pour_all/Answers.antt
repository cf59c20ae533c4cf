use Rattle.std.proofs.Common.{arith, subst}
use Rattle.mvo_engine.specs.Booked.{IsBooked}
use Rattle.mvo_engine.specs.States.{CoreState}
use Rattle.mvo_engine.specs.run.Watching.{count_of}
use Rattle.mvo_engine.proofs.Pouring.{booked_count}
use Rattle.mvo_engine.proofs.gathering.pour_all.Goals as goal

pub returns-clause-booked : goal.returns-clause-booked
returns-clause-booked g c =
    let w = g.L.Run.watched in
    let core = c.args.core.now in
    let amount = c.pour-whole.result.amount in
    let is = c.requires.start in
    let booked = subst (λ (s : CoreState). IsBooked w s.core amount) c.no_part-nothing.ensures.same c.tally.ensures.all in
    booked_count w core.core amount (count_of w c.pour-whole.new.all.items) booked (λ low. c.pour-whole.ensures.amount (omega (arith, is, low)))
