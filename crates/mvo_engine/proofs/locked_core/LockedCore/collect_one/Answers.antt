use Rattle.std.proofs.Common.{refl, ap, arith}
use Rattle.mvo_core.specs.Data.{CoreData}
use Rattle.mvo_engine.proofs.CoreSound.{collected}
use Rattle.mvo_engine.proofs.Booked.{collected as booked_collected, spare_later}
use Rattle.mvo_engine.proofs.locked_core.LockedCore.collect_one.Goals as goal

pub invariant_of-self : goal.invariant_of-self
invariant_of-self g c =
    let e = c.collect_one.ensures in
    let i = c.self.invariant in
    let new = c.collect_one.new.self in
    (collected i.0 new e.whole e.rest, booked_collected g.L.Run.watched i.1 new e.whole, spare_later new.start i.2 (let same = ap (λ (x : CoreData). x.start) e.rest in omega (arith, same)))

pub returns : goal.returns
returns g c =
    let e = c.collect_one.ensures in
    rw (← c.self.view_is) (record { counts = e.whole_counts; stands = e.whole; core = e.rest; rest = refl })
