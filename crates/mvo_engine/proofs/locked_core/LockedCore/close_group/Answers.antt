use Rattle.std.proofs.Common.{refl}
use Rattle.mvo_engine.proofs.CoreSound.{after_closing}
use Rattle.mvo_engine.proofs.Booked.{closed, start_closed, spare_later}
use Rattle.mvo_engine.proofs.locked_core.LockedCore.close_group.Goals as goal

pub invariant_of-self : goal.invariant_of-self
invariant_of-self g c =
    let i = c.self.invariant in
    let s = i.0 in
    let b = i.1 in
    let old = c.self.inside.sends in
    let new = c.close_group.new.self in
    let core = c.close_group.new.core in
    let result = c.close_group.result in
    let e = c.close_group.ensures in
    (after_closing s old new refl result core (e s.rows s.steps s.own s.whole s.stands), closed g.L.Run.watched b old new result core (e b.rows b.steps b.own b.whole b.stands), spare_later _ i.2 (start_closed g.L.Run.watched b old new result core (e b.rows b.steps b.own b.whole b.stands)))

pub returns : goal.returns
returns g c = rw (← c.self.view_is) (record { sending = c.close_group.ensures; made = refl })
