use Rattle.std.proofs.Common.{sym}
use Rattle.mvo_txn.proofs.Seated.{got, got_none}
use Rattle.mvo_txn.proofs.seats.Seats.sought.Goals as goal

pub returns-in_default : goal.returns-in_default
returns-in_default g c = sym (got_none c.self.inside.directory c.self.inside.chairs c.args.self.now c.args.id c.self.invariant c.self.view_is c.in_default.ensures.none)

pub returns-in-Some-get : goal.returns-in-Some-get
returns-in-Some-get g c =
    sym (got c.self.inside.directory c.self.inside.chairs c.args.self.now c.in-Some.number c.args.id c.in-Some-get.chair.now c.self.invariant c.self.view_is (sym c.in-Some-get.ensures) c.in-Some.ensures.found)
