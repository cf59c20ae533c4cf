use Rattle.std.proofs.Common.{sym}
use Rattle.mvo_txn.proofs.Seated.{got, got_none, gone_seats, gone_map, left_out}
use Rattle.mvo_txn.proofs.seats.Seats.remove.Goals as goal

pub returns-in_default-clause-before : goal.returns-in_default-clause-before
returns-in_default-clause-before g c = sym (got_none c.self.inside.directory c.self.inside.chairs c.args.self.now c.args.id c.self.invariant c.self.view_is c.in_default.ensures.none)

pub returns-in_default-clause-gone : goal.returns-in_default-clause-gone
returns-in_default-clause-gone g c =
    left_out c.args.self.now c.args.id (got_none c.self.inside.directory c.self.inside.chairs c.args.self.now c.args.id c.self.invariant c.self.view_is c.in_default.ensures.none)

pub invariant_of-self : goal.invariant_of-self
invariant_of-self g c =
    gone_seats c.self.inside.directory c.forget.new.self c.self.inside.chairs c.remove-chair.new.self c.in-Some.number c.args.id c.self.invariant c.in-Some.ensures.found c.remove-chair.ensures.updates c.forget.ensures c.remove-chair.ensures.capacity

pub returns-clause-before : goal.returns-clause-before
returns-clause-before g c =
    sym (got c.self.inside.directory c.self.inside.chairs c.args.self.now c.in-Some.number c.args.id c.remove-chair.result c.self.invariant c.self.view_is c.remove-chair.ensures.value c.in-Some.ensures.found)

pub returns-clause-gone : goal.returns-clause-gone
returns-clause-gone g c =
    gone_map c.self.inside.directory c.forget.new.self c.self.inside.chairs c.remove-chair.new.self c.args.self.now c.in-Some.number c.args.id c.self.invariant (invariant_of-self g c) c.self.view_is c.in-Some.ensures.found
    c.remove-chair.ensures.updates
