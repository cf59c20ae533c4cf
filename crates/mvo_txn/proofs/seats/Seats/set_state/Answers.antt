use Rattle.std.proofs.Common.{sym, ap, subst, ◌∙◌, IsSome}
use Rattle.std.proofs.lemmas.Bool.{false≢true}
use Rattle.mvo_txn.specs.Seats.{with_state_at}
use Rattle.mvo_txn.proofs.Seated.{got, got_none, written_seats, written_map}
use Rattle.mvo_txn.proofs.seats.Seats.set_state.Goals as goal

pub unreachable-requires : goal.unreachable-requires
unreachable-requires g c =
    false≢true (subst IsSome (got_none c.self.inside.directory c.self.inside.chairs c.args.self.now c.args.id c.self.invariant c.self.view_is c.in_default.ensures.none) c.requires)

pub invariant_of-self : goal.invariant_of-self
invariant_of-self g c =
    written_seats c.self.inside.directory c.self.inside.chairs c.in-Some.number c.in-Some-get_mut.chair.now (record c.in-Some-get_mut.chair.now.seat { state = c.args.state }) c.self.invariant (sym c.in-Some-get_mut.ensures.value)

pub returns : goal.returns
returns g c =
    let there = got c.self.inside.directory c.self.inside.chairs c.args.self.now c.in-Some.number c.args.id c.in-Some-get_mut.chair.now c.self.invariant c.self.view_is (sym c.in-Some-get_mut.ensures.value) c.in-Some.ensures.found in
    written_map c.self.inside.directory c.self.inside.chairs c.args.self.now c.in-Some.number c.args.id c.in-Some-get_mut.chair.now (record c.in-Some-get_mut.chair.now.seat { state = c.args.state }) c.self.invariant c.self.view_is (sym c.in-Some-get_mut.ensures.value) c.in-Some.ensures.found
    ∙ sym (ap (λ o. with_state_at o c.args.self.now c.args.id c.args.state) there)
