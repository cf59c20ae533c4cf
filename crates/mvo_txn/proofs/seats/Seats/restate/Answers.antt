use Rattle.std.proofs.Common.{refl, sym, ap, subst, ◌∙◌, IsSome}
use Rattle.std.specs.Option.{option_map}
use Rattle.std.proofs.lemmas.Bool.{false≢true}
use Rattle.mvo_txn.proofs.Seated.{got, got_none, written_seats, written_map, restated}
use Rattle.mvo_txn.proofs.seats.Seats.restate.Goals as goal

pub unreachable-requires : goal.unreachable-requires
unreachable-requires g c =
    false≢true (subst IsSome (got_none c.self.inside.directory c.self.inside.chairs c.args.self.now c.args.id c.self.invariant c.self.view_is c.in_default.ensures.none) c.requires)

pub invariant_of-self-lent : goal.invariant_of-self-lent
invariant_of-self-lent g c = λ w.
    written_seats c.self.inside.directory c.self.inside.chairs c.in-Some.number c.in-Some-get_mut.chair.now (record { state = c.args.state; kept = w }) c.self.invariant (sym c.in-Some-get_mut.ensures.value)

pub returns : goal.returns
returns g c =
    let here = sym c.in-Some-get_mut.ensures.value in
    let there = got c.self.inside.directory c.self.inside.chairs c.args.self.now c.in-Some.number c.args.id c.in-Some-get_mut.chair.now c.self.invariant c.self.view_is here c.in-Some.ensures.found in (
      (
        refl,
        λ w.
            written_map c.self.inside.directory c.self.inside.chairs c.args.self.now c.in-Some.number c.args.id c.in-Some-get_mut.chair.now (record { state = c.args.state; kept = w }) c.self.invariant c.self.view_is here c.in-Some.ensures.found
            ∙ restated c.args.self.now c.args.id c.args.state c.in-Some-get_mut.chair.now.seat w there,
      ),
      record { writes_back = tt; value = sym (ap (option_map (λ s. s.kept)) there) },
    )
