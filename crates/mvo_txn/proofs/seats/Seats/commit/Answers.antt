use Rattle.std.proofs.Common.{Some, refl, sym, ap, subst, ◌∙◌, IsSome}
use Rattle.std.specs.Option.{option_map}
use Rattle.std.proofs.lemmas.Bool.{false≢true}
use Rattle.mvo_txn.specs.declared.state.TxState.TheVariants.{Committed}
use Rattle.mvo_txn.specs.Queue.{open_end}
use Rattle.mvo_txn.proofs.Seated.{got, got_none, written_seats, written_map, restated, not_open}
use Rattle.mvo_txn.proofs.seats.Seats.commit.Goals as goal

pub unreachable-requires : goal.unreachable-requires
unreachable-requires g c =
    let none = got_none c.self.inside.directory c.self.inside.chairs c.args.self.now c.args.id c.self.invariant c.self.view_is c.in_default.ensures.none in
    false≢true (subst IsSome (ap (λ o. open_end (option_map (λ s. s.state) o)) none) c.requires)

pub unreachable-requires-in_default-state : goal.unreachable-requires-in_default-state
unreachable-requires-in_default-state g c =
    let there = got c.self.inside.directory c.self.inside.chairs c.args.self.now c.in-Some.number c.args.id c.in-Some-get_mut.chair.now c.self.invariant c.self.view_is (sym c.in-Some-get_mut.ensures.value) c.in-Some.ensures.found in
    false≢true (subst IsSome (ap (λ o. open_end (option_map (λ s. s.state) o)) there ∙ not_open c.in-Some-get_mut.chair.now.seat.state c.in_default-state.not-Preparing) c.requires)

pub invariant_of-self-lent : goal.invariant_of-self-lent
invariant_of-self-lent g c = λ w.
    written_seats c.self.inside.directory c.self.inside.chairs c.in-Some.number c.in-Some-get_mut.chair.now (record { state = Committed c.in-Preparing.end; kept = w }) c.self.invariant (sym c.in-Some-get_mut.ensures.value)

pub returns : goal.returns
returns g c =
    let here = sym c.in-Some-get_mut.ensures.value in
    let there = got c.self.inside.directory c.self.inside.chairs c.args.self.now c.in-Some.number c.args.id c.in-Some-get_mut.chair.now c.self.invariant c.self.view_is here c.in-Some.ensures.found in (
      (
        refl,
        λ w.
            written_map c.self.inside.directory c.self.inside.chairs c.args.self.now c.in-Some.number c.args.id c.in-Some-get_mut.chair.now (record { state = Committed c.in-Preparing.end; kept = w }) c.self.invariant c.self.view_is here
            c.in-Some.ensures.found
            ∙ restated c.args.self.now c.args.id (Committed c.in-Preparing.end) c.in-Some-get_mut.chair.now.seat w there,
      ),
      record { writes_back = tt; end = ap (option_map (λ s. s.state)) there ∙ ap Some c.in-Preparing.is; value = ap (option_map (λ s. s.kept)) there },
    )
