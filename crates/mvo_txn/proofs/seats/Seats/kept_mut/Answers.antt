use Rattle.std.proofs.Common.{sym, ap, ◌∙◌, inl, inr}
use Rattle.std.specs.Option.{option_map}
use base.Fml.{GName}
use Rattle.mvo_txn.specs.Seats.{with_kept_at}
use Rattle.mvo_txn.proofs.Seated.{got, got_none, written_seats, written_map}
use Rattle.mvo_txn.proofs.seats.Seats.kept_mut.Goals as goal

pub invariant_of-self-lent : goal.invariant_of-self-lent
invariant_of-self-lent g c = λ w.
    written_seats c.self.inside.directory c.self.inside.chairs c.in-Some.number c.in-Some-get_mut.chair.now (record c.in-Some-get_mut.chair.now.seat { kept = w }) c.self.invariant (sym c.in-Some-get_mut.ensures.value)

pub returns-in_default : goal.returns-in_default
returns-in_default g c = (
  ap inr c.self.view_is,
  record { writes_back = tt; value = sym (ap (option_map (λ s. s.kept)) (got_none c.self.inside.directory c.self.inside.chairs c.args.self.now c.args.id c.self.invariant c.self.view_is c.in_default.ensures.none)) },
)

pub returns-in-Some-get_mut : goal.returns-in-Some-get_mut
returns-in-Some-get_mut g c =
    let there = got c.self.inside.directory c.self.inside.chairs c.args.self.now c.in-Some.number c.args.id c.in-Some-get_mut.chair.now c.self.invariant c.self.view_is (sym c.in-Some-get_mut.ensures.value) c.in-Some.ensures.found in (
      let name : GName = _ in λ i. inl (
        name,
        λ w.
            (written_map c.self.inside.directory c.self.inside.chairs c.args.self.now c.in-Some.number c.args.id c.in-Some-get_mut.chair.now (record c.in-Some-get_mut.chair.now.seat { kept = w }) c.self.invariant c.self.view_is
            (sym c.in-Some-get_mut.ensures.value) c.in-Some.ensures.found ∙ sym (ap (λ o. with_kept_at o c.args.self.now c.args.id w) there)) i,
      ),
      record { writes_back = tt; value = sym (ap (option_map (λ s. s.kept)) there) },
    )
