use Rattle.std.proofs.Common.{sym, ap, subst, ◌∙◌}
use Rattle.std.specs.FinMap.{len}
use Rattle.mvo_txn.specs.Sound.{AreSeatsSound}
use Rattle.mvo_txn.specs.Txns.{why_not_begun}
use Rattle.mvo_txn.proofs.Tables.{fresh, sound_roomy_begins, sound_begun, may_begin}
use Rattle.mvo_txn.proofs.table.TxnTable.begin.Goals as goal

pub invariant_of-self : goal.invariant_of-self
invariant_of-self g c =
    subst (λ m. AreSeatsSound c.self.inside.clock m c.make_room.new.self c.self.inside.open_ends) (sym c.in_err-insert.ensures.err)
    (sound_roomy_begins c.self.inside.clock c.self.inside.seats c.self.inside.begins c.make_room.new.self c.self.inside.open_ends c.make_room.ensures.form c.make_room.ensures.kept c.self.invariant)

pub invariant_of-self-2 : goal.invariant_of-self-2
invariant_of-self-2 g c =
    let may = may_begin (len c.self.inside.seats) c.self.inside.clock (ap (λ t. why_not_begun t) c.self.view_is ∙ sym c.why_not_begun.ensures ∙ c.in_default.is) in
    sound_begun c.self.inside.clock c.self.inside.seats c.insert.new.self c.make_room.new.self c.push.new.self c.self.inside.open_ends c.args.kept
    may.1 may.0
    c.in_ok-insert.ensures.ok c.push.ensures.form c.push.ensures.marks
    (sound_roomy_begins c.self.inside.clock c.self.inside.seats c.self.inside.begins c.make_room.new.self c.self.inside.open_ends c.make_room.ensures.form c.make_room.ensures.kept c.self.invariant)

pub insert-requires-clause-new : goal.insert-requires-clause-new
insert-requires-clause-new g c = fresh c.self.inside.seats c.self.inside.clock c.self.inside.begins c.self.invariant.begins_are
