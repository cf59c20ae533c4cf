use Rattle.std.proofs.Common.{◌+◌, arith, refl, ap, ◌∙◌}
use Rattle.mvo_txn.specs.declared.state.TxState.TheVariants.{Preparing}
use Rattle.mvo_txn.specs.Seats.{with_state}
use Rattle.mvo_txn.specs.Txns.{state_of}
use Rattle.mvo_txn.proofs.Tables.{sound_roomy_ends, sound_prepared, sound_kept}
use Rattle.mvo_txn.proofs.table.TxnTable.prepare.Goals as goal

pub invariant_of-self-lent : goal.invariant_of-self-lent
invariant_of-self-lent g c = λ w.
    let clock = c.self.inside.clock in
    let after = with_state c.self.inside.seats c.args.tx.id.0 (Preparing (record { 0 = clock + 1 })) in
    sound_kept (clock + 1) after c.self.inside.begins c.push.new.self c.args.tx.id.0 w
    (sound_prepared clock c.self.inside.seats after c.self.inside.begins c.make_room.new.self c.push.new.self c.args.tx.id.0
    (omega arith) (ap (λ t. state_of t c.args.tx.id.0) c.self.view_is ∙ c.requires)
    refl c.push.ensures.form c.push.ensures.marks
    (sound_roomy_ends clock c.self.inside.seats c.self.inside.begins c.self.inside.open_ends c.make_room.new.self c.make_room.ensures.form c.make_room.ensures.kept c.self.invariant))
