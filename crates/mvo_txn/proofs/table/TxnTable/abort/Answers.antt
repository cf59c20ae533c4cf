use Rattle.std.proofs.Common.{refl, ap, ◌∙◌}
use Rattle.mvo_txn.specs.declared.state.TxState.TheVariants.{Aborted}
use Rattle.mvo_txn.specs.Txns.{state_of}
use Rattle.mvo_txn.proofs.Tables.{sound_closed, unended_state}
use Rattle.mvo_txn.proofs.table.TxnTable.abort.Goals as goal

pub invariant_of-self : goal.invariant_of-self
invariant_of-self g c =
    let before = unended_state (state_of c.args.self.now c.args.tx.id.0) c.requires in
    sound_closed c.self.inside.clock c.self.inside.seats c.set_state.new.self c.self.inside.begins c.self.inside.open_ends c.trim.new.self c.args.tx.id.0
    before.0 Aborted
    (ap (λ t. state_of t c.args.tx.id.0) c.self.view_is ∙ before.1) refl
    c.set_state.ensures c.trim.ensures.form c.trim.ensures.kept c.self.invariant
