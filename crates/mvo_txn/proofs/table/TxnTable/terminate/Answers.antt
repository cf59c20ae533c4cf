use Rattle.std.proofs.Common.{ap, ◌∙◌}
use Rattle.mvo_txn.specs.Queue.{open_end}
use Rattle.mvo_txn.specs.Txns.{state_of}
use Rattle.mvo_txn.proofs.Tables.{sound_left, ended_is_closed}
use Rattle.mvo_txn.proofs.table.TxnTable.terminate.Goals as goal

pub invariant_of-self : goal.invariant_of-self
invariant_of-self g c =
    sound_left c.self.inside.clock c.self.inside.seats c.remove.new.self c.self.inside.begins c.trim.new.self c.self.inside.open_ends c.args.tx.id.0
    (ap (λ t. open_end (state_of t c.args.tx.id.0)) c.self.view_is ∙ ended_is_closed (state_of c.args.self.now c.args.tx.id.0) c.requires)
    c.remove.ensures.gone c.trim.ensures.form c.trim.ensures.kept c.self.invariant
