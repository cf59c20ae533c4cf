use Rattle.mvo_txn.proofs.Tables.{sound_kept}
use Rattle.mvo_txn.proofs.table.TxnTable.get_mut.Goals as goal

pub invariant_of-self-lent : goal.invariant_of-self-lent
invariant_of-self-lent g c = λ _. (λ w. sound_kept _ _ _ _ c.args.tx.id.0 w c.self.invariant, c.self.invariant)
