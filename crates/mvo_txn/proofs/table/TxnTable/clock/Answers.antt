use Rattle.std.proofs.Common.{subst}
use Rattle.mvo_txn.specs.Txns.{IsTable}
use Rattle.mvo_txn.proofs.Firsts.{sound_table}
use Rattle.mvo_txn.proofs.table.TxnTable.clock.Goals as goal

pub returns-clause-sound : goal.returns-clause-sound
returns-clause-sound g c = subst IsTable c.self.view_is (sound_table _ _ _ _ c.self.invariant)
