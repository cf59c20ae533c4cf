use Rattle.std.proofs.Common.{sym, refl}
use Rattle.mvo_txn.specs.declared.state.TxState.TheVariants.{Committed}
use Rattle.mvo_core.specs.declared.kept_transaction.KeptTransaction.{KeptTransaction}
use Rattle.mvo_core.specs.Keeping.{HasHandedOver}
use Rattle.mvo_core.proofs.WrittenThen.{written_changed}
use Rattle.mvo_core.proofs.ending.commit.Goals as goal

pub returns-clause-left : goal.returns-clause-left
returns-clause-left c =
    let node = c.commit-node.result.1.now in
    let after : KeptTransaction = record node.own { taken = c.take_operations.new.self } in
    let handed : HasHandedOver node.own after = record {
      history = c.take_operations.ensures.left;
      words = refl;
      place = refl;
      checked = refl;
      valid = refl;
      kind = refl;
    } in
    written_changed c.args.table.now c.args.tx.id.0 node after HasHandedOver (sym c.commit-node.ensures.value) handed (Committed c.commit-node.result.0)
