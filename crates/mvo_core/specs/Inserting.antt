-- What is written as a transaction inserts a row.
use Rattle.std.specs.Prelude.{List, [], ◌∷◌}
use Rattle.mvo_types.specs.declared.ids.TxId.{TxId}
use Rattle.mvo_types.specs.RowData.{RowData}
use Rattle.mvo_chain.specs.declared.version.VersionNo.{VersionNo}
use Rattle.mvo_txn.specs.Txns.{Txns}
use Rattle.mvo_deps.specs.declared.node.Node.{Node}
use Rattle.mvo_work.specs.declared.word_place.WordPlace.TheVariants.{Begin}
use Rattle.mvo_versions.specs.Data.{VersionsData}
use Rattle.mvo_versions.specs.Changes.{IsPut}
use Rattle.mvo_core.specs.declared.kept_transaction.KeptTransaction.{KeptTransaction}
use Rattle.mvo_core.specs.Keeping.{IsRecordedWith}

-- it has put the row, and that is recorded
pub record IsInserted (old new : VersionsData) (table after : Txns (Node KeptTransaction))
    (t : TxId) (ids : List TxId) (row : RowData) : Type 0 where
  pub number : VersionNo
  pub put : IsPut old new row t.0 number
  pub recorded : IsRecordedWith table after t ids (Begin number ∷ [])
