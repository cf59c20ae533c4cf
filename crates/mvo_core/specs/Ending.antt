-- What is written as a transaction ends a version, and puts one in its place.
use Rattle.std.specs.Prelude.{List, [], ◌∷◌}
use Rattle.mvo_types.specs.declared.ids.TxId.{TxId}
use Rattle.mvo_types.specs.RowData.{RowData}
use Rattle.mvo_chain.specs.declared.version.VersionNo.{VersionNo}
use Rattle.mvo_txn.specs.Txns.{Txns}
use Rattle.mvo_deps.specs.declared.node.Node.{Node}
use Rattle.mvo_work.specs.declared.word_place.WordPlace.TheVariants.{Begin, End}
use Rattle.mvo_representation.specs.Steps.{ended_by}
use Rattle.mvo_versions.specs.Data.{VersionsData, AreIndexed}
use Rattle.mvo_versions.specs.Changes.{IsPut, IsReworded}
use Rattle.mvo_core.specs.declared.kept_transaction.KeptTransaction.{KeptTransaction}
use Rattle.mvo_core.specs.Keeping.{IsWritten, HasWrittenAsMuch, IsRecordedWith}
use Rattle.mvo_core.specs.Looking.{HasSameVersions}

-- it has ended the version, and that is recorded
pub record IsRemoved (old new : VersionsData) (table after : Txns (Node KeptTransaction)) (t : TxId)
    (ids : List TxId) (number : VersionNo) : Type 0 where
  pub ended : IsReworded old new number (ended_by t.0)
  pub recorded : IsRecordedWith table after t ids (End number ∷ [])

-- it has put the row and ended the version, and that is recorded
pub record IsReplaced (old new : VersionsData) (table after : Txns (Node KeptTransaction))
    (t : TxId) (ids : List TxId) (number : VersionNo) (row : RowData) : Type 0 where
  pub between : VersionsData
  pub place : VersionNo
  pub put : IsPut old between row t.0 place
  pub indexed : AreIndexed old → AreIndexed between
  pub ended : IsReworded between new number (ended_by t.0)
  pub recorded : IsRecordedWith table after t ids (End number ∷ Begin place ∷ [])

-- nothing of the kind: there may be room for more
pub record IsLeft (old new : VersionsData) (table after : Txns (Node KeptTransaction))
    (t : TxId) : Type 0 where
  pub versions : HasSameVersions old new
  pub indexed : AreIndexed old → AreIndexed new
  pub own : IsWritten table after t.0 HasWrittenAsMuch
