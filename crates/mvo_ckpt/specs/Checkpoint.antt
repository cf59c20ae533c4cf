-- What a checkpoint writes, apart from where it lies in memory.
use Rattle.std.specs.Prelude.{ℕ, List}
use Rattle.mvo_types.specs.declared.row.RowKey.{RowKey}
use Rattle.mvo_pair.specs.Data.{EntryData}

-- what the delta file of the pair with this data file gains
pub record DeltaData : Type 0 where
  pub data_file : ℕ
  pub numbers : List ℕ

pub record BuiltCheckpoint : Type 0 where
  pub records : List EntryData
  pub gone : List RowKey
  pub deltas : List DeltaData
