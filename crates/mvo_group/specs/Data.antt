-- What a group holds, apart from where it lies in memory.
use Rattle.std.specs.Prelude.{ℕ, List}
use Rattle.mvo_types.specs.RowData.{content_of}
use Rattle.mvo_types.specs.Write.{Write}
use Rattle.mvo_types.specs.Write.Effect.{Put, Delete}
use Rattle.mvo_group.specs.declared.write.Write.{Write as RustWrite}
use Rattle.mvo_group.specs.declared.write.Write.TheVariants as write

-- a write, apart from where it lies in memory
abbrev pub write_data : RustWrite → Write
write_data (write.Put r) = (r.key, Put (content_of r))
write_data (write.Delete k) = (k, Delete)

-- a committed transaction: its end timestamp, and its last write to each key
pub record RecordData : Type 0 where
  pub end : ℕ
  pub writes : List Write

-- the committed transactions with an end above prev and at most mark
pub record GroupData : Type 0 where
  pub prev : ℕ
  pub mark : ℕ
  pub records : List RecordData

abbrev pub group_of : ℕ → ℕ → List RecordData → GroupData
group_of prev mark records = record { prev = prev; mark = mark; records = records }
