-- Reading a group from left to right.
use Rattle.std.specs.Prelude.{ℕ, List, length, Option, Some, None, ◌==◌, if◌then◌else◌}
use Rattle.mvo_bytes.specs.Reading.{◌>>=◌, number_at, data_at, times}
use Rattle.mvo_types.specs.RowData.{ContentData}
use Rattle.mvo_types.specs.Write.{Write, Effect}
use Rattle.mvo_types.specs.Write.Effect.{Put, Delete}
use Rattle.mvo_group.specs.declared.write.TheConstants.{PUT, DELETE}
use Rattle.mvo_group.specs.Data.{RecordData, GroupData, group_of}

-- what a put holds
unfoldable pub put_at : List ℕ → Option (ContentData × List ℕ)
put_at bytes = do
  sort ← number_at 8 bytes
  len ← number_at 2 sort.1
  text ← data_at len.0 len.1
  Some (record { sort = sort.0; bytes = text.0 }, text.1)

-- what the write leaves, by the tag
unfoldable pub effect_at : ℕ → List ℕ → Option (Effect × List ℕ)
effect_at tag bytes =
    if tag == DELETE
    then Some (Delete, bytes)
    else (if tag == PUT then (put_at bytes >>= λ h. Some (Put h.0, h.1)) else None)

unfoldable pub keyed_write_at : List ℕ → Option (Write × List ℕ)
keyed_write_at bytes = do
  tag ← number_at 1 bytes
  table ← number_at 1 tag.1
  key ← number_at 8 table.1
  effect ← effect_at tag.0 key.1
  Some ((record { table = table.0; key = key.0 }, effect.0), effect.1)

unfoldable pub record_at : List ℕ → Option (RecordData × List ℕ)
record_at bytes = do
  end ← number_at 8 bytes
  count ← number_at 2 end.1
  writes ← times keyed_write_at count.0 count.1
  Some (record { end = end.0; writes = writes.0 }, writes.1)

-- all of the bytes
unfoldable pub group_at : List ℕ → Option GroupData
group_at bytes = do
  prev ← number_at 8 bytes
  mark ← number_at 8 prev.1
  count ← number_at 2 mark.1
  records ← times record_at count.0 count.1
  if length records.1 == 0 then Some (group_of prev.0 mark.0 records.0) else None
