-- The bytes of a group.
use Rattle.std.specs.Prelude.{ℕ, List, ◌∷◌, ◌++◌, length}
use Rattle.std.specs.List.{flat_map}
use Rattle.mvo_bytes.specs.Fields.{field}
use Rattle.mvo_types.specs.declared.row.RowKey.{RowKey}
use Rattle.mvo_types.specs.Write.{Write, Effect}
use Rattle.mvo_types.specs.Write.Effect.{Put, Delete}
use Rattle.mvo_group.specs.declared.write.TheConstants.{PUT, DELETE}
use Rattle.mvo_group.specs.Data.{RecordData, GroupData}

-- the tag and the row of a put, the tag and the key of a delete
abbrev pub effect_bytes : RowKey → Effect → List ℕ
effect_bytes k (Put h) =
    PUT ∷ k.table ∷ field 8 k.key ++ field 8 h.sort ++ field 2 (length h.bytes) ++ h.bytes
effect_bytes k Delete = DELETE ∷ k.table ∷ field 8 k.key

abbrev pub write_bytes : Write → List ℕ
write_bytes w = effect_bytes w.0 w.1

abbrev pub record_bytes : RecordData → List ℕ
record_bytes r = field 8 r.end ++ field 2 (length r.writes) ++ flat_map write_bytes r.writes

abbrev pub body_of : GroupData → List ℕ
body_of g =
    field 8 g.prev ++ field 8 g.mark ++ field 2 (length g.records)
    ++ flat_map record_bytes g.records
