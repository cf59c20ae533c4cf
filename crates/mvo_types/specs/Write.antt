-- Writes as contracts see them: where one goes, and what it leaves there.
use Rattle.std.specs.Prelude.{Option, None, Some}
use Rattle.mvo_types.specs.declared.row.RowKey.{RowKey}
use Rattle.mvo_types.specs.RowData.{ContentData}

-- what a write leaves at its key
pub data Effect : Type 0 where
  Put : ContentData → Effect
  Delete : Effect

abbrev pub Write : Type 0
Write = RowKey × Effect

-- what stands at the key after it
abbrev pub content_after : Effect → Option ContentData
content_after (Put h) = Some h
content_after Delete = None

-- what stands at a key after its last write, if there is one, and else what stood there before
abbrev pub content_after_last : Option Effect → Option ContentData → Option ContentData
content_after_last None before = before
content_after_last (Some e) before = content_after e
