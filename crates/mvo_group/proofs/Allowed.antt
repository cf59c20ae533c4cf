-- Records of which a version allows each write.
use Rattle.std.proofs.Common.{List}
use Rattle.std.specs.List.{All}
use Rattle.std.proofs.lemmas.List.Elements.{All-weaker}
use Rattle.mvo_format.specs.declared.format.Format.{Format}
use Rattle.mvo_group.specs.Data.{RecordData}
use Rattle.mvo_group.specs.Rules.{IsRecord}
use Rattle.mvo_group.specs.Allowed.{IsRecordWithin}

pub records_are : (f : Format) (rs : List RecordData) → All (IsRecordWithin f) rs → All IsRecord rs
records_are f rs all = All-weaker (IsRecordWithin f) IsRecord (λ r is. is.is) rs all
