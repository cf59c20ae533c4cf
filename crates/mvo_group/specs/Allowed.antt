-- What a version of the files allows the writes of a group.
use Rattle.std.specs.Prelude.{ℕ, ◌≤◌, List, length, All}
use Rattle.mvo_types.specs.Write.{Write}
use Rattle.mvo_format.specs.declared.format.Format.{Format}
use Rattle.mvo_group.specs.Data.{RecordData, GroupData}
use Rattle.mvo_group.specs.Rules.{put_bytes, KeepsLimits, IsRecord, IsGroup}

-- a write within the limits of a version
pub record IsAllowed (f : Format) (w : Write) : Type 0 where
  pub table : w.0.table ≤ f.max_table
  pub size : length (put_bytes w.1) ≤ f.max_data_len

-- each write of a transaction is
abbrev pub IsAllowedRecord : Format → RecordData → Type 0
IsAllowedRecord f r = All (IsAllowed f) r.writes

-- each write of a group is
abbrev pub IsAllowedGroup : Format → GroupData → Type 0
IsAllowedGroup f g = All (IsAllowedRecord f) g.records

-- each write of these groups is
abbrev pub AreAllowed : Format → List GroupData → Type 0
AreAllowed f gs = All (IsAllowedGroup f) gs

-- a group of which the version allows each write
pub record IsGroupWithin (f : Format) (g : GroupData) : Type 0 where
  pub is : IsGroup g
  pub allowed : IsAllowedGroup f g

-- ---- the same beside the rules

-- a write within the limits of a row and of a version
pub record IsWriteWithin (f : Format) (w : Write) : Type 0 where
  pub limits : KeepsLimits w
  pub allowed : IsAllowed f w

-- a record that keeps its rules, of which the version allows each write
pub record IsRecordWithin (f : Format) (r : RecordData) : Type 0 where
  pub is : IsRecord r
  pub allowed : IsAllowedRecord f r
