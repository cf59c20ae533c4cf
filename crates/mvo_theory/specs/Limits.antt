-- The limits of what a transaction does.
use Rattle.std.specs.Prelude.{◌≤◌, length, ⊤}
use Rattle.std.specs.List.{AllByRecursion}
use Rattle.mvo_types.specs.declared.limits.TheConstants.{MAX_DATA_LEN, MAX_TABLE, MAX_WRITES}
use Rattle.mvo_types.specs.declared.op.Op.{Op}
use Rattle.mvo_types.specs.declared.op.Op.TheVariants.{Read, Scan, Insert, Update, Delete}
use Rattle.mvo_types.specs.RowData.{RowData}
use Rattle.mvo_model.specs.History.{History}
use Rattle.mvo_theory.specs.Entries.{written_keys}

-- a row of a table that there is, with no more data than a row may have
pub record IsRow (r : RowData) : Type 0 where
  pub table : r.key.table ≤ MAX_TABLE
  pub size : length r.bytes ≤ MAX_DATA_LEN

-- it puts such a row, or deletes in such a table
abbrev pub IsInLimits : Op → Type 0
IsInLimits (Read k) = ⊤
IsInLimits (Scan table lo hi) = ⊤
IsInLimits (Insert r) = IsRow r
IsInLimits (Update r) = IsRow r
IsInLimits (Delete k) = k.table ≤ MAX_TABLE

-- each operation is in the limits, and no more keys are written than a transaction may write
pub record AreLimited (ts : History) : Type 0 where
  pub each : AllByRecursion (λ t. IsInLimits t.0) ts
  pub few : length (written_keys ts) ≤ MAX_WRITES
