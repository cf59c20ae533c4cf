-- The rules that a group keeps, and how long its body is.
use Rattle.std.specs.Prelude.{ℕ, ◌+◌, ◌<◌, ◌≤◌, ◌^◌, List, [], length, map, All, sum_by}
use Rattle.std.specs.List.Sorted.{IsStrictlyIncreasing, IsStrictlySortedBy}
use Rattle.mvo_types.specs.Keys.{key_cmp}
use Rattle.mvo_types.specs.declared.limits.TheConstants.{MAX_BODY_LEN, MAX_DATA_LEN, MAX_RECORDS, MAX_STAMP, MAX_TABLE, MAX_WRITES}
use Rattle.mvo_types.specs.Write.{Write, Effect}
use Rattle.mvo_types.specs.Write.Effect.{Put, Delete}
use Rattle.mvo_group.specs.declared.lengths.TheConstants.{BODY_HEADER_LEN, RECORD_HEADER_LEN, PUT_HEADER_LEN, DELETE_LEN}
use Rattle.mvo_group.specs.Data.{RecordData, GroupData}

abbrev pub sort_of : Effect → ℕ
sort_of Delete = 0
sort_of (Put h) = h.sort

abbrev pub put_bytes : Effect → List ℕ
put_bytes Delete = []
put_bytes (Put h) = h.bytes

-- ---- lengths, in bytes

abbrev pub effect_len : Effect → ℕ
effect_len Delete = DELETE_LEN
effect_len (Put h) = PUT_HEADER_LEN + length h.bytes

abbrev pub write_len : Write → ℕ
write_len w = effect_len w.1

abbrev pub record_len : RecordData → ℕ
record_len r = RECORD_HEADER_LEN + sum_by write_len r.writes

abbrev pub body_len : GroupData → ℕ
body_len g = BODY_HEADER_LEN + sum_by record_len g.records

-- ---- rules

-- the limits of a row
pub record KeepsLimits (w : Write) : Type 0 where
  pub table : w.0.table ≤ MAX_TABLE
  pub size : length (put_bytes w.1) ≤ MAX_DATA_LEN

-- (table, key) rises strictly
pub record IsRecord (r : RecordData) : Type 0 where
  pub some : 1 ≤ length r.writes
  pub few : length r.writes ≤ MAX_WRITES
  pub rise : IsStrictlySortedBy key_cmp (map (λ w. w.0) r.writes)
  pub each : All KeepsLimits r.writes

-- the ends rise strictly in (prev, mark]
abbrev pub EndsRise : ℕ → ℕ → List RecordData → Type 0
EndsRise prev mark rs =
    IsStrictlyIncreasing (map (λ r. r.end) rs) × All (λ r. (prev < r.end) × (r.end ≤ mark)) rs

-- the rules of a group
pub record KeepsRules (g : GroupData) : Type 0 where
  pub above : g.prev < g.mark
  pub mark : g.mark ≤ MAX_STAMP
  pub few : length g.records ≤ MAX_RECORDS
  pub rise : IsStrictlyIncreasing (map (λ r. r.end) g.records)
  pub within : All (λ r. (g.prev < r.end) × (r.end ≤ g.mark)) g.records
  pub each : All IsRecord g.records
  pub size : body_len g ≤ MAX_BODY_LEN

-- the numbers of a write have 64 bits, as each value of the program has it
pub record HasWords (w : Write) : Type 0 where
  pub key : w.0.key < 2 ^ 64
  pub sort : sort_of w.1 < 2 ^ 64

pub record IsGroup (g : GroupData) : Type 0 where
  pub rules : KeepsRules g
  pub words : All (λ r. All HasWords r.writes) g.records
