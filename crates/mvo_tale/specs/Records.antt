-- The record of a commit, how long it is, and which commits fit into a group.
use Rattle.std.specs.Prelude.{ℕ, ◌≡◌, ◌+◌, nat_le, ◌&&◌, if◌then◌else◌, List, [], ◌∷◌, Option, None, Some, map, length, sum_by, ⊤}
use Rattle.std.specs.List.Sorted.{IsStrictlySortedBy}
use Rattle.std.specs.Ordering.{eq_by_cmp}
use Rattle.mvo_types.specs.declared.limits.TheConstants.{MAX_BODY_LEN, MAX_RECORDS}
use Rattle.mvo_types.specs.declared.row.RowKey.{RowKey}
use Rattle.mvo_types.specs.Keys.{key_cmp}
use Rattle.mvo_types.specs.Write.{Write, Effect}
use Rattle.mvo_model.specs.History.{History, net_write, write_at, later}
use Rattle.mvo_theory.specs.Entries.{written_keys}
use Rattle.mvo_theory.specs.Marks.{Commit}
use Rattle.mvo_theory.specs.Groups.{Limits}
use Rattle.mvo_group.specs.declared.lengths.TheConstants.{BODY_HEADER_LEN, RECORD_HEADER_LEN}
use Rattle.mvo_group.specs.Data.{RecordData}
use Rattle.mvo_group.specs.Rules.{write_len}

-- ---- records
-- the write to a key, if one of these is to it
abbrev pub write_in : RowKey → List Write → Option Effect
write_in k [] = None
write_in k (w ∷ ws) = if eq_by_cmp key_cmp k w.0 then Some w.1 else write_in k ws

-- the record of a commit: its end, and by key its net writes
pub record IsRecordOf (c : Commit) (r : RecordData) : Type 0 where
  pub end' : r.end ≡ c.0
  pub rise : IsStrictlySortedBy key_cmp (map (λ w. w.0) r.writes)
  pub writes : (k : RowKey) → write_in k r.writes ≡ net_write k c.1

-- the records of these commits, one after another
abbrev pub AreRecordsOf : List Commit → List RecordData → Type 0
AreRecordsOf [] [] = ⊤
AreRecordsOf [] (r ∷ rs) = ⊥
AreRecordsOf (c ∷ cs) [] = ⊥
AreRecordsOf (c ∷ cs) (r ∷ rs) = IsRecordOf c r × AreRecordsOf cs rs

-- what the last writes to these keys leave, after one write more
abbrev pub with_newer : Option Write → List RowKey → List (Option Effect) → List (Option Effect)
with_newer w [] es = []
with_newer w (k ∷ ks) [] = []
with_newer w (k ∷ ks) (e ∷ es) = later (write_at k w) e ∷ with_newer w ks es

-- ---- lengths, in bytes
abbrev pub and_write : RowKey → Option Effect → List Write → List Write
and_write k None ws = ws
and_write k (Some e) ws = (k, e) ∷ ws

-- the net writes to these keys
abbrev pub net_writes : History → List RowKey → List Write
net_writes ts [] = []
net_writes ts (k ∷ ks) = and_write k (net_write k ts) (net_writes ts ks)

-- how long the record of a commit is
abbrev pub commit_len : Commit → ℕ
commit_len c = RECORD_HEADER_LEN + sum_by write_len (net_writes c.1 (written_keys c.1))

-- how long the body of a group of these commits is
abbrev pub commits_len : List Commit → ℕ
commits_len cs = BODY_HEADER_LEN + sum_by commit_len cs

-- whether a group may have these commits
abbrev pub fits : Limits
fits cs = nat_le (length cs) MAX_RECORDS && nat_le (commits_len cs) MAX_BODY_LEN
