use Rattle.std.proofs.Common.{◌≡◌, ◌≤◌, ◌++◌, take, vec_capacity}
use Rattle.std.specs.List.{flat_map}
use Rattle.mvo_group.specs.Body.{record_bytes}
use Rattle.mvo_group.proofs.encode.append_records.Given as goal

abbrev pub invariant-loop-commit : goal.invariant-loop-commit
invariant-loop-commit l = record {
  items : l.out.items ≡ l.fn.out.items ++ flat_map record_bytes (take l.commit-index l.records);
  room : vec_capacity l.fn.out ≤ vec_capacity l.out;
}
