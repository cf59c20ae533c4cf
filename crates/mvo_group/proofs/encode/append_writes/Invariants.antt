use Rattle.std.proofs.Common.{◌≡◌, ◌≤◌, ◌++◌, map, take, vec_capacity}
use Rattle.std.specs.List.{flat_map}
use Rattle.mvo_group.specs.Data.{write_data}
use Rattle.mvo_group.specs.Body.{write_bytes}
use Rattle.mvo_group.proofs.encode.append_writes.Given as goal

abbrev pub invariant-loop-write : goal.invariant-loop-write
invariant-loop-write l = record {
  items : l.out.items ≡ l.fn.out.items ++ flat_map write_bytes (map write_data (take l.write-index l.writes));
  room : vec_capacity l.fn.out ≤ vec_capacity l.out;
}
