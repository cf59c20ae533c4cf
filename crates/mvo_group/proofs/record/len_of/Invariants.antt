use Rattle.std.proofs.Common.{◌≡◌, ◌+◌, map, take}
use Rattle.std.specs.List.{sum_by}
use Rattle.mvo_group.specs.Data.{write_data}
use Rattle.mvo_group.specs.Rules.{write_len}
use Rattle.mvo_group.proofs.record.len_of.Given as goal

abbrev pub invariant-loop-write : goal.invariant-loop-write
invariant-loop-write l = l.len ≡ 10 + sum_by write_len (map write_data (take l.write-index l.writes))
