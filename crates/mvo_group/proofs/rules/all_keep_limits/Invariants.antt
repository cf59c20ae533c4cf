use Rattle.std.proofs.Common.{map, take}
use Rattle.std.specs.List.{All}
use Rattle.mvo_group.specs.Data.{write_data}
use Rattle.mvo_group.specs.Rules.{HasWords}
use Rattle.mvo_group.specs.Allowed.{IsWriteWithin}
use Rattle.mvo_group.proofs.rules.all_keep_limits.Given as goal

abbrev pub invariant-loop-write : goal.invariant-loop-write
invariant-loop-write l = record {
  limits : All (IsWriteWithin l.fn.format) (map write_data (take l.write-index l.writes));
  words : All HasWords (map write_data (take l.write-index l.writes));
}
