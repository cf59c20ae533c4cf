use Rattle.std.proofs.Common.{◌≡◌, ◌≤◌, ◌*◌, length, take}
use Rattle.std.specs.Prelude.{filter}
use Rattle.std.specs.List.{flat_map}
use Rattle.mvo_manifest.specs.Data.{pair_files}
use Rattle.mvo_store.specs.Old.{is_marked}
use Rattle.mvo_store.proofs.old.marked_pair_count.Given as goal

abbrev pub invariant-loop-pair : goal.invariant-loop-pair
invariant-loop-pair l = record {
  is : l.count ≡ length (filter (is_marked l.marks) (flat_map pair_files (take l.pair-index l.pairs)));
  few : l.count ≤ 2 * l.pair-index;
}
