use Rattle.std.proofs.Common.{◌≡◌, ◌+◌, ◌++◌, map, take}
use Rattle.mvo_merge.specs.Merged.{rank}
use Rattle.mvo_merge.proofs.renumbering.add_ranks.Given as goal

abbrev pub invariant-loop-number : goal.invariant-loop-number
invariant-loop-number l = l.out.items ≡ l.fn.out.items ++ map (λ n. l.before + rank l.numbers n) (take l.number-index l.late)
