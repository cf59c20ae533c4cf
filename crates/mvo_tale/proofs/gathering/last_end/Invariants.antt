use Rattle.std.proofs.Common.{◌≡◌, take}
use Rattle.mvo_tale.specs.Walk.{end_behind}
use Rattle.mvo_tale.proofs.gathering.last_end.Given as goal

abbrev pub invariant-loop-commit : goal.invariant-loop-commit
invariant-loop-commit l = l.last.0 ≡ end_behind l.fn.prev.0 (take l.commit-index l.records)
