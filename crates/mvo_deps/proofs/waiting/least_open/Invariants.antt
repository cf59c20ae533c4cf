use Rattle.std.proofs.Common.{take}
use Rattle.mvo_deps.specs.Waiting.{IsLeast}
use Rattle.mvo_deps.proofs.waiting.least_open.Given as goal

abbrev pub invariant-loop-id : goal.invariant-loop-id
invariant-loop-id g l = IsLeast l.table (take l.id-index l.ids) l.least l.least_end.0
