use Rattle.std.proofs.Common.{take}
use Rattle.mvo_deps.specs.Data.{dependency_noted}
use Rattle.mvo_deps.specs.Nodes.{IsEachChanged}
use Rattle.mvo_deps.proofs.report.note_each.Given as goal

abbrev pub invariant-loop-id : goal.invariant-loop-id
invariant-loop-id g l = IsEachChanged (dependency_noted l.outcome) l.initial.table l.table (take l.id-index l.ids)
