use Rattle.std.proofs.Common.{length}
use Rattle.mvo_deps.specs.Nodes.{data_of, TakesSomeBack}
use Rattle.mvo_deps.proofs.registration.take_back.Given as goal

abbrev pub invariant-loop-on : goal.invariant-loop-on
invariant-loop-on g l = TakesSomeBack l.initial.table l.table l.tx.id l.count

abbrev pub decreases-loop-on : goal.decreases-loop-on
decreases-loop-on g l = length (data_of l.table l.tx.id).on
