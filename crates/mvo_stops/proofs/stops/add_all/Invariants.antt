use Rattle.std.proofs.Common.{◌≡◌, ◌+◌, length}
use Rattle.mvo_stops.specs.Counting.{IsReportOf}
use Rattle.mvo_stops.proofs.stops.add_all.Given as goal

abbrev pub invariant-loop-one : goal.invariant-loop-one
invariant-loop-one l = IsReportOf (l.fn.report.counts.calls + length l.yielded) l.report
