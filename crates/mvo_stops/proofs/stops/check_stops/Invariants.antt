use Rattle.std.proofs.Common.{◌≤◌, ◌-◌}
use Rattle.mvo_stops.specs.Counting.{IsReportOf}
use Rattle.mvo_stops.proofs.stops.check_stops.Given as goal

abbrev pub invariant-loop-from : goal.invariant-loop-from
invariant-loop-from g l = (l.from ≤ l.all) × IsReportOf l.from l.report

abbrev pub decreases-loop-from : goal.decreases-loop-from
decreases-loop-from g l = l.all - l.from
