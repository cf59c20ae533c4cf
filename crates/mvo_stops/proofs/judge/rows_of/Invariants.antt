use Rattle.std.proofs.Common.{◌≡◌, drop}
use Rattle.std.specs.FinMap as map
use Rattle.mvo_stops.specs.Promise.{with_rows}
use Rattle.mvo_stops.proofs.judge.rows_of.Given as goal

abbrev pub invariant-loop-row : goal.invariant-loop-row
invariant-loop-row l = with_rows (drop l.row-index l.list) l.rows ≡ with_rows l.list map.empty
