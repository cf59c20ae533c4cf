use Rattle.std.proofs.Common.{◌≡◌, take}
use Rattle.mvo_shared.specs.Kept.{map_of_rows}
use Rattle.mvo_content.proofs.own_rows.put_all.Given as goal

abbrev pub invariant-loop-row : goal.invariant-loop-row
invariant-loop-row l = l.map ≡ map_of_rows (take l.row-index l.rows)
