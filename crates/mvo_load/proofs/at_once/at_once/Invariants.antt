use Rattle.std.proofs.Common.{length}
use Rattle.std.specs.Prelude.{All}
use Rattle.mvo_load.specs.Gathered.{MayLie, filed_in}
use Rattle.mvo_load.proofs.Taken.{IsMerged}
use Rattle.mvo_load.proofs.at_once.at_once.Given as goal

abbrev pub invariant-loop-data_file : goal.invariant-loop-data_file
invariant-loop-data_file l = IsMerged (filed_in l.fn.parts.items) (filed_in l.left.items) l.rows l.places × All MayLie (filed_in l.left.items)

abbrev pub decreases-loop-data_file : goal.decreases-loop-data_file
decreases-loop-data_file l = length (filed_in l.left.items)
