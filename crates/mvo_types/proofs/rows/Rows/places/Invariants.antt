use Rattle.std.proofs.Common.{◌≡◌, ◌++◌}
use Rattle.mvo_types.proofs.Ordered.{places_in}
use Rattle.mvo_types.proofs.rows.Rows.places.Given as goal

abbrev pub invariant-loop-key : goal.invariant-loop-key
invariant-loop-key l = l.found.items ++ places_in l.table l.key-iterator ≡ places_in l.table l.initial.key-iterator
