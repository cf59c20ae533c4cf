use Rattle.std.proofs.Common.{◌≡◌, ◌++◌}
use Rattle.mvo_types.proofs.Ordered.{all_rows}
use Rattle.mvo_types.proofs.rows.Rows.into_rows.Given as goal

abbrev pub invariant-loop-key : goal.invariant-loop-key
invariant-loop-key l = l.rows.items ++ all_rows l.key-iterator ≡ all_rows l.initial.key-iterator
