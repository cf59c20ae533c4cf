use Rattle.std.proofs.Common.{◌≡◌, ◌+◌, ◌++◌}
use Rattle.std.specs.Prelude.{filter}
use Rattle.std.specs.FinMap as fin
use Rattle.mvo_txn.specs.Txns.{state_of}
use Rattle.mvo_range.specs.Place.{is_between}
use Rattle.mvo_core.proofs.OthersShown.{AreSoFar}
use Rattle.mvo_core.proofs.others.others_at_places.Given as goal

abbrev pub invariant-loop-entry : goal.invariant-loop-entry
invariant-loop-entry l =
    AreSoFar (state_of l.table) l.versions l.tx.0 (l.table.clock + 1) l.yielded l.rows.items
    × (filter (is_between l.of l.lo l.hi) (fin.entries l.versions.places) ≡ l.yielded ++ l.entry-iterator)
