use Rattle.std.proofs.Common.{◌≡◌, ◌++◌}
use Rattle.std.specs.Prelude.{filter}
use Rattle.std.specs.FinMap as fin
use Rattle.mvo_txn.specs.Txns.{state_of}
use Rattle.mvo_range.specs.Place.{is_between}
use Rattle.mvo_core.proofs.Scanned.{AllInOrder, IsSoFar}
use Rattle.mvo_core.proofs.scanning.scan_places.Given as goal

abbrev pub invariant-loop-entry : goal.invariant-loop-entry
invariant-loop-entry l =
    (AllInOrder (state_of l.table) l.versions l.start.0 l.tx.0 l.of l.lo l.hi → IsSoFar (state_of l.table) l.versions l.start.0 l.tx.0 l.of l.lo l.hi l.yielded l.rows.items l.on.items)
    × (filter (is_between l.of l.lo l.hi) (fin.entries l.versions.places) ≡ l.yielded ++ l.entry-iterator)
