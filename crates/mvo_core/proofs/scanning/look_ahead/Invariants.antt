use Rattle.std.proofs.Common.{◌≡◌, ◌≤◌, ◌++◌, length}
use Rattle.std.specs.Prelude.{filter}
use Rattle.std.specs.FinMap as fin
use Rattle.mvo_range.specs.Place.{is_between}
use Rattle.mvo_core.proofs.scanning.look_ahead.Given as goal

abbrev pub invariant-loop-place : goal.invariant-loop-place
invariant-loop-place l =
    (l.count ≤ length l.yielded)
    × (filter (is_between l.of l.lo l.hi) (fin.entries l.versions.places) ≡ l.yielded ++ l.place-iterator)
