use Rattle.std.proofs.Common.{◌≡◌, ◌++◌, filter}
use Rattle.std.specs.FinMap as fin
use Rattle.mvo_range.specs.Place.{is_between}
use Rattle.std.specs.List.{flat_map}
use Rattle.mvo_txn.specs.Txns.{state_of}
use Rattle.mvo_visible.specs.Shown.{AllHaveFallingStamps}
use Rattle.mvo_validate.specs.Entries.{versions_of_place}
use Rattle.mvo_validate.proofs.Windows.{seen_between}
use Rattle.mvo_validate.proofs.validate.last_in_range.Given as goal

abbrev pub invariant-loop-place : goal.invariant-loop-place
invariant-loop-place g l =
    (AllHaveFallingStamps (state_of l.table) l.chains l.index.versions → l.last ≡ seen_between (state_of l.table) l.begin.0 l.end.0 (flat_map (versions_of_place l.chains l.index.versions) l.yielded)) × (filter (is_between l.fn.of l.fn.lo l.fn.hi) (fin.entries l.fn.ranges) ≡ l.yielded ++ l.place-iterator)
