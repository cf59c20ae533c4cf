use Rattle.std.proofs.Common.{◌≡◌, ◌++◌, map, filter}
use Rattle.mvo_hash.specs.Lists.{number, numbers_of}
use Rattle.mvo_txn.specs.Txns.{state_of}
use Rattle.mvo_visible.specs.Versions.{versions_by}
use Rattle.mvo_validate.specs.Entries.{has_sort}
use Rattle.mvo_validate.proofs.Windows.{seen_between}
use Rattle.mvo_validate.proofs.between.last_between.Given as goal

abbrev pub invariant-loop-number : goal.invariant-loop-number
invariant-loop-number g l =
    (l.last ≡ seen_between (state_of l.table) l.begin.0 l.end.0 (filter (has_sort l.sort) (versions_by l.chains l.yielded))) × (map number (numbers_of l.index.versions l.fn.key) ≡ l.yielded ++ l.number-iterator)
