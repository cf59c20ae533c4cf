use Rattle.std.proofs.Common.{◌≡◌, ◌++◌}
use Rattle.mvo_txn.specs.Txns.{state_of}
use Rattle.mvo_visible.specs.Versions.{versions_by}
use Rattle.mvo_visible.specs.Walked.{walked_over}
use Rattle.mvo_visible.proofs.visible.shown_on.Given as goal

abbrev pub invariant-loop-number : goal.invariant-loop-number
invariant-loop-number g l =
    (l.walked ≡ walked_over (state_of l.table) l.at.0 l.reader.0 (versions_by l.chains l.yielded)) × (l.fn.walk ≡ l.yielded ++ l.number-iterator)
