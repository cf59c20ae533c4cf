use Rattle.std.proofs.Common.{◌≡◌, false, ◌++◌, map}
use Rattle.std.specs.List.{list_any}
use Rattle.mvo_txn.specs.Txns.{state_of}
use Rattle.mvo_chain.specs.Slots.{version_at}
use Rattle.mvo_hash.specs.Lists.{number, numbers_of}
use Rattle.mvo_validate.specs.Entries.{key_at}
use Rattle.mvo_core.specs.Scanning.{is_met_by}
use Rattle.mvo_versions.proofs.Walked.{by_number}
use Rattle.mvo_core.proofs.scanning.is_met.Given as goal

abbrev pub invariant-loop-number : goal.invariant-loop-number
invariant-loop-number l =
    (list_any (by_number (λ n. is_met_by (state_of l.table) l.start.0 l.tx.0 l.place.sort (version_at l.versions.slots (number n)))) l.yielded ≡ false) × (map number (numbers_of l.versions.lists (key_at l.place)) ≡ l.yielded ++ l.number-iterator)
