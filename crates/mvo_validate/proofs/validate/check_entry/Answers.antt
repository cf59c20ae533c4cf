use Rattle.std.proofs.Common.{refl, sym, ap}
use Rattle.mvo_txn.specs.Txns.{state_of}
use Rattle.mvo_visible.specs.Changes.{changes_of}
use Rattle.mvo_validate.specs.Between.{checked_by}
use Rattle.mvo_validate.specs.Entries.{versions_in}
use Rattle.mvo_validate.proofs.Windows.{none_next}
use Rattle.mvo_validate.proofs.validate.check_entry.Goals as goal

pub returns-then-is_next : goal.returns-then-is_next
returns-then-is_next g c falling =
    let looked = versions_in c.args.chains.now c.args.index.now.versions c.args.ranges.now c.args.entry in
    sym (ap checked_by (none_next c.args.begin.0 c.args.end.0 (changes_of (state_of c.args.table.now) looked) (c.if-is_next.ensures refl)))
