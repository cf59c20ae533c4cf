use Rattle.std.proofs.Common.{refl}
use Rattle.mvo_core.specs.Data.{CoreData}
use Rattle.mvo_txn.specs.Txns.{state_of}
use Rattle.mvo_core.proofs.Opening.{opens_as, opened_stands, opened_waits}
use Rattle.mvo_core.proofs.VersionCounts.{opened_counts}
use Rattle.mvo_core.proofs.event_core.Core.open_by.Goals as goal

pub invariant_of-result : goal.invariant_of-result
invariant_of-result g c =
    let new : CoreData = record { versions = c.in_ok-versions.versions; table = c.in_ok-table.table; tale = c.new-4.result; works = c.new-5.result; start = c.args.mark.0; opening = c.args.mark.0; closed = c.args.mark.0; grouped = 0 } in
    record {
      stands = opened_stands c.args.rows c.args.mark.0 new
          (opens_as c.args.rows c.args.mark.0 c.in_ok-versions.versions c.in_ok-versions.ensures.loaded c.in_ok-versions.ensures.indexed new refl c.in_ok-table.ensures c.new-4.ensures c.new-5.ensures refl refl refl refl);
      waiting = opened_waits c.args.rows c.args.mark.0 c.in_ok-versions.versions c.in_ok-versions.ensures.loaded c.in_ok-versions.ensures.indexed c.in_ok-table.table.clock (state_of c.in_ok-table.table) c.new-3.result c.new-3.ensures;
    }

pub returns-clause-ok : goal.returns-clause-ok
returns-clause-ok g c =
    let new : CoreData = record { versions = c.in_ok-versions.versions; table = c.in_ok-table.table; tale = c.new-4.result; works = c.new-5.result; start = c.args.mark.0; opening = c.args.mark.0; closed = c.args.mark.0; grouped = 0 } in
    opens_as c.args.rows c.args.mark.0 c.in_ok-versions.versions c.in_ok-versions.ensures.loaded c.in_ok-versions.ensures.indexed new refl c.in_ok-table.ensures c.new-4.ensures c.new-5.ensures refl refl refl refl

pub returns-clause-count : goal.returns-clause-count
returns-clause-count g c =
    let new : CoreData = record { versions = c.in_ok-versions.versions; table = c.in_ok-table.table; tale = c.new-4.result; works = c.new-5.result; start = c.args.mark.0; opening = c.args.mark.0; closed = c.args.mark.0; grouped = 0 } in
    opened_counts c.args.rows c.args.mark.0 new c.in_ok-versions.ensures.loaded
