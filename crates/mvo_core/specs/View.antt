-- What contracts see of a core.
use Rattle.mvo_core.specs.declared.event_core.Core.TheInside.{Inside}
use Rattle.mvo_txn.specs.Txns.{state_of}
use Rattle.mvo_collect.specs.Waiting.{AreWaiting}
use Rattle.mvo_core.specs.Data.{CoreData}
use Rattle.mvo_core.specs.WholeStanding.{StandsInWhole}

abbrev pub core_data : Inside → CoreData
core_data c = record {
  versions = c.versions;
  table = c.table;
  tale = c.tale;
  works = c.works;
  start = c.start.0;
  opening = c.opening.0;
  closed = c.closed.0;
  grouped = c.grouped;
}

-- It stands for a whole state, and whatever is garbage among its versions, or may come to be, waits
-- to be collected.
pub record IsCore (c : Inside) : Type 0 where
  pub stands : StandsInWhole (core_data c)
  pub waiting : AreWaiting c.table.clock (state_of c.table) c.versions.slots c.waiting
