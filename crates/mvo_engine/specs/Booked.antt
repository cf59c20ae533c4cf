-- The book of the ledger beside the core, and the parts that no session has.
use Rattle.std.specs.Prelude.{◌≡◌, ◌+◌, ◌<◌, ◌≤◌, ℕ, List}
use Rattle.mvo_types.specs.Keys.{Map}
use Rattle.mvo_model.specs.Trace.{Step}
use Rattle.mvo_readonly.specs.Whole.{WholeState}
use Rattle.mvo_core.specs.Data.{CoreData}
use Rattle.mvo_core.specs.WholeStanding.{StandsWhole}
use Rattle.mvo_core.specs.WholeTales.{stored_receipts}
use Rattle.mvo_engine.specs.declared.run.run.TheConstants.{MAX_SESSIONS, PARTS}
use Rattle.mvo_engine.specs.run.Watching.{Watched, count_of}

-- The core stands for a whole state. Where the tale starts below the end that is watched, the total
-- is what the stored commits count, those of read-only transactions among them.
pub record IsBooked (w : Watched) (c : CoreData) (total : ℕ) : Type 0 where
  pub rows : Map
  pub steps : List Step
  pub own : List Step
  pub whole : WholeState
  pub stands : StandsWhole rows steps own whole c
  pub counted : whole.core.start < w.end → total ≡ count_of w (stored_receipts whole)

-- The parts that no session has are what the sessions leave of all, at least one. Where the tale
-- starts below the end that is watched, they count nothing.
pub record HasSpareParts (w : Watched) (start parts made spare amount : ℕ) : Type 0 where
  pub all : parts ≡ PARTS
  pub spare_parts : spare + made ≡ parts
  pub at_most : made ≤ MAX_SESSIONS
  pub spare_amount : start < w.end → amount ≡ 0
