-- What a day comes to.
use Rattle.std.specs.Prelude.{◌≡◌, ◌<◌, List, map}
use Rattle.mvo_types.specs.Keys.{Map}
use Rattle.mvo_model.specs.History.{Legal}
use Rattle.mvo_model.specs.Trace.{Step}
use Rattle.mvo_readonly.specs.Whole.{WholeState}
use Rattle.mvo_readonly.specs.WholeTale.{whole_tale}
use Rattle.mvo_core.specs.Data.{CoreData}
use Rattle.mvo_core.specs.Receipts.{Receipt}
use Rattle.mvo_core.specs.Trimming.{stored_above}
use Rattle.mvo_core.specs.WholeStanding.{StandsWhole}
use Rattle.mvo_engine.specs.Watching.{Watched, count_of}
use Rattle.mvo_engine.specs.Stored.{HasStored}

-- The core stands for a whole state, and its tale has the stored commits above the start, those of
-- read-only transactions among them. Where the start is below the end that is watched, the receipts
-- count what these commits do. They stand by their ends, and were told what a map answers that runs
-- them one after another from the rows at the start, which are those that a transaction is shown
-- that begins just above it.
pub record IsDay (w : Watched) (c : CoreData) (receipts : List Receipt) : Type 0 where
  pub opening : Map
  pub steps : List Step
  pub own : List Step
  pub whole : WholeState
  pub stands : StandsWhole opening steps own whole c
  pub stored : HasStored c
  pub counted : whole.core.start < w.end
      → count_of w receipts ≡ count_of w (stored_above whole.core.start c.tale)
  pub ordered : map (λ r. (r.end, r.id)) (stored_above whole.core.start c.tale) ≡ whole_tale whole
  pub serial : Legal whole.core.base (map (λ r. r.history) (stored_above whole.core.start c.tale))
