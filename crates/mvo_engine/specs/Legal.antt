-- What was done under the lock of the core.
use Rattle.std.specs.Prelude.{ℕ, ◌≤◌, List}
use Rattle.std.specs.List.{AllByRecursion}
use Rattle.mvo_types.specs.Keys.{Map}
use Rattle.mvo_model.specs.Trace.{Step, IsSerial}
use Rattle.mvo_group.specs.Data.{GroupData}
use Rattle.mvo_theory.specs.State.{timeline}
use Rattle.mvo_readonly.specs.Whole.{WholeState}
use Rattle.mvo_core.specs.Data.{CoreData}
use Rattle.mvo_core.specs.Seen.{clock_of}
use Rattle.mvo_core.specs.WholeStanding.{StandsWhole}
use Rattle.mvo_core.specs.Groups.{HaveRecordsOf}
use Rattle.mvo_engine.specs.run.Opening.{Opening}
use Rattle.mvo_engine.specs.Opening.{GaveWhenOpened}

-- The core stands for a whole state to which steps over the opening rows led. The committed
-- transactions were told what they are told one after another, a read-only one at its begin; none
-- ended above the clock; and the groups that were sent hold the commits up to the mark of the last
-- one.
pub record IsLegalCore (o : Opening) (c : CoreData) (sent : List GroupData) : Type 0 where
  pub rows : Map
  pub mark : ℕ
  pub gives : GaveWhenOpened rows mark o
  pub steps : List Step
  pub own : List Step
  pub whole : WholeState
  pub stands : StandsWhole rows steps own whole c
  pub serial : IsSerial rows steps
  pub ends : AllByRecursion (λ x. x.end ≤ clock_of c) (timeline whole.core)
  pub reads : AllByRecursion (λ y. y.id ≤ clock_of c) whole.committed_readers
  pub groups : HaveRecordsOf whole.core 0 sent
