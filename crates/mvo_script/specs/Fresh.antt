-- What a script begins with.
use Rattle.std.specs.Prelude.{◌≡◌, [], None}
use Rattle.std.specs.FinMap as map
use Rattle.mvo_core.specs.Standing.{HasOpenedOver}
use Rattle.mvo_world.specs.WorldData.{WorldData}
use Rattle.mvo_script.specs.Bound.{BindsNone}
use Rattle.mvo_store.specs.Seen.{mark_of, pending_of}
use Rattle.mvo_script.specs.declared.driver.Driver.{Driver}

-- The clock and the store's mark stand at 0, there are no rows and no transactions, and no group is
-- closed or taken.
pub record IsFreshWorld {D : Type 0} (w : WorldData D) : Type 0 where
  pub core : HasOpenedOver map.empty 0 w.core
  pub mark : mark_of w.store ≡ 0
  pub ring : w.ring ≡ []
  pub pending : pending_of w.store ≡ None

-- over such a world no name is bound
pub record IsFresh {D : Type 0} (d : Driver D) : Type 0 where
  pub world : IsFreshWorld d.world
  pub names : BindsNone d.names
