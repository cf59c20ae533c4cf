-- The ring of the groups that are closed and that the store hasn't taken, the oldest first.
use Rattle.std.specs.Prelude.{◌≡◌, ◌==◌, Bool, false, List, [], ◌∷◌, ◌++◌, length, Option, None, Some, Result, Ok, Err}
use Rattle.mvo_types.specs.declared.refusal.Refusal.{Refusal}
use Rattle.mvo_types.specs.Keys.{Map}
use Rattle.mvo_model.specs.Trace.{Step}
use Rattle.mvo_group.specs.Data.{GroupData}
use Rattle.mvo_readonly.specs.Whole.{WholeState}
use Rattle.mvo_core.specs.declared.answers.Closed.{Closed}
use Rattle.mvo_core.specs.Data.{CoreData}
use Rattle.mvo_core.specs.WholeStanding.{StandsWhole}
use Rattle.mvo_core.specs.WholeClosing.{IsClosedWhole, IsNotClosedWhole}
use Rattle.mvo_types.specs.declared.limits.TheConstants.{RING_GROUPS}

-- it has room for no other
abbrev pub is_full : List GroupData → Bool
is_full ring = length ring == RING_GROUPS

-- the group that is taken next
abbrev pub oldest : List GroupData → Option GroupData
oldest [] = None
oldest (g ∷ gs) = Some g

-- the next group goes into the ring, or the ring stays as it is
abbrev pub HasClosedInto : Map → List Step → List Step → WholeState → List GroupData
    → Result Closed Refusal → CoreData → List GroupData → Type 0
HasClosedInto opening steps own s ring (Ok c) new ring' =
    (is_full ring ≡ false)
    × ((g : GroupData) × (ring' ≡ ring ++ g ∷ []) × IsClosedWhole opening steps own s c new g)
HasClosedInto opening steps own s ring (Err r) new ring' =
    IsNotClosedWhole opening steps own s (is_full ring) r new × (ring' ≡ ring)

abbrev pub IsClosingInto : CoreData → List GroupData → Result Closed Refusal → CoreData
    → List GroupData → Type 0
IsClosingInto old ring result new ring' =
    (opening : Map) (steps own : List Step) (s : WholeState) → StandsWhole opening steps own s old
    → HasClosedInto opening steps own s ring result new ring'

-- the oldest group left the ring, or there was none
abbrev pub IsOldestTaken : List GroupData → Option GroupData → List GroupData → Type 0
IsOldestTaken ring None ring' = (ring ≡ []) × (ring' ≡ [])
IsOldestTaken ring (Some g) ring' = ring ≡ g ∷ ring'
