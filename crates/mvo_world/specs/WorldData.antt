-- What a world holds.
use Rattle.std.specs.Prelude.{◌≡◌, ℕ, List, [], ◌∷◌, ◌++◌}
use Rattle.std.specs.Option.{option_to_list}
use Rattle.mvo_types.specs.Keys.{Map}
use Rattle.mvo_group.specs.Data.{GroupData}
use Rattle.mvo_core.specs.Counting.{HasOneEach}
use Rattle.mvo_core.specs.Data.{CoreData}
use Rattle.mvo_core.specs.Seen.{closed_mark_of}
use Rattle.mvo_core.specs.Standing.{HasOpenedOver}
use Rattle.mvo_core.specs.WholeStanding.{StandsInWhole}
use Rattle.mvo_store.specs.Seen.{mark_of, pending_of, IsAtRest}
use Rattle.mvo_store.specs.StoreData.{StoreData}

-- what its core has, the groups that are closed and not taken, the oldest first, and its store
pub record WorldData (D : Type 0) : Type 0 where
  pub core : CoreData
  pub ring : List GroupData
  pub store : StoreData D

-- the groups that are closed and not durable yet: the one that the store took, and those behind it
abbrev pub waiting : {D : Type 0} → WorldData D → List GroupData
waiting w = option_to_list (pending_of w.store) ++ w.ring

-- the groups follow one another, from one mark up to another
abbrev pub Follow : ℕ → List GroupData → ℕ → Type 0
Follow mark [] last = mark ≡ last
Follow mark (g ∷ gs) last = (g.prev ≡ mark) × Follow g.mark gs last

-- the groups that wait lead from the store's mark to that of the last closed group
abbrev pub IsLinked : {D : Type 0} → WorldData D → Type 0
IsLinked w = Follow (mark_of w.store) (waiting w) (closed_mark_of w.core)

-- the core stands for a whole state, whatever steps led there, and the groups that wait are linked
pub record IsSoundWorld {D : Type 0} (w : WorldData D) : Type 0 where
  pub core : StandsInWhole w.core
  pub linked : IsLinked w

-- nothing happened since the opening over these rows
pub record IsJustOpened {D : Type 0} (rows : Map) (w : WorldData D) : Type 0 where
  pub core : HasOpenedOver rows (mark_of w.store) w.core
  pub versions : HasOneEach rows w.core
  pub ring : w.ring ≡ []
  pub store : IsAtRest w.store
