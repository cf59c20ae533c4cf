-- A checkpoint that is built in slices: how far it has come, and how far it has to go.
use Rattle.std.specs.Prelude.{◌≡◌, ℕ, ◌+◌, ◌-◌, ◌<◌, ◌≤◌, List, [], ◌++◌, length, take, Option, Some, None}
use Rattle.std.specs.List.{sum_by}
use Rattle.std.specs.List.Sorted.{IsPermutation, IsNonDecreasing}
use Rattle.mvo_group.specs.Data.{GroupData}
use Rattle.mvo_pair.specs.Data.{Numbered}
use Rattle.mvo_pair.specs.declared.pair.Pair.{Pair}
use Rattle.mvo_places.specs.Places.{PlaceMap, AreSmall, ArePlaces}
use Rattle.mvo_ckpt.specs.declared.building.Building.{Building}
use Rattle.mvo_ckpt.specs.declared.building.Building.TheVariants.{Writes, Pairs}
use Rattle.mvo_ckpt.specs.declared.building.Built.{Built}
use Rattle.mvo_ckpt.specs.declared.building.Built.TheVariants.{More, Ready}
use Rattle.mvo_ckpt.specs.declared.gaining.Gaining.{Gaining}
use Rattle.mvo_ckpt.specs.declared.walking.Walking.{Walking}
use Rattle.mvo_ckpt.specs.Checkpoint.{BuiltCheckpoint}
use Rattle.mvo_ckpt.specs.Ended.{deltas_of, AreOfPairs}
use Rattle.mvo_ckpt.specs.Walk.{Walk, none_met, walk_of, walk_writes, deltas_by}
use Rattle.mvo_ckpt.specs.Writes.{Stamped, writes_in, writes_of, records_of, gone_of}

-- ---- the writes

-- the writes that are left, in their order
abbrev pub writes_left : Walking → List Stamped
writes_left w = writes_of w.groups.items ++ writes_in w.records.items

-- The last of the groups' writes are taken, and these are what they leave.
pub record IsWalking (at : PlaceMap) (gs : List GroupData) (w : Walking) : Type 0 where
  pub taken : List Stamped
  pub whole : writes_of gs ≡ writes_left w ++ taken
  pub met : walk_of w.newest ≡ walk_writes at taken none_met
  pub small : AreSmall at

-- the groups that are left, and the transactions of those and of the one that was begun
abbrev pub walk_size : Walking → ℕ
walk_size w = sum_by (λ g. 1 + length g.records) w.groups.items + length w.records.items

-- Nothing is left; or the last group that is left is begun, or a transaction of it is taken.
abbrev pub IsWalkStep : PlaceMap → Walking → Option ℕ → Walking → Type 0
IsWalkStep at old None new =
    (writes_left old ≡ []) × (writes_left new ≡ []) × (walk_of new.newest ≡ walk_of old.newest)
    × (walk_size old ≡ 0) × (walk_size new ≡ 0)
IsWalkStep at old (Some n) new =
    (ws : List Stamped) × (writes_left old ≡ writes_left new ++ ws)
    × (walk_of new.newest ≡ walk_writes at ws (walk_of old.newest))
    × (walk_size new + 1 ≡ walk_size old) × (1 ≤ n)

-- ---- the pairs

-- what all writes leave
abbrev pub walked : PlaceMap → List GroupData → Walk
walked at gs = walk_writes at (writes_of gs) none_met

-- All writes are taken, and the first of the pairs have the numbers that they gain.
pub record IsGainingOf (at : PlaceMap) (ps : List Pair) (gs : List GroupData) (g : Gaining) :
    Type 0 where
  pub records : g.records.items ≡ (walked at gs).records
  pub gone : g.gone.items ≡ (walked at gs).gone
  pub moved : IsPermutation (walked at gs).places g.ended.items
  pub sorted : IsNonDecreasing g.ended.items
  pub few : g.done ≤ length ps
  pub deltas : g.deltas.items ≡ deltas_by (take g.done ps) g.ended.items
  pub small : AreSmall at

-- ---- the whole

-- The checkpoint of these groups is built so far, beside these places and these pairs.
abbrev pub IsBuilding : PlaceMap → List Pair → List GroupData → Building → Type 0
IsBuilding at ps gs (Writes w) = IsWalking at gs w
IsBuilding at ps gs (Pairs g) = IsGainingOf at ps gs g

-- It is what a checkpoint of these groups writes.
pub record IsBuiltCheckpointOf (at : PlaceMap) (ps : List Pair) (gs : List GroupData)
    (c : BuiltCheckpoint) : Type 0 where
  pub records : c.records ≡ records_of gs
  pub gone : c.gone ≡ gone_of gs
  pub deltas : (lives : List (List Numbered)) → ArePlaces ps lives at →
      c.deltas ≡ deltas_of gs ps lives
  pub known : AreOfPairs ps c.deltas
  pub few : length c.deltas ≤ length ps

-- what a slice answers: it is built further, or it is built
abbrev pub IsBuilt : PlaceMap → List Pair → List GroupData → Built → Type 0
IsBuilt at ps gs (More b) = IsBuilding at ps gs b
IsBuilt at ps gs (Ready c) = IsBuiltCheckpointOf at ps gs c

-- how many steps are left at most: one for each transaction, group and pair, and two at the end
abbrev pub steps_left : List Pair → Building → ℕ
steps_left ps (Writes w) = walk_size w + length ps + 2
steps_left ps (Pairs g) = (length ps - g.done) + 1

-- At least one step is made, and no more than these.
abbrev pub IsSliceFurther : List Pair → ℕ → Building → Built → Type 0
IsSliceFurther ps most old (More new) =
    (steps_left ps new < steps_left ps old) × (steps_left ps old ≤ steps_left ps new + most)
IsSliceFurther ps most old (Ready c) = steps_left ps old ≤ 1
