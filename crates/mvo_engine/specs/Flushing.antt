-- What a flush comes to, and each step of it under the lock of the store.
use Rattle.std.specs.Prelude.{◌≡◌, ◌⊎◌, Bool, true, false, List, [], ◌∷◌, ◌++◌, Option, Some, None, Result, Ok, Err, max}
use Rattle.std.specs.List.{AllByRecursion}
use Rattle.mvo_types.specs.declared.ids.Stamp.{Stamp}
use Rattle.mvo_types.specs.declared.refusal.Refusal.{Refusal}
use Rattle.mvo_types.specs.declared.refusal.Refusal.TheVariants.{NothingToDo, RingFull}
use Rattle.mvo_disk.specs.declared.disk.Disk.{Ghosts}
use Rattle.mvo_core.specs.declared.answers.Closed.{Closed}
use Rattle.mvo_group.specs.Data.{GroupData}
use Rattle.mvo_store.specs.Causes.{why_not_take}
use Rattle.mvo_store.specs.Seen.{mark_of, pending_of}
use Rattle.mvo_store.specs.Flushing.{IsTurn}
use Rattle.mvo_engine.specs.States.{CoreState, StoreState}
use Rattle.mvo_engine.specs.Calls.{IsCoreSending, IsTaking, IsLockedCall}

-- The group that is being appended, or else the next one that is received: what was received
-- before, and what is now.
abbrev pub IsGroupToFlush : Option GroupData → GroupData → List GroupData → List GroupData → Type 0
IsGroupToFlush (Some pending) g old new = (g ≡ pending) × (new ≡ old)
IsGroupToFlush None g old new = new ≡ old ++ g ∷ []

-- the next group is durable and published
pub record HasFlushed {D : Type 0} (old new : StoreState D) : Type 0 where
  pub group : GroupData
  pub next : IsGroupToFlush (pending_of old.store) group old.received new.received
  pub durable : mark_of new.store ≡ group.mark
  pub published : new.published ≡ max old.published group.mark
  pub pending : pending_of new.store ≡ None

-- no group was being appended, and none was seen in the ring
pub record HasNoneToFlush {D : Type 0} (old new : StoreState D) : Type 0 where
  pub none : why_not_take old.store ≡ None
  pub same : new ≡ old

-- Nothing more is durable. A group that was taken meanwhile is being appended.
pub record HasNotFlushed {D : Type 0} (old new : StoreState D) : Type 0 where
  pub durable : mark_of new.store ≡ mark_of old.store
  pub published : new.published ≡ old.published
  pub taken : (new.received ≡ old.received) ⊎ ((g : GroupData)
      × (pending_of new.store ≡ Some g) × (new.received ≡ old.received ++ g ∷ []))

abbrev pub IsFlushOfOne : {D : Type 0} → StoreState D → Result Bool Refusal → StoreState D → Type 0
IsFlushOfOne old (Ok true) new = HasFlushed old new
IsFlushOfOne old (Ok false) new = HasNoneToFlush old new
IsFlushOfOne old (Err e) new = HasNotFlushed old new

-- ---- all of it

-- no group is closed, since there is none to close or no room for it
abbrev pub goes_past : {A : Type 0} → Result A Refusal → Bool
goes_past (Ok a) = true
goes_past (Err NothingToDo) = true
goes_past (Err RingFull) = true
goes_past (Err e) = false

-- the closing with which it begins, under the lock of the core
abbrev pub IsClosingFirst : Result (Unit {0}) Refusal → Type 0
IsClosingFirst (Ok a) = (old new : CoreState) × (closing : Result Closed Refusal)
    × IsCoreSending old closing new × (goes_past closing ≡ true)
IsClosingFirst (Err e) = (old new : CoreState) × IsCoreSending old (Err e) new

-- the group was made durable under the lock of the store, which was taken for it
abbrev pub WasFlushed : (D : Type 0) → GroupData → Type 0
WasFlushed D g = (old new : StoreState D) × (flushed : HasFlushed old new) × (flushed.group ≡ g)

-- A flush: the next group is closed, and groups are made durable, one after another, up to a step
-- that is refused, or where none was left, at the mark that is answered. Others may have made
-- groups durable in between.
pub data IsWholeFlush {D : Type 0} (d : Ghosts D) (r : Result Stamp Refusal) : Type 0 where
  AtClosing : (e : Refusal) → r ≡ Err e → IsClosingFirst (Err e) → IsWholeFlush d r
  AtTurn : IsClosingFirst (Ok tt) → (groups : List GroupData)
      → AllByRecursion (WasFlushed D) groups → (e : Refusal) → r ≡ Err e
      → (old new : StoreState D) → IsTurn (IsTaking d) (IsLockedCall d) old (Err e) new
      → IsWholeFlush d r
  AtEnd : IsClosingFirst (Ok tt) → (groups : List GroupData)
      → AllByRecursion (WasFlushed D) groups → (mark : Stamp) → r ≡ Ok mark
      → (old new : StoreState D) → HasNoneToFlush old new → mark.0 ≡ mark_of new.store
      → IsWholeFlush d r
