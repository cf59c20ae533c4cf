-- A flush: which steps of the world it takes, and what it answers.
use Rattle.std.specs.Prelude.{◌≡◌, ℕ, zero, suc, Bool, true, false, None, [], Ok, Err}
use Rattle.mvo_types.specs.declared.ids.Stamp.{Stamp}
use Rattle.mvo_types.specs.declared.refusal.Refusal.{Refusal}
use Rattle.mvo_types.specs.declared.refusal.Refusal.TheVariants.{NothingToDo, RingFull}
use Rattle.mvo_store.specs.Flushing.{IsTurn}
use Rattle.mvo_store.specs.Seen.{mark_of, pending_of}
use Rattle.mvo_world.specs.WorldData.{WorldData}
use Rattle.mvo_world.specs.Logging.{IsCallBy, IsTakingBy}
use Rattle.mvo_world.specs.declared.event.Event.{Event}
use Rattle.mvo_world.specs.declared.event.Event.TheVariants.{CloseGroup}
use Rattle.mvo_world.specs.declared.reply.Reply.{Reply}
use Rattle.mvo_world.specs.declared.reply.Reply.TheVariants.{Durable, Refused}

-- after a flush no group is closed or taken, and the mark is the store's; else it is refused
abbrev pub IsFlushed : {D : Type 0} → WorldData D → Reply → Type 0
IsFlushed w (Durable mark) =
    (mark_of w.store ≡ mark.0) × (w.ring ≡ []) × (pending_of w.store ≡ None)
IsFlushed w (Refused r) = Unit {0}
IsFlushed w _ = ⊥

-- Each refusal to close a group stops a flush, but these: there is nothing to close, or the ring of
-- closed groups is full.
abbrev pub stops_close : Reply → Bool
stops_close (Refused NothingToDo) = false
stops_close (Refused RingFull) = false
stops_close (Refused r) = true
stops_close r = false

-- ---- by the steps of the world
module _ {D : Type 0} (IsStep : WorldData D → Event → Reply → WorldData D → Type 0) where
  -- so many turns, each of which makes a group durable
  abbrev pub AreTurns : ℕ → WorldData D → WorldData D → Type 0
  AreTurns zero w w' = w' ≡ w
  AreTurns (suc n) w w' =
      (v : WorldData D) × AreTurns n w v
      × IsTurn (IsTakingBy IsStep) (IsCallBy IsStep) v (Ok true) w'

  -- the next group is closed, where there is one and room for it, and turns are made
  pub record HasTurned (w w' : WorldData D) : Type 0 where
    pub reply : Reply
    pub then_on : WorldData D
    pub closed : IsStep w CloseGroup reply then_on
    pub goes_on : stops_close reply ≡ false
    pub count : ℕ
    pub turns : AreTurns count then_on w'

  -- A flush: it is answered as the close or the turn that stops it, or with the store's mark where
  -- no group is left to be taken.
  pub data IsFlush (w : WorldData D) (r : Reply) (w' : WorldData D) : Type 0 where
    AtClose : stops_close r ≡ true → IsStep w CloseGroup r w' → IsFlush w r w'
    AtTurn : (v : WorldData D) (e : Refusal) → r ≡ Refused e
        → HasTurned w v → IsTurn (IsTakingBy IsStep) (IsCallBy IsStep) v (Err e) w' → IsFlush w r w'
    AtEnd : (v : WorldData D) (mark : Stamp) → r ≡ Durable mark → mark_of w'.store ≡ mark.0
        → HasTurned w v
        → IsTurn (IsTakingBy IsStep) (IsCallBy IsStep) v (Ok false) w' → IsFlush w r w'
