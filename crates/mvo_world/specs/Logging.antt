-- A world as what makes the calls of its store, and takes the groups of its ring: each is an event.
use Rattle.std.specs.Prelude.{Result}
use Rattle.mvo_types.specs.declared.refusal.Refusal.{Refusal}
use Rattle.mvo_store.specs.declared.call.StoreCall.{StoreCall}
use Rattle.mvo_store.specs.declared.done.Done.{Done}
use Rattle.mvo_world.specs.WorldData.{WorldData}
use Rattle.mvo_world.specs.Replies.{reply_of, reply_to_taking}
use Rattle.mvo_world.specs.declared.event.Event.{Event}
use Rattle.mvo_world.specs.declared.event.Event.TheVariants.{TakeGroup, Store}
use Rattle.mvo_world.specs.declared.reply.Reply.{Reply}

-- ---- by the steps of the world
module _ {D : Type 0} (IsStep : WorldData D → Event → Reply → WorldData D → Type 0) where
  abbrev pub IsCallBy : WorldData D → StoreCall → Result Done Refusal → WorldData D → Type 0
  IsCallBy w call result w' = IsStep w (Store call) (reply_of result) w'

  abbrev pub IsTakingBy : WorldData D → Result (Unit {0}) Refusal → WorldData D → Type 0
  IsTakingBy w result w' = IsStep w TakeGroup (reply_to_taking result) w'
