-- One step of a world, and a run of them.
use Rattle.std.specs.Prelude.{◌≡◌, List, [], ◌∷◌}
use Rattle.mvo_disk.specs.declared.disk.Disk.{Ghosts}
use Rattle.mvo_store.specs.Seen.{disk_of}
use Rattle.mvo_world.specs.Past.{Past, with_event}
use Rattle.mvo_world.specs.WorldData.{WorldData}
use Rattle.mvo_world.specs.Standing.{IsAfter, HasHonestDisk, LeavesPrefix}
use Rattle.mvo_world.specs.Replies.{IsReplyTo, IsCopiedReplyTo}
use Rattle.mvo_world.specs.Justified.{IsJustifiedBy, IsCopyJustifiedBy}
use Rattle.mvo_world.specs.declared.event.Event.{Event}
use Rattle.mvo_world.specs.declared.reply.Reply.{Reply}

-- The event has its reply, which the past justifies, whatever it is. It leads from a world after a
-- past to one after that past and this event. A disk that was not honest is not honest again; and
-- while it is, a stop at any moment leaves an image that recovers a prefix of the past before.
pub record IsStepBy {D : Type 0} (IsReply : WorldData D → Event → Reply → WorldData D → Type 0)
    (Justifies : Past → Event → Reply → Type 0)
    (d : Ghosts D) (w : WorldData D) (e : Event) (r : Reply) (w' : WorldData D) : Type 0 where
  pub reply : IsReply w e r w'
  pub justified : (p : Past) → IsAfter d p w → Justifies p e r
  pub after : (p : Past) → IsAfter d p w → IsAfter d (with_event p e r) w'
  pub honest : HasHonestDisk d w' → HasHonestDisk d w
  pub any_moment : (p : Past) → IsAfter d p w → HasHonestDisk d w' →
      LeavesPrefix d p (disk_of w.store) (disk_of w'.store)

abbrev pub IsWorldStep : {D : Type 0} →
    Ghosts D → WorldData D → Event → Reply → WorldData D → Type 0
IsWorldStep d = IsStepBy (IsReplyTo d) IsJustifiedBy d

-- a step of a run, whose event is copied first
abbrev pub IsRunStep : {D : Type 0} → Ghosts D → WorldData D → Event → Reply → WorldData D → Type 0
IsRunStep d = IsStepBy (IsCopiedReplyTo d) IsCopyJustifiedBy d

-- one such step after another, from one world to another
abbrev pub AreSteps : {W : Type 0} →
    (W → Event → Reply → W → Type 0) → W → List Event → List Reply → W → Type 0
AreSteps IsOne w [] [] w' = w' ≡ w
AreSteps IsOne w [] (r ∷ rs) w' = ⊥
AreSteps IsOne w (e ∷ es) [] w' = ⊥
AreSteps {W = W} IsOne w (e ∷ es) (r ∷ rs) w' =
    (next : W) × IsOne w e r next × AreSteps IsOne next es rs w'
