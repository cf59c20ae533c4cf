use Rattle.std.proofs.Common.{◌≡◌, List, None, refl, ap, ◌∙◌, sym}
use Rattle.mvo_types.specs.declared.refusal.Refusal.TheVariants.{NothingToDo}
use Rattle.mvo_group.specs.Data.{GroupData}
use Rattle.mvo_store.specs.Causes.{why_not_take}
use Rattle.mvo_world.specs.Ring.{oldest}
use Rattle.mvo_world.specs.View.{world_data}
use Rattle.mvo_world.specs.Replies.{IsReplyTo, or_nothing}
use Rattle.mvo_world.specs.Justified.{IsJustifiedBy}
use Rattle.mvo_world.specs.declared.event.Event.TheVariants.{TakeGroup}
use Rattle.mvo_world.specs.declared.reply.Reply.TheVariants.{Refused}
use Rattle.mvo_world.proofs.Moves.{still, taken}
use Rattle.mvo_world.proofs.world.World.take_group.Goals as goal

pub returns-in-Some : goal.returns-in-Some
returns-in-Some g c =
    rw (← c.self.view_is) (still g.D.Disk g.met.D.Disk.only_now (IsReplyTo g.D.Disk) IsJustifiedBy (world_data c.self.inside) TakeGroup (Refused c.in-Some.refusal) (refl, refl, refl, (λ ms. refl), refl)
    (ap (λ why. or_nothing why (oldest c.self.inside.ring)) (sym c.can_take.ensures ∙ c.in-Some.is), refl) (λ p h. tt))

pub returns-in_default-take : goal.returns-in_default-take
returns-in_default-take g c =
    let none : why_not_take c.self.inside.store ≡ None = sym c.can_take.ensures ∙ c.in_default.is in
    let nothing = c.in_default-take.ensures.0 in
    let same = c.in_default-take.ensures.1 ∙ sym nothing in
    rw (same, ← c.self.view_is) (still g.D.Disk g.met.D.Disk.only_now (IsReplyTo g.D.Disk) IsJustifiedBy (world_data c.self.inside) TakeGroup (Refused NothingToDo) (refl, refl, refl, (λ ms. refl), refl)
    (ap (λ why. or_nothing why (oldest c.self.inside.ring)) none ∙ ap (λ (gs : List GroupData). or_nothing None (oldest gs)) nothing, refl) (λ p h. tt))

pub returns : goal.returns
returns g c =
    let why : why_not_take c.self.inside.store ≡ None = sym c.can_take.ensures ∙ c.in_default.is in
    rw (← c.self.view_is) (taken g.D.Disk (world_data c.self.inside) c.in-Some-take.group why c.in-Some-take.ensures c.accept_group.ensures)
