use Rattle.std.proofs.Common.{ℕ, [], ◌∷◌, append-nil, refl, ap}
use Rattle.mvo_model.specs.Trace.Step.{Begins}
use Rattle.mvo_world.specs.View.{world_data}
use Rattle.mvo_world.proofs.Moves.{told}
use Rattle.mvo_world.proofs.Collecting.{as_many}
use Rattle.mvo_world.specs.declared.event.Event.TheVariants.{Begin}
use Rattle.mvo_world.specs.declared.reply.Reply.TheVariants.{Began, Refused}
use Rattle.mvo_world.proofs.Sound.{next_stamp, sound_asked}
use Rattle.mvo_world.proofs.world.World.begin.Goals as goal

pub invariant_of-self : goal.invariant_of-self
invariant_of-self g c = sound_asked (world_data c.self.inside) c.self.invariant c.begin_tx.result c.begin_tx.ensures.whole refl

pub returns : goal.returns
returns g c =
    elim c.match-begin_tx.branch [
      | goal.in-Ok w ↦ rw (w.result-is, ← c.self.view_is) (
          let drawn = next_stamp (world_data c.self.inside) w.in-Ok.tx.0 w.in-Ok.ensures.id in
          told g.D.Disk g.met.D.Disk.only_now (world_data c.self.inside) w.in-Ok.ensures.whole (λ asked. (asked, drawn)) (λ o xs ys s h. (ap (λ (n : ℕ). Begins n ∷ []) (drawn o xs ys s h), (λ ms. refl), append-nil)) (as_many c.self.inside.core c.begin_tx.new.self Begin (Began w.in-Ok.tx) tt w.in-Ok.ensures.count) (refl, refl, tt))
      | goal.in-Err w ↦ rw (w.result-is, ← c.self.view_is) (told g.D.Disk g.met.D.Disk.only_now (world_data c.self.inside) w.in-Err.ensures.whole (λ asked. asked) (λ o xs ys s h. (refl, (λ ms. refl), append-nil)) (as_many c.self.inside.core c.begin_tx.new.self Begin (Refused w.in-Err.refusal) tt w.in-Err.ensures.count) (refl, refl, tt))
    ]
