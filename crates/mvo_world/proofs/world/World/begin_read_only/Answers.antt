use Rattle.std.proofs.Common.{ℕ, [], ◌∷◌, ◌++◌, append-nil, refl, ap}
use Rattle.mvo_model.specs.Trace.Step.{Begins}
use Rattle.mvo_readonly.specs.WholeCauses.WholeCall.{BeginReadOnly as BeginReadOnlyCall}
use Rattle.mvo_world.specs.View.{world_data}
use Rattle.mvo_world.proofs.Moves.{told}
use Rattle.mvo_world.proofs.Collecting.{as_many}
use Rattle.mvo_world.specs.declared.event.Event.TheVariants.{BeginReadOnly}
use Rattle.mvo_world.specs.declared.reply.Reply.TheVariants.{Began, Refused}
use Rattle.mvo_world.proofs.Sound.{next_stamp, sound_told}
use Rattle.mvo_world.proofs.world.World.begin_read_only.Goals as goal

pub invariant_of-self : goal.invariant_of-self
invariant_of-self g c = sound_told (world_data c.self.inside) c.self.invariant BeginReadOnlyCall c.begin_read_only.result c.begin_read_only.ensures.whole tt

pub returns : goal.returns
returns g c =
    elim c.match-begin_read_only.branch [
      | goal.in-Ok w ↦ rw (w.result-is, ← c.self.view_is) (
          let drawn = next_stamp (world_data c.self.inside) w.in-Ok.tx.0 w.in-Ok.ensures.id in
          told g.D.Disk g.met.D.Disk.only_now (world_data c.self.inside) w.in-Ok.ensures.whole (λ asked. (asked, drawn)) (λ o xs ys s h. (ap (λ (n : ℕ). Begins n ∷ []) (drawn o xs ys s h), (λ ms. refl), λ ids. ap (λ (n : ℕ). ids ++ n ∷ []) (drawn o xs ys s h))) (as_many c.self.inside.core c.begin_read_only.new.self BeginReadOnly (Began w.in-Ok.tx) tt w.in-Ok.ensures.count) (refl, refl, tt))
      | goal.in-Err w ↦ rw (w.result-is, ← c.self.view_is) (told g.D.Disk g.met.D.Disk.only_now (world_data c.self.inside) w.in-Err.ensures.whole (λ asked. asked) (λ o xs ys s h. (refl, (λ ms. refl), append-nil)) (as_many c.self.inside.core c.begin_read_only.new.self BeginReadOnly (Refused w.in-Err.refusal) tt w.in-Err.ensures.count) (refl, refl, tt))
    ]
