use Rattle.std.proofs.Common.{refl, append-nil}
use Rattle.mvo_world.specs.View.{world_data}
use Rattle.mvo_world.proofs.Moves.{told}
use Rattle.mvo_world.proofs.Collecting.{as_many}
use Rattle.mvo_world.specs.declared.event.Event.TheVariants.{Trim}
use Rattle.mvo_world.specs.declared.reply.Reply.TheVariants.{Trimmed, Refused}
use Rattle.mvo_world.proofs.Sound.{sound_asked}
use Rattle.mvo_world.proofs.world.World.trim.Goals as goal

pub invariant_of-self : goal.invariant_of-self
invariant_of-self g c = sound_asked (world_data c.self.inside) c.self.invariant c.trim_tale.result c.trim_tale.ensures.whole refl

pub returns : goal.returns
returns g c =
    elim c.match-trim_tale.branch [
      | goal.in-Ok w ↦ rw (w.result-is, ← c.self.view_is) (told g.D.Disk g.met.D.Disk.only_now (world_data c.self.inside) w.in-Ok.ensures.whole (λ asked. (refl, record { asked = asked; forgets = w.in-Ok.ensures.forgets })) (λ o xs ys s h. (refl, (λ ms. refl), append-nil)) (as_many c.self.inside.core c.trim_tale.new.self (Trim c.args.upto) (Trimmed c.args.upto) tt w.in-Ok.ensures.count) (refl, refl, tt))
      | goal.in-Err w ↦ rw (w.result-is, ← c.self.view_is) (told g.D.Disk g.met.D.Disk.only_now (world_data c.self.inside) w.in-Err.ensures.whole (λ asked. (w.in-Err.ensures.err, asked)) (λ o xs ys s h. (refl, (λ ms. refl), append-nil)) (as_many c.self.inside.core c.trim_tale.new.self (Trim c.args.upto) (Refused w.in-Err.refusal) tt w.in-Err.ensures.count) (refl, refl, tt))
    ]
