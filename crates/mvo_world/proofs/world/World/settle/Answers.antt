use Rattle.std.proofs.Common.{refl, append-nil}
use Rattle.mvo_world.specs.View.{world_data}
use Rattle.mvo_world.proofs.Justified.{settled, refused_is}
use Rattle.mvo_theory.specs.Calls.Call.{Settle as SettleCall}
use Rattle.mvo_world.proofs.Moves.{told}
use Rattle.mvo_world.proofs.Collecting.{as_many}
use Rattle.mvo_world.specs.declared.event.Event.TheVariants.{Settle}
use Rattle.mvo_world.specs.declared.reply.Reply.TheVariants.{Settled, Refused}
use Rattle.mvo_world.proofs.Sound.{sound_asked}
use Rattle.mvo_world.proofs.world.World.settle.Goals as goal

pub invariant_of-self : goal.invariant_of-self
invariant_of-self g c = sound_asked (world_data c.self.inside) c.self.invariant c.settle.result c.settle.ensures.whole refl

pub returns : goal.returns
returns g c =
    elim c.match-settle.branch [
      | goal.in-Ok w ↦ rw (w.result-is, ← c.self.view_is) (told g.D.Disk g.met.D.Disk.only_now (world_data c.self.inside) w.in-Ok.ensures.whole (λ asked. (asked, w.in-Ok.ensures.whole_answer)) (λ o xs ys s h. (settled s c.args.tx w.in-Ok.settlement (w.in-Ok.ensures.whole_answer o xs ys s h), (λ ms. refl), append-nil)) (as_many c.self.inside.core c.settle.new.self (Settle c.args.tx) (Settled w.in-Ok.settlement) tt w.in-Ok.ensures.count) (refl, refl, tt))
      | goal.in-Err w ↦ rw (w.result-is, ← c.self.view_is) (told g.D.Disk g.met.D.Disk.only_now (world_data c.self.inside) w.in-Err.ensures.whole (λ asked. asked) (λ o xs ys s h. (refused_is s (SettleCall c.args.tx.0) w.in-Err.refusal, (λ ms. refl), append-nil)) (as_many c.self.inside.core c.settle.new.self (Settle c.args.tx) (Refused w.in-Err.refusal) tt w.in-Err.ensures.count) (refl, refl, tt))
    ]
