use Rattle.std.proofs.Common.{refl, append-nil}
use Rattle.mvo_world.specs.View.{world_data}
use Rattle.mvo_theory.specs.Calls.Call.{Rollback as RollbackCall}
use Rattle.mvo_world.proofs.Justified.{undone, refused_is}
use Rattle.mvo_world.proofs.Moves.{told}
use Rattle.mvo_world.proofs.Collecting.{as_many}
use Rattle.mvo_world.specs.declared.event.Event.TheVariants.{Rollback}
use Rattle.mvo_world.specs.declared.reply.Reply.TheVariants.{RolledBack, Refused}
use Rattle.mvo_world.proofs.Sound.{sound_asked}
use Rattle.mvo_world.proofs.world.World.roll_back.Goals as goal

pub invariant_of-self : goal.invariant_of-self
invariant_of-self g c = sound_asked (world_data c.self.inside) c.self.invariant c.rollback_tx.result c.rollback_tx.ensures.whole refl

pub returns : goal.returns
returns g c =
    elim c.match-rollback_tx.branch [
      | goal.in-Ok w ↦ rw (w.result-is, ← c.self.view_is) (told g.D.Disk g.met.D.Disk.only_now (world_data c.self.inside) w.in-Ok.ensures.whole (λ asked. asked) (λ o xs ys s h. (undone s c.args.tx, (λ ms. refl), append-nil)) (as_many c.self.inside.core c.rollback_tx.new.self (Rollback c.args.tx) RolledBack tt w.in-Ok.ensures.count) (refl, refl, tt))
      | goal.in-Err w ↦ rw (w.result-is, ← c.self.view_is) (told g.D.Disk g.met.D.Disk.only_now (world_data c.self.inside) w.in-Err.ensures.whole (λ asked. asked) (λ o xs ys s h. (refused_is s (RollbackCall c.args.tx.0) w.in-Err.refusal, (λ ms. refl), append-nil)) (as_many c.self.inside.core c.rollback_tx.new.self (Rollback c.args.tx) (Refused w.in-Err.refusal) tt w.in-Err.ensures.count) (refl, refl, tt))
    ]
