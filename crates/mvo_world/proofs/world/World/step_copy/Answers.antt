use Rattle.std.proofs.Common.{inr, refl}
use Rattle.mvo_types.specs.declared.refusal.Refusal.TheVariants.{OutOfMemory}
use Rattle.mvo_world.specs.Replies.{IsCopiedReplyTo}
use Rattle.mvo_world.specs.Justified.{IsCopyJustifiedBy}
use Rattle.mvo_world.specs.declared.reply.Reply.TheVariants.{Refused}
use Rattle.mvo_world.proofs.Moves.{silent_copy, still}
use Rattle.mvo_world.proofs.world.World.step_copy.Goals as goal

pub returns-in-Err : goal.returns-in-Err
returns-in-Err g c =
    let e = c.args.event.now in
    still g.D.Disk g.met.D.Disk.only_now (IsCopiedReplyTo g.D.Disk) IsCopyJustifiedBy c.args.self.now e (Refused OutOfMemory) (silent_copy e c.in-Err.ensures.memory)
    (inr (record { row = c.in-Err.ensures.memory; reply = refl; same = refl })) (λ p h. inr (c.in-Err.ensures.memory, refl))
