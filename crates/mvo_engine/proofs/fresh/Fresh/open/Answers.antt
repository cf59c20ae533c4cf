use Rattle.mvo_engine.proofs.Begun.{opened_world}
use Rattle.mvo_engine.proofs.fresh.Fresh.open.Goals as goal

pub new-requires : goal.new-requires
new-requires g c =
    let e = c.in-Ok.ensures in
    opened_world g.D.Disk c.args.disk c.in-Ok.world e.content e.answer e.stands.0 e.stands.1
