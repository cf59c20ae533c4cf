use Rattle.mvo_engine.proofs.SentRows.{audited}
use Rattle.mvo_engine.proofs.locked_core.LockedCore.audit.Goals as goal

pub returns-clause-audited : goal.returns-clause-audited
returns-clause-audited g c =
    let e = c.audit.ensures in
    rw (← c.self.view_is) (audited c.self.invariant.0 g.D.Disk c.self.inside.made c.self.inside.sends.raised c.args.store.now e.begins.0 e.begins.1 e.images)
