use Rattle.mvo_engine.proofs.Lasting.{not_flushed_so}
use Rattle.mvo_engine.proofs.engine.Engine.flush_next.Goals as goal

pub returns : goal.returns
returns g c =
    not_flushed_so g.D.Disk c.guard_store-store.result c.flush_one-came.new.self c.flush_one-came.result c.in-Err.refusal c.in-Err.is c.flush_one-came.ensures.steps c.flush_one-came.ensures.flushed
