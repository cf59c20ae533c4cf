use Rattle.mvo_engine.proofs.Flushed.{flush_of_one}
use Rattle.mvo_engine.proofs.store_guard.StoreGuard.flush_one.Goals as goal

pub returns-clause-flushed : goal.returns-clause-flushed
returns-clause-flushed g c = flush_of_one g.D.Disk c.args.self.now c.turn-came.result c.turn-came.new.log c.turn-came.ensures
