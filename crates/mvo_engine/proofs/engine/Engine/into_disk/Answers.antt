use Rattle.std.proofs.Common.{subst}
use Rattle.mvo_engine.specs.Ending.{HasShutDown}
use Rattle.mvo_engine.specs.States.{StoreState}
use Rattle.mvo_engine.proofs.engine.Engine.into_disk.Goals as goal

pub returns : goal.returns
returns g c = record {
  core = c.into_inner.result;
  store = c.into_inner-store.result;
  end = subst (λ (s : StoreState g.row.D.Denot). HasShutDown g.D.Disk g.L.Run.opening c.into_inner.result s c.shut_down.result) c.confirm_all.ensures.store c.shut_down.ensures;
  covers = c.confirm_all.ensures.covers;
}
