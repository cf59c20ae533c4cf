use Rattle.mvo_engine.proofs.engine.Engine.stats.Goals as goal

pub returns : goal.returns
returns g c = (
  _,
  c.deref.result.now,
  record {
    store_sound = c.stats-store.ensures.sound;
    store_stats = c.stats-store.ensures.stats;
    core_sound = c.stats-core.ensures.sound;
    core_stats = c.stats-core.ensures.stats;
  },
)
