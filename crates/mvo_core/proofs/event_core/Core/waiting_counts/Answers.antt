use Rattle.mvo_core.proofs.event_core.Core.waiting_counts.Goals as goal

pub returns : goal.returns
returns c = rw (← c.self.view_is) (record {
  waiting = c.self.inside.waiting;
  all = c.self.invariant.waiting;
  dead = c.dead_count.ensures;
  ended = c.ended_count.ensures;
})
