use Rattle.std.proofs.Common.{arith, sym, ap, ◌∙◌}
use Rattle.mvo_store.specs.Seen.{mark_of}
use Rattle.mvo_engine.specs.States.{StoreState}
use Rattle.mvo_engine.proofs.locked_store.LockedStore.is_down.Goals as goal

pub returns-clause-down : goal.returns-clause-down
returns-clause-down g c = λ yes. record {
  state = c.confirm.new.self;
  sound = c.can_take.ensures.sound;
  covers = omega (arith, c.confirm.ensures.seen, ap (λ (s : StoreState g.row.D.Denot). mark_of s.store) c.confirm.ensures.store);
  down = sym c.can_take.ensures.why ∙ c.is_of_down.ensures yes;
}
