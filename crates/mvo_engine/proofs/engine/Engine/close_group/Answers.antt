use Rattle.std.proofs.Common.{arith}
use Rattle.mvo_engine.proofs.Flushed.{past_of}
use Rattle.mvo_engine.proofs.engine.Engine.close_group.Goals as goal

pub returns-in-Ok : goal.returns-in-Ok
returns-in-Ok g c = (c.deref_mut.result.now, c.close_group.new.self, c.close_group.result, c.close_group.ensures, past_of c.close_group.result (λ e is a b. grind (arith, is)))

pub returns-in-Err-NothingToDo : goal.returns-in-Err-NothingToDo
returns-in-Err-NothingToDo g c = (c.deref_mut.result.now, c.close_group.new.self, c.close_group.result, c.close_group.ensures, past_of c.close_group.result (λ e is a b. grind (arith, is, a, b)))
