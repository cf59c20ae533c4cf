use Rattle.std.proofs.Common.{sym, ◌∙◌}
use Rattle.mvo_engine.proofs.Jobs.{alone_with}
use Rattle.mvo_engine.proofs.engine.Engine.uncounted_in_turn.Goals as goal

pub returns-in-None : goal.returns-in-None
returns-in-None g c = alone_with g.D.Disk c.args.call c.one_call_in_turn.result (sym c.slices_of.ensures ∙ c.in-None.is) c.one_call_in_turn.ensures

pub returns-in-Some : goal.returns-in-Some
returns-in-Some g c = alone_with g.D.Disk c.args.call c.in_slices.result (sym c.slices_of.ensures ∙ c.in-Some.is) c.in_slices.ensures
