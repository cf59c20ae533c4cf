use Rattle.std.proofs.Common.{sym, ◌∙◌}
use Rattle.mvo_engine.proofs.Jobs.{opens_alone}
use Rattle.mvo_engine.proofs.engine.Engine.one_call_in_turn.Goals as goal

pub returns-then-opens_a_manifest : goal.returns-then-opens_a_manifest
returns-then-opens_a_manifest g c = opens_alone g.D.Disk c.args.call c.opening_in_turn.result (sym c.opens_a_manifest.ensures ∙ c.if-opens_a_manifest.true) c.opening_in_turn.ensures
