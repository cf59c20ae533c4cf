use Rattle.mvo_engine.proofs.engine.Engine.opening_in_turn.Goals as goal

pub returns : goal.returns
returns g c = rw c.installed_by.ensures (_, _, c.open_installed-opened.ensures.call)
