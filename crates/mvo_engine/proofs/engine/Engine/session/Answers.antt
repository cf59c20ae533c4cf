use Rattle.mvo_engine.proofs.engine.Engine.session.Goals as goal

pub returns-in-Some-clause-made : goal.returns-in-Some-clause-made
returns-in-Some-clause-made g c = (c.deref_mut.result.now, c.another.new.self, c.another.ensures.sound, c.in-Some.ensures.made)

pub returns-clause-made : goal.returns-clause-made
returns-clause-made g c = (c.deref_mut.result.now, c.another.new.self, c.another.ensures.sound, c.in-None.ensures.made)
