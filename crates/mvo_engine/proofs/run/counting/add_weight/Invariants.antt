use Rattle.mvo_engine.proofs.run.counting.add_weight.Given as goal

abbrev pub ghost-add_known : goal.ghost-add_known
ghost-add_known g a = g.W.Weight.weight
