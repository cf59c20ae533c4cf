use Rattle.mvo_engine.proofs.run.counting.count.Given as goal

abbrev pub ghosts-add_weight : goal.ghosts-add_weight
ghosts-add_weight g a = record { weight = g.L.Run.watched.weigh a.receipt.now }
