use Rattle.mvo_engine_tests.proofs.counts.counted.Given as goal

abbrev pub ghost-add_known : goal.ghost-add_known
ghost-add_known g a = g.more
