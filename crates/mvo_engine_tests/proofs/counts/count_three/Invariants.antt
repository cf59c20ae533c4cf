use Rattle.mvo_engine_tests.proofs.counts.count_three.Given as goal

abbrev pub ghost-counted : goal.ghost-counted
ghost-counted g a = 3
