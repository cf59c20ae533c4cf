use Rattle.mvo_engine_tests.proofs.counts.a_number_is_counted_in_both.Given as goal

abbrev pub ghosts-count_three : goal.ghosts-count_three
ghosts-count_three g a = record { name = a.blank.name; parts = a.blank.parts }
