use Rattle.mvo_readonly.proofs.rests.Answering.{clock_drawn, answers_whole, checks_whole, settles_at_end}
use Rattle.mvo_readonly.proofs.laws.laws_of_read_only_answers.Goals as goal

pub returns-clause-clock : goal.returns-clause-clock
returns-clause-clock c = clock_drawn

pub returns-clause-answers : goal.returns-clause-answers
returns-clause-answers c = λ whole own w t op f m. answers_whole whole own w f t op m

pub returns-clause-checks : goal.returns-clause-checks
returns-clause-checks c = λ whole own w t f m. checks_whole whole own w f t m

pub returns-clause-ends : goal.returns-clause-ends
returns-clause-ends c = λ whole own w t f m. settles_at_end whole own w f t m
