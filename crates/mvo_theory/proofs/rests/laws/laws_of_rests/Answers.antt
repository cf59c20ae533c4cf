use Rattle.mvo_theory.proofs.rests.Knowing.{known_opened, known_after_call}
use Rattle.mvo_theory.proofs.rests.Telling.{told_rests, told_settling}
use Rattle.mvo_theory.proofs.rests.laws.laws_of_rests.Goals as goal

pub returns-clause-tells : goal.returns-clause-tells
returns-clause-tells c = λ course s call r k h m. told_rests course s k h call r m

pub returns-clause-settles : goal.returns-clause-settles
returns-clause-settles c = λ course s t k h m. told_settling course s k h t m

pub returns-clause-opens : goal.returns-clause-opens
returns-clause-opens c = known_opened

pub returns-clause-keeps : goal.returns-clause-keeps
returns-clause-keeps c = known_after_call
