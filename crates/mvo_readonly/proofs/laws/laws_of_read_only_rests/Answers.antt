use Rattle.mvo_readonly.proofs.rests.Justifying.{whole_tells, whole_settles}
use Rattle.mvo_readonly.proofs.laws.laws_of_read_only_rests.Goals as goal

pub returns-clause-tells : goal.returns-clause-tells
returns-clause-tells c = λ whole own w call r f m. whole_tells whole own w f call r m

pub returns-clause-settles : goal.returns-clause-settles
returns-clause-settles c = λ whole own w t f m. whole_settles whole own w f t m
