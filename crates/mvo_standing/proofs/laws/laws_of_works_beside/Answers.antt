use Rattle.mvo_standing.proofs.Beside.{opens_beside, called_beside, begun_beside, told_beside, forgotten_beside}
use Rattle.mvo_standing.proofs.laws.laws_of_works_beside.Goals as goal

pub returns-clause-opens : goal.returns-clause-opens
returns-clause-opens c = opens_beside

pub returns-clause-stays : goal.returns-clause-stays
returns-clause-stays c = λ opening steps s works call r h by may leaves. called_beside opening steps s works h call r by may leaves

pub returns-clause-begins : goal.returns-clause-begins
returns-clause-begins c = λ opening steps s works h may. begun_beside opening steps s works h may

pub returns-clause-told : goal.returns-clause-told
returns-clause-told c = λ opening steps s works t op more h may told. told_beside opening steps s works h t op more may told

pub returns-clause-forgotten : goal.returns-clause-forgotten
returns-clause-forgotten c = λ opening steps s works t more h apart told. forgotten_beside opening steps s works h more t apart told
