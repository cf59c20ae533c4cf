use Rattle.mvo_theory.proofs.Finished.{finishing_ends}
use Rattle.mvo_theory.proofs.laws.laws_of_finishing.Goals as goal

pub returns : goal.returns
returns c = finishing_ends
