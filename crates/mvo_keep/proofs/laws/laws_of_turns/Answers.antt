use Rattle.mvo_keep.proofs.Serving.{nobody_starves}
use Rattle.mvo_keep.proofs.laws.laws_of_turns.Goals as goal

pub returns : goal.returns
returns c = nobody_starves
