use Rattle.mvo_front.proofs.Moves.{settles}
use Rattle.mvo_front.proofs.front.Front.settle.Goals as goal

pub learn_as-requires-clause-rule : goal.learn_as-requires-clause-rule
learn_as-requires-clause-rule g c = settles _ _
