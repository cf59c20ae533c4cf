use Rattle.mvo_front.proofs.Moves.{merges}
use Rattle.mvo_front.proofs.front.Front.dismiss.Goals as goal

pub absorb-requires-clause-rule : goal.absorb-requires-clause-rule
absorb-requires-clause-rule g c = merges _ _ _ _
