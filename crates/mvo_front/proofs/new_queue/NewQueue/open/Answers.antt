use Rattle.mvo_front.proofs.Moves.{starts}
use Rattle.mvo_front.proofs.new_queue.NewQueue.open.Goals as goal

pub bounded_with-requires-clause-rule : goal.bounded_with-requires-clause-rule
bounded_with-requires-clause-rule c = starts
