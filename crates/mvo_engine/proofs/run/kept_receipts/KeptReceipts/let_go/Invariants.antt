use Rattle.mvo_engine.specs.run.Receiving.{HasLetGo}
use Rattle.mvo_engine.proofs.run.kept_receipts.KeptReceipts.let_go.Given as goal

abbrev pub invariant-loop-n : goal.invariant-loop-n
invariant-loop-n l = HasLetGo l.fn.start.0 l.n l.fn.self.list l.n l.self.list
