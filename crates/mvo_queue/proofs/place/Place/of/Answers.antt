use Rattle.std.proofs.Common.{arith}
use Rattle.mvo_queue.proofs.Cuts.{in_piece}
use Rattle.mvo_queue.proofs.place.Place.of.Goals as goal

pub returns-else-piece-eq0 : goal.returns-else-piece-eq0
returns-else-piece-eq0 c = in_piece 128 c.args.skipped c.args.at _ _ c.requires.first (omega arith) (let some = c.if-piece-eq0.false in omega arith) (omega arith)
