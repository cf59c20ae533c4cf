use Rattle.std.proofs.Common.{◌∙◌}
use Rattle.mvo_txn.proofs.Seated.{len_is}
use Rattle.mvo_txn.proofs.seats.Seats.len.Goals as goal

pub returns : goal.returns
returns g c = c.len.ensures ∙ len_is c.self.inside.directory c.self.inside.chairs c.args.self.now c.self.invariant c.self.view_is
