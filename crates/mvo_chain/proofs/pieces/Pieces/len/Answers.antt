use Rattle.std.proofs.Common.{sym, ap, ◌∙◌, length}
use Rattle.mvo_chain.proofs.Pieced.{length-joined}
use Rattle.mvo_chain.proofs.pieces.Pieces.len.Goals as goal

pub returns : goal.returns
returns g c = sym (length-joined _ 1024 c.self.inside.pieces.items c.self.inside.len c.self.invariant) ∙ ap length c.self.view_is
