use Rattle.std.proofs.Common.{◌<◌, length, ap, ◌∙◌, arith}
use Rattle.mvo_queue.proofs.Cuts.{read_at}
use Rattle.mvo_queue.proofs.Kept.{piece_there, got_there}
use Rattle.std.specs.Prelude.{slice_get}
use Rattle.mvo_queue.proofs.queue.Queue.get.Goals as goal

pub index-requires : goal.index-requires
index-requires g c =
    let there : c.of-place.result.piece < length c.self.inside.pieces.items = piece_there c.self.invariant c.args.at _ _ c.of-place.ensures (let within = c.self.invariant.within in omega arith) in
    omega (arith, there, c.self.inside.pieces.ok.0)

pub returns : goal.returns
returns g c =
    read_at _ _ _ c.get.ensures.item
    ∙ got_there c.self.invariant c.args.at _ _ c.of-place.ensures (let within = c.self.invariant.within in omega arith) c.index.result.now c.index.ensures
    ∙ ap (λ q. slice_get q.items c.args.at) c.self.view_is
