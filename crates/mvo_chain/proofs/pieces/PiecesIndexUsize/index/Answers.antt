use Rattle.std.proofs.Common.{◌/◌, ◌%◌, ◌<◌, ◌∙◌, length, arith}
use Rattle.mvo_chain.proofs.Pieced.{piece_there, place_there, item_there}
use Rattle.mvo_chain.proofs.pieces.PiecesIndexUsize.index.Goals as goal

pub index-requires : goal.index-requires
index-requires g c =
    let there : c.args.at / 1024 < length c.self.inside.pieces.items = piece_there _ 1024 (omega arith) c.self.inside.pieces.items c.self.inside.len c.self.invariant c.args.self.now c.self.view_is c.args.at c.requires in
    omega (arith, there, c.self.inside.pieces.ok.0)

pub index-requires-2 : goal.index-requires-2
index-requires-2 g c =
    let p = c.index.result.now in
    let there : c.args.at % 1024 < length p.items = place_there _ 1024 (omega arith) c.self.inside.pieces.items c.self.inside.len c.self.invariant c.args.self.now c.self.view_is c.args.at c.requires p c.index.ensures in
    omega (arith, there, p.ok.0)

pub returns : goal.returns
returns g c =
    c.index-2.ensures
    ∙ item_there _ 1024 (omega arith) c.self.inside.pieces.items c.self.inside.len c.self.invariant c.args.self.now c.self.view_is c.args.at c.requires c.index.result.now c.index.ensures c.index-2.result.now
