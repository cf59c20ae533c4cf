use Rattle.std.proofs.Common.{◌/◌, ◌%◌, ◌<◌, ◌∙◌, length, refl, arith}
use Rattle.std.proofs.lemmas.List.{length-set}
use Rattle.mvo_chain.proofs.Pieced.{piece_there, place_there, still_pieced, set_there, item_there}
use Rattle.mvo_chain.proofs.pieces.PiecesIndexMutUsize.index_mut.Goals as goal

pub index_mut-requires : goal.index_mut-requires
index_mut-requires g c =
    let there : c.args.at / 1024 < length c.self.inside.pieces.items = piece_there _ 1024 (omega arith) c.self.inside.pieces.items c.self.inside.len c.self.invariant c.args.self.now c.self.view_is c.args.at c.requires in
    omega (arith, there, c.self.inside.pieces.ok.0)

pub index_mut-requires-2 : goal.index_mut-requires-2
index_mut-requires-2 g c =
    let p = c.index_mut.result.now in
    let there : c.args.at % 1024 < length p.items = place_there _ 1024 (omega arith) c.self.inside.pieces.items c.self.inside.len c.self.invariant c.args.self.now c.self.view_is c.args.at c.requires p c.index_mut.ensures.value in
    omega (arith, there, p.ok.0)

pub invariant_of-self-lent : goal.invariant_of-self-lent
invariant_of-self-lent g c = λ w.
    let p = c.index_mut.result.now in
    still_pieced _ 1024 (omega arith) c.self.inside.pieces.items c.self.inside.len c.self.invariant c.args.self.now c.self.view_is c.args.at c.requires p c.index_mut.ensures.value _ (length-set p.items (c.args.at % 1024) w)

pub returns : goal.returns
returns g c =
    let p = c.index_mut.result.now in (
      (
        refl,
        λ w. set_there _ 1024 (omega arith) c.self.inside.pieces.items c.self.inside.len c.self.invariant c.args.self.now c.self.view_is c.args.at c.requires p c.index_mut.ensures.value _ w refl,
      ),
      record {
        writes_back = tt;
        value =
            c.index_mut-2.ensures.value
            ∙ item_there _ 1024 (omega arith) c.self.inside.pieces.items c.self.inside.len c.self.invariant c.args.self.now c.self.view_is c.args.at c.requires p c.index_mut.ensures.value c.index_mut-2.result.now;
      },
    )
