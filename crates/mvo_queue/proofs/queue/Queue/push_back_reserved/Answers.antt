use Rattle.std.proofs.Common.{◌≡◌, ◌+◌, ◌-◌, ◌*◌, ◌<◌, ◌∷◌, [], ◌++◌, length, refl, ap, ◌∙◌, arith}
use Rattle.std.specs.Prelude.{flat_map}
use Rattle.std.proofs.lemmas.List.{length-set}
use Rattle.mvo_queue.proofs.Kept.{seen_room, piece_there, inner_free, items_pushed, pieces_pushed, same_queue}
use Rattle.mvo_queue.proofs.queue.Queue.push_back_reserved.Goals as goal

pub index_mut-requires : goal.index_mut-requires
index_mut-requires g c =
    let room : length c.self.inside.pieces.items * 128 - (c.self.inside.skipped + c.self.inside.len) ≡ c.args.self.now.room = seen_room c.self.invariant c.args.self.now _ c.self.view_is in
    let there : c.of-place.result.piece < length c.self.inside.pieces.items = piece_there c.self.invariant c.self.inside.len _ _ c.of-place.ensures (omega arith) in
    omega (arith, there, c.self.inside.pieces.ok.0)

pub push_back_reserved-requires : goal.push_back_reserved-requires
push_back_reserved-requires g c =
    let p = c.index_mut.result.now in
    let room : length c.self.inside.pieces.items * 128 - (c.self.inside.skipped + c.self.inside.len) ≡ c.args.self.now.room = seen_room c.self.invariant c.args.self.now _ c.self.view_is in
    let free : length p.items < p.cap = inner_free c.self.invariant c.self.inside.len _ _ c.of-place.ensures (omega arith) p c.index_mut.ensures.value refl in
    omega (arith, free, p.ok.0)

pub invariant_of-self : goal.invariant_of-self
invariant_of-self g c =
    let room : length c.self.inside.pieces.items * 128 - (c.self.inside.skipped + c.self.inside.len) ≡ c.args.self.now.room = seen_room c.self.invariant c.args.self.now _ c.self.view_is in
    pieces_pushed c.self.invariant c.self.inside.len _ _ c.of-place.ensures (omega arith) c.index_mut.result.now c.index_mut.ensures.value _ c.args.item refl c.push_back_reserved.ensures.items c.push_back_reserved.ensures.capacity

pub returns : goal.returns
returns g c =
    let room : length c.self.inside.pieces.items * 128 - (c.self.inside.skipped + c.self.inside.len) ≡ c.args.self.now.room = seen_room c.self.invariant c.args.self.now _ c.self.view_is in
    let pieces = length-set c.self.inside.pieces.items c.of-place.result.piece c.push_back_reserved.new.self in
    let inside = c.self.inside in
    let y = c.push_back_reserved.new.self in
    let items = items_pushed c.self.invariant inside.len _ _ c.of-place.ensures (omega arith) c.index_mut.result.now c.index_mut.ensures.value y c.args.item refl c.push_back_reserved.ensures.items in
    same_queue _ (flat_map (λ p. p.items) inside.pieces.items ++ c.args.item ∷ []) _ (length inside.pieces.items * 128 - (inside.skipped + inside.len) - 1)
    items
    (omega arith)
    ∙ ap (λ q. record { items = q.items ++ c.args.item ∷ []; room = q.room - 1 }) c.self.view_is
