use Rattle.std.proofs.Common.{◌≡◌, ◌+◌, ◌-◌, ◌*◌, ◌<◌, length, refl, ap, ◌∙◌, arith}
use Rattle.std.specs.Prelude.{slice_set, flat_map}
use Rattle.std.specs.VecDeque.{deque_with_item}
use Rattle.std.proofs.lemmas.List.{length-set}
use Rattle.mvo_queue.proofs.Kept.{seen_len, piece_there, inner_there, items_set, pieces_set, same_queue}
use Rattle.mvo_queue.proofs.queue.Queue.set.Goals as goal

pub index_mut-requires : goal.index_mut-requires
index_mut-requires g c =
    let count : c.self.inside.len ≡ length c.args.self.now.items = seen_len c.self.invariant c.args.self.now _ c.self.view_is in
    let within = c.self.invariant.within in
    let there : c.of-place.result.piece < length c.self.inside.pieces.items = piece_there c.self.invariant c.args.at _ _ c.of-place.ensures (omega arith) in
    omega (arith, there, c.self.inside.pieces.ok.0)

pub index_mut-requires-2 : goal.index_mut-requires-2
index_mut-requires-2 g c =
    let p = c.index_mut.result.now in
    let count : c.self.inside.len ≡ length c.args.self.now.items = seen_len c.self.invariant c.args.self.now _ c.self.view_is in
    let within = c.self.invariant.within in
    let inside = c.self.invariant.count in
    let there : c.of-place.result.inner < length p.items = inner_there c.self.invariant c.args.at _ _ c.of-place.ensures (omega arith) p c.index_mut.ensures.value (omega arith) in
    omega (arith, there, p.ok.0)

pub invariant_of-self : goal.invariant_of-self
invariant_of-self g c =
    let count : c.self.inside.len ≡ length c.args.self.now.items = seen_len c.self.invariant c.args.self.now _ c.self.view_is in
    let within = c.self.invariant.within in
    pieces_set c.self.invariant c.args.at _ _ c.of-place.ensures (omega arith) c.index_mut.result.now c.index_mut.ensures.value _ c.args.item refl refl

pub returns : goal.returns
returns g c =
    let count : c.self.inside.len ≡ length c.args.self.now.items = seen_len c.self.invariant c.args.self.now _ c.self.view_is in
    let within = c.self.invariant.within in
    let p = c.index_mut.result.now in
    let inside = c.self.inside in
    let y = deque_with_item p c.of-place.result.inner c.args.item in
    let pieces = length-set inside.pieces.items c.of-place.result.piece y in
    same_queue _ (slice_set (flat_map (λ q. q.items) inside.pieces.items) c.args.at c.args.item) _ (length inside.pieces.items * 128 - (inside.skipped + inside.len))
    (items_set c.self.invariant c.args.at _ _ c.of-place.ensures (omega arith) p c.index_mut.ensures.value y c.args.item refl)
    (omega arith)
    ∙ ap (λ q. record { items = slice_set q.items c.args.at c.args.item; room = q.room }) c.self.view_is
