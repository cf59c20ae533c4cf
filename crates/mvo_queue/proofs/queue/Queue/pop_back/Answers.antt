use Rattle.std.proofs.Common.{◌≡◌, ℕ, ◌+◌, ◌-◌, ◌*◌, ◌<◌, Some, length, get_or, take, ap, ◌∙◌, arith}
use Rattle.std.specs.Prelude.{slice_get}
use Rattle.std.proofs.lemmas.List.{length-set, length-take}
use Rattle.mvo_queue.proofs.Cuts.{read_value}
use Rattle.mvo_queue.proofs.Kept.{seen_len, seen_room, piece_there, got_there, inner_last, items_popped, pieces_popped}
use Rattle.mvo_queue.proofs.queue.Queue.pop_back.Goals as goal

pub index_mut-requires : goal.index_mut-requires
index_mut-requires g c =
    let within = c.self.invariant.within in
    let there : c.of-place.result.piece < length c.self.inside.pieces.items = piece_there c.self.invariant (c.self.inside.len - 1) _ _ c.of-place.ensures (omega arith) in
    omega (arith, there, c.self.inside.pieces.ok.0)

pub invariant_of-self : goal.invariant_of-self
invariant_of-self g c =
    let p = c.index_mut.result.now in
    let within = c.self.invariant.within in
    pieces_popped c.self.invariant (c.self.inside.len - 1) _ _ c.of-place.ensures (omega arith) p c.index_mut.ensures.value _ (omega arith)
    (c.pop_back.ensures.rest ∙ ap (λ (n : ℕ). take (n - 1) p.items) p.ok.0) c.pop_back.ensures.capacity

pub returns-clause-item : goal.returns-clause-item
returns-clause-item g c =
    let p = c.index_mut.result.now in
    let within = c.self.invariant.within in
    let inside = c.self.invariant.count in
    let count : c.self.inside.len ≡ length c.args.self.now.items = seen_len c.self.invariant c.args.self.now _ c.self.view_is in
    let last : length p.items ≡ c.of-place.result.inner + 1 = inner_last c.self.invariant (c.self.inside.len - 1) _ _ c.of-place.ensures (omega arith) p c.index_mut.ensures.value (omega arith) in
    read_value p.items c.of-place.result.inner c.pop_back.result (omega (arith, last)) (λ d. c.pop_back.ensures.value d (omega (arith, last, p.ok.0)) ∙ ap (λ (n : ℕ). Some (get_or p.items n d)) (omega (arith, last, p.ok.0)))
    ∙ got_there c.self.invariant (c.self.inside.len - 1) _ _ c.of-place.ensures (omega arith) p c.index_mut.ensures.value
    ∙ ap (λ q. slice_get q.items (c.self.inside.len - 1)) c.self.view_is
    ∙ ap (λ (n : ℕ). slice_get c.args.self.now.items (n - 1)) count

pub returns-clause-rest : goal.returns-clause-rest
returns-clause-rest g c =
    let p = c.index_mut.result.now in
    let within = c.self.invariant.within in
    let count : c.self.inside.len ≡ length c.args.self.now.items = seen_len c.self.invariant c.args.self.now _ c.self.view_is in
    items_popped c.self.invariant (c.self.inside.len - 1) _ _ c.of-place.ensures (omega arith) p c.index_mut.ensures.value _ (omega arith)
    (c.pop_back.ensures.rest ∙ ap (λ (n : ℕ). take (n - 1) p.items) p.ok.0)
    ∙ ap (λ q. take (c.self.inside.len - 1) q.items) c.self.view_is
    ∙ ap (λ (n : ℕ). take (n - 1) c.args.self.now.items) count

pub returns-clause-room : goal.returns-clause-room
returns-clause-room g c =
    let within = c.self.invariant.within in
    let count : c.self.inside.len ≡ length c.args.self.now.items = seen_len c.self.invariant c.args.self.now _ c.self.view_is in
    let room : length c.self.inside.pieces.items * 128 - (c.self.inside.skipped + c.self.inside.len) ≡ c.args.self.now.room = seen_room c.self.invariant c.args.self.now _ c.self.view_is in
    let pieces = length-set c.self.inside.pieces.items c.of-place.result.piece c.pop_back.new.self in
    let rest = ap length (returns-clause-rest g c) in
    let less = length-take (length c.args.self.now.items - 1) c.args.self.now.items in
    omega arith
