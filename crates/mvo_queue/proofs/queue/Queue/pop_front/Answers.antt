use Rattle.std.proofs.Common.{◌≡◌, ℕ, ◌+◌, ◌-◌, ◌*◌, ◌<◌, length, set, drop, refl, sym, ap, ◌∙◌, subst, arith}
use Rattle.std.specs.Prelude.{slice_get, flat_map}
use Rattle.mvo_queue.specs.Queue.{IsInPieces}
use Rattle.std.proofs.lemmas.List.{length-set, length-drop}
use Rattle.std.proofs.lemmas.Option.{slice_get_past}
use Rattle.mvo_queue.proofs.Cuts.{read_value, none_goes}
use Rattle.mvo_queue.proofs.Kept.{seen_len, got_there, inner_there, first_there, items_front, items_used, pieces_used, same_queue}
use Rattle.mvo_queue.proofs.queue.Queue.pop_front.Goals as goal

pub index_mut-requires : goal.index_mut-requires
index_mut-requires g c =
    let there : 0 < length c.self.inside.pieces.items = first_there c.self.invariant (omega arith) in
    omega (arith, there, c.self.inside.pieces.ok.0)

pub invariant_of-self : goal.invariant_of-self
invariant_of-self g c =
    subst (λ ps. IsInPieces (λ p. p.items) (λ p. p.cap) 128 0 (c.self.inside.len - 1) ps) (sym c.pop_front.ensures.rest)
    (pieces_used c.self.invariant (omega arith) c.index_mut.result.now c.pop_front-item.new.self c.index_mut.ensures.value c.pop_front-item.ensures.rest c.if-self-eq-PIECE.true)

pub returns-then-self-eq-PIECE-clause-item : goal.returns-then-self-eq-PIECE-clause-item
returns-then-self-eq-PIECE-clause-item g c =
    let p = c.index_mut.result.now in
    let within = c.self.invariant.within in
    let first = c.self.invariant.first in
    let inside = c.self.invariant.count in
    let some : 0 < length p.items = inner_there c.self.invariant 0 0 0 (refl, omega arith) (omega arith) p c.index_mut.ensures.value (omega arith) in
    read_value p.items 0 c.pop_front-item.result some (λ d. c.pop_front-item.ensures.value d (omega (arith, some, p.ok.0)))
    ∙ got_there c.self.invariant 0 0 0 (refl, omega arith) (omega arith) p c.index_mut.ensures.value
    ∙ ap (λ q. slice_get q.items 0) c.self.view_is

pub returns-else-self-eq-PIECE-clause-item : goal.returns-else-self-eq-PIECE-clause-item
returns-else-self-eq-PIECE-clause-item g c =
    let p = c.index_mut.result.now in
    let within = c.self.invariant.within in
    let first = c.self.invariant.first in
    let inside = c.self.invariant.count in
    let some : 0 < length p.items = inner_there c.self.invariant 0 0 0 (refl, omega arith) (omega arith) p c.index_mut.ensures.value (omega arith) in
    read_value p.items 0 c.pop_front-item.result some (λ d. c.pop_front-item.ensures.value d (omega (arith, some, p.ok.0)))
    ∙ got_there c.self.invariant 0 0 0 (refl, omega arith) (omega arith) p c.index_mut.ensures.value
    ∙ ap (λ q. slice_get q.items 0) c.self.view_is

pub returns-then-self-eq-PIECE-clause-rest : goal.returns-then-self-eq-PIECE-clause-rest
returns-then-self-eq-PIECE-clause-rest g c =
    let inside = c.self.inside in
    let within = c.self.invariant.within in
    let y = c.pop_front-item.new.self in
    let pieces = ap length c.pop_front.ensures.rest ∙ length-drop 1 (set inside.pieces.items 0 y) ∙ ap (λ (n : ℕ). n - 1) (length-set inside.pieces.items 0 y) in
    same_queue _ (drop 1 (flat_map (λ q. q.items) inside.pieces.items)) _ (length inside.pieces.items * 128 - (inside.skipped + inside.len))
    (ap (flat_map (λ q. q.items)) c.pop_front.ensures.rest
    ∙ items_used c.self.invariant (omega arith) c.index_mut.result.now y c.index_mut.ensures.value c.pop_front-item.ensures.rest c.if-self-eq-PIECE.true)
    (omega arith)
    ∙ ap (λ q. record { items = drop 1 q.items; room = q.room }) c.self.view_is

pub returns-else-self-eq-PIECE-clause-rest : goal.returns-else-self-eq-PIECE-clause-rest
returns-else-self-eq-PIECE-clause-rest g c =
    let inside = c.self.inside in
    let y = c.pop_front-item.new.self in
    let pieces = length-set inside.pieces.items 0 y in
    same_queue _ (drop 1 (flat_map (λ q. q.items) inside.pieces.items)) _ (length inside.pieces.items * 128 - (inside.skipped + inside.len))
    (items_front c.self.invariant (omega arith) c.index_mut.result.now y c.index_mut.ensures.value c.pop_front-item.ensures.rest)
    (omega arith)
    ∙ ap (λ q. record { items = drop 1 q.items; room = q.room }) c.self.view_is

pub returns-then-self-eq0-clause-item : goal.returns-then-self-eq0-clause-item
returns-then-self-eq0-clause-item g c =
    let count : c.self.inside.len ≡ length c.args.self.now.items = seen_len c.self.invariant c.args.self.now _ c.self.view_is in
    sym (slice_get_past c.args.self.now.items 0 (omega arith))

pub returns-then-self-eq0-clause-rest : goal.returns-then-self-eq0-clause-rest
returns-then-self-eq0-clause-rest g c =
    let count : c.self.inside.len ≡ length c.args.self.now.items = seen_len c.self.invariant c.args.self.now _ c.self.view_is in
    ap (λ xs. record { items = xs; room = c.args.self.now.room }) (none_goes c.args.self.now.items (omega arith))
