use Rattle.std.proofs.Common.{◌+◌, ◌*◌, ◌^◌, ◌<◌, ◌∷◌, [], length, sym, ap, ◌∙◌, subst, arith}
use Rattle.std.proofs.lemmas.List.{length-append}
use Rattle.mvo_queue.specs.Queue.{IsInPieces}
use Rattle.mvo_queue.proofs.Kept.{items_more, pieces_more, same_queue}
use Rattle.std.specs.Prelude.{flat_map}
use Rattle.mvo_queue.proofs.queue.Queue.add_piece.Goals as goal

pub invariant_of-self-2 : goal.invariant_of-self-2
invariant_of-self-2 g c =
    let piece = c.in_ok-piece.piece in
    let few : (length c.self.inside.pieces.items + 1) * 128 < 2 ^ 64 = omega (arith, c.if-len-ge-MAX_PIECES.false, c.len.ensures, c.self.inside.pieces.ok.0) in
    subst (λ ps. IsInPieces (λ p. p.items) (λ p. p.cap) 128 c.self.inside.skipped c.self.inside.len ps) (sym c.in_ok-push_back.ensures.items)
    (pieces_more c.self.invariant piece c.in_ok-piece.ensures.items c.in_ok-piece.ensures.capacity few)

pub returns-clause-ok : goal.returns-clause-ok
returns-clause-ok g c =
    let piece = c.in_ok-piece.piece in
    let within = c.self.invariant.within in
    let pieces = ap length c.in_ok-push_back.ensures.items ∙ length-append c.self.inside.pieces.items (piece ∷ []) in
    same_queue _ _ _ _
    (ap (flat_map (λ p. p.items)) c.in_ok-push_back.ensures.items ∙ items_more c.self.invariant piece c.in_ok-piece.ensures.items)
    (omega arith)
    ∙ ap (λ q. record { items = q.items; room = q.room + 128 }) c.self.view_is
