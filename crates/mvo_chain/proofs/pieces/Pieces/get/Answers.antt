use Rattle.std.proofs.Common.{◌≡◌, ◌+◌, ◌*◌, ◌/◌, ◌%◌, None, Some, sym, ap, ◌∙◌, arith}
use Rattle.std.specs.Prelude.{slice_get}
use Rattle.mvo_chain.proofs.Pieced.{read_at, got, got_none}
use Rattle.mvo_chain.proofs.pieces.Pieces.get.Goals as goal

pub returns-in-Some : goal.returns-in-Some
returns-in-Some g c =
    let there : slice_get c.self.inside.pieces.items (c.args.at / 1024) ≡ Some c.in-Some.piece.now =
    ap (λ l. slice_get l (c.args.at / 1024)) (sym c.deref.ensures.value) ∙ sym (read_at c.deref.result.now (c.args.at / 1024) (Some c.in-Some.piece) c.in-Some.ensures.lookup) in
    let at : c.args.at / 1024 * 1024 + c.args.at % 1024 ≡ c.args.at = omega arith in
    read_at c.deref-in-Some.result.now (c.args.at % 1024) c.get-in-Some.result c.get-in-Some.ensures.lookup
    ∙ ap (λ l. slice_get l (c.args.at % 1024)) c.deref-in-Some.ensures.value
    ∙ sym (got _ 1024 c.self.inside.pieces.items c.self.inside.len (c.args.at / 1024) (c.args.at % 1024) c.in-Some.piece.now (omega arith) there c.self.invariant)
    ∙ ap (slice_get _) at ∙ ap (λ l. slice_get l c.args.at) c.self.view_is

pub returns-in-None : goal.returns-in-None
returns-in-None g c =
    let none : slice_get c.self.inside.pieces.items (c.args.at / 1024) ≡ None =
    ap (λ l. slice_get l (c.args.at / 1024)) (sym c.deref.ensures.value) ∙ sym (read_at c.deref.result.now (c.args.at / 1024) None c.in-None.ensures.lookup) in
    let at : c.args.at / 1024 * 1024 + c.args.at % 1024 ≡ c.args.at = omega arith in
    sym (got_none _ 1024 c.self.inside.pieces.items c.self.inside.len (c.args.at / 1024) (c.args.at % 1024) none c.self.invariant)
    ∙ ap (slice_get _) at ∙ ap (λ l. slice_get l c.args.at) c.self.view_is
