use Rattle.std.proofs.Common.{◌≡◌, ◌+◌, ◌*◌, ◌/◌, ◌%◌, ◌<◌, ◌≤◌, ◌++◌, ◌∷◌, [], length, sym, ap, ◌∙◌, subst, arith}
use Rattle.std.specs.Prelude.{flat_map}
use Rattle.std.proofs.lemmas.List.{length_push}
use Rattle.mvo_chain.specs.Pieces.{IsPieced}
use Rattle.mvo_chain.specs.declared.pieces.Pieces.TheInside.{Inside}
use Rattle.mvo_chain.proofs.Pieced.{on_err, same_sizes, same-joined, longer_piece, longer-joined, another_piece, another-joined}
use Rattle.mvo_chain.proofs.pieces.Pieces.push.Goals as goal
use Rattle.mvo_chain.proofs.pieces.Pieces.push.Goals.{then-at-len+in_ok-push, else-at-len+in_ok-piece+in_ok-push-2}

pub invariant_of-self : goal.invariant_of-self
invariant_of-self g c =
    let p = c.index_mut.result.now in
    same_sizes _ 1024 c.self.inside.pieces.items c.self.inside.len (c.self.inside.len / 1024) c.push.new.self p (ap length c.in_err-push.ensures.items ∙ ap (λ v. length v.items) c.index_mut.ensures.value) c.self.invariant

pub returns-in_err-push-clause-err : goal.returns-in_err-push-clause-err
returns-in_err-push-clause-err g c =
    let p = c.index_mut.result.now in
    on_err c.from_residual.result
    (same-joined _ 1024 c.self.inside.pieces.items (c.self.inside.len / 1024) c.push.new.self p (c.in_err-push.ensures.items ∙ ap (λ v. v.items) c.index_mut.ensures.value) ∙ c.self.view_is)

pub invariant_of-self-2 : goal.invariant_of-self-2
invariant_of-self-2 g c =
    let len = c.self.inside.len in
    let at : len ≡ len / 1024 * 1024 + len % 1024 = omega arith in
    let short : len % 1024 < 1024 = omega arith in
    elim c.if-at-len.branch [
      | then-at-len+in_ok-push w ↦
          let p = w.index_mut.result.now in
          let below : len / 1024 < length c.self.inside.pieces.items = omega (arith, w.if-at-len.true, c.len.ensures, c.self.inside.pieces.ok.0) in
          let more : length w.push.new.self.items ≡ length p.items + 1 = ap length w.in_ok-push.ensures.items ∙ length_push p.items c.args.item in
          subst (λ (s : Inside g.row.T.Denot). IsPieced (λ v. v.items) 1024 s.pieces.items (s.len + 1)) (sym w.self-inside-is)
          (longer_piece _ 1024 c.self.inside.pieces.items len (len / 1024) (len % 1024) w.push.new.self p below at short (more ∙ ap (λ v. length v.items + 1) w.index_mut.ensures.value) c.self.invariant)
      | else-at-len+in_ok-piece+in_ok-push-2 w ↦
          let piece = w.in_ok-piece.piece in
          let past : length c.self.inside.pieces.items ≤ len / 1024 = omega (arith, w.if-at-len.false, c.len.ensures, c.self.inside.pieces.ok.0) in
          let full : len / 1024 * 1024 ≤ len = omega arith in
          subst (λ (s : Inside g.row.T.Denot). IsPieced (λ v. v.items) 1024 s.pieces.items (s.len + 1)) (sym w.self-inside-is)
          (subst (λ vs. IsPieced (λ v. v.items) 1024 vs (len + 1)) (sym w.in_ok-push-2.ensures.items)
          (another_piece _ 1024 c.self.inside.pieces.items len (len / 1024) piece (omega arith) past full (ap length w.in_ok-piece.ensures) c.self.invariant))
    ]

pub returns-clause-ok : goal.returns-clause-ok
returns-clause-ok g c =
    let len = c.self.inside.len in
    let at : len ≡ len / 1024 * 1024 + len % 1024 = omega arith in
    let short : len % 1024 < 1024 = omega arith in
    elim c.if-at-len.branch [
      | then-at-len+in_ok-push w ↦
          let p = w.index_mut.result.now in
          let below : len / 1024 < length c.self.inside.pieces.items = omega (arith, w.if-at-len.true, c.len.ensures, c.self.inside.pieces.ok.0) in
          ap (λ (s : Inside g.row.T.Denot). flat_map (λ v. v.items) s.pieces.items) w.self-inside-is
          ∙ longer-joined _ 1024 c.self.inside.pieces.items len (len / 1024) (len % 1024) w.push.new.self p c.args.item below at short
          (w.in_ok-push.ensures.items ∙ ap (λ v. v.items ++ c.args.item ∷ []) w.index_mut.ensures.value) c.self.invariant
          ∙ ap (λ l. l ++ c.args.item ∷ []) c.self.view_is
      | else-at-len+in_ok-piece+in_ok-push-2 w ↦
          ap (λ (s : Inside g.row.T.Denot). flat_map (λ v. v.items) s.pieces.items) w.self-inside-is
          ∙ ap (flat_map (λ v. v.items)) w.in_ok-push-2.ensures.items
          ∙ another-joined _ 1024 c.self.inside.pieces.items w.in_ok-piece.piece c.args.item w.in_ok-piece.ensures
          ∙ ap (λ l. l ++ c.args.item ∷ []) c.self.view_is
    ]
