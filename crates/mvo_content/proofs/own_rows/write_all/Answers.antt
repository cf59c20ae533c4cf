use Rattle.std.proofs.Common.{◌≡◌, ◌+◌, ◌++◌, ◌∷◌, [], take, sym, ap, ◌∙◌}
use Rattle.std.proofs.lemmas.List.{take_more}
use Rattle.mvo_types.specs.AnswerData.{answer_data}
use Rattle.mvo_model.specs.History.{write_of, after_write, after_history}
use Rattle.mvo_theory.specs.Told.{history_told}
use Rattle.mvo_content.proofs.Showing.{write_more}
use Rattle.mvo_content.proofs.own_rows.write_all.Goals as goal

pub loop-op-preserved : goal.loop-op-preserved
loop-op-preserved c =
    let told = c.args.told.now in
    let i = c.loop-op.op-index in
    let t = c.loop-op-item.result in
    let more : take (i + 1) told ≡ take i told ++ t ∷ [] = take_more told i t c.loop-op-test.true ∙ ap (λ x. take i told ++ x ∷ []) (sym c.loop-op-item.is) in
    c.in_ok-write_one.ensures
    ∙ ap (after_write (write_of t.0 (answer_data t.1))) c.loop-op.invariant
    ∙ sym (write_more (take i told) t.0 t.1 c.args.map.now)
    ∙ ap (λ us. after_history (history_told us) c.args.map.now) (sym more)
