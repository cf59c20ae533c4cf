use Rattle.std.proofs.Common.{◌≡◌, ◌+◌, ◌++◌, ◌∷◌, [], take, sym, ap, ◌∙◌}
use Rattle.std.proofs.lemmas.List.{take_more}
use Rattle.mvo_shared.specs.Kept.{map_of_rows}
use Rattle.mvo_content.specs.Shown.{with_first}
use Rattle.mvo_content.proofs.Showing.{one_first}
use Rattle.mvo_content.proofs.own_rows.put_all.Goals as goal

pub loop-row-preserved : goal.loop-row-preserved
loop-row-preserved c =
    let rows = c.args.rows.now in
    let i = c.loop-row.row-index in
    let r = c.row-item.result in
    let more : take (i + 1) rows ≡ take i rows ++ r ∷ [] = take_more rows i r c.loop-row-test.true ∙ ap (λ x. take i rows ++ x ∷ []) (sym c.row-item.is) in
    c.in_ok-put_first.ensures ∙ ap (λ m. with_first m r) c.loop-row.invariant ∙ sym (one_first (take i rows) r) ∙ ap map_of_rows (sym more)
