use Rattle.std.proofs.Common.{◌≡◌, [], ◌∷◌, ◌++◌, append-nil, append_assoc, sym, ap, ◌∙◌}
use Rattle.mvo_types.specs.RowData.{row_with}
use Rattle.mvo_types.specs.RowLists.{rows_by_key}
use Rattle.mvo_types.proofs.Ordered.{Entries, all_rows, all_held}
use Rattle.mvo_types.proofs.rows.Rows.into_rows.Goals as goal

pub loop-key-init : goal.loop-key-init
loop-key-init c = ap (λ rs. rs ++ all_rows c.into_iter-key-iterator.result) (c.in_ok-reserve.ensures.items ∙ c.new-rows.ensures.items)

pub loop-key-preserved : goal.loop-key-preserved
loop-key-preserved c =
    ap (λ rs. rs ++ all_rows c.next.new.self) (c.in_ok-push.ensures.items ∙ ap (λ h. c.loop-key.rows.items ++ row_with c.in-Some.key h ∷ []) c.content.view_is)
    ∙ append_assoc c.loop-key.rows.items (row_with c.in-Some.key c.in-Some.content ∷ []) (all_rows c.next.new.self)
    ∙ ap (λ (es : Entries). c.loop-key.rows.items ++ all_rows es) (sym c.in-Some.ensures.steps)
    ∙ c.loop-key.invariant

pub returns : goal.returns
returns c =
    let gives : ◌≡◌ {A = Entries} c.into_iter-key-iterator.result c.self.inside.held.entries = c.into_iter-key-iterator.ensures.into_iter_gives.0 in
    sym (append-nil c.loop-key.rows.items)
    ∙ ap (λ (es : Entries). c.loop-key.rows.items ++ all_rows es) (sym c.in-None.ensures.steps.0)
    ∙ c.loop-key.invariant
    ∙ ap (λ (es : Entries). all_rows es) gives
    ∙ all_held c.self.inside.held.entries c.len.ensures.ordered
    ∙ ap rows_by_key c.self.view_is
