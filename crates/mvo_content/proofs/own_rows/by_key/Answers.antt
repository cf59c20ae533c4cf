use Rattle.std.proofs.Common.{[], sym, ap, ◌∙◌}
use Rattle.mvo_shared.specs.Kept.{map_of_rows}
use Rattle.mvo_content.specs.Shown.{rows_in, with_first}
use Rattle.mvo_content.proofs.Showing.{one_first}
use Rattle.mvo_content.proofs.own_rows.by_key.Goals as goal

pub returns-in_ok-put_first-in-One : goal.returns-in_ok-put_first-in-One
returns-in_ok-put_first-in-One c =
    c.in_ok-put_first-in-One.ensures
    ∙ ap (λ m. with_first m c.in-One.row) c.new-map.ensures
    ∙ sym (one_first [] c.in-One.row)
    ∙ ap (λ r. map_of_rows (rows_in r)) (sym c.in-One.is)
