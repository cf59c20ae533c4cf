use Rattle.std.proofs.Common.{sym, ap, ◌∙◌}
use Rattle.std.specs.Option.{option_copied}
use Rattle.mvo_types.specs.Keys.{row_at}
use Rattle.mvo_model.specs.History.{after_history}
use Rattle.mvo_theory.specs.Told.{history_told}
use Rattle.mvo_shared.specs.Kept.{map_of_rows}
use Rattle.mvo_content.specs.Shown.{rows_in}
use Rattle.mvo_content.specs.Done.{DoneData}
use Rattle.mvo_content.proofs.Leaving.{written_now, other_now}
use Rattle.mvo_content.proofs.Showing.{only_row}
use Rattle.mvo_content.proofs.content.WorkContent.row_now.Goals as goal

pub returns-in-Some : goal.returns-in-Some
returns-in-Some c =
    let m = map_of_rows (rows_in c.args.rows.now) in
    let ts = history_told c.self.inside.operations.items in
    let k = c.args.key in
    c.as_ref.ensures.value
    ∙ written_now ts m k c.in-Some.left.now (sym (c.self.invariant.left k) ∙ sym c.left_at.ensures ∙ ap option_copied c.in-Some.is)
    ∙ ap (λ (d : DoneData). row_at (after_history d.history m) k) c.self.view_is

pub returns-in-None : goal.returns-in-None
returns-in-None c =
    let m = map_of_rows (rows_in c.args.rows.now) in
    let ts = history_told c.self.inside.operations.items in
    let k = c.args.key in
    c.first.ensures
    ∙ only_row (rows_in c.args.rows.now) m k c.requires
    ∙ other_now ts m k (sym (c.self.invariant.left k) ∙ sym c.left_at.ensures ∙ ap option_copied c.in-None.is)
    ∙ ap (λ (d : DoneData). row_at (after_history d.history m) k) c.self.view_is
