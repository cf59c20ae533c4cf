use Rattle.std.proofs.Common.{◌≡◌, [], List, sym, ap, ◌∙◌, subst}
use Rattle.std.specs.Result.{IfOk}
use Rattle.std.proofs.lemmas.Result.{IfOk-weaker}
use Rattle.mvo_types.specs.RowData.{RowData}
use Rattle.mvo_types.specs.Keys.{Map}
use Rattle.mvo_model.specs.History.{after_history}
use Rattle.mvo_model.specs.Serial.{scan}
use Rattle.mvo_model.proofs.Scans.{only_scan}
use Rattle.mvo_theory.specs.Told.{history_told}
use Rattle.mvo_shared.specs.Kept.{map_of_rows}
use Rattle.mvo_content.specs.Shown.{rows_in}
use Rattle.mvo_content.specs.Done.{DoneData}
use Rattle.mvo_content.proofs.Showing.{idle, no_items}
use Rattle.mvo_content.proofs.content.WorkContent.scan.Goals as goal

pub returns-then-is_empty : goal.returns-then-is_empty
returns-then-is_empty c =
    let m = map_of_rows (rows_in c.args.rows.now) in
    let ts = history_told c.self.inside.operations.items in
    let none : c.self.inside.left.entries ≡ [] = no_items c.self.inside.left.entries (c.is_empty.ensures.0 c.if-is_empty.true) in
    let same : rows_in c.args.rows.now ≡ scan (after_history c.args.self.now.history m) c.args.table c.args.lo c.args.hi =
    c.requires
    ∙ ap (λ (n : Map). scan n c.args.table c.args.lo c.args.hi) (sym (idle c.self.inside.left.entries ts m none c.self.invariant.left))
    ∙ ap (λ (d : DoneData). scan (after_history d.history m) c.args.table c.args.lo c.args.hi) c.self.view_is in
    subst (λ (rs : List RowData). IfOk c.copies.result (λ v. v.items ≡ rs)) same c.copies.ensures

pub returns : goal.returns
returns c =
    let m = map_of_rows (rows_in c.args.rows.now) in
    let same : c.new.result ≡ after_history c.args.self.now.history m =
    c.new.ensures
    ∙ c.in_ok-write_all.ensures
    ∙ ap (λ us. after_history (history_told us) c.in_ok-map.map) c.deref.ensures.value
    ∙ ap (after_history (history_told c.self.inside.operations.items)) c.in_ok-map.ensures
    ∙ ap (λ (d : DoneData). after_history d.history m) c.self.view_is in
    IfOk-weaker c.scan-2.result _ (λ v. v.items ≡ scan (after_history c.args.self.now.history m) c.args.table c.args.lo c.args.hi)
    (λ v h. only_scan c.new.result c.args.table c.args.lo c.args.hi v.items h ∙ ap (λ (n : Map). scan n c.args.table c.args.lo c.args.hi) same) c.scan-2.ensures
