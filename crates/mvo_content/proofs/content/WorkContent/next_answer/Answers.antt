use Rattle.std.proofs.Common.{◌≡◌, false, List, sym, ap, ◌∙◌, subst}
use Rattle.std.specs.Result.{IfOk}
use Rattle.mvo_types.specs.RowData.{RowData}
use Rattle.mvo_types.specs.AnswerData.{answer_data}
use Rattle.mvo_types.specs.declared.entry.Entry.{Entry}
use Rattle.mvo_types.specs.Entries.{has_entry}
use Rattle.mvo_model.specs.History.{after_history}
use Rattle.mvo_model.specs.Serial.{answer_to}
use Rattle.mvo_theory.specs.Entries.{entry_of}
use Rattle.mvo_shared.specs.Kept.{map_of_rows, entries_in}
use Rattle.mvo_content.specs.Shown.{rows_in, AreRowsOf}
use Rattle.mvo_content.specs.Done.{DoneData}
use Rattle.mvo_content.proofs.Keeping.{kept_fits, rows_new}
use Rattle.mvo_content.proofs.content.WorkContent.next_answer.Goals as goal

pub answer-requires : goal.answer-requires
answer-requires c =
    let looked = c.self.inside.looks.looked in
    let e = c.entry_of.result in
    subst (λ (d : Entry). AreRowsOf d (rows_in c.in-Some.kept.now)) c.entry_of.ensures
    (subst (λ (rows : List RowData). AreRowsOf e rows) (sym c.in-Some.ensures.rows) (kept_fits looked e c.self.invariant.shown (sym c.in-Some.ensures.there)))

pub returns-in-None : goal.returns-in-None
returns-in-None c =
    let h = c.args.self.now.history in
    let looked = c.args.self.now.looked in
    let op = c.args.op.now in
    let rows = rows_in c.args.others.now in
    let none : has_entry (entries_in looked) (entry_of op) ≡ false =
    ap (λ (d : DoneData). has_entry (entries_in d.looked) (entry_of op)) (sym c.self.view_is)
    ∙ ap (λ (e : Entry). has_entry (entries_in c.self.inside.looks.looked) e) (sym c.entry_of.ensures)
    ∙ sym c.in-None.ensures.there in
    subst (λ (rs : List RowData). IfOk c.answer-in-None.result (λ a. answer_data a ≡ answer_to op (after_history h (map_of_rows rs)))) (sym (rows_new looked (entry_of op) rows none)) c.answer-in-None.ensures
