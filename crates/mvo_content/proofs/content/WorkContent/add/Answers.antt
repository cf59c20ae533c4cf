use Rattle.std.proofs.Common.{◌≡◌, false, List, ◌∷◌, ◌++◌, [], Option, sym, ap, ◌∙◌, subst}
use Rattle.std.specs.Map.{keys_of}
use Rattle.std.specs.Option.{option_map}
use Rattle.mvo_types.specs.declared.row.RowKey.{RowKey}
use Rattle.mvo_types.specs.declared.entry.Entry.{Entry}
use Rattle.mvo_types.specs.RowData.{RowData}
use Rattle.mvo_types.specs.AnswerData.{answer_data}
use Rattle.mvo_theory.specs.Causes.{is_entry_too_many}
use Rattle.mvo_theory.specs.Entries.{entry_of, noted_key}
use Rattle.mvo_shared.specs.Kept.{Looked, with_looked, answer_kept}
use Rattle.mvo_work.specs.Limits.{MayFollow}
use Rattle.mvo_content.specs.Shown.{rows_in}
use Rattle.mvo_content.specs.Done.{DoneData, IsWorkDone, left_at, left_later}
use Rattle.mvo_content.proofs.Keeping.{done_more}
use Rattle.mvo_content.proofs.content.WorkContent.add.Goals as goal

pub invariant_of-self : goal.invariant_of-self
invariant_of-self c =
    let ops = c.self.inside.operations.items in
    let looked = c.self.inside.looks.looked in
    let left = c.self.inside.left.entries in
    let new = c.note_left.new.left.entries in
    let op = c.args.op in
    let a = c.args.answer in
    let rows = rows_in c.args.others in
    let limits = subst (λ (d : DoneData). MayFollow d.history op (answer_data a)) (sym c.self.view_is) c.requires.limits in
    let few = subst (λ (d : DoneData). is_entry_too_many d.history (entry_of op) ≡ false) (sym c.self.view_is) c.requires.few in
    let answer = subst (λ (d : DoneData). answer_data a ≡ answer_kept (with_looked d.looked (entry_of op) rows) d.history op) (sym c.self.view_is) c.requires.answer in
    let keys = c.note_left.ensures.keys ∙ ap (λ w. noted_key (keys_of left) (option_map (λ (v : RowKey × Option RowData). v.0) w)) c.requires.write in
    let done = done_more ops looked left new op a rows c.self.invariant c.requires.shown limits few answer keys (λ k. c.note_left.ensures.at k ∙ ap (λ w. left_later k w (left_at left k)) c.requires.write) in
    subst (λ told. IsWorkDone told c.keep.new.self.looked new) (sym c.push_reserved.ensures)
    (subst (λ (ls : List Looked). IsWorkDone (ops ++ (op, a) ∷ []) ls new) (sym (c.keep.ensures.kept ∙ ap (λ (e : Entry). with_looked looked e rows) c.entry_of.ensures)) done)
