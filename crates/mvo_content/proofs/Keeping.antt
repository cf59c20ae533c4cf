-- One operation more keeps the type of what was done.
use Rattle.std.proofs.Common.{◌≡◌, ◌≤◌, Bool, true, false, cond, not, ◌&&◌, ◌||◌, Option, suc, List, [], ◌∷◌, ◌++◌, length, refl, sym, ap, ◌∙◌, subst, arith}
use Rattle.std.specs.Prelude.{nat_le}
use Rattle.std.specs.List.{AllByRecursion}
use Rattle.std.specs.Map.{keys_of}
use Rattle.std.specs.Option.{option_map}
use Rattle.std.proofs.lemmas.Bool.{false≢true, leb-false}
use Rattle.std.proofs.lemmas.List.{map-append, length-append}
use Rattle.mvo_types.specs.declared.limits.TheConstants.{MAX_ENTRIES}
use Rattle.mvo_types.specs.declared.row.RowKey.{RowKey}
use Rattle.mvo_types.specs.declared.op.Op.{Op}
use Rattle.mvo_types.specs.declared.answer.Answer.{Answer}
use Rattle.mvo_types.specs.RowData.{RowData}
use Rattle.mvo_types.specs.AnswerData.{AnswerData, answer_data}
use Rattle.mvo_types.specs.declared.entry.Entry.{Entry}
use Rattle.mvo_types.specs.Entries.{is_same, has_entry, with_entry}
use Rattle.mvo_model.specs.History.{History, write_of, net_write}
use Rattle.mvo_theory.specs.Causes.{is_entry_too_many}
use Rattle.mvo_theory.specs.Entries.{entry_of, entries, noted_key}
use Rattle.mvo_theory.specs.Told.{history_told}
use Rattle.mvo_theory.proofs.Each.{each_append}
use Rattle.mvo_theory.proofs.Apart.{same_entry}
use Rattle.mvo_shared.specs.Kept.{Looked, IsWork, entries_in, rows_kept, with_looked, answer_kept}
use Rattle.mvo_shared.proofs.Works.{entries_with, work_after_op, same_self}
use Rattle.mvo_work.specs.Limits.{MayFollow}
use Rattle.mvo_work.specs.Work.{IsWorkSound}
use Rattle.mvo_work.proofs.OneMore.{sound_more}
use Rattle.mvo_content.specs.Shown.{AreRowsOf}
use Rattle.mvo_content.specs.Done.{IsWorkDone, left_at, left_later, write_left, row_left}
use Rattle.mvo_content.proofs.Leaving.{wrote_key, left_more, net_more}

pub told_more : (told : List (Op × Answer)) (op : Op) (a : Answer) → history_told (told ++ (op, a) ∷ []) ≡ history_told told ++ (op, answer_data a) ∷ []
told_more told op a = map-append (λ t. (t.0, answer_data t.1)) told ((op, a) ∷ [])

-- ---- each look stays one of its entry
abbrev AreShown : List Looked → Type 0
AreShown looked = AllByRecursion (λ l. AreRowsOf l.entry l.rows) looked

shown_more : (looked : List Looked) (e : Entry) (rows : List RowData) → AreShown looked → AreRowsOf e rows → AreShown (with_looked looked e rows)
shown_more looked e rows h f = go (has_entry (entries_in looked) e)
  where
    go : (b : Bool) → AreShown (cond b looked (looked ++ (record { entry = e; rows = rows }) ∷ []))
    go true = h
    go false = each_append (λ l. AreRowsOf l.entry l.rows) looked ((record { entry = e; rows = rows }) ∷ []) h (f, tt)

-- so what is kept for an entry is
pub kept_fits : (looked : List Looked) (e : Entry) → AllByRecursion (λ l. AreRowsOf l.entry l.rows) looked → has_entry (entries_in looked) e ≡ true → AreRowsOf e (rows_kept looked e)
kept_fits [] e h f = absurd (false≢true f)
kept_fits (l ∷ ls) e h f = go (is_same e l.entry) refl f (kept_fits ls e h.1)
  where
    go : (b : Bool) → is_same e l.entry ≡ b → (b || has_entry (entries_in ls) e) ≡ true → (has_entry (entries_in ls) e ≡ true → AreRowsOf e (rows_kept ls e)) → AreRowsOf e (cond b l.rows (rows_kept ls e))
    go true i g k = subst (λ (d : Entry). AreRowsOf d l.rows) (sym (same_entry e l.entry i)) h.0
    go false i g k = k g

-- ---- they stay few
pub count : (ls : List Looked) → length (entries_in ls) ≡ length ls
count [] = refl
count (l ∷ ls) = ap (λ n. suc n) (count ls)

few_more : (looked : List Looked) (ts : History) (e : Entry) (rows : List RowData) → entries_in looked ≡ entries ts → is_entry_too_many ts e ≡ false → length looked ≤ MAX_ENTRIES → length (with_looked looked e rows) ≤ MAX_ENTRIES
few_more looked ts e rows same few le =
    go (has_entry (entries_in looked) e) (ap (λ es. not (has_entry es e) && nat_le MAX_ENTRIES (length es)) same ∙ few)
  where
    go : (b : Bool) → (not b && nat_le MAX_ENTRIES (length (entries_in looked))) ≡ false → length (cond b looked (looked ++ (record { entry = e; rows = rows }) ∷ [])) ≤ MAX_ENTRIES
    go true f = le
    go false f = let lt = leb-false MAX_ENTRIES (length (entries_in looked)) f in omega (arith, count looked, length-append looked ((record { entry = e; rows = rows }) ∷ []))

-- ---- the whole type
pub done_more : (told : List (Op × Answer)) (looked : List Looked) (left left' : List (RowKey × Option RowData)) (op : Op) (a : Answer) (rows : List RowData)
    → IsWorkDone told looked left → AreRowsOf (entry_of op) rows → MayFollow (history_told told) op (answer_data a) → is_entry_too_many (history_told told) (entry_of op) ≡ false
    → answer_data a ≡ answer_kept (with_looked looked (entry_of op) rows) (history_told told) op
    → keys_of left' ≡ noted_key (keys_of left) (option_map (λ (w : RowKey × Option RowData). w.0) (write_left op (answer_data a)))
    → ((k : RowKey) → left_at left' k ≡ left_later k (write_left op (answer_data a)) (left_at left k))
    → IsWorkDone (told ++ (op, a) ∷ []) (with_looked looked (entry_of op) rows) left'
done_more told looked left left' op a rows h shown limits few answer keys at = record {
  sound = subst (λ (es : List Entry). IsWorkSound (told ++ (op, a) ∷ []) es (keys_of left')) (sym (entries_with looked (entry_of op) rows))
      (subst (λ (ks : List RowKey). IsWorkSound (told ++ (op, a) ∷ []) (with_entry (entries_in looked) (entry_of op)) ks) (sym (keys ∙ ap (noted_key (keys_of left)) (wrote_key op (answer_data a))))
      (sound_more told (entries_in looked) (keys_of left) (entry_of op) op a h.sound refl limits));
  work = subst (λ (ts : History). IsWork (record { history = ts; looked = with_looked looked (entry_of op) rows }))
      (ap (λ (b : AnswerData). history_told told ++ (op, b) ∷ []) (sym answer) ∙ sym (told_more told op a))
      (work_after_op (record { history = history_told told; looked = looked }) op rows h.work);
  shown = shown_more looked (entry_of op) rows h.shown shown;
  few = few_more looked (history_told told) (entry_of op) rows h.sound.entries few h.few;
  left = λ k.
      at k
      ∙ ap (left_later k (write_left op (answer_data a))) (h.left k)
      ∙ sym (left_more k (write_of op (answer_data a)) (net_write k (history_told told)))
      ∙ ap (option_map (row_left k)) (sym (net_more k (history_told told) op (answer_data a)) ∙ ap (net_write k) (sym (told_more told op a)));
}

-- ---- the rows that answer: those that are kept, or these
pub rows_old : (looked : List Looked) (e : Entry) (rows : List RowData) → has_entry (entries_in looked) e ≡ true → with_looked looked e rows ≡ looked
rows_old looked e rows f = ap (λ (b : Bool). cond b looked (looked ++ (record { entry = e; rows = rows }) ∷ [])) f

pub rows_new : (looked : List Looked) (e : Entry) (rows : List RowData) → has_entry (entries_in looked) e ≡ false → rows_kept (with_looked looked e rows) e ≡ rows
rows_new looked e rows f = ap (λ ls. rows_kept ls e) (ap (λ (b : Bool). cond b looked (looked ++ (record { entry = e; rows = rows }) ∷ [])) f) ∙ last looked f
  where
    left : (b c : Bool) → (b || c) ≡ false → (b ≡ false) × (c ≡ false)
    left true c g = absurd (false≢true (sym g))
    left false c g = (refl, g)

    last : (ls : List Looked) → has_entry (entries_in ls) e ≡ false → rows_kept (ls ++ (record { entry = e; rows = rows }) ∷ []) e ≡ rows
    last [] g = ap (λ (b : Bool). cond b rows []) (same_self e)
    last (l ∷ ls) g =
        let parts = left (is_same e l.entry) (has_entry (entries_in ls) e) g in
        ap (λ (b : Bool). cond b l.rows (rows_kept (ls ++ (record { entry = e; rows = rows }) ∷ []) e)) parts.0 ∙ last ls parts.1
