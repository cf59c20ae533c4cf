-- One operation more.
use Rattle.std.proofs.Common.{◌≡◌, ◌≤◌, Bool, true, false, cond, not, List, [], ◌∷◌, ◌++◌, Option, None, Some, length, refl, sym, ap, ◌∙◌, subst, arith}
use Rattle.std.specs.Prelude.{◌&&◌, nat_le}
use Rattle.std.specs.Option.{option_map}
use Rattle.std.proofs.lemmas.Bool.{le-leb, leb-false}
use Rattle.std.proofs.lemmas.List.{map-append, length-append}
use Rattle.mvo_types.specs.declared.limits.TheConstants.{MAX_WRITES, MAX_ENTRIES}
use Rattle.mvo_types.specs.declared.row.RowKey.{RowKey}
use Rattle.mvo_types.specs.declared.op.Op.{Op}
use Rattle.mvo_types.specs.declared.answer.Answer.{Answer}
use Rattle.mvo_types.specs.AnswerData.{AnswerData, answer_data}
use Rattle.mvo_types.specs.Write.{Write}
use Rattle.mvo_model.specs.History.{History, write_of}
use Rattle.mvo_theory.specs.Causes.{is_entry_too_many, is_write_too_many}
use Rattle.mvo_theory.specs.Entries.{entry_of, entries_from, entries, is_noted, noted_key, written_from, written_keys}
use Rattle.mvo_theory.proofs.Each.{each_append}
use Rattle.mvo_theory.proofs.Looks.{write_entry}
use Rattle.mvo_types.specs.declared.entry.Entry.{Entry}
use Rattle.mvo_types.specs.declared.entry.Entry.TheVariants.{Key}
use Rattle.mvo_types.specs.Entries.{has_entry, with_entry}
use Rattle.mvo_theory.specs.Told.{history_told}
use Rattle.mvo_work.specs.History.{key_written}
use Rattle.mvo_theory.specs.Limits.{IsInLimits, AreLimited}
use Rattle.mvo_work.specs.Limits.{MayFollow}
use Rattle.mvo_work.specs.Work.{IsWorkSound}

history_more : (told : List (Op × Answer)) (op : Op) (a : Answer) → history_told (told ++ (op, a) ∷ []) ≡ history_told told ++ (op, answer_data a) ∷ []
history_more told op a = map-append (λ t. (t.0, answer_data t.1)) told ((op, a) ∷ [])

entries_more : (es : List Entry) (ts : History) (t : Op × AnswerData) → entries_from es (ts ++ t ∷ []) ≡ with_entry (entries_from es ts) (entry_of t.0)
entries_more es [] t = refl
entries_more es (u ∷ us) t = entries_more (with_entry es (entry_of u.0)) us t

written_more : (ks : List RowKey) (ts : History) (t : Op × AnswerData) → written_from ks (ts ++ t ∷ []) ≡ noted_key (written_from ks ts) (key_written t.0 t.1)
written_more ks [] t = refl
written_more ks (u ∷ us) t = written_more (noted_key ks (key_written u.0 u.1)) us t

-- ---- the keys written stay few
noted_few : (b : Bool) (ks : List RowKey) (k : RowKey) → (not b && nat_le MAX_WRITES (length ks)) ≡ false → length ks ≤ MAX_WRITES → length (cond b ks (ks ++ k ∷ [])) ≤ MAX_WRITES
noted_few true ks k e le = le
noted_few false ks k e le = let lt = leb-false MAX_WRITES (length ks) e in omega (arith, length-append ks (k ∷ []))

still_few : (ts : History) (w : Option RowKey) → ((k : RowKey) → w ≡ Some k → is_write_too_many ts k ≡ false) → length (written_keys ts) ≤ MAX_WRITES → length (noted_key (written_keys ts) w) ≤ MAX_WRITES
still_few ts None f le = le
still_few ts (Some k) f le = noted_few (is_noted (written_keys ts) k) (written_keys ts) k (f k refl) le

limited_more : (ts : History) (op : Op) (a : AnswerData) → AreLimited ts → MayFollow ts op a → AreLimited (ts ++ (op, a) ∷ [])
limited_more ts op a h m = record {
  each = each_append (λ t. IsInLimits t.0) ts ((op, a) ∷ []) h.each (m.row, tt);
  few = subst (λ (ks : List RowKey). length ks ≤ MAX_WRITES) (sym (written_more [] ts (op, a))) (still_few ts (key_written op a) m.write h.few);
}

-- ---- a key that was looked at first now isn't written
pub key_looked : (op : Op) (a : AnswerData) (w : Option Write) (k : RowKey) → write_of op a ≡ w → option_map (λ v. v.0) w ≡ Some k → entry_of op ≡ Key k
key_looked op a None k e f = cc
key_looked op a (Some v) k e f = write_entry op a v e ∙ ap Key (cc f)

-- ---- entries, keys and limits with one operation more
pub sound_more : (told : List (Op × Answer)) (es : List Entry) (ks : List RowKey) (e : Entry) (op : Op) (a : Answer) → IsWorkSound told es ks → e ≡ entry_of op → MayFollow (history_told told) op (answer_data a) → IsWorkSound (told ++ (op, a) ∷ []) (with_entry es e) (noted_key ks (key_written op (answer_data a)))
sound_more told es ks e op a h is m = record {
  entries =
      ap (λ ds. with_entry ds e) h.entries
      ∙ ap (with_entry (entries (history_told told))) is
      ∙ sym (entries_more [] (history_told told) (op, answer_data a))
      ∙ ap entries (sym (history_more told op a));
  written =
      ap (λ js. noted_key js (key_written op (answer_data a))) h.written
      ∙ sym (written_more [] (history_told told) (op, answer_data a))
      ∙ ap written_keys (sym (history_more told op a));
  limits = subst AreLimited (sym (history_more told op a)) (limited_more (history_told told) op (answer_data a) h.limits m);
}

-- ---- the entries are as many as there may be
and_true : (a b : Bool) → b ≡ true → a ≡ (a && b)
and_true true b e = sym e
and_true false b e = refl

pub full_of_entries : (told : List (Op × Answer)) (es : List Entry) (ks : List RowKey) (e : Entry) → IsWorkSound told es ks → MAX_ENTRIES ≤ length es → not (has_entry es e) ≡ is_entry_too_many (history_told told) e
full_of_entries told es ks e h le =
    let same : has_entry es e ≡ has_entry (entries (history_told told)) e = ap (λ ds. has_entry ds e) h.entries in
    let many : length es ≡ length (entries (history_told told)) = ap length h.entries in
    ap not same
    ∙ and_true (not (has_entry (entries (history_told told)) e)) (nat_le MAX_ENTRIES (length (entries (history_told told))))
    (le-leb MAX_ENTRIES (length (entries (history_told told))) (omega arith))
