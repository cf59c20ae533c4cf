-- Answers and footprints depend on the rows only through the entries.
use Rattle.std.proofs.Common.{◌≡◌, Bool, true, false, cond, [], ◌∷◌, ◌++◌, Option, None, Some, refl, sym, ap, ◌∙◌, subst}
use Rattle.std.specs.Prelude.{is_some}
use Rattle.std.specs.Option.{option_map}
use Rattle.std.specs.Ordering.{eq_by_cmp}
use Rattle.std.specs.Cmp.{eq_by_cmp_equiv}
use Rattle.std.specs.FinMap as fin
use Rattle.mvo_types.proofs.Maps.{keys_total}
use Rattle.mvo_types.specs.declared.row.RowKey.{RowKey}
use Rattle.mvo_types.specs.declared.op.Op.{Op}
use Rattle.mvo_types.specs.declared.op.Op.TheVariants.{Read, Scan, Insert, Update, Delete}
use Rattle.mvo_types.specs.RowData.{ContentData, row_with}
use Rattle.mvo_types.specs.Keys.{Map, key_cmp}
use Rattle.mvo_types.specs.AnswerData.{AnswerData}
use Rattle.mvo_types.specs.AnswerData.AnswerData.{Found as Found, Rows, Inserted, Exists, Updated, Deleted, Absent}
use Rattle.mvo_types.specs.Write.{Effect, Write, content_after, content_after_last}
use Rattle.mvo_model.specs.Serial.{answer_to}
use Rattle.mvo_model.specs.History.{History, write_of, write_at, after_write, after_history, AreSerial}
use Rattle.mvo_model.proofs.Serials.{get-after_write, rows_after-told}
use Rattle.mvo_types.specs.declared.entry.Entry.{Entry}
use Rattle.mvo_theory.specs.Entries.{entry_of}
use Rattle.mvo_theory.specs.Ranges.{Row, shows, pass, AgreeOn, AllAgreeOn, row_of, changed_by, footprint_of}
use Rattle.mvo_theory.proofs.Each.{each_weaker}
use Rattle.mvo_theory.proofs.Scans.{scan_same}
use Rattle.mvo_types.specs.declared.entry.Entry.TheVariants.{Key}

-- ---- agreeing on a key
pub key_is : (k : RowKey) → eq_by_cmp key_cmp k k ≡ true
key_is k = (eq_by_cmp_equiv keys_total).refl k

pass_own : (k : RowKey) (o : Option ContentData) → pass (shows (Key k)) k o ≡ o
pass_own k None = refl
pass_own k (Some h) = ap (λ (b : Bool). cond b (Some h) None) (key_is k)

pub pass_other : (q k : RowKey) (o : Option ContentData) → eq_by_cmp key_cmp q k ≡ false → pass (shows (Key k)) q o ≡ None
pass_other q k None e = refl
pass_other q k (Some h) e = ap (λ (b : Bool). cond b (Some h) None) e

pub same_at : (k : RowKey) (m n : Map) → AgreeOn (Key k) m n → fin.get m k ≡ fin.get n k
same_at k m n h = sym (pass_own k (fin.get m k)) ∙ h k ∙ pass_own k (fin.get n k)

-- ---- the answer
pub answer_agrees : (op : Op) (m n : Map) → AgreeOn (entry_of op) m n → answer_to op m ≡ answer_to op n
answer_agrees (Read k) m n e = ap (λ h. Found (option_map (row_with k) h)) (same_at k m n e)
answer_agrees (Scan t lo hi) m n e = ap Rows (scan_same t lo hi m n e)
answer_agrees (Insert r) m n e = ap (λ h. cond (is_some h) Exists Inserted) (same_at r.key m n e)
answer_agrees (Update r) m n e = ap (λ h. cond (is_some h) Updated Absent) (same_at r.key m n e)
answer_agrees (Delete k) m n e = ap (λ h. cond (is_some h) Deleted Absent) (same_at k m n e)

-- ---- after equal writes they agree
pass_under : (p : Row → Bool) (q : RowKey) (w : Option Effect) (u v : Option ContentData) → pass p q u ≡ pass p q v → pass p q (content_after_last w u) ≡ pass p q (content_after_last w v)
pass_under p q None u v e = e
pass_under p q (Some h) u v e = refl

pub agree_written : (e : Entry) (w : Option Write) (m n : Map) → AgreeOn e m n → AgreeOn e (after_write w m) (after_write w n)
agree_written e w m n h = λ q. ap (pass (shows e) q) (get-after_write q w m) ∙ pass_under (shows e) q (write_at q w) (fin.get m q) (fin.get n q) (h q) ∙ sym (ap (pass (shows e) q) (get-after_write q w n))

pub agree_left : (e : Entry) (ts : History) (m n : Map) → AgreeOn e m n → AgreeOn e (after_history ts m) (after_history ts n)
agree_left e [] m n h = h
agree_left e (t ∷ ts) m n h = agree_left e ts (after_write (write_of t.0 t.1) m) (after_write (write_of t.0 t.1) n) (agree_written e (write_of t.0 t.1) m n h)

pub all_agree_written : (ts : History) (w : Option Write) (m n : Map) → AllAgreeOn ts m n → AllAgreeOn ts (after_write w m) (after_write w n)
all_agree_written ts w m n h = each_weaker (λ o. AgreeOn (entry_of o.0) m n) (λ o. AgreeOn (entry_of o.0) (after_write w m) (after_write w n)) (λ o. agree_written (entry_of o.0) w m n) ts h

pub all_agree_left : (ts us : History) (m n : Map) → AllAgreeOn ts m n → AllAgreeOn ts (after_history us m) (after_history us n)
all_agree_left ts us m n h = each_weaker (λ o. AgreeOn (entry_of o.0) m n) (λ o. AgreeOn (entry_of o.0) (after_history us m) (after_history us n)) (λ o. agree_left (entry_of o.0) us m n) ts h

-- ---- serial answers stay serial on rows that agree on the entries
pub serial_agrees : (ts : History) (m n : Map) → AllAgreeOn ts m n → AreSerial ts m → AreSerial ts n
serial_agrees [] m n h s = tt
serial_agrees (t ∷ ts) m n h s =
    let history = s.0 ∙ answer_agrees t.0 m n h.0 in (
      history,
      subst (AreSerial ts) (sym (rows_after-told t.0 t.1 n history))
          (serial_agrees ts (after_write (write_of t.0 t.1) m) (after_write (write_of t.0 t.1) n) (all_agree_written ts (write_of t.0 t.1) m n h.1)
          (subst (AreSerial ts) (rows_after-told t.0 t.1 m s.0) s.1)),
    )

-- ---- who writes a key has the entry of it
none_write : (v : Write) → ◌≡◌ {A = Option Write} None (Some v) → ⊥
none_write v e = cc

some_write : (v w : Write) → ◌≡◌ {A = Option Write} (Some v) (Some w) → v ≡ w
some_write v w e = cc

pub write_entry : (op : Op) (s : AnswerData) (v : Write) → write_of op s ≡ Some v → entry_of op ≡ Key v.0
write_entry (Read k) s v e = absurd (none_write v e)
write_entry (Scan t lo hi) s v e = absurd (none_write v e)
write_entry (Insert r) Inserted v e = ap (λ (w : Write). Key w.0) (some_write _ v e)
write_entry (Insert r) s v e = absurd (none_write v e)
write_entry (Update r) Updated v e = ap (λ (w : Write). Key w.0) (some_write _ v e)
write_entry (Update r) s v e = absurd (none_write v e)
write_entry (Delete k) Deleted v e = ap (λ (w : Write). Key w.0) (some_write _ v e)
write_entry (Delete k) s v e = absurd (none_write v e)

-- ---- so the footprint is the same
changed_same : (e : Entry) (w : Option Write) (m n : Map) → ((v : Write) → w ≡ Some v → e ≡ Key v.0) → AgreeOn e m n → changed_by w m ≡ changed_by w n
changed_same e None m n f h = refl
changed_same e (Some v) m n f h = ap (λ o. row_of v.0 o ++ row_of v.0 (content_after v.1)) (same_at v.0 m n (subst (λ (d : Entry). AgreeOn d m n) (f v refl) h))

pub footprint_agrees : (ts : History) (m n : Map) → AllAgreeOn ts m n → footprint_of ts m ≡ footprint_of ts n
footprint_agrees [] m n h = refl
footprint_agrees (t ∷ ts) m n h =
    let w = write_of t.0 t.1 in
    ap (λ rs. rs ++ footprint_of ts (after_write w m)) (changed_same (entry_of t.0) w m n (write_entry t.0 t.1) h.0)
    ∙ ap (λ rs. changed_by w n ++ rs) (footprint_agrees ts (after_write w m) (after_write w n) (all_agree_written ts w m n h.1))
