-- What the serial steps answer depends on the rows at the operations' keys alone.
use Rattle.std.proofs.Common.{◌≡◌, Bool, true, false, cond, List, [], ◌∷◌, ◌++◌, Option, None, Some, map, refl, sym, ap, ◌∙◌, subst}
use Rattle.std.specs.Prelude.{⊤}
use Rattle.std.specs.Option.{option_map, is_some}
use Rattle.std.specs.Ordering.{eq_by_cmp}
use Rattle.std.specs.FinMap as fin
use Rattle.mvo_types.specs.declared.row.RowKey.{RowKey}
use Rattle.mvo_types.specs.declared.op.Op.{Op}
use Rattle.mvo_types.specs.declared.op.Op.TheVariants.{Read, Scan, Insert, Update, Delete as DeleteAt}
use Rattle.mvo_types.specs.RowData.{RowData, ContentData, content_of, row_with}
use Rattle.mvo_types.specs.Write.{Write, Effect, content_after, content_after_last}
use Rattle.mvo_types.specs.Write.Effect.{Put, Delete}
use Rattle.mvo_types.specs.Keys.{Map, key_cmp}
use Rattle.mvo_model.specs.Serial.{answer_to, rows_after}
use Rattle.mvo_types.specs.AnswerData.{AnswerData}
use Rattle.mvo_types.specs.AnswerData.AnswerData.{Found, Inserted, Exists, Updated, Deleted, Absent}
use Rattle.mvo_types.proofs.Maps.{keys_total}
use Rattle.mvo_model.specs.History.{History, write_of, after_effect, after_write, after_history, after_histories, write_at, later, net_write, AreSerial, rows_after_all, Legal}

-- ---- the net write at a key
pub later_later : (a b : Option Effect) (v : Option ContentData) → content_after_last (later a b) v ≡ content_after_last a (content_after_last b v)
later_later None b v = refl
later_later (Some e) b v = refl

last_cond : (b : Bool) (e : Effect) (v : Option ContentData) → content_after_last (cond b (Some e) None) v ≡ cond b (content_after e) v
last_cond true e v = refl
last_cond false e v = refl

pub get-after_effect : (q k : RowKey) (e : Effect) (m : Map) → fin.get (after_effect k e m) q ≡ cond (eq_by_cmp key_cmp q k) (content_after e) (fin.get m q)
get-after_effect q k (Put h) m = fin.get-insert keys_total m k h q
get-after_effect q k Delete m = fin.get-remove keys_total m k q

pub get-after_write : (q : RowKey) (w : Option Write) (m : Map) → fin.get (after_write w m) q ≡ content_after_last (write_at q w) (fin.get m q)
get-after_write q None m = refl
get-after_write q (Some w) m = get-after_effect q w.0 w.1 m ∙ sym (last_cond (eq_by_cmp key_cmp q w.0) w.1 (fin.get m q))

-- what stands at a key after a history: what its net write leaves there
pub get-after_history : (q : RowKey) (ts : History) (m : Map) → fin.get (after_history ts m) q ≡ content_after_last (net_write q ts) (fin.get m q)
get-after_history q [] m = refl
get-after_history q (t ∷ ts) m =
    get-after_history q ts (after_write (write_of t.0 t.1) m)
    ∙ ap (content_after_last (net_write q ts)) (get-after_write q (write_of t.0 t.1) m)
    ∙ sym (later_later (net_write q ts) (write_at q (write_of t.0 t.1)) (fin.get m q))

later_assoc : (a b c : Option Effect) → later a (later b c) ≡ later (later a b) c
later_assoc None b c = refl
later_assoc (Some h) b c = refl

pub later-none : (a : Option Effect) → later a None ≡ a
later-none None = refl
later-none (Some h) = refl

pub net_write-append : (k : RowKey) (xs ys : History) → net_write k (xs ++ ys) ≡ later (net_write k ys) (net_write k xs)
net_write-append k [] ys = sym (later-none (net_write k ys))
net_write-append k (x ∷ xs) ys = ap (λ a. later a (write_at k (write_of x.0 x.1))) (net_write-append k xs ys) ∙ sym (later_assoc (net_write k ys) (net_write k xs) (write_at k (write_of x.0 x.1)))

pub after_history-append : (xs ys : History) (m : Map) → after_history (xs ++ ys) m ≡ after_history ys (after_history xs m)
after_history-append [] ys m = refl
after_history-append (x ∷ xs) ys m = after_history-append xs ys (after_write (write_of x.0 x.1) m)

-- ---- a step writes what its answer says
insert_writes : (b : Bool) (r : RowData) (m : Map) → cond b m (fin.insert m r.key (content_of r)) ≡ after_write (write_of (Insert r) (cond b Exists Inserted)) m
insert_writes true r m = refl
insert_writes false r m = refl

update_writes : (b : Bool) (r : RowData) (m : Map) → cond b (fin.insert m r.key (content_of r)) m ≡ after_write (write_of (Update r) (cond b Updated Absent)) m
update_writes true r m = refl
update_writes false r m = refl

delete_writes : (b : Bool) (k : RowKey) (m : Map) → cond b (fin.remove m k) m ≡ after_write (write_of (DeleteAt k) (cond b Deleted Absent)) m
delete_writes true k m = refl
delete_writes false k m = refl

pub rows_after-answer : (op : Op) (m : Map) → rows_after op m ≡ after_write (write_of op (answer_to op m)) m
rows_after-answer (Read k) m = refl
rows_after-answer (Scan t lo hi) m = refl
rows_after-answer (Insert r) m = insert_writes (fin.contains_key m r.key) r m
rows_after-answer (Update r) m = update_writes (fin.contains_key m r.key) r m
rows_after-answer (DeleteAt k) m = delete_writes (fin.contains_key m k) k m

pub rows_after-told : (op : Op) (s : AnswerData) (m : Map) → s ≡ answer_to op m → rows_after op m ≡ after_write (write_of op s) m
rows_after-told op s m e = rows_after-answer op m ∙ ap (λ a. after_write (write_of op a) m) (sym e)

pub rows_after_all-after_history : (ts : History) (m : Map) → AreSerial ts m → rows_after_all (map (λ x. x.0) ts) m ≡ after_history ts m
rows_after_all-after_history [] m h = refl
rows_after_all-after_history (t ∷ ts) m h =
    rows_after_all-after_history ts (rows_after t.0 m) h.1 ∙ ap (after_history ts) (rows_after-told t.0 t.1 m h.0)

-- one more operation
pub AreSerial-push : (ts : History) (op : Op) (s : AnswerData) (m : Map) → AreSerial ts m → s ≡ answer_to op (after_history ts m) → AreSerial (ts ++ (op, s) ∷ []) m
AreSerial-push [] op s m h e = (e, tt)
AreSerial-push (t ∷ ts) op s m h e =
    (h.0, AreSerial-push ts op s (rows_after t.0 m) h.1 (e ∙ ap (λ n. answer_to op (after_history ts n)) (sym (rows_after-told t.0 t.1 m h.0))))

-- ---- rows that agree where the operation looks
abbrev pub Agree : Op → Map → Map → Type 0
Agree (Read k) m n = fin.get m k ≡ fin.get n k
Agree (Scan t lo hi) m n = m ≡ n
Agree (Insert r) m n = fin.get m r.key ≡ fin.get n r.key
Agree (Update r) m n = fin.get m r.key ≡ fin.get n r.key
Agree (DeleteAt k) m n = fin.get m k ≡ fin.get n k

abbrev pub AllAgree : History → Map → Map → Type 0
AllAgree [] m n = ⊤
AllAgree (t ∷ ts) m n = Agree t.0 m n × AllAgree ts m n

pub answer_agrees : (op : Op) (m n : Map) → Agree op m n → answer_to op m ≡ answer_to op n
answer_agrees (Read k) m n e = ap (λ h. Found (option_map (row_with k) h)) e
answer_agrees (Scan t lo hi) m n e = ap (answer_to (Scan t lo hi)) e
answer_agrees (Insert r) m n e = ap (λ h. cond (is_some h) Exists Inserted) e
answer_agrees (Update r) m n e = ap (λ h. cond (is_some h) Updated Absent) e
answer_agrees (DeleteAt k) m n e = ap (λ h. cond (is_some h) Deleted Absent) e

get_agrees : (q : RowKey) (w : Option Write) (m n : Map) → fin.get m q ≡ fin.get n q → fin.get (after_write w m) q ≡ fin.get (after_write w n) q
get_agrees q w m n e = get-after_write q w m ∙ ap (content_after_last (write_at q w)) e ∙ sym (get-after_write q w n)

written_agrees : (op : Op) (w : Option Write) (m n : Map) → Agree op m n → Agree op (after_write w m) (after_write w n)
written_agrees (Read k) w m n e = get_agrees k w m n e
written_agrees (Scan t lo hi) w m n e = ap (after_write w) e
written_agrees (Insert r) w m n e = get_agrees r.key w m n e
written_agrees (Update r) w m n e = get_agrees r.key w m n e
written_agrees (DeleteAt k) w m n e = get_agrees k w m n e

all_written_agree : (ts : History) (w : Option Write) (m n : Map) → AllAgree ts m n → AllAgree ts (after_write w m) (after_write w n)
all_written_agree [] w m n h = tt
all_written_agree (t ∷ ts) w m n h = (written_agrees t.0 w m n h.0, all_written_agree ts w m n h.1)

pub AreSerial-agree : (ts : History) (m n : Map) → AllAgree ts m n → AreSerial ts m → AreSerial ts n
AreSerial-agree [] m n h s = tt
AreSerial-agree (t ∷ ts) m n h s =
    let told = s.0 ∙ answer_agrees t.0 m n h.0 in (
      told,
      subst (AreSerial ts) (sym (rows_after-told t.0 t.1 n told))
          (AreSerial-agree ts (after_write (write_of t.0 t.1) m) (after_write (write_of t.0 t.1) n) (all_written_agree ts (write_of t.0 t.1) m n h.1)
          (subst (AreSerial ts) (rows_after-told t.0 t.1 m s.0) s.1)),
    )

-- ---- one more transaction
pub Legal-push : (ts : List History) (t : History) (m : Map) → Legal m ts → AreSerial t (after_histories ts m) → Legal m (ts ++ t ∷ [])
Legal-push [] t m h s = (s, tt)
Legal-push (x ∷ xs) t m h s =
    (h.0, Legal-push xs t (rows_after_all (map (λ y. y.0) x) m) h.1 (subst (λ n. AreSerial t (after_histories xs n)) (sym (rows_after_all-after_history x m h.0)) s))
