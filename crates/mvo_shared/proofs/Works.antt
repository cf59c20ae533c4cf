-- A work's answers are serial on each map that shows what its entries keep; and one operation more keeps its type.
use Rattle.std.proofs.Common.{◌≡◌, Bool, true, false, cond, ◌||◌, List, [], ◌∷◌, ◌++◌, refl, sym, ap, ◌∙◌, subst, append_assoc, append-nil}
use Rattle.std.specs.List.{AllByRecursion}
use Rattle.std.proofs.lemmas.Bool.{false≢true, and_from, eq-eqb}
use Rattle.std.specs.Prelude.{◌&&◌, ◌==◌}
use Rattle.mvo_types.specs.declared.op.Op.{Op}
use Rattle.mvo_types.specs.RowData.{RowData}
use Rattle.mvo_types.specs.Keys.{Map}
use Rattle.mvo_types.specs.AnswerData.{AnswerData}
use Rattle.mvo_model.specs.Serial.{answer_to}
use Rattle.mvo_model.specs.History.{History, write_of, after_write, after_history, AreSerial}
use Rattle.mvo_model.proofs.Serials.{after_history-append, rows_after-told}
use Rattle.mvo_types.specs.declared.entry.Entry.{Entry}
use Rattle.mvo_types.specs.Entries.{is_same, has_entry, with_entry}
use Rattle.mvo_theory.specs.Entries.{entry_of, entries_from, entries}
use Rattle.mvo_types.specs.declared.entry.Entry.TheVariants.{Key, Range}
use Rattle.mvo_theory.specs.Ranges.{AgreeOn}
use Rattle.mvo_theory.proofs.Each.{each_weaker, each_append}
use Rattle.mvo_theory.proofs.Footprints.{or_left, or_right, any_left, any_right}
use Rattle.mvo_theory.proofs.Looks.{answer_agrees, agree_left}
use Rattle.mvo_theory.proofs.Apart.{same_entry, each_entry}
use Rattle.mvo_shared.specs.Kept.{Looked, WorkContent, rows_shown, map_of_rows, entries_in, rows_kept, with_looked, answer_kept, AreAnsweredByLooks, IsWork, IsOrdered, after_op, AreShown}
use Rattle.mvo_shared.proofs.Kept.{shown_agrees}

-- ---- what is kept agrees with what is shown
pub kept_agrees : (looked : List Looked) (m : Map) (e : Entry) → AreShown m looked → has_entry (entries_in looked) e ≡ true → AgreeOn e (map_of_rows (rows_kept looked e)) m
kept_agrees [] m e h f = absurd (false≢true f)
kept_agrees (l ∷ ls) m e h f = go (is_same e l.entry) refl f (kept_agrees ls m e h.1)
  where
    go : (b : Bool) → is_same e l.entry ≡ b → (b || has_entry (entries_in ls) e) ≡ true → (has_entry (entries_in ls) e ≡ true → AgreeOn e (map_of_rows (rows_kept ls e)) m) → AgreeOn e (map_of_rows (cond b l.rows (rows_kept ls e))) m
    go true i g k = subst (λ (rows : List RowData). AgreeOn e (map_of_rows rows) m) (ap (λ (d : Entry). rows_shown d m) (same_entry e l.entry i) ∙ sym h.0) (shown_agrees e m)
    go false i g k = k g

-- ---- the entry of each operation is among the entries
pub same_self : (e : Entry) → is_same e e ≡ true
same_self (Key k) = and_from (k.table == k.table) (k.key == k.key) (eq-eqb k.table k.table refl) (eq-eqb k.key k.key refl)
same_self (Range t lo hi) = and_from (t == t) ((lo == lo) && (hi == hi)) (eq-eqb t t refl) (and_from (lo == lo) (hi == hi) (eq-eqb lo lo refl) (eq-eqb hi hi refl))

each_has : (es : List Entry) → AllByRecursion (λ e. has_entry es e ≡ true) es
each_has [] = tt
each_has (d ∷ ds) = (
  or_left (is_same d d) (has_entry ds d) (same_self d),
  each_weaker (λ e. has_entry ds e ≡ true) (λ e. (is_same e d || has_entry ds e) ≡ true) (λ e h. or_right (is_same e d) (has_entry ds e) h) ds (each_has ds),
)

-- where the entries are those of the operations, each of these is kept
pub ordered_kept : (w : WorkContent) → IsOrdered w → AllByRecursion (λ o. has_entry (entries_in w.looked) (entry_of o.0) ≡ true) w.history
ordered_kept w h = subst (λ (es : List Entry). AllByRecursion (λ o. has_entry es (entry_of o.0) ≡ true) w.history) (sym h) (each_entry (λ e. has_entry (entries w.history) e ≡ true) w.history (each_has (entries w.history)))

-- ---- the theorem: on whatever map shows what is kept, the answers are serial
one_after : (before : History) (t : Op × AnswerData) (m : Map) → after_history (before ++ t ∷ []) m ≡ after_write (write_of t.0 t.1) (after_history before m)
one_after before t m = after_history-append before (t ∷ []) m

pub answer_right : (looked : List Looked) (before : History) (op : Op) (m : Map) → AreShown m looked → has_entry (entries_in looked) (entry_of op) ≡ true → answer_kept looked before op ≡ answer_to op (after_history before m)
answer_right looked before op m h f =
    let kept = map_of_rows (rows_kept looked (entry_of op)) in
    answer_agrees op (after_history before kept) (after_history before m) (agree_left (entry_of op) before kept m (kept_agrees looked m (entry_of op) h f))

answered_serial : (looked : List Looked) (before ts : History) (m : Map) → AreShown m looked → AllByRecursion (λ o. has_entry (entries_in looked) (entry_of o.0) ≡ true) ts → AreAnsweredByLooks looked before ts → AreSerial ts (after_history before m)
answered_serial looked before [] m h f a = tt
answered_serial looked before (t ∷ ts) m h f a =
    let here : t.1 ≡ answer_to t.0 (after_history before m) = a.0 ∙ answer_right looked before t.0 m h f.0 in (
      here,
      subst (AreSerial ts) (one_after before t m ∙ sym (rows_after-told t.0 t.1 (after_history before m) here)) (answered_serial looked (before ++ t ∷ []) ts m h f.1 a.1),
    )

pub kept_serial : (w : WorkContent) (m : Map) → IsWork w → AreShown m w.looked → AreSerial w.history m
kept_serial w m h s = answered_serial w.looked [] w.history m s h.kept h.answered

-- ---- one operation more
pub entries_push : (es : List Entry) (ts : History) (t : Op × AnswerData) → entries_from es (ts ++ t ∷ []) ≡ with_entry (entries_from es ts) (entry_of t.0)
entries_push es [] t = refl
entries_push es (u ∷ us) t = entries_push (with_entry es (entry_of u.0)) us t

entries_in-push : (ls : List Looked) (l : Looked) → entries_in (ls ++ l ∷ []) ≡ entries_in ls ++ l.entry ∷ []
entries_in-push [] l = refl
entries_in-push (k ∷ ks) l = ap (λ es. k.entry ∷ es) (entries_in-push ks l)

pub entries_with : (ls : List Looked) (e : Entry) (rows : List RowData) → entries_in (with_looked ls e rows) ≡ with_entry (entries_in ls) e
entries_with ls e rows = go (has_entry (entries_in ls) e)
  where
    go : (b : Bool) → entries_in (cond b ls (ls ++ (record { entry = e; rows = rows }) ∷ [])) ≡ cond b (entries_in ls) (entries_in ls ++ e ∷ [])
    go true = refl
    go false = entries_in-push ls (record { entry = e; rows = rows })

kept_push : (ls : List Looked) (l : Looked) (e : Entry) → has_entry (entries_in ls) e ≡ true → rows_kept (ls ++ l ∷ []) e ≡ rows_kept ls e
kept_push [] l e f = absurd (false≢true f)
kept_push (k ∷ ks) l e f = go (is_same e k.entry) f (kept_push ks l e)
  where
    go : (b : Bool) → (b || has_entry (entries_in ks) e) ≡ true → (has_entry (entries_in ks) e ≡ true → rows_kept (ks ++ l ∷ []) e ≡ rows_kept ks e) → cond b k.rows (rows_kept (ks ++ l ∷ []) e) ≡ cond b k.rows (rows_kept ks e)
    go true g r = refl
    go false g r = r g

-- what was kept stays
pub kept_stays : (ls : List Looked) (d : Entry) (rows : List RowData) (e : Entry) → has_entry (entries_in ls) e ≡ true → rows_kept (with_looked ls d rows) e ≡ rows_kept ls e
kept_stays ls d rows e f = go (has_entry (entries_in ls) d)
  where
    go : (b : Bool) → rows_kept (cond b ls (ls ++ (record { entry = d; rows = rows }) ∷ [])) e ≡ rows_kept ls e
    go true = refl
    go false = kept_push ls (record { entry = d; rows = rows }) e f

answered_more : (ls : List Looked) (d : Entry) (rows : List RowData) (before ts : History) → AllByRecursion (λ o. has_entry (entries_in ls) (entry_of o.0) ≡ true) ts → AreAnsweredByLooks ls before ts → AreAnsweredByLooks (with_looked ls d rows) before ts
answered_more ls d rows before [] f a = tt
answered_more ls d rows before (t ∷ ts) f a = (
  a.0 ∙ ap (λ (kept : List RowData). answer_to t.0 (after_history before (map_of_rows kept))) (sym (kept_stays ls d rows (entry_of t.0) f.0)),
  answered_more ls d rows (before ++ t ∷ []) ts f.1 a.1,
)

answered_push : (looked : List Looked) (before ts : History) (op : Op) → AreAnsweredByLooks looked before ts → AreAnsweredByLooks looked before (ts ++ (op, answer_kept looked (before ++ ts) op) ∷ [])
answered_push looked before [] op a = (ap (λ us. answer_kept looked us op) (append-nil before), tt)
answered_push looked before (t ∷ ts) op a = (
  a.0,
  subst (λ us. AreAnsweredByLooks looked (before ++ t ∷ []) (ts ++ (op, answer_kept looked us op) ∷ [])) (append_assoc before (t ∷ []) ts) (answered_push looked (before ++ t ∷ []) ts op a.1),
)

-- ---- the entries after a look: those before, and its own
pub has_more : (ls : List Looked) (d : Entry) (rows : List RowData) (e : Entry) → has_entry (entries_in ls) e ≡ true → has_entry (entries_in (with_looked ls d rows)) e ≡ true
has_more ls d rows e h = ap (λ es. has_entry es e) (entries_with ls d rows) ∙ go (has_entry (entries_in ls) d)
  where
    go : (b : Bool) → has_entry (cond b (entries_in ls) (entries_in ls ++ d ∷ [])) e ≡ true
    go true = h
    go false = any_left (is_same e) (entries_in ls) (d ∷ []) h

pub has_after : (ls : List Looked) (e : Entry) (rows : List RowData) → has_entry (entries_in (with_looked ls e rows)) e ≡ true
has_after ls e rows = ap (λ es. has_entry es e) (entries_with ls e rows) ∙ go (has_entry (entries_in ls) e) refl
  where
    go : (b : Bool) → has_entry (entries_in ls) e ≡ b → has_entry (cond b (entries_in ls) (entries_in ls ++ e ∷ [])) e ≡ true
    go true f = f
    go false f = any_right (is_same e) (entries_in ls) (e ∷ []) (or_left (is_same e e) false (same_self e))

-- whatever rows others show, the work after an operation is one again
pub work_after_op : (w : WorkContent) (op : Op) (rows : List RowData) → IsWork w → IsWork (after_op w op rows)
work_after_op w op rows h =
    let looked = with_looked w.looked (entry_of op) rows in
    record {
      kept = each_append (λ o. has_entry (entries_in looked) (entry_of o.0) ≡ true) w.history ((op, answer_kept looked w.history op) ∷ [])
          (each_weaker (λ o. has_entry (entries_in w.looked) (entry_of o.0) ≡ true) (λ o. has_entry (entries_in looked) (entry_of o.0) ≡ true) (λ o f. has_more w.looked (entry_of op) rows (entry_of o.0) f) w.history h.kept)
          (has_after w.looked (entry_of op) rows, tt);
      answered = answered_push looked [] w.history op (answered_more w.looked (entry_of op) rows [] w.history h.kept h.answered);
    }

pub ordered_after_op : (w : WorkContent) (op : Op) (rows : List RowData) → IsOrdered w → IsOrdered (after_op w op rows)
ordered_after_op w op rows h =
    entries_with w.looked (entry_of op) rows ∙ ap (λ es. with_entry es (entry_of op)) h ∙ sym (entries_push [] w.history (op, answer_kept (with_looked w.looked (entry_of op) rows) w.history op))

-- an empty work
pub work_empty : IsWork (record { history = []; looked = [] })
work_empty = record { kept = tt; answered = tt }
