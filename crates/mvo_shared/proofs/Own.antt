-- Works that were made on this core: an operation is told what its snapshot answers, they never meet a mismatch, and each step keeps them so.
use Rattle.std.proofs.Common.{◌≡◌, ◌≢◌, ℕ, ◌<◌, ◌≤◌, Bool, true, false, cond, ◌||◌, List, [], ◌∷◌, ◌++◌, Option, None, map, refl, sym, ap, ◌∙◌, subst}
use Rattle.std.specs.List.{AllByRecursion, filter}
use Rattle.std.proofs.lemmas.Bool.{false≢true}
use Rattle.mvo_types.specs.declared.op.Op.{Op}
use Rattle.mvo_types.specs.Keys.{Map}
use Rattle.mvo_types.specs.AnswerData.{AnswerData}
use Rattle.mvo_types.specs.Write.{Write}
use Rattle.mvo_model.specs.Serial.{answer_to}
use Rattle.mvo_model.specs.History.{History, write_of, write_at, later, net_write, after_history}
use Rattle.mvo_model.proofs.Serials.{net_write-append}
use Rattle.mvo_types.specs.declared.entry.Entry.{Entry}
use Rattle.mvo_types.specs.Entries.{is_same, has_entry}
use Rattle.mvo_theory.specs.Entries.{entry_of}
use Rattle.mvo_theory.specs.State.{State, StampedTx, ActiveTx, Claim, seen_by, after_settled}
use Rattle.mvo_theory.specs.Ranges.{Row}
use Rattle.mvo_theory.specs.Dependencies.{dependencies, keys_for, unwritten}
use Rattle.mvo_theory.specs.Changes.{new_active, to_stamped, with_flag, active_with_flag, not_at, is_to}
use Rattle.mvo_theory.specs.Sound.{IsDecidedOn, IsActive, IsRising}
use Rattle.mvo_theory.proofs.Each.{each_weaker, each_both, each_append}
use Rattle.mvo_theory.proofs.Apart.{same_entry}
use Rattle.mvo_theory.proofs.Depends.{depends_more, decided_on_now}
use Rattle.mvo_theory.proofs.Stamped.{IsLike}
use Rattle.mvo_theory.proofs.Ends.{spared}
use Rattle.mvo_theory.proofs.Trim.{is_after}
use Rattle.mvo_shared.specs.Kept.{Looked, WorkContent, rows_shown, rows_kept, entries_in, with_looked, answer_kept, after_op, IsLookShown, AreShown}
use Rattle.mvo_shared.specs.Shared.{WriteTheSame, AreSeen, IsOwnWork, rows_for, IsLookMismatch, IsWriteMismatch, IsEntryMismatch}
use Rattle.mvo_shared.proofs.Works.{has_after, answer_right, work_after_op, work_empty}
use Rattle.mvo_shared.proofs.Seen.{seen_last, seen_map, seen_aborted, seen_to, seen_more}
use Rattle.mvo_shared.proofs.Finals.{same_rows}

-- ---- what is kept is what is shown
pub kept_shown : (looked : List Looked) (m : Map) (e : Entry) → AreShown m looked → has_entry (entries_in looked) e ≡ true → rows_kept looked e ≡ rows_shown e m
kept_shown [] m e h f = absurd (false≢true f)
kept_shown (l ∷ ls) m e h f = go (is_same e l.entry) refl f (kept_shown ls m e h.1)
  where
    go : (b : Bool) → is_same e l.entry ≡ b → (b || has_entry (entries_in ls) e) ≡ true → (has_entry (entries_in ls) e ≡ true → rows_kept ls e ≡ rows_shown e m) → cond b l.rows (rows_kept ls e) ≡ rows_shown e m
    go true i g k = h.0 ∙ ap (λ (d : Entry). rows_shown d m) (sym (same_entry e l.entry i))
    go false i g k = k g

-- so an operation of a work that was made here meets no mismatch
pub no_look_mismatch : (s : State) (r : ActiveTx) (w : WorkContent) (op : Op) → r.aborted_dependency ≡ None → IsOwnWork s.base s.stamped r w → IsLookMismatch s r w op → ⊥
no_look_mismatch s r w op n h k = k.1 (kept_shown w.looked (seen_by s.base s.stamped r.id) (entry_of op) (h.seen n).shown k.0)

pub no_write_mismatch : (base : Map) (stamped : List StampedTx) (r : ActiveTx) (w : WorkContent) → IsOwnWork base stamped r w → IsWriteMismatch r w → ⊥
no_write_mismatch base stamped r w h k = k h.writes

pub one_of_seen : (base : Map) (stamped : List StampedTx) (id : ℕ) (ds : List ℕ) (looked : List Looked) → AreSeen base stamped id ds looked → AllByRecursion (λ l. AreSeen base stamped id ds (l ∷ [])) looked
one_of_seen base stamped id ds looked h = each_both (IsLookShown (seen_by base stamped id)) (λ l. IsDecidedOn l.entry id ds base stamped) (λ l. AreSeen base stamped id ds (l ∷ [])) (λ l a b. record { shown = (a, tt); decided = (b, tt) }) looked h.shown h.decided

pub no_entry_mismatch : (base : Map) (stamped : List StampedTx) (x : StampedTx) (looked : List Looked) → AreSeen base stamped x.id x.depends_on looked → AllByRecursion (λ l. IsEntryMismatch base stamped x l → ⊥) looked
no_entry_mismatch base stamped x looked h = each_weaker (λ l. AreSeen base stamped x.id x.depends_on (l ∷ [])) (λ l. IsEntryMismatch base stamped x l → ⊥) (λ l a k. k a) looked (one_of_seen base stamped x.id x.depends_on looked h)

-- ---- an operation
-- what is kept after the look is shown, and who decides it is depended on
shown_after : (ls : List Looked) (e : Entry) (m : Map) → AreShown m ls → AreShown m (with_looked ls e (rows_shown e m))
shown_after ls e m h = go (has_entry (entries_in ls) e)
  where
    go : (b : Bool) → AreShown m (cond b ls (ls ++ (record { entry = e; rows = rows_shown e m }) ∷ []))
    go true = h
    go false = each_append (IsLookShown m) ls ((record { entry = e; rows = rows_shown e m }) ∷ []) h (refl, tt)

pub seen_after : (s : State) (r : ActiveTx) (op : Op) (looked : List Looked) → AllByRecursion (λ o. IsDecidedOn (entry_of o.0) r.id r.depends_on s.base s.stamped) r.history → AreSeen s.base s.stamped r.id r.depends_on looked →
    AreSeen s.base s.stamped r.id (dependencies s op r) (with_looked looked (entry_of op) (rows_for s r op))
seen_after s r op looked own h = record {
  shown = shown_after looked (entry_of op) (seen_by s.base s.stamped r.id) h.shown;
  decided = go (has_entry (entries_in looked) (entry_of op));
}
  where
    more : AreSeen s.base s.stamped r.id (dependencies s op r) looked
    more = seen_more s.base s.stamped r.id r.depends_on (dependencies s op r) looked (depends_more r.depends_on (unwritten r.history (keys_for (entry_of op) r.id s.base s.stamped)) r.id s.stamped) h

    go : (b : Bool) → AllByRecursion (λ l. IsDecidedOn l.entry r.id (dependencies s op r) s.base s.stamped) (cond b looked (looked ++ (record { entry = entry_of op; rows = rows_for s r op }) ∷ []))
    go true = more.decided
    go false = each_append (λ l. IsDecidedOn l.entry r.id (dependencies s op r) s.base s.stamped) looked ((record { entry = entry_of op; rows = rows_for s r op }) ∷ []) more.decided (decided_on_now s op r own, tt)

-- the answer that the work gets is the one on the snapshot
pub own_answer : (s : State) (r : ActiveTx) (w : WorkContent) (op : Op) → IsOwnWork s.base s.stamped r w → r.aborted_dependency ≡ None →
    answer_kept (with_looked w.looked (entry_of op) (rows_for s r op)) w.history op ≡ answer_to op (after_history r.history (seen_by s.base s.stamped r.id))
own_answer s r w op h n =
    let seen = seen_by s.base s.stamped r.id in
    answer_right (with_looked w.looked (entry_of op) (rows_for s r op)) w.history op seen (shown_after w.looked (entry_of op) seen (h.seen n).shown) (has_after w.looked (entry_of op) (rows_for s r op))
    ∙ ap (answer_to op) (sym (same_rows r.history w.history seen h.writes))

-- ---- both write the same behind it
same_push : (ts us : History) (op : Op) (a : AnswerData) → WriteTheSame ts us → WriteTheSame (ts ++ (op, a) ∷ []) (us ++ (op, a) ∷ [])
same_push ts us op a h k = net_write-append k ts ((op, a) ∷ []) ∙ ap (later (net_write k ((op, a) ∷ []))) (h k) ∙ sym (net_write-append k us ((op, a) ∷ []))

same_silent : (ts us : History) (op : Op) (a : AnswerData) → write_of op a ≡ None → WriteTheSame ts us → WriteTheSame ts (us ++ (op, a) ∷ [])
same_silent ts us op a n h k = h k ∙ sym (net_write-append k us ((op, a) ∷ []) ∙ ap (λ (v : Option Write). later (later None (write_at k v)) (net_write k us)) n)

-- an answer that writes nothing: the core hears of its dependencies at most
pub own_after_look : (s : State) (r : ActiveTx) (w : WorkContent) (op : Op) → write_of op (answer_kept (with_looked w.looked (entry_of op) (rows_for s r op)) w.history op) ≡ None → IsActive s.base s.stamped s.clock r → IsOwnWork s.base s.stamped r w →
    IsOwnWork s.base s.stamped (record r { depends_on = dependencies s op r }) (after_op w op (rows_for s r op))
own_after_look s r w op n it h = record {
  work = work_after_op w op (rows_for s r op) h.work;
  writes = same_silent r.history w.history op (answer_kept (with_looked w.looked (entry_of op) (rows_for s r op)) w.history op) n h.writes;
  seen = λ d. seen_after s r op w.looked (it.consistent d).decided (h.seen d);
}

-- a write: the core's own answer is the work's
pub own_after_write : (s : State) (r : ActiveTx) (w : WorkContent) (op : Op) (rs : List Row) (cs : List Claim) → r.aborted_dependency ≡ None → IsActive s.base s.stamped s.clock r → IsOwnWork s.base s.stamped r w →
    IsOwnWork s.base s.stamped (record r { history = r.history ++ (op, answer_to op (after_history r.history (seen_by s.base s.stamped r.id))) ∷ []; footprint = rs; claims = cs; depends_on = dependencies s op r }) (after_op w op (rows_for s r op))
own_after_write s r w op rs cs n it h = record {
  work = work_after_op w op (rows_for s r op) h.work;
  writes = subst (λ (a : AnswerData). WriteTheSame (r.history ++ (op, a) ∷ []) (w.history ++ (op, answer_kept (with_looked w.looked (entry_of op) (rows_for s r op)) w.history op) ∷ [])) (own_answer s r w op h n)
      (same_push r.history w.history op (answer_kept (with_looked w.looked (entry_of op) (rows_for s r op)) w.history op) h.writes);
  seen = λ d. seen_after s r op w.looked (it.consistent d).decided (h.seen d);
}

-- ---- a transaction that begins has an empty one
pub own_begun : (base : Map) (stamped : List StampedTx) (t : ℕ) → IsOwnWork base stamped (new_active t) (record { history = []; looked = [] })
own_begun base stamped t = record { work = work_empty; writes = λ k. refl; seen = λ d. record { shown = tt; decided = tt } }

-- ---- what others do
pub own_last : (base : Map) (stamped : List StampedTx) (y : StampedTx) (r : ActiveTx) (w : WorkContent) → r.id ≤ y.end → IsOwnWork base stamped r w → IsOwnWork base (stamped ++ y ∷ []) r w
own_last base stamped y r w le h = record { work = h.work; writes = h.writes; seen = λ d. seen_last base stamped y r.id r.depends_on w.looked le (h.seen d) }

pub own_map : (f : StampedTx → StampedTx) → IsLike f → (base : Map) (stamped : List StampedTx) (r : ActiveTx) (w : WorkContent) → IsOwnWork base stamped r w → IsOwnWork base (map f stamped) r w
own_map f l base stamped r w h = record { work = h.work; writes = h.writes; seen = λ d. seen_map f l base stamped r.id r.depends_on w.looked (h.seen d) }

pub own_aborted : (base : Map) (stamped : List StampedTx) (t e : ℕ) (r : ActiveTx) (w : WorkContent) → AllByRecursion (λ x. x.end ≡ e → x.settled ≡ false) stamped → IsOwnWork base stamped r w → IsOwnWork base (map (with_flag t e) (filter (not_at e) stamped)) (active_with_flag t e r) w
own_aborted base stamped t e r w o h = record {
  work = h.work;
  writes = h.writes;
  seen = λ d. let q = spared t e r.depends_on r.aborted_dependency d in seen_aborted base stamped t e r.id r.depends_on w.looked o q.1 (h.seen q.0);
}

pub own_to : (m : ℕ) (base : Map) (stamped : List StampedTx) (r : ActiveTx) (w : WorkContent) → IsRising stamped → AllByRecursion (λ x. x.settled ≡ false → m < x.end) stamped → m ≤ r.id → AllByRecursion (λ x. x.end ≢ r.id) stamped → IsOwnWork base stamped r w →
    IsOwnWork (after_settled (filter (is_to m) stamped) base) (filter (is_after m) stamped) r w
own_to m base stamped r w rise above le others h = record { work = h.work; writes = h.writes; seen = λ d. seen_to m base stamped r.id r.depends_on w.looked rise above le others (h.seen d) }

-- ---- precommit: the one that gets an end keeps what its work saw
pub own_prepared : (base : Map) (stamped : List StampedTx) (e : ℕ) (r : ActiveTx) (w : WorkContent) → r.id ≤ e → IsOwnWork base stamped r w → r.aborted_dependency ≡ None → AreSeen base (stamped ++ to_stamped e r ∷ []) r.id r.depends_on w.looked
own_prepared base stamped e r w le h d = seen_last base stamped (to_stamped e r) r.id r.depends_on w.looked le (h.seen d)
