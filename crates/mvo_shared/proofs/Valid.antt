-- A work that is found valid is as good as one that was made here: its answers are those on what its transaction sees, and who decides them is settled or depended on.
use Rattle.std.proofs.Common.{◌≡◌, ℕ, Bool, true, false, cond, ◌||◌, List, [], ◌∷◌, ◌++◌, Option, None, Some, map, refl, sym, ap, ◌∙◌, subst, inl, inr}
use Rattle.std.specs.Prelude.{◌==◌, is_some}
use Rattle.std.specs.List.{AllByRecursion}
use Rattle.std.proofs.lemmas.Bool.{eqb-true, false≢true, or_cases}
use Rattle.mvo_types.specs.declared.row.RowKey.{RowKey}
use Rattle.mvo_types.specs.declared.op.Op.{Op}
use Rattle.mvo_types.specs.Keys.{Map}
use Rattle.mvo_types.specs.Write.{Effect, Write}
use Rattle.mvo_model.specs.History.{History, write_of, write_at, later, net_write, after_history}
use Rattle.mvo_types.specs.declared.entry.Entry.{Entry}
use Rattle.mvo_types.specs.Entries.{has_entry, with_entry}
use Rattle.mvo_theory.specs.Entries.{entry_of, entries_from, entries}
use Rattle.mvo_types.specs.declared.entry.Entry.TheVariants.{Key, Range}
use Rattle.mvo_theory.specs.Ranges.{footprint_of}
use Rattle.mvo_theory.specs.State.{State, StampedTx, ActiveTx, seen_by}
use Rattle.mvo_theory.specs.Dependencies.{keys_for, unwritten, dependencies}
use Rattle.mvo_theory.specs.Sound.{IsDecidedOn, IsUnchanged, LeavesAlone, IsApart, IsClear, IsLegal, IsConsistent, IsActive, IsPreparing, IsPlaced, IsSound}
use Rattle.mvo_theory.proofs.Each.{each_weaker, each_both, each_append, each_map}
use Rattle.mvo_theory.proofs.Looks.{key_is, write_entry}
use Rattle.mvo_theory.proofs.Between.{written_at}
use Rattle.mvo_theory.proofs.Apart.{any_exact}
use Rattle.mvo_theory.proofs.Stamped.{IsLike, rising_map}
use Rattle.mvo_theory.proofs.Depends.{depends_more, decided_on_more, below_all}
use Rattle.mvo_theory.proofs.Sound.{preparing_map, others_map, active_map}
use Rattle.mvo_shared.specs.Kept.{Looked, WorkContent, entries_in, IsWork}
use Rattle.mvo_shared.specs.Shared.{TakenWork, looked_of, taken_history, OnlyWrites, IsTakenWork, AreSeen, with_dependencies, after_registering, with_valid, after_valid}
use Rattle.mvo_shared.proofs.Works.{kept_serial}

-- ---- the entries of operations that all wrote
entries_of_each : (P : Entry → Type 0) (es : List Entry) (ts : History) → AllByRecursion P es → AllByRecursion (λ o. P (entry_of o.0)) ts → AllByRecursion P (entries_from es ts)
entries_of_each P es [] h k = h
entries_of_each P es (t ∷ ts) h k = entries_of_each P (with_entry es (entry_of t.0)) ts (go (has_entry es (entry_of t.0))) k.1
  where
    go : (b : Bool) → AllByRecursion P (cond b es (es ++ entry_of t.0 ∷ []))
    go true = h
    go false = each_append P es (entry_of t.0 ∷ []) h (k.0, tt)

-- ---- what holds of the entries that are kept holds of those of the operations
kept_one : (P : Entry → Type 0) (looked : List Looked) (e : Entry) → AllByRecursion (λ l. P l.entry) looked → has_entry (entries_in looked) e ≡ true → P e
kept_one P looked e h f = any_exact P e (entries_in looked) (each_in_entries looked h) f
  where
    each_in_entries : (ls : List Looked) → AllByRecursion (λ l. P l.entry) ls → AllByRecursion P (entries_in ls)
    each_in_entries [] h = tt
    each_in_entries (l ∷ ls) h = (h.0, each_in_entries ls h.1)

pub each_operation : (P : Entry → Type 0) (w : WorkContent) → IsWork w → AllByRecursion (λ l. P l.entry) w.looked → AllByRecursion (λ o. P (entry_of o.0)) w.history
each_operation P w h a = each_weaker (λ o. has_entry (entries_in w.looked) (entry_of o.0) ≡ true) (λ o. P (entry_of o.0)) (λ o f. kept_one P w.looked (entry_of o.0) a f) w.history h.kept

pub each_of_work : (P : Entry → Type 0) (w : WorkContent) → IsWork w → AllByRecursion (λ l. P l.entry) w.looked → AllByRecursion P (entries w.history)
each_of_work P w h a = entries_of_each P [] w.history tt (each_operation P w h a)

pub valid_consistent : (base : Map) (stamped : List StampedTx) (id : ℕ) (ds : List ℕ) (w : WorkContent) → IsWork w → AreSeen base stamped id ds w.looked → IsConsistent base stamped id w.history (footprint_of w.history (seen_by base stamped id)) ds
valid_consistent base stamped id ds w h s = record {
  serial = kept_serial w (seen_by base stamped id) h s.shown;
  decided = each_operation (λ e. IsDecidedOn e id ds base stamped) w h s.decided;
  prints = refl;
}

later_left : (a b : Option Effect) → is_some a ≡ true → is_some (later a b) ≡ true
later_left None b e = absurd (false≢true e)
later_left (Some h) b e = refl

later_right : (a b : Option Effect) → is_some b ≡ true → is_some (later a b) ≡ true
later_right None b e = e
later_right (Some h) b e = refl

own_written : (v : Write) → is_some (write_at v.0 (Some v)) ≡ true
own_written v = ap (λ (b : Bool). is_some (cond b (Some v.1) None)) (key_is v.0)

each_written : (P : Entry → Type 0) (ts : History) → OnlyWrites ts → ((k : RowKey) → is_some (net_write k ts) ≡ true → P (Key k)) → AllByRecursion (λ o. P (entry_of o.0)) ts
each_written P [] o f = tt
each_written P (t ∷ ts) o f = (
  go (write_of t.0 t.1) refl o.0,
  each_written P ts o.1 (λ k e. f k (later_left (net_write k ts) (write_at k (write_of t.0 t.1)) e)),
)
  where
    go : (w : Option Write) → write_of t.0 t.1 ≡ w → is_some w ≡ true → P (entry_of t.0)
    go None e i = absurd (false≢true i)
    go (Some v) e i = subst P (sym (write_entry t.0 t.1 v e)) (f v.0 (later_right (net_write v.0 ts) (write_at v.0 (write_of t.0 t.1)) (ap (λ (w : Option Write). is_some (write_at v.0 w)) e ∙ own_written v)))

-- what holds of each entry that a work keeps holds of what the core saw it write
pub each_taken : (P : Entry → Type 0) (x : StampedTx) (w : TakenWork) → OnlyWrites x.history → IsTakenWork x w → AllByRecursion (λ l. P l.entry) (looked_of w) → AllByRecursion P (entries x.history)
each_taken P x w o h a =
    let ops = each_operation P w.work h.work a in
    entries_of_each P [] x.history tt (each_written P x.history o (λ k e. written_at P k (taken_history w) ops (sym (ap is_some (h.writes k)) ∙ e)))

-- ---- all entries are checked
like_valid : (e : ℕ) → IsLike (with_valid e)
like_valid e = λ x. (refl, refl, λ q. q, refl)

legal_valid : (e : ℕ) (m : Map) (xs : List StampedTx) → IsLegal m xs → IsLegal m (map (with_valid e) xs)
legal_valid e m [] h = tt
legal_valid e m (x ∷ xs) h = (h.0, legal_valid e (after_history (cond x.settled x.history []) m) xs h.1)

pub alone_valid : (e : ℕ) (x : StampedTx) (d : Entry) → LeavesAlone x d → LeavesAlone (with_valid e x) d
alone_valid e x (Key k) h = h
alone_valid e x (Range t lo hi) h = h

pub apart_valid : (e : ℕ) (x : StampedTx) (ts : History) → IsApart x ts → IsApart (with_valid e x) ts
apart_valid e x ts h = each_weaker (λ w. LeavesAlone x (entry_of w.0)) (λ w. LeavesAlone (with_valid e x) (entry_of w.0)) (λ w. alone_valid e x (entry_of w.0)) ts h

clear_valid : (e : ℕ) (xs : List StampedTx) → IsClear xs → IsClear (map (with_valid e) xs)
clear_valid e [] h = tt
clear_valid e (x ∷ xs) h = (
  λ o. each_map (with_valid e) (λ u. u.settled ≡ true → IsApart x u.history) (λ u. u.settled ≡ true → IsApart (with_valid e x) u.history) (λ u q s. apart_valid e x u.history (q s)) xs (h.0 o),
  clear_valid e xs h.1,
)

-- the one with the end e has changed where nobody else has
abbrev pub IsNowValid : List StampedTx → ℕ → StampedTx → Type 0
IsNowValid stamped e x = x.end ≡ e → AllByRecursion (IsUnchanged stamped x.id x.end) (entries x.history)

valid_one : (base : Map) (stamped : List StampedTx) (e : ℕ) (x : StampedTx) (b : Bool) → x.end == e ≡ b → IsNowValid stamped e x → IsPreparing base stamped x → IsPreparing base stamped (record x { valid = x.valid || b })
valid_one base stamped e x b is n h = record {
  consistent = h.consistent;
  below = h.below;
  checked = h.checked;
  valid = λ v. elim (or_cases x.valid b v) [ inl p ↦ h.valid p | inr p ↦ n (eqb-true x.end e (is ∙ p)) ];
}

pub sound_after_valid : (s : State) (e : ℕ) → AllByRecursion (IsNowValid s.stamped e) s.stamped → IsSound s → IsSound (after_valid s e)
sound_after_valid s e n h =
    let f = with_valid e in
    let l = like_valid e in
    record {
      legal = legal_valid e s.base s.stamped h.legal;
      rising = rising_map f l s.stamped h.rising;
      clear = clear_valid e s.stamped h.clear;
      placed = each_map f (IsPlaced s.stamped s.clock) (IsPlaced (map f s.stamped) s.clock) (λ x p. record { begun = p.begun; drawn = p.drawn; others = others_map f l x.id s.stamped p.others }) s.stamped h.placed;
      preparing = each_map f (λ x. IsNowValid s.stamped e x × (x.settled ≡ false → IsPreparing s.base s.stamped x)) (λ x. x.settled ≡ false → IsPreparing s.base (map f s.stamped) x) (λ x p o. preparing_map f l s.base s.stamped (f x) (valid_one s.base s.stamped e x (x.end == e) refl p.0 (p.1 o))) s.stamped
          (each_both (IsNowValid s.stamped e) (λ x. x.settled ≡ false → IsPreparing s.base s.stamped x) (λ x. IsNowValid s.stamped e x × (x.settled ≡ false → IsPreparing s.base s.stamped x)) (λ x p q. (p, q)) s.stamped n h.preparing);
      active = each_weaker (IsActive s.base s.stamped s.clock) (IsActive s.base (map f s.stamped) s.clock) (λ r. active_map f l s.base s.stamped s.clock r) s.active h.active;
    }

-- ---- a look that the core hears of
register_one : (s : State) (t : ℕ) (op : Op) (r : ActiveTx) (b : Bool) → IsActive s.base s.stamped s.clock r → IsActive s.base s.stamped s.clock (record r { depends_on = cond b (dependencies s op r) r.depends_on })
register_one s t op r false h = record { consistent = h.consistent; below = h.below; others = h.others; drawn = h.drawn }
register_one s t op r true h = record {
  consistent = λ d. let q = h.consistent d in record {
    serial = q.serial;
    decided = each_weaker (λ o. IsDecidedOn (entry_of o.0) r.id r.depends_on s.base s.stamped) (λ o. IsDecidedOn (entry_of o.0) r.id (dependencies s op r) s.base s.stamped)
        (λ o. decided_on_more (entry_of o.0) r.id r.depends_on (dependencies s op r) s.base s.stamped (depends_more r.depends_on (unwritten r.history (keys_for (entry_of op) r.id s.base s.stamped)) r.id s.stamped)) r.history q.decided;
    prints = q.prints;
  };
  below = below_all r.id r.depends_on (unwritten r.history (keys_for (entry_of op) r.id s.base s.stamped)) s.stamped h.below;
  others = h.others;
  drawn = h.drawn;
}

pub sound_after_register : (s : State) (t : ℕ) (op : Op) → IsSound s → IsSound (after_registering s t op)
sound_after_register s t op h = record {
  legal = h.legal;
  rising = h.rising;
  clear = h.clear;
  placed = h.placed;
  preparing = h.preparing;
  active = each_map (with_dependencies s t op) (IsActive s.base s.stamped s.clock) (IsActive s.base s.stamped s.clock) (λ r. register_one s t op r (r.id == t)) s.active h.active;
}
