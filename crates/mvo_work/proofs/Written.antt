-- The keys that are written: each has its entry.
use Rattle.std.proofs.Common.{◌≡◌, Bool, true, false, cond, ◌&&◌, List, [], ◌∷◌, ◌++◌, Option, None, Some, refl, sym, ap, ◌∙◌, subst}
use Rattle.std.specs.Prelude.{◌==◌, is_some}
use Rattle.std.specs.Ordering.{eq_by_cmp}
use Rattle.std.proofs.lemmas.Bool.{false≢true, eq-eqb}
use Rattle.mvo_types.specs.declared.row.RowKey.{RowKey}
use Rattle.mvo_types.specs.Keys.{key_cmp}
use Rattle.mvo_types.specs.Write.{Write, Effect}
use Rattle.mvo_model.specs.History.{History, write_of, write_at, later, net_write}
use Rattle.mvo_types.specs.declared.entry.Entry.{Entry}
use Rattle.mvo_types.specs.Entries.{is_same, has_entry, with_entry}
use Rattle.mvo_theory.specs.Entries.{entry_of, entries_from, entries, is_noted, written_keys}
use Rattle.mvo_types.specs.declared.entry.Entry.TheVariants.{Key, Range}
use Rattle.mvo_theory.proofs.Footprints.{or_left, key_same, any_left, any_right}
use Rattle.mvo_theory.proofs.Written.{noted_written}
use Rattle.mvo_theory.proofs.Looks.{write_entry}

-- ---- an entry is among those with it, and stays
both : (a b : Bool) → a ≡ true → b ≡ true → (a && b) ≡ true
both true b e f = f
both false b e f = absurd (false≢true e)

same_self : (e : Entry) → is_same e e ≡ true
same_self (Key k) = both (k.table == k.table) (k.key == k.key) (eq-eqb k.table k.table refl) (eq-eqb k.key k.key refl)
same_self (Range table lo hi) = both (table == table) ((lo == lo) && (hi == hi)) (eq-eqb table table refl) (both (lo == lo) (hi == hi) (eq-eqb lo lo refl) (eq-eqb hi hi refl))

has_now : (es : List Entry) (e : Entry) → has_entry (with_entry es e) e ≡ true
has_now es e = go (has_entry es e) refl
  where
    go : (b : Bool) → has_entry es e ≡ b → has_entry (cond b es (es ++ e ∷ [])) e ≡ true
    go true f = f
    go false f = any_right (is_same e) es (e ∷ []) (or_left (is_same e e) false (same_self e))

has_with : (es : List Entry) (d e : Entry) → has_entry es e ≡ true → has_entry (with_entry es d) e ≡ true
has_with es d e h = go (has_entry es d)
  where
    go : (b : Bool) → has_entry (cond b es (es ++ d ∷ [])) e ≡ true
    go true = h
    go false = any_left (is_same e) es (d ∷ []) h

has_still : (es : List Entry) (ts : History) (e : Entry) → has_entry es e ≡ true → has_entry (entries_from es ts) e ≡ true
has_still es [] e h = h
has_still es (t ∷ ts) e h = has_still (with_entry es (entry_of t.0)) ts e (has_with es (entry_of t.0) e h)

-- ---- who wrote a key has the entry of it
wrote_here : (k : RowKey) (e : Entry) (w : Option Write) → ((v : Write) → w ≡ Some v → e ≡ Key v.0) → is_some (write_at k w) ≡ true → e ≡ Key k
wrote_here k e None f h = absurd (false≢true h)
wrote_here k e (Some v) f h = go (eq_by_cmp key_cmp k v.0) refl h
  where
    go : (b : Bool) → eq_by_cmp key_cmp k v.0 ≡ b → is_some (cond b (Some v.1) None) ≡ true → e ≡ Key k
    go true g i = f v refl ∙ ap Key (key_same k v.0 g)
    go false g i = absurd (false≢true i)

looked_from : (es : List Entry) (ts : History) (k : RowKey) → is_some (net_write k ts) ≡ true → has_entry (entries_from es ts) (Key k) ≡ true
looked_from es [] k h = absurd (false≢true h)
looked_from es (t ∷ ts) k h = go (net_write k ts) refl h (looked_from (with_entry es (entry_of t.0)) ts k)
  where
    go : (w : Option Effect) → net_write k ts ≡ w → is_some (later w (write_at k (write_of t.0 t.1))) ≡ true → (is_some (net_write k ts) ≡ true → has_entry (entries_from (with_entry es (entry_of t.0)) ts) (Key k) ≡ true) → has_entry (entries_from (with_entry es (entry_of t.0)) ts) (Key k) ≡ true
    go (Some w) f g r = r (ap is_some f)
    go None f g r =
        let here = wrote_here k (entry_of t.0) (write_of t.0 t.1) (write_entry t.0 t.1) g in
        has_still (with_entry es (entry_of t.0)) ts (Key k) (subst (λ (e : Entry). has_entry (with_entry es e) (Key k) ≡ true) (sym here) (has_now es (Key k)))

pub looked_at : (ts : History) (k : RowKey) → is_noted (written_keys ts) k ≡ true → has_entry (entries ts) (Key k) ≡ true
looked_at ts k h = looked_from [] ts k (sym (noted_written ts k) ∙ h)

-- so a key isn't written that has no entry
pub unwritten : (ts : History) (k : RowKey) → has_entry (entries ts) (Key k) ≡ false → is_noted (written_keys ts) k ≡ false
unwritten ts k h = go (is_noted (written_keys ts) k) refl
  where
    go : (b : Bool) → is_noted (written_keys ts) k ≡ b → b ≡ false
    go true e = sym (looked_at ts k e) ∙ h
    go false e = refl
