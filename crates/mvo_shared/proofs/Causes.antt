-- The tests of the new causes say what the steps need, and never stand of works that were made here.
use Rattle.std.proofs.Common.{◌≡◌, ℕ, Bool, true, false, cond, not, ◌||◌, List, [], ◌∷◌, ◌++◌, Option, None, Some, refl, sym, ap, ◌∙◌, subst, inl, inr}
use Rattle.std.specs.Prelude.{◌&&◌, ◌==◌, nat_lt, is_some}
use Rattle.std.specs.FinMap as fin
use Rattle.std.specs.List.{AllByRecursion, filter, list_any}
use Rattle.std.specs.Ordering.{eq_by_cmp}
use Rattle.std.proofs.lemmas.Bool.{eqb-true, eq-eqb, false≢true, true≢false, and_parts, and_from, not-true, not-false}
use Rattle.std.proofs.lemmas.Map.Views.{tells_apart}
use Rattle.mvo_types.proofs.Maps.{exact_keys}
use Rattle.mvo_types.specs.declared.row.RowKey.{RowKey}
use Rattle.mvo_types.specs.declared.op.Op.{Op}
use Rattle.mvo_types.specs.RowData.{RowData, ContentData}
use Rattle.mvo_types.specs.Keys.{Map, key_cmp}
use Rattle.mvo_types.specs.declared.entry.Entry.{Entry}
use Rattle.mvo_types.specs.Entries.{has_entry}
use Rattle.mvo_theory.specs.Entries.{entry_of, is_noted}
use Rattle.mvo_types.specs.declared.entry.Entry.TheVariants.{Key, Range}
use Rattle.mvo_theory.specs.Ranges.{Row, shows, pass, puts, is_row_of}
use Rattle.mvo_theory.specs.State.{State, ActiveTx, StampedTx, history_below, seen_by}
use Rattle.mvo_theory.specs.Dependencies.{is_writer, or_later, is_put_below, last_writer, has_end, keys_for, counts_for}
use Rattle.mvo_theory.specs.Causes.{change_of}
use Rattle.mvo_theory.specs.Sound.{IsKeyWritten, IsDecided, IsDecidedOn}
use Rattle.mvo_theory.proofs.Each.{each_weaker, each_append, each_filter}
use Rattle.mvo_theory.proofs.Footprints.{or_parts, or_left, or_right, key_same}
use Rattle.mvo_theory.proofs.Looks.{key_is}
use Rattle.mvo_theory.proofs.Stamped.{decided_now}
use Rattle.mvo_theory.proofs.Counts.{puts-append, counted_noted}
use Rattle.mvo_theory.proofs.LastWriter.{none_writes}
use Rattle.mvo_theory.proofs.Causes.{change_none}
use Rattle.mvo_shared.specs.Kept.{Looked, WorkContent, rows_shown, rows_kept, entries_in}
use Rattle.mvo_shared.specs.Shared.{AreSeen, AreFound, IsOwnWork, rows_for, is_known, are_known}
use Rattle.mvo_shared.specs.Causes.{same_bytes, same_row, same_rows, is_look_mismatch, is_entry_mismatch, is_found}
use Rattle.mvo_shared.proofs.Known.{known_one}
use Rattle.mvo_shared.proofs.Kept.{finds_own, each_mapped}
use Rattle.mvo_shared.proofs.Own.{kept_shown}

-- ---- equal, byte for byte
pub bytes_are : (xs ys : List ℕ) → same_bytes xs ys ≡ true → xs ≡ ys
bytes_are [] [] h = refl
bytes_are [] (y ∷ ys) h = absurd (false≢true h)
bytes_are (x ∷ xs) [] h = absurd (false≢true h)
bytes_are (x ∷ xs) (y ∷ ys) h = let p = and_parts (x == y) (same_bytes xs ys) h in ap (λ z. z ∷ xs) (eqb-true x y p.0) ∙ ap (λ zs. y ∷ zs) (bytes_are xs ys p.1)

pub same_self : (xs : List ℕ) → same_bytes xs xs ≡ true
same_self [] = refl
same_self (x ∷ xs) = and_from (x == x) (same_bytes xs xs) (eq-eqb x x refl) (same_self xs)

row_is : (a b : RowData) → same_row a b ≡ true → a ≡ b
row_is a b h =
    let p = and_parts (eq_by_cmp key_cmp a.key b.key) ((a.sort == b.sort) && same_bytes a.bytes b.bytes) h in
    let q = and_parts (a.sort == b.sort) (same_bytes a.bytes b.bytes) p.1 in
    ap (λ (k : RowKey). record { key = k; sort = a.sort; bytes = a.bytes }) (tells_apart exact_keys a.key b.key p.0)
    ∙ ap (λ (n : ℕ). record { key = b.key; sort = n; bytes = a.bytes }) (eqb-true a.sort b.sort q.0)
    ∙ ap (λ (bs : List ℕ). record { key = b.key; sort = b.sort; bytes = bs }) (bytes_are a.bytes b.bytes q.1)

row_self : (a : RowData) → same_row a a ≡ true
row_self a = and_from (eq_by_cmp key_cmp a.key a.key) ((a.sort == a.sort) && same_bytes a.bytes a.bytes) (key_is a.key) (and_from (a.sort == a.sort) (same_bytes a.bytes a.bytes) (eq-eqb a.sort a.sort refl) (same_self a.bytes))

pub rows_are : (xs ys : List RowData) → same_rows xs ys ≡ true → xs ≡ ys
rows_are [] [] h = refl
rows_are [] (y ∷ ys) h = absurd (false≢true h)
rows_are (x ∷ xs) [] h = absurd (false≢true h)
rows_are (x ∷ xs) (y ∷ ys) h = let p = and_parts (same_row x y) (same_rows xs ys) h in ap (λ z. z ∷ xs) (row_is x y p.0) ∙ ap (λ zs. y ∷ zs) (rows_are xs ys p.1)

pub rows_self : (xs : List RowData) → same_rows xs xs ≡ true
rows_self [] = refl
rows_self (x ∷ xs) = and_from (same_row x x) (same_rows xs xs) (row_self x) (rows_self xs)

-- ---- who decides is known exactly where it is settled or depended on
known_decides : (ds : List ℕ) (k : RowKey) (b : ℕ) (stamped : List StampedTx) → is_known ds (last_writer k b stamped) ≡ true → IsDecided k b ds stamped
known_decides ds k b stamped h = subst (λ (es : List ℕ). IsDecided k b es stamped) (known_one ds (last_writer k b stamped) h) (decided_now k b ds stamped)

known_at : (ds : List ℕ) (ks : List RowKey) (q : RowKey) (b : ℕ) (stamped : List StampedTx) → are_known ds ks b stamped ≡ true → is_noted ks q ≡ true → IsDecided q b ds stamped
known_at ds [] q b stamped h n = absurd (false≢true n)
known_at ds (k ∷ ks) q b stamped h n = go (eq_by_cmp key_cmp q k) refl n (known_at ds ks q b stamped p.1)
  where
    p : (is_known ds (last_writer k b stamped) ≡ true) × (are_known ds ks b stamped ≡ true)
    p = and_parts (is_known ds (last_writer k b stamped)) (are_known ds ks b stamped) h

    go : (c : Bool) → eq_by_cmp key_cmp q k ≡ c → (c || is_noted ks q) ≡ true → (is_noted ks q ≡ true → IsDecided q b ds stamped) → IsDecided q b ds stamped
    go true e g r = subst (λ (j : RowKey). IsDecided j b ds stamped) (key_same q k e) (known_decides ds k b stamped p.0)
    go false e g r = r g

pub known_decided : (ds : List ℕ) (e : Entry) (b : ℕ) (base : Map) (stamped : List StampedTx) → are_known ds (keys_for e b base stamped) b stamped ≡ true → IsDecidedOn e b ds base stamped
known_decided ds e b base stamped h q c = known_at ds (keys_for e b base stamped) q b stamped h (counted_noted e q b base stamped c)

-- ---- what a check finds
pub found_by_test : (base : Map) (stamped : List StampedTx) (x : StampedTx) (l : Looked) → is_found base stamped x l ≡ true → AreFound base stamped x (l ∷ [])
found_by_test base stamped x l h =
    let p = and_parts (not (is_some (change_of stamped x.id x.end l.entry))) (not (is_entry_mismatch base stamped x l)) h in
    let q = or_parts (not (same_rows l.rows (rows_shown l.entry (seen_by base stamped x.id)))) (not (are_known x.depends_on (keys_for l.entry x.id base stamped) x.id stamped)) (not-true (is_entry_mismatch base stamped x l) p.1) in
    record {
      seen = λ _. record {
        shown = (rows_are l.rows (rows_shown l.entry (seen_by base stamped x.id)) (not-false (same_rows l.rows (rows_shown l.entry (seen_by base stamped x.id))) q.0), tt);
        decided = (known_decided x.depends_on l.entry x.id base stamped (not-false (are_known x.depends_on (keys_for l.entry x.id base stamped) x.id stamped) q.1), tt);
      };
      still = (change_none x.id x.end l.entry stamped (none_is (change_of stamped x.id x.end l.entry) (not-true (is_some (change_of stamped x.id x.end l.entry)) p.0)), tt);
    }
  where
    none_is : (o : Option ℕ) → is_some o ≡ false → o ≡ None
    none_is None e = refl
    none_is (Some n) e = absurd (true≢false e)

-- ---- an operation of a work that was made here meets no mismatch
pub no_look_test : (s : State) (r : ActiveTx) (w : WorkContent) (op : Op) → r.aborted_dependency ≡ None → IsOwnWork s.base s.stamped r w → is_look_mismatch s r w op ≡ false
no_look_test s r w op n h = go (has_entry (entries_in w.looked) (entry_of op)) refl
  where
    rows : List RowData
    rows = rows_kept w.looked (entry_of op)

    go : (b : Bool) → has_entry (entries_in w.looked) (entry_of op) ≡ b → (b && not (same_rows rows (rows_for s r op))) ≡ false
    go false e = refl
    go true e = ap not (ap (same_rows rows) (sym (kept_shown w.looked (seen_by s.base s.stamped r.id) (entry_of op) (h.seen n).shown e)) ∙ rows_self rows)

-- ---- the converse: who is decided is known, and each key that is asked for counts
pub decided_known : (ds : List ℕ) (k : RowKey) (b : ℕ) (stamped : List StampedTx) → IsDecided k b ds stamped → is_known ds (last_writer k b stamped) ≡ true
decided_known ds k b [] d = refl
decided_known ds k b (x ∷ xs) d = go (last_writer k b xs) refl (decided_known ds k b xs d.1)
  where
    not_here : last_writer k b xs ≡ None → IsKeyWritten k b xs → ⊥
    not_here e w = none_written xs (none_writes k b xs e) w
      where
        none_written : (ys : List StampedTx) → AllByRecursion (λ z. is_writer k b z ≡ false) ys → IsKeyWritten k b ys → ⊥
        none_written [] h w = w
        none_written (y ∷ ys) h (inl q) = false≢true (sym h.0 ∙ q)
        none_written (y ∷ ys) h (inr q) = none_written ys h.1 q

    open_one : last_writer k b xs ≡ None → is_writer k b x ≡ true → (a : Bool) → x.settled ≡ a → (a || has_end ds x.end) ≡ true
    open_one e w true s = refl
    open_one e w false s = elim (d.0 s w) [ inl q ↦ q | inr q ↦ absurd (not_here e q) ]

    first : last_writer k b xs ≡ None → (c : Bool) → is_writer k b x ≡ c → is_known ds (cond c (Some x) None) ≡ true
    first e false w = refl
    first e true w = open_one e w x.settled refl

    go : (v : Option StampedTx) → last_writer k b xs ≡ v → is_known ds v ≡ true → is_known ds (or_later (cond (is_writer k b x) (Some x) None) v) ≡ true
    go None e h = first e (is_writer k b x) refl
    go (Some y) e h = h

are_known_each : (ds : List ℕ) (ks : List RowKey) (b : ℕ) (stamped : List StampedTx) → AllByRecursion (λ k. IsDecided k b ds stamped) ks → are_known ds ks b stamped ≡ true
are_known_each ds [] b stamped h = refl
are_known_each ds (k ∷ ks) b stamped h = and_from (is_known ds (last_writer k b stamped)) (are_known ds ks b stamped) (decided_known ds k b stamped h.0) (are_known_each ds ks b stamped h.1)

-- a row that was put is of somebody
put_below : (p : Row → Bool) (b : ℕ) (stamped : List StampedTx) → AllByRecursion (λ r. p r ≡ true → is_put_below p r.0 b stamped ≡ true) (puts (history_below b stamped))
put_below p b [] = tt
put_below p b (x ∷ xs) =
    subst (AllByRecursion (λ r. p r ≡ true → is_put_below p r.0 b (x ∷ xs) ≡ true)) (sym (puts-append (cond (nat_lt x.end b) x.history []) (history_below b xs)))
    (each_append (λ r. p r ≡ true → is_put_below p r.0 b (x ∷ xs) ≡ true) (puts (cond (nat_lt x.end b) x.history [])) (puts (history_below b xs)) (mine (nat_lt x.end b))
    (each_weaker (λ r. p r ≡ true → is_put_below p r.0 b xs ≡ true) (λ r. p r ≡ true → is_put_below p r.0 b (x ∷ xs) ≡ true) (λ r f e. or_right (nat_lt x.end b && list_any (is_row_of p r.0) (puts x.history)) (is_put_below p r.0 b xs) (f e)) (puts (history_below b xs)) (put_below p b xs)))
  where
    own : (rs : List Row) → AllByRecursion (λ r. p r ≡ true → list_any (is_row_of p r.0) rs ≡ true) rs
    own [] = tt
    own (r ∷ rs) = (
      λ e. or_left (is_row_of p r.0 r) (list_any (is_row_of p r.0) rs) (and_from (eq_by_cmp key_cmp r.0 r.0) (p r) (key_is r.0) e),
      each_weaker (λ q. p q ≡ true → list_any (is_row_of p q.0) rs ≡ true) (λ q. p q ≡ true → (is_row_of p q.0 r || list_any (is_row_of p q.0) rs) ≡ true) (λ q f e. or_right (is_row_of p q.0 r) (list_any (is_row_of p q.0) rs) (f e)) rs (own rs),
    )

    mine : (c : Bool) → AllByRecursion (λ r. p r ≡ true → ((c && list_any (is_row_of p r.0) (puts x.history)) || is_put_below p r.0 b xs) ≡ true) (puts (cond c x.history []))
    mine false = tt
    mine true = each_weaker (λ r. p r ≡ true → list_any (is_row_of p r.0) (puts x.history) ≡ true) (λ r. p r ≡ true → (list_any (is_row_of p r.0) (puts x.history) || is_put_below p r.0 b xs) ≡ true) (λ r f e. or_left (list_any (is_row_of p r.0) (puts x.history)) (is_put_below p r.0 b xs) (f e)) (puts x.history) (own (puts x.history))

keys_count : (e : Entry) (b : ℕ) (base : Map) (stamped : List StampedTx) → AllByRecursion (λ q. counts_for e q b base stamped ≡ true) (keys_for e b base stamped)
keys_count (Key k) b base stamped = (key_is k, tt)
keys_count (Range t lo hi) b base stamped =
    each_mapped (λ (r : Row). r.0) (λ q. counts_for (Range t lo hi) q b base stamped ≡ true) (filter p rows)
    (each_filter p (λ r. p r ≡ true → counts_for (Range t lo hi) r.0 b base stamped ≡ true) (λ r. counts_for (Range t lo hi) r.0 b base stamped ≡ true) (λ r e f. f e) rows
    (each_append (λ r. p r ≡ true → counts_for (Range t lo hi) r.0 b base stamped ≡ true) (fin.entries base) (puts (history_below b stamped))
    (each_weaker (λ r. fin.find key_cmp r.0 (fin.entries base) ≡ Some r.1) (λ r. p r ≡ true → counts_for (Range t lo hi) r.0 b base stamped ≡ true) (λ r f e. or_left (is_some (pass p r.0 (fin.get base r.0))) (is_put_below p r.0 b stamped) (ap (λ (o : Option ContentData). is_some (pass p r.0 o)) (fin.get-entries base r.0 ∙ f) ∙ ap (λ (c : Bool). is_some (cond c (Some r.1) None)) e)) (fin.entries base) (finds_own (fin.entries base) (fin.entries_sorted base)))
    (each_weaker (λ r. p r ≡ true → is_put_below p r.0 b stamped ≡ true) (λ r. p r ≡ true → counts_for (Range t lo hi) r.0 b base stamped ≡ true) (λ r f e. or_right (is_some (pass p r.0 (fin.get base r.0))) (is_put_below p r.0 b stamped) (f e)) (puts (history_below b stamped)) (put_below p b stamped))))
  where
    p : Row → Bool
    p = shows (Range t lo hi)

    rows : List Row
    rows = fin.entries base ++ puts (history_below b stamped)

-- so the test of an entry that is seen doesn't stand: validation never answers a mismatch of a work that was made here
pub no_entry_test : (base : Map) (stamped : List StampedTx) (x : StampedTx) (l : Looked) → AreSeen base stamped x.id x.depends_on (l ∷ []) → is_entry_mismatch base stamped x l ≡ false
no_entry_test base stamped x l h =
    ap (λ (c : Bool). not c || not (are_known x.depends_on (keys_for l.entry x.id base stamped) x.id stamped)) (ap (λ rows. same_rows rows (rows_shown l.entry (seen_by base stamped x.id))) h.shown.0 ∙ rows_self (rows_shown l.entry (seen_by base stamped x.id)))
    ∙ ap (λ (c : Bool). false || not c) (are_known_each x.depends_on (keys_for l.entry x.id base stamped) x.id stamped (each_weaker (λ q. counts_for l.entry q x.id base stamped ≡ true) (λ q. IsDecided q x.id x.depends_on stamped) (λ q c. h.decided.0 q c) (keys_for l.entry x.id base stamped) (keys_count l.entry x.id base stamped)))
