-- The dependencies are exact: an operation adds the Preparing last writers of the keys that count for it and are not written, and no others.
use Rattle.std.proofs.Common.{◌≡◌, ℕ, Bool, true, false, cond, not, ◌||◌, List, [], ◌∷◌, ◌++◌, Option, None, Some, map, refl, sym, ap, ◌∙◌, subst, ◌⊎◌, inl, inr}
use Rattle.std.specs.Prelude.{nat_lt, ◌==◌, ◌&&◌, is_some}
use Rattle.std.specs.List.{filter, list_any}
use Rattle.std.specs.Ordering.{eq_by_cmp}
use Rattle.std.specs.FinMap as fin
use Rattle.std.proofs.lemmas.Bool.{false≢true, eqb-true, eq-eqb, and_from}
use Rattle.std.proofs.lemmas.List.Folds.{list_any-append}
use Rattle.mvo_types.specs.declared.row.RowKey.{RowKey}
use Rattle.mvo_types.specs.declared.op.Op.{Op}
use Rattle.mvo_types.specs.Keys.{Map, key_cmp}
use Rattle.mvo_model.specs.History.{History, net_write}
use Rattle.mvo_types.specs.declared.entry.Entry.{Entry}
use Rattle.mvo_theory.specs.Entries.{entry_of, is_noted}
use Rattle.mvo_theory.specs.Ranges.{Row, shows, pass, puts, is_row_of}
use Rattle.mvo_theory.specs.State.{State, StampedTx, ActiveTx, history_below}
use Rattle.mvo_theory.specs.Dependencies.{last_writer, has_end, with_end, depend_on, depend_on_all, is_put_below, counts_for, keys_for, unwritten, dependencies}
use Rattle.mvo_theory.proofs.Looks.{key_is}
use Rattle.mvo_theory.proofs.Footprints.{or_left, or_right, key_same}
use Rattle.mvo_theory.proofs.Scans.{find_filter}
use Rattle.mvo_theory.proofs.Counts.{counted_noted, puts-append}
use Rattle.mvo_theory.proofs.Depends.{depends_more, unwritten_noted}
use Rattle.mvo_types.specs.declared.entry.Entry.TheVariants.{Key, Range}

pub or_cases : (a b : Bool) → (a || b) ≡ true → (a ≡ true) ⊎ (b ≡ true)
or_cases true b h = inl refl
or_cases false b h = inr h

-- ---- the keys that are asked for are those that count
noted_rows : (p : Row → Bool) (q : RowKey) (rs : List Row) → is_noted (map (λ (r : Row). r.0) (filter p rs)) q ≡ true → list_any (is_row_of p q) rs ≡ true
noted_rows p q [] h = absurd (false≢true h)
noted_rows p q (r ∷ rs) h = go (p r) refl h (noted_rows p q rs)
  where
    go : (b : Bool) → p r ≡ b → is_noted (map (λ (s : Row). s.0) (cond b (r ∷ filter p rs) (filter p rs))) q ≡ true → (is_noted (map (λ (s : Row). s.0) (filter p rs)) q ≡ true → list_any (is_row_of p q) rs ≡ true) → (is_row_of p q r || list_any (is_row_of p q) rs) ≡ true
    go false e g f = or_right (is_row_of p q r) (list_any (is_row_of p q) rs) (f g)
    go true e g f = elim (or_cases (eq_by_cmp key_cmp q r.0) (is_noted (map (λ (s : Row). s.0) (filter p rs)) q) g) [
      | inl a ↦ or_left (is_row_of p q r) (list_any (is_row_of p q) rs) (and_from (eq_by_cmp key_cmp q r.0) (p r) a e)
      | inr b ↦ or_right (is_row_of p q r) (list_any (is_row_of p q) rs) (f b)
    ]

row_found : (p : Row → Bool) (q : RowKey) (es : List Row) → list_any (is_row_of p q) es ≡ true → is_some (fin.find key_cmp q (filter p es)) ≡ true
row_found p q [] h = absurd (false≢true h)
row_found p q (e ∷ es) h = go (eq_by_cmp key_cmp q e.0) refl (p e) refl h (row_found p q es)
  where
    first : (b : Bool) → (b ≡ true) ⊎ (is_some (fin.find key_cmp q (filter p es)) ≡ true) → is_some (cond b (Some e.1) (fin.find key_cmp q (filter p es))) ≡ true
    first true f = refl
    first false (inl f) = absurd (false≢true f)
    first false (inr f) = f

    go : (a : Bool) → eq_by_cmp key_cmp q e.0 ≡ a → (b : Bool) → p e ≡ b → ((a && b) || list_any (is_row_of p q) es) ≡ true → (list_any (is_row_of p q) es ≡ true → is_some (fin.find key_cmp q (filter p es)) ≡ true) → is_some (fin.find key_cmp q (cond b (e ∷ filter p es) (filter p es))) ≡ true
    go true f true g i r = first (eq_by_cmp key_cmp q e.0) (inl f)
    go false f true g i r = first (eq_by_cmp key_cmp q e.0) (inr (r i))
    go true f false g i r = r i
    go false f false g i r = r i

history_put : (p : Row → Bool) (q : RowKey) (b : ℕ) (xs : List StampedTx) → list_any (is_row_of p q) (puts (history_below b xs)) ≡ true → is_put_below p q b xs ≡ true
history_put p q b [] h = absurd (false≢true h)
history_put p q b (x ∷ xs) h = go (nat_lt x.end b) (sym (ap (list_any (is_row_of p q)) (puts-append (cond (nat_lt x.end b) x.history []) (history_below b xs))) ∙ h) (history_put p q b xs)
  where
    go : (c : Bool) → list_any (is_row_of p q) (puts (cond c x.history []) ++ puts (history_below b xs)) ≡ true → (list_any (is_row_of p q) (puts (history_below b xs)) ≡ true → is_put_below p q b xs ≡ true) → ((c && list_any (is_row_of p q) (puts x.history)) || is_put_below p q b xs) ≡ true
    go false g r = r g
    go true g r = elim (or_cases (list_any (is_row_of p q) (puts x.history)) (list_any (is_row_of p q) (puts (history_below b xs))) (sym (list_any-append (is_row_of p q) (puts x.history) (puts (history_below b xs))) ∙ g)) [
      | inl a ↦ or_left (list_any (is_row_of p q) (puts x.history)) (is_put_below p q b xs) a
      | inr c ↦ or_right (list_any (is_row_of p q) (puts x.history)) (is_put_below p q b xs) (r c)
    ]

pub noted_counted : (e : Entry) (q : RowKey) (b : ℕ) (base : Map) (stamped : List StampedTx) → is_noted (keys_for e b base stamped) q ≡ true → counts_for e q b base stamped ≡ true
noted_counted (Key k) q b base stamped h = go (eq_by_cmp key_cmp q k) h
  where
    go : (c : Bool) → (c || false) ≡ true → c ≡ true
    go true g = refl
    go false g = g
noted_counted (Range t lo hi) q b base stamped h =
    elim (or_cases (list_any (is_row_of p q) (fin.entries base)) (list_any (is_row_of p q) (puts (history_below b stamped)))
    (sym (list_any-append (is_row_of p q) (fin.entries base) (puts (history_below b stamped))) ∙ noted_rows p q (fin.entries base ++ puts (history_below b stamped)) h)) [
      | inl a ↦ or_left (is_some (pass p q (fin.get base q))) (is_put_below p q b stamped)
          (ap (λ o. is_some (pass p q o)) (fin.get-entries base q) ∙ ap is_some (sym (find_filter p q (fin.entries base) (fin.entries_sorted base))) ∙ row_found p q (fin.entries base) a)
      | inr c ↦ or_right (is_some (pass p q (fin.get base q))) (is_put_below p q b stamped) (history_put p q b stamped c)
    ]
  where
    p : Row → Bool
    p = shows (Range t lo hi)

-- ---- who is added
-- a Preparing one with this end is the last writer below the begin of a key that counts for the operation, and that the transaction hasn't written
pub record IsDeciding (s : State) (op : Op) (r : ActiveTx) (d : ℕ) : Type 0 where
  pub key : RowKey
  pub counts : counts_for (entry_of op) key r.id s.base s.stamped ≡ true
  pub unwritten : is_some (net_write key r.history) ≡ false
  pub writer : StampedTx
  pub last : last_writer key r.id s.stamped ≡ Some writer
  pub open' : writer.settled ≡ false
  pub ends : writer.end ≡ d

-- one of the keys has such a last writer
record IsAmong (ks : List RowKey) (b : ℕ) (stamped : List StampedTx) (d : ℕ) : Type 0 where
  pub key : RowKey
  pub among : is_noted ks key ≡ true
  pub writer : StampedTx
  pub last : last_writer key b stamped ≡ Some writer
  pub open' : writer.settled ≡ false
  pub ends : writer.end ≡ d

with_end_only : (ds : List ℕ) (d x : ℕ) → has_end (with_end ds d) x ≡ true → (has_end ds x ≡ true) ⊎ (d ≡ x)
with_end_only ds d x h = go (has_end ds d) h
  where
    go : (b : Bool) → has_end (cond b ds (d ∷ ds)) x ≡ true → (has_end ds x ≡ true) ⊎ (d ≡ x)
    go true g = inl g
    go false g = elim (or_cases (d == x) (has_end ds x) g) [ inl a ↦ inr (eqb-true d x a) | inr b ↦ inl b ]

depend_only : (ds : List ℕ) (w : Option StampedTx) (d : ℕ) → has_end (depend_on ds w) d ≡ true → (has_end ds d ≡ true) ⊎ ((x : StampedTx) × (w ≡ Some x) × (x.settled ≡ false) × (x.end ≡ d))
depend_only ds None d h = inl h
depend_only ds (Some x) d h = go x.settled refl h
  where
    go : (b : Bool) → x.settled ≡ b → has_end (cond b ds (with_end ds x.end)) d ≡ true → (has_end ds d ≡ true) ⊎ ((y : StampedTx) × (Some x ≡ Some y) × (y.settled ≡ false) × (y.end ≡ d))
    go true e g = inl g
    go false e g = elim (with_end_only ds x.end d g) [ inl a ↦ inl a | inr b ↦ inr (x, refl, e, b) ]

all_only : (ds : List ℕ) (ks : List RowKey) (b : ℕ) (stamped : List StampedTx) (d : ℕ) → has_end (depend_on_all ds ks b stamped) d ≡ true → (has_end ds d ≡ true) ⊎ IsAmong ks b stamped d
all_only ds [] b stamped d h = inl h
all_only ds (k ∷ ks) b stamped d h = elim (all_only (depend_on ds (last_writer k b stamped)) ks b stamped d h) [
  | inl a ↦ elim (depend_only ds (last_writer k b stamped) d a) [
    | inl c ↦ inl c
    | inr x ↦ inr (record { key = k; among = or_left (eq_by_cmp key_cmp k k) (is_noted ks k) (key_is k); writer = x.0; last = x.1; open' = x.2; ends = x.3 })
  ]
  | inr y ↦ inr (record { key = y.key; among = or_right (eq_by_cmp key_cmp y.key k) (is_noted ks y.key) y.among; writer = y.writer; last = y.last; open' = y.open'; ends = y.ends })
]

noted_unwritten : (ts : History) (q : RowKey) (ks : List RowKey) → is_noted (unwritten ts ks) q ≡ true → (is_noted ks q ≡ true) × (is_some (net_write q ts) ≡ false)
noted_unwritten ts q [] h = absurd (false≢true h)
noted_unwritten ts q (k ∷ ks) h = go (is_some (net_write k ts)) refl h (noted_unwritten ts q ks)
  where
    go : (b : Bool) → is_some (net_write k ts) ≡ b → is_noted (cond (not b) (k ∷ unwritten ts ks) (unwritten ts ks)) q ≡ true → (is_noted (unwritten ts ks) q ≡ true → (is_noted ks q ≡ true) × (is_some (net_write q ts) ≡ false)) → ((eq_by_cmp key_cmp q k || is_noted ks q) ≡ true) × (is_some (net_write q ts) ≡ false)
    go true e g f = let r = f g in (or_right (eq_by_cmp key_cmp q k) (is_noted ks q) r.0, r.1)
    go false e g f = elim (or_cases (eq_by_cmp key_cmp q k) (is_noted (unwritten ts ks) q) g) [
      | inl a ↦ (or_left (eq_by_cmp key_cmp q k) (is_noted ks q) a, subst (λ (j : RowKey). is_some (net_write j ts) ≡ false) (key_same q k a) e)
      | inr c ↦ let r = f c in (or_right (eq_by_cmp key_cmp q k) (is_noted ks q) r.0, r.1)
    ]

-- nothing else is depended on
pub depends_only : (s : State) (op : Op) (r : ActiveTx) (d : ℕ) → has_end (dependencies s op r) d ≡ true → (has_end r.depends_on d ≡ true) ⊎ IsDeciding s op r d
depends_only s op r d h = elim (all_only r.depends_on (unwritten r.history (keys_for (entry_of op) r.id s.base s.stamped)) r.id s.stamped d h) [
  | inl a ↦ inl a
  | inr y ↦ inr (let q = noted_unwritten r.history y.key (keys_for (entry_of op) r.id s.base s.stamped) y.among in record {
    key = y.key;
    counts = noted_counted (entry_of op) y.key r.id s.base s.stamped q.0;
    unwritten = q.1;
    writer = y.writer;
    last = y.last;
    open' = y.open';
    ends = y.ends;
  })
]

-- and each such one is
has_last : (ds : List ℕ) (x : StampedTx) → x.settled ≡ false → has_end (depend_on ds (Some x)) x.end ≡ true
has_last ds x o = subst (λ (b : Bool). has_end (cond b ds (with_end ds x.end)) x.end ≡ true) (sym o) (go (has_end ds x.end) refl)
  where
    go : (b : Bool) → has_end ds x.end ≡ b → has_end (cond b ds (x.end ∷ ds)) x.end ≡ true
    go true e = e
    go false e = or_left (x.end == x.end) (has_end ds x.end) (eq-eqb x.end x.end refl)

has_among : (ds : List ℕ) (ks : List RowKey) (b : ℕ) (stamped : List StampedTx) (q : RowKey) (x : StampedTx) → is_noted ks q ≡ true → last_writer q b stamped ≡ Some x → x.settled ≡ false → has_end (depend_on_all ds ks b stamped) x.end ≡ true
has_among ds [] b stamped q x h l o = absurd (false≢true h)
has_among ds (k ∷ ks) b stamped q x h l o = go (eq_by_cmp key_cmp q k) refl h (λ g. has_among (depend_on ds (last_writer k b stamped)) ks b stamped q x g l o)
  where
    go : (c : Bool) → eq_by_cmp key_cmp q k ≡ c → (c || is_noted ks q) ≡ true → (is_noted ks q ≡ true → has_end (depend_on_all (depend_on ds (last_writer k b stamped)) ks b stamped) x.end ≡ true) → has_end (depend_on_all (depend_on ds (last_writer k b stamped)) ks b stamped) x.end ≡ true
    go true e g r = depends_more (depend_on ds (last_writer k b stamped)) ks b stamped x.end
        (subst (λ (w : Option StampedTx). has_end (depend_on ds w) x.end ≡ true) (sym l ∙ ap (λ (j : RowKey). last_writer j b stamped) (sym (key_same q k e))) (has_last ds x o))
    go false e g r = r g

pub depends_all : (s : State) (op : Op) (r : ActiveTx) (d : ℕ) → IsDeciding s op r d → has_end (dependencies s op r) d ≡ true
depends_all s op r d h =
    subst (λ (n : ℕ). has_end (dependencies s op r) n ≡ true) h.ends
    (has_among r.depends_on (unwritten r.history (keys_for (entry_of op) r.id s.base s.stamped)) r.id s.stamped h.key h.writer
    (unwritten_noted r.history h.key (keys_for (entry_of op) r.id s.base s.stamped) h.unwritten (counted_noted (entry_of op) h.key r.id s.base s.stamped h.counts)) h.last h.open')
