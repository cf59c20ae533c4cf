-- What a transaction saw at its begin, the settled ones leave at its end, if no other changed it and none that decides it is Preparing.
use Rattle.std.proofs.Common.{◌≡◌, ◌≢◌, ℕ, ◌<◌, ◌≤◌, Bool, true, false, cond, List, [], ◌∷◌, ◌++◌, Option, None, Some, refl, sym, ap, ◌∙◌, subst, inl, inr, arith}
use Rattle.std.specs.Prelude.{nat_lt, ◌&&◌, is_some}
use Rattle.std.specs.FinMap as fin
use Rattle.std.specs.List.{AllByRecursion}
use Rattle.std.specs.Ordering.{eq_by_cmp}
use Rattle.std.proofs.lemmas.Bool.{ltb-true, ltb-false, le-ltb, lt-ltb, false≢true, true≢false, and_parts, and_from, and_right}
use Rattle.mvo_types.specs.declared.row.RowKey.{RowKey}
use Rattle.mvo_types.specs.Keys.{Map, key_cmp}
use Rattle.mvo_types.specs.Write.{Effect, Write, content_after_last}
use Rattle.mvo_model.specs.History.{History, write_of, write_at, after_history, later, net_write}
use Rattle.mvo_model.proofs.Serials.{net_write-append, get-after_history, after_history-append, later-none}
use Rattle.mvo_types.specs.declared.entry.Entry.{Entry}
use Rattle.mvo_theory.specs.Entries.{entry_of}
use Rattle.mvo_theory.specs.Ranges.{shows, pass, AgreeOn, footprint_of}
use Rattle.mvo_theory.specs.State.{StampedTx, history_below, seen_by}
use Rattle.mvo_theory.specs.Dependencies.{has_end, counts_for}
use Rattle.mvo_theory.specs.Sound.{IsKeyWritten, IsDecided, IsDecidedOn, IsUnchanged, LeavesAlone, IsApart, IsClear, IsRising, IsLegal}
use Rattle.mvo_theory.proofs.Each.{each_weaker}
use Rattle.mvo_theory.proofs.Looks.{write_entry}
use Rattle.mvo_theory.proofs.Footprints.{key_same, none_unless, unchanged_agree}
use Rattle.mvo_theory.proofs.Counts.{history_by_some, uncounted_some, uncounted_seen}
use Rattle.mvo_types.specs.declared.entry.Entry.TheVariants.{Key}

pub agree_trans : (e : Entry) (l m n : Map) → AgreeOn e l m → AgreeOn e m n → AgreeOn e l n
agree_trans e l m n f g = λ q. f q ∙ g q

-- ---- who leaves alone where another looks writes none of its keys
write_here : (k : RowKey) (e : Entry) (w : Option Write) → is_some (write_at k w) ≡ true → ((v : Write) → w ≡ Some v → e ≡ Key v.0) → e ≡ Key k
write_here k e None h f = absurd (false≢true h)
write_here k e (Some v) h f = go (eq_by_cmp key_cmp k v.0) refl h
  where
    go : (b : Bool) → eq_by_cmp key_cmp k v.0 ≡ b → is_some (cond b (Some v.1) None) ≡ true → e ≡ Key k
    go true g i = f v refl ∙ ap Key (key_same k v.0 g)
    go false g i = absurd (false≢true i)

-- what holds of the entry of each operation holds of each key that they write
pub written_at : (P : Entry → Type 0) (k : RowKey) (us : History) → AllByRecursion (λ o. P (entry_of o.0)) us → is_some (net_write k us) ≡ true → P (Key k)
written_at P k [] a h = absurd (false≢true h)
written_at P k (t ∷ ts) a h = go (is_some (net_write k ts)) refl (written_at P k ts a.1)
  where
    go : (b : Bool) → is_some (net_write k ts) ≡ b → (is_some (net_write k ts) ≡ true → P (Key k)) → P (Key k)
    go true e r = r e
    go false e r =
        let here : is_some (write_at k (write_of t.0 t.1)) ≡ true = ap (λ (w : Option Effect). is_some (later w (write_at k (write_of t.0 t.1)))) (sym (none_unless (net_write k ts) e)) ∙ h in
        subst P (write_here k (entry_of t.0) (write_of t.0 t.1) here (write_entry t.0 t.1)) a.0

pub apart_writer : (k : RowKey) (x : StampedTx) (us : History) → IsApart x us → is_some (net_write k us) ≡ true → net_write k x.history ≡ None
apart_writer k x [] a h = absurd (false≢true h)
apart_writer k x (t ∷ ts) a h = go (is_some (net_write k ts)) refl (apart_writer k x ts a.1)
  where
    go : (b : Bool) → is_some (net_write k ts) ≡ b → (is_some (net_write k ts) ≡ true → net_write k x.history ≡ None) → net_write k x.history ≡ None
    go true e r = r e
    go false e r =
        let here : is_some (write_at k (write_of t.0 t.1)) ≡ true = ap (λ (w : Option Effect). is_some (later w (write_at k (write_of t.0 t.1)))) (sym (none_unless (net_write k ts) e)) ∙ h in
        subst (LeavesAlone x) (write_here k (entry_of t.0) (write_of t.0 t.1) here (write_entry t.0 t.1)) a.0

-- ---- a key that is decided by none that it depends on has no writer below the begin that isn't settled
settled_writer : (k : RowKey) (b : ℕ) (x : StampedTx) (ys : List StampedTx) → AllByRecursion (λ u. u.settled ≡ true → IsApart x u.history) ys → AllByRecursion (λ y. y.settled ≡ false → y.end < b → net_write k y.history ≡ None) ys → IsKeyWritten k b ys → net_write k x.history ≡ None
settled_writer k b x [] c f h = absurd h
settled_writer k b x (y ∷ ys) c f (inr q) = settled_writer k b x ys c.1 f.1 q
settled_writer k b x (y ∷ ys) c f (inl p) = go y.settled refl
  where
    both : (nat_lt y.end b ≡ true) × (is_some (net_write k y.history) ≡ true)
    both = and_parts (nat_lt y.end b) (is_some (net_write k y.history)) p

    go : (s : Bool) → y.settled ≡ s → net_write k x.history ≡ None
    go true s = apart_writer k x y.history (c.0 s) both.1
    go false s = absurd (false≢true (sym (ap is_some (f.0 s (ltb-true y.end b both.0))) ∙ both.1))

pub free_key : (k : RowKey) (b : ℕ) (ds : List ℕ) (stamped : List StampedTx) → IsDecided k b ds stamped → IsClear stamped → AllByRecursion (λ x. x.settled ≡ false → has_end ds x.end ≡ false) stamped →
    AllByRecursion (λ x. x.settled ≡ false → x.end < b → net_write k x.history ≡ None) stamped
free_key k b ds [] d c n = tt
free_key k b ds (x ∷ xs) d c n = here (free_key k b ds xs d.1 c.1 n.1)
  where
    here : AllByRecursion (λ y. y.settled ≡ false → y.end < b → net_write k y.history ≡ None) xs → (x.settled ≡ false → x.end < b → net_write k x.history ≡ None) × AllByRecursion (λ y. y.settled ≡ false → y.end < b → net_write k y.history ≡ None) xs
    here r = (λ s l. go s l (is_some (net_write k x.history)) refl, r)
      where
        go : x.settled ≡ false → x.end < b → (w : Bool) → is_some (net_write k x.history) ≡ w → net_write k x.history ≡ None
        go s l false g = none_unless (net_write k x.history) g
        go s l true g = elim (d.0 s (and_from (nat_lt x.end b) (is_some (net_write k x.history)) (lt-ltb x.end b l) g)) [
          | inl q ↦ absurd (false≢true (sym (n.0 s) ∙ q))
          | inr q ↦ settled_writer k b x xs (c.0 s) r q
        ]

-- ---- at the begin
-- the histories of the settled ones that end below e
abbrev pub settled_below : ℕ → List StampedTx → History
settled_below e xs = history_by_some (λ x. x.settled && nat_lt x.end e) xs

net_two : (k : RowKey) (c d : Bool) (us rest all : History) → net_write k rest ≡ net_write k all → (c ≡ true → d ≡ false → net_write k us ≡ None) → (c ≡ false → d ≡ true → net_write k us ≡ None) → net_write k (cond c us [] ++ rest) ≡ net_write k (cond d us [] ++ all)
net_two k true true us rest all e f g = net_write-append k us rest ∙ ap (λ w. later w (net_write k us)) e ∙ sym (net_write-append k us all)
net_two k true false us rest all e f g = net_write-append k us rest ∙ ap (later (net_write k rest)) (f refl refl) ∙ later-none (net_write k rest) ∙ e
net_two k false true us rest all e f g = e ∙ sym (net_write-append k us all ∙ ap (later (net_write k all)) (g refl refl) ∙ later-none (net_write k all))
net_two k false false us rest all e f g = e

same_seen : (k : RowKey) (b : ℕ) (stamped : List StampedTx) → AllByRecursion (λ x. x.settled ≡ false → x.end < b → net_write k x.history ≡ None) stamped → net_write k (history_below b stamped) ≡ net_write k (settled_below b stamped)
same_seen k b [] f = refl
same_seen k b (x ∷ xs) f =
    net_two k (nat_lt x.end b) (x.settled && nat_lt x.end b) x.history (history_below b xs) (settled_below b xs) (same_seen k b xs f.1)
    (λ c d. gone c x.settled refl d)
    (λ c d. absurd (true≢false (sym (and_parts x.settled (nat_lt x.end b) d).1 ∙ c)))
  where
    gone : nat_lt x.end b ≡ true → (s : Bool) → x.settled ≡ s → (s && nat_lt x.end b) ≡ false → net_write k x.history ≡ None
    gone c false q d = f.0 q (ltb-true x.end b c)
    gone c true q d = absurd (true≢false (sym c ∙ d))

-- what the entry shows at the begin, the settled ones below the begin leave
pub at_begin : (e : Entry) (b : ℕ) (ds : List ℕ) (base : Map) (stamped : List StampedTx) → IsDecidedOn e b ds base stamped → IsClear stamped → AllByRecursion (λ x. x.settled ≡ false → has_end ds x.end ≡ false) stamped → AgreeOn e (seen_by base stamped b) (after_history (settled_below b stamped) base)
at_begin e b ds base stamped d c n q = go (counts_for e q b base stamped) refl
  where
    go : (w : Bool) → counts_for e q b base stamped ≡ w → pass (shows e) q (fin.get (seen_by base stamped b) q) ≡ pass (shows e) q (fin.get (after_history (settled_below b stamped) base) q)
    go true f = ap (pass (shows e) q) (get-after_history q (history_below b stamped) base ∙ ap (λ w. content_after_last w (fin.get base q)) (same_seen q b stamped (free_key q b ds stamped (d q f) c n)) ∙ sym (get-after_history q (settled_below b stamped) base))
    go false f = uncounted_seen e q b base stamped f ∙ sym (uncounted_some e q b base (λ x. x.settled && nat_lt x.end b) (λ x g. (and_parts x.settled (nat_lt x.end b) g).1) stamped f)

-- ---- from the begin to the end
pub settled_none : (e : ℕ) (xs : List StampedTx) → AllByRecursion (λ x. e ≤ x.end) xs → settled_below e xs ≡ []
settled_none e [] h = refl
settled_none e (x ∷ xs) h = ap (λ (b : Bool). cond b x.history [] ++ settled_below e xs) (and_right x.settled (nat_lt x.end e) (le-ltb x.end e h.0)) ∙ settled_none e xs h.1

none_from : (x : StampedTx) (xs : List StampedTx) (e : ℕ) → e ≤ x.end → AllByRecursion (λ y. x.end < y.end) xs → settled_below e xs ≡ []
none_from x xs e le r = settled_none e xs (each_weaker (λ y. x.end < y.end) (λ y. e ≤ y.end) (λ y l. omega arith) xs r)

quiet : (e : Entry) (b c : ℕ) (m : Map) (stamped : List StampedTx) → b < c → IsRising stamped → AllByRecursion (λ x. x.end ≢ b) stamped → IsUnchanged stamped b c e → IsLegal m stamped → AgreeOn e (after_history (settled_below b stamped) m) (after_history (settled_below c stamped) m)
quiet e b c m [] lt r o u h = λ q. refl
quiet e b c m (x ∷ xs) lt r o u h = go x.settled (λ s. (h.0 s).1) (quiet e b c (after_history (cond x.settled x.history []) m) xs lt r.1 o.1 u.1 h.1)
  where
    both : (v w : Bool) → nat_lt x.end b ≡ v → nat_lt x.end c ≡ w → footprint_of x.history m ≡ x.footprint → AgreeOn e (after_history (settled_below b xs) (after_history x.history m)) (after_history (settled_below c xs) (after_history x.history m)) →
        AgreeOn e (after_history (cond v x.history [] ++ settled_below b xs) m) (after_history (cond w x.history [] ++ settled_below c xs) m)
    both true true f g p i = subst (λ n. AgreeOn e n (after_history (x.history ++ settled_below c xs) m)) (sym (after_history-append x.history (settled_below b xs) m))
        (subst (λ n. AgreeOn e (after_history (settled_below b xs) (after_history x.history m)) n) (sym (after_history-append x.history (settled_below c xs) m)) i)
    both true false f g p i = absurd (let k = ltb-true x.end b f in let l = ltb-false x.end c g in omega arith)
    both false true f g p i =
        let above = ltb-false x.end b f in
        let under = ltb-true x.end c g in
        let none : settled_below b xs ≡ [] = none_from x xs b above r.0 in
        let mine : AgreeOn e m (after_history x.history m) = unchanged_agree e x m p (u.0 (let ne = o.0 in omega arith) under) in
        subst (λ (ts : History). AgreeOn e (after_history ts m) (after_history (x.history ++ settled_below c xs) m)) (sym none)
        (subst (λ n. AgreeOn e m n) (sym (after_history-append x.history (settled_below c xs) m))
        (agree_trans e m (after_history x.history m) (after_history (settled_below c xs) (after_history x.history m)) mine
        (subst (λ (ts : History). AgreeOn e (after_history ts (after_history x.history m)) (after_history (settled_below c xs) (after_history x.history m))) none i)))
    both false false f g p i =
        let above = ltb-false x.end c g in
        let same : settled_below b xs ≡ settled_below c xs = none_from x xs b (omega arith) r.0 ∙ sym (none_from x xs c above r.0) in
        subst (λ (ts : History). AgreeOn e (after_history (settled_below b xs) m) (after_history ts m)) same (λ q. refl)

    go : (s : Bool) → (s ≡ true → footprint_of x.history m ≡ x.footprint) → AgreeOn e (after_history (settled_below b xs) (after_history (cond s x.history []) m)) (after_history (settled_below c xs) (after_history (cond s x.history []) m)) →
        AgreeOn e (after_history (cond (s && nat_lt x.end b) x.history [] ++ settled_below b xs) m) (after_history (cond (s && nat_lt x.end c) x.history [] ++ settled_below c xs) m)
    go false p i = i
    go true p i = both (nat_lt x.end b) (nat_lt x.end c) refl refl (p refl) i

-- what the entry shows at the begin, the settled ones below the end leave
pub at_end : (e : Entry) (b c : ℕ) (ds : List ℕ) (base : Map) (stamped : List StampedTx) → b < c → IsDecidedOn e b ds base stamped → IsUnchanged stamped b c e → IsClear stamped → IsRising stamped → IsLegal base stamped → AllByRecursion (λ x. x.end ≢ b) stamped → AllByRecursion (λ x. x.settled ≡ false → has_end ds x.end ≡ false) stamped →
    AgreeOn e (seen_by base stamped b) (after_history (settled_below c stamped) base)
at_end e b c ds base stamped lt d u cl r l o n =
    agree_trans e (seen_by base stamped b) (after_history (settled_below b stamped) base) (after_history (settled_below c stamped) base) (at_begin e b ds base stamped d cl n) (quiet e b c base stamped lt r o u l)
