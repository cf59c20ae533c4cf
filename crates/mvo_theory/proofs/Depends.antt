-- What a transaction depends on: who decides a key that counts for one of its entries is settled, or depended on.
use Rattle.std.proofs.Common.{◌≡◌, ℕ, ◌<◌, ◌≤◌, Bool, true, false, cond, not, ◌||◌, List, [], ◌∷◌, ◌++◌, Option, None, Some, map, refl, sym, ap, ◌∙◌, subst}
use Rattle.std.specs.Prelude.{nat_lt, is_some}
use Rattle.std.specs.List.{AllByRecursion, filter}
use Rattle.std.specs.Ordering.{eq_by_cmp}
use Rattle.std.specs.FinMap as fin
use Rattle.std.proofs.lemmas.Bool.{false≢true, true≢false, ltb-true, and_parts}
use Rattle.mvo_types.specs.declared.row.RowKey.{RowKey}
use Rattle.mvo_types.specs.declared.op.Op.{Op}
use Rattle.mvo_types.specs.Keys.{Map, key_cmp}
use Rattle.mvo_types.specs.Write.{Effect, Write, content_after_last}
use Rattle.mvo_model.specs.History.{History, write_of, write_at, later, net_write, AreSerial, after_history}
use Rattle.mvo_model.proofs.Serials.{get-after_history}
use Rattle.mvo_types.specs.declared.entry.Entry.{Entry}
use Rattle.mvo_theory.specs.Entries.{entry_of, is_noted}
use Rattle.mvo_theory.specs.Ranges.{Row, shows, pass, AgreeOn, AllAgreeOn, footprint_of}
use Rattle.mvo_theory.specs.State.{State, StampedTx, ActiveTx, history_below, seen_by}
use Rattle.mvo_theory.specs.Dependencies.{is_writer, or_later, last_writer, has_end, with_end, depend_on, depend_on_all, counts_for, keys_for, unwritten, dependencies}
use Rattle.mvo_theory.specs.Sound.{IsDecided, IsDecidedOn, IsConsistent}
use Rattle.mvo_theory.proofs.Each.{each_weaker}
use Rattle.mvo_theory.proofs.Looks.{write_entry, serial_agrees, footprint_agrees}
use Rattle.mvo_theory.proofs.Footprints.{or_left, or_right, key_same, none_unless}
use Rattle.mvo_theory.proofs.Stamped.{decided_now, has_rest, decided_more, history_below-last, decided_last, IsLike, history_below-map, decided_map, IsOut, decided_filter, seen_filter, no_stamped}
use Rattle.mvo_theory.proofs.Counts.{counted_noted, uncounted_seen, counts_filter, counts_map, counts_last}
use Rattle.mvo_types.specs.declared.entry.Entry.TheVariants.{Key}

-- ---- the operation that looks now
pub depends_more : (ds : List ℕ) (ks : List RowKey) (b : ℕ) (stamped : List StampedTx) (d : ℕ) → has_end ds d ≡ true → has_end (depend_on_all ds ks b stamped) d ≡ true
depends_more ds [] b stamped d h = h
depends_more ds (k ∷ ks) b stamped d h = depends_more (depend_on ds (last_writer k b stamped)) ks b stamped d (has_rest ds (last_writer k b stamped) d h)

decided_all : (q : RowKey) (b : ℕ) (ds : List ℕ) (ks : List RowKey) (stamped : List StampedTx) → is_noted ks q ≡ true → IsDecided q b (depend_on_all ds ks b stamped) stamped
decided_all q b ds [] stamped h = absurd (false≢true h)
decided_all q b ds (k ∷ ks) stamped h = go (eq_by_cmp key_cmp q k) refl h (λ g. decided_all q b (depend_on ds (last_writer k b stamped)) ks stamped g)
  where
    go : (c : Bool) → eq_by_cmp key_cmp q k ≡ c → (c || is_noted ks q) ≡ true → (is_noted ks q ≡ true → IsDecided q b (depend_on_all (depend_on ds (last_writer k b stamped)) ks b stamped) stamped) → IsDecided q b (depend_on_all (depend_on ds (last_writer k b stamped)) ks b stamped) stamped
    go true e g r = subst (λ (j : RowKey). IsDecided j b (depend_on_all (depend_on ds (last_writer k b stamped)) ks b stamped) stamped) (key_same q k e)
        (decided_more k b (depend_on ds (last_writer k b stamped)) (depend_on_all (depend_on ds (last_writer k b stamped)) ks b stamped) stamped (depends_more (depend_on ds (last_writer k b stamped)) ks b stamped) (decided_now k b ds stamped))
    go false e g r = r g

pub unwritten_noted : (ts : History) (q : RowKey) (ks : List RowKey) → is_some (net_write q ts) ≡ false → is_noted ks q ≡ true → is_noted (unwritten ts ks) q ≡ true
unwritten_noted ts q [] n h = h
unwritten_noted ts q (k ∷ ks) n h = go (eq_by_cmp key_cmp q k) refl (is_some (net_write k ts)) refl h (unwritten_noted ts q ks n)
  where
    go : (a : Bool) → eq_by_cmp key_cmp q k ≡ a → (b : Bool) → is_some (net_write k ts) ≡ b → (a || is_noted ks q) ≡ true → (is_noted ks q ≡ true → is_noted (unwritten ts ks) q ≡ true) → is_noted (cond (not b) (k ∷ unwritten ts ks) (unwritten ts ks)) q ≡ true
    go a f true g i r = elim_a a f i
      where
        elim_a : (c : Bool) → eq_by_cmp key_cmp q k ≡ c → (c || is_noted ks q) ≡ true → is_noted (unwritten ts ks) q ≡ true
        elim_a true e j = absurd (true≢false (sym g ∙ subst (λ (l : RowKey). is_some (net_write l ts) ≡ false) (sym (key_same q k e)) n))
        elim_a false e j = r j
    go true f false g i r = or_left (eq_by_cmp key_cmp q k) (is_noted (unwritten ts ks) q) f
    go false f false g i r = or_right (eq_by_cmp key_cmp q k) (is_noted (unwritten ts ks) q) (r i)

-- a key that it has written was decided when it looked at it
here_decided : (q : RowKey) (b : ℕ) (ds : List ℕ) (base : Map) (stamped : List StampedTx) (e : Entry) (w : Option Write) → ((v : Write) → w ≡ Some v → e ≡ Key v.0) → is_some (write_at q w) ≡ true → IsDecidedOn e b ds base stamped → IsDecided q b ds stamped
here_decided q b ds base stamped e None f h d = absurd (false≢true h)
here_decided q b ds base stamped e (Some v) f h d = go (eq_by_cmp key_cmp q v.0) refl h
  where
    go : (c : Bool) → eq_by_cmp key_cmp q v.0 ≡ c → is_some (cond c (Some v.1) None) ≡ true → IsDecided q b ds stamped
    go true g i = d q (ap (λ (x : Entry). counts_for x q b base stamped) (f v refl) ∙ g)
    go false g i = absurd (false≢true i)

pub written_decided : (q : RowKey) (b : ℕ) (ds : List ℕ) (base : Map) (stamped : List StampedTx) (ts : History) → is_some (net_write q ts) ≡ true → AllByRecursion (λ o. IsDecidedOn (entry_of o.0) b ds base stamped) ts → IsDecided q b ds stamped
written_decided q b ds base stamped [] h d = absurd (false≢true h)
written_decided q b ds base stamped (t ∷ ts) h d = go (is_some (net_write q ts)) refl (λ g. written_decided q b ds base stamped ts g d.1)
  where
    go : (c : Bool) → is_some (net_write q ts) ≡ c → (is_some (net_write q ts) ≡ true → IsDecided q b ds stamped) → IsDecided q b ds stamped
    go true g r = r g
    go false g r = here_decided q b ds base stamped (entry_of t.0) (write_of t.0 t.1) (write_entry t.0 t.1)
        (ap (λ (w : Option Effect). is_some (later w (write_at q (write_of t.0 t.1)))) (sym (none_unless (net_write q ts) g)) ∙ h) d.0

pub decided_on_now : (s : State) (op : Op) (r : ActiveTx) → AllByRecursion (λ o. IsDecidedOn (entry_of o.0) r.id r.depends_on s.base s.stamped) r.history → IsDecidedOn (entry_of op) r.id (dependencies s op r) s.base s.stamped
decided_on_now s op r d q c = go (is_some (net_write q r.history)) refl
  where
    ks : List RowKey
    ks = unwritten r.history (keys_for (entry_of op) r.id s.base s.stamped)

    go : (b : Bool) → is_some (net_write q r.history) ≡ b → IsDecided q r.id (depend_on_all r.depends_on ks r.id s.stamped) s.stamped
    go true g = decided_more q r.id r.depends_on (depend_on_all r.depends_on ks r.id s.stamped) s.stamped (depends_more r.depends_on ks r.id s.stamped) (written_decided q r.id r.depends_on s.base s.stamped r.history g d)
    go false g = decided_all q r.id r.depends_on ks s.stamped (unwritten_noted r.history q (keys_for (entry_of op) r.id s.base s.stamped) g (counted_noted (entry_of op) q r.id s.base s.stamped c))

pub decided_on_more : (e : Entry) (b : ℕ) (ds es : List ℕ) (base : Map) (stamped : List StampedTx) → ((d : ℕ) → has_end ds d ≡ true → has_end es d ≡ true) → IsDecidedOn e b ds base stamped → IsDecidedOn e b es base stamped
decided_on_more e b ds es base stamped f h q c = decided_more q b ds es stamped f (h q c)

-- ---- all that it depends on began earlier
pub same_stamped : (v z : StampedTx) → ◌≡◌ {A = Option StampedTx} (Some v) (Some z) → v ≡ z
same_stamped v z q = cc

pub below_last : (k : RowKey) (b : ℕ) (stamped : List StampedTx) (y : StampedTx) → last_writer k b stamped ≡ Some y → y.end < b
below_last k b [] y e = absurd (no_stamped y e)
below_last k b (x ∷ xs) y e = go (is_writer k b x) refl (last_writer k b xs) refl (λ z g. below_last k b xs z g) e
  where
    go : (c : Bool) → is_writer k b x ≡ c → (w : Option StampedTx) → last_writer k b xs ≡ w → ((z : StampedTx) → last_writer k b xs ≡ Some z → z.end < b) → or_later (cond c (Some x) None) w ≡ Some y → y.end < b
    go c f (Some z) g r q = subst (λ (v : StampedTx). v.end < b) (same_stamped z y q) (r z g)
    go true f None g r q = subst (λ (v : StampedTx). v.end < b) (same_stamped x y q) (ltb-true x.end b (and_parts (nat_lt x.end b) (is_some (net_write k x.history)) f).0)
    go false f None g r q = absurd (no_stamped y q)

below_with : (b d : ℕ) (ds : List ℕ) (c : Bool) → d < b → AllByRecursion (λ x. x < b) ds → AllByRecursion (λ x. x < b) (cond c ds (d ∷ ds))
below_with b d ds true lt h = h
below_with b d ds false lt h = (lt, h)

below_one : (b : ℕ) (ds : List ℕ) (w : Option StampedTx) → ((y : StampedTx) → w ≡ Some y → y.end < b) → AllByRecursion (λ d. d < b) ds → AllByRecursion (λ d. d < b) (depend_on ds w)
below_one b ds None f h = h
below_one b ds (Some y) f h = go y.settled
  where
    go : (s : Bool) → AllByRecursion (λ d. d < b) (cond s ds (with_end ds y.end))
    go true = h
    go false = below_with b y.end ds (has_end ds y.end) (f y refl) h

pub below_all : (b : ℕ) (ds : List ℕ) (ks : List RowKey) (stamped : List StampedTx) → AllByRecursion (λ d. d < b) ds → AllByRecursion (λ d. d < b) (depend_on_all ds ks b stamped)
below_all b ds [] stamped h = h
below_all b ds (k ∷ ks) stamped h = below_all b (depend_on ds (last_writer k b stamped)) ks stamped (below_one b ds (last_writer k b stamped) (below_last k b stamped) h)

-- ---- as the stamped ones change
pub entry_filter : (keep : StampedTx → Bool) (e : Entry) (b : ℕ) (ds : List ℕ) (base : Map) (stamped : List StampedTx) → AllByRecursion (IsOut keep ds) stamped → IsDecidedOn e b ds base stamped → AgreeOn e (seen_by base stamped b) (seen_by base (filter keep stamped) b)
entry_filter keep e b ds base stamped o d q = go (counts_for e q b base stamped) refl
  where
    fewer : (c : Bool) → counts_for e q b base (filter keep stamped) ≡ c → counts_for e q b base stamped ≡ false → counts_for e q b base (filter keep stamped) ≡ false
    fewer false f g = f
    fewer true f g = absurd (true≢false (sym (counts_filter keep e q b base stamped f) ∙ g))

    go : (c : Bool) → counts_for e q b base stamped ≡ c → pass (shows e) q (fin.get (seen_by base stamped b) q) ≡ pass (shows e) q (fin.get (seen_by base (filter keep stamped) b) q)
    go true f = ap (pass (shows e) q) (get-after_history q (history_below b stamped) base ∙ ap (λ w. content_after_last w (fin.get base q)) (sym (seen_filter keep q b ds stamped o (d q f))) ∙ sym (get-after_history q (history_below b (filter keep stamped)) base))
    go false f = uncounted_seen e q b base stamped f ∙ sym (uncounted_seen e q b base (filter keep stamped) (fewer (counts_for e q b base (filter keep stamped)) refl f))

pub consistent_last : (base : Map) (stamped : List StampedTx) (y : StampedTx) (id : ℕ) (ts : History) (rs : List Row) (ds : List ℕ) → id ≤ y.end → IsConsistent base stamped id ts rs ds → IsConsistent base (stamped ++ y ∷ []) id ts rs ds
consistent_last base stamped y id ts rs ds le h = record {
  serial = subst (λ x. AreSerial ts (after_history x base)) (sym (history_below-last id stamped y le)) h.serial;
  decided = each_weaker (λ o. IsDecidedOn (entry_of o.0) id ds base stamped) (λ o. IsDecidedOn (entry_of o.0) id ds base (stamped ++ y ∷ []))
      (λ o d q c. decided_last q id ds stamped y le (d q (counts_last (entry_of o.0) q id base stamped y le c))) ts h.decided;
  prints = subst (λ x. footprint_of ts (after_history x base) ≡ rs) (sym (history_below-last id stamped y le)) h.prints;
}

pub consistent_map : (f : StampedTx → StampedTx) → IsLike f → (base : Map) (stamped : List StampedTx) (id : ℕ) (ts : History) (rs : List Row) (ds : List ℕ) → IsConsistent base stamped id ts rs ds → IsConsistent base (map f stamped) id ts rs ds
consistent_map f l base stamped id ts rs ds h = record {
  serial = subst (λ x. AreSerial ts (after_history x base)) (sym (history_below-map f l id stamped)) h.serial;
  decided = each_weaker (λ o. IsDecidedOn (entry_of o.0) id ds base stamped) (λ o. IsDecidedOn (entry_of o.0) id ds base (map f stamped))
      (λ o d q c. decided_map f l q id ds stamped (d q (counts_map f l (entry_of o.0) q id base stamped c))) ts h.decided;
  prints = subst (λ x. footprint_of ts (after_history x base) ≡ rs) (sym (history_below-map f l id stamped)) h.prints;
}

-- some are taken out on which it doesn't depend
pub consistent_filter : (keep : StampedTx → Bool) (base : Map) (stamped : List StampedTx) (id : ℕ) (ts : History) (rs : List Row) (ds : List ℕ) → AllByRecursion (IsOut keep ds) stamped → IsConsistent base stamped id ts rs ds → IsConsistent base (filter keep stamped) id ts rs ds
consistent_filter keep base stamped id ts rs ds o h =
    let agree : AllAgreeOn ts (seen_by base stamped id) (seen_by base (filter keep stamped) id) =
    each_weaker (λ x. IsDecidedOn (entry_of x.0) id ds base stamped) (λ x. AgreeOn (entry_of x.0) (seen_by base stamped id) (seen_by base (filter keep stamped) id)) (λ x. entry_filter keep (entry_of x.0) id ds base stamped o) ts h.decided in
    record {
      serial = serial_agrees ts (seen_by base stamped id) (seen_by base (filter keep stamped) id) agree h.serial;
      decided = each_weaker (λ x. IsDecidedOn (entry_of x.0) id ds base stamped) (λ x. IsDecidedOn (entry_of x.0) id ds base (filter keep stamped))
          (λ x d q c. decided_filter keep q id ds stamped o (d q (counts_filter keep (entry_of x.0) q id base stamped c))) ts h.decided;
      prints = sym (footprint_agrees ts (seen_by base stamped id) (seen_by base (filter keep stamped) id) agree) ∙ h.prints;
    }
