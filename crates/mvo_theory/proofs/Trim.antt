-- A trim: the settled ones up to m move into the base, and nobody sees other rows.
use Rattle.std.proofs.Common.{◌≡◌, ◌≢◌, ℕ, ◌<◌, ◌≤◌, Bool, true, false, cond, not, ◌||◌, List, [], ◌∷◌, ◌++◌, take, refl, sym, ap, ◌∙◌, subst, arith, append_assoc}
use Rattle.std.specs.Prelude.{nat_lt, ◌&&◌, is_some}
use Rattle.std.specs.List.{AllByRecursion, filter, list_any}
use Rattle.std.specs.FinMap as fin
use Rattle.std.proofs.lemmas.Bool.{lt-ltb, leb-true, leb-false, lt-leb, false≢true}
use Rattle.mvo_types.specs.declared.row.RowKey.{RowKey}
use Rattle.mvo_types.specs.Keys.{Map}
use Rattle.mvo_model.specs.History.{History, after_history, AreSerial}
use Rattle.mvo_model.proofs.Serials.{after_history-append}
use Rattle.mvo_types.specs.declared.entry.Entry.{Entry}
use Rattle.mvo_theory.specs.Entries.{entry_of, entries}
use Rattle.mvo_theory.specs.Ranges.{Row, shows, pass, puts, is_row_of, footprint_of}
use Rattle.mvo_theory.specs.State.{State, StampedTx, ActiveTx, after_settled, timeline, history_below, seen_by, history_of_active, snapshot}
use Rattle.mvo_theory.specs.Claims.{origin}
use Rattle.mvo_theory.specs.Dependencies.{is_put_below, counts_for}
use Rattle.mvo_theory.specs.Changes.{is_to, after_trim}
use Rattle.mvo_theory.specs.Sound.{IsDecided, IsDecidedOn, changes, IsUnchanged, IsRising, IsLegal, IsConsistent, IsActive, IsPreparing, IsPlaced, IsSound, IsPast, IsStarted}
use Rattle.mvo_theory.proofs.Each.{each_weaker, each_both, each_append, each_filter}
use Rattle.mvo_theory.proofs.Footprints.{or_right, any_left, any_right}
use Rattle.mvo_theory.proofs.Stamped.{history_below-append, rising_filter, clear_filter, each_part, rising_both}
use Rattle.mvo_theory.proofs.Counts.{seen_counts}
use Rattle.mvo_types.specs.declared.entry.Entry.TheVariants.{Key, Range}

-- ---- the stamped ones in two
abbrev pub is_after : ℕ → StampedTx → Bool
is_after m x = not (is_to m x)

none_to : (m : ℕ) (xs : List StampedTx) → AllByRecursion (λ x. m < x.end) xs → (filter (is_to m) xs ≡ []) × (filter (is_after m) xs ≡ xs)
none_to m [] h = (refl, refl)
none_to m (x ∷ xs) h =
    let r = none_to m xs h.1 in
    let out = lt-leb x.end m h.0 in (
      ap (λ (b : Bool). cond b (x ∷ filter (is_to m) xs) (filter (is_to m) xs)) out ∙ r.0,
      ap (λ (b : Bool). cond (not b) (x ∷ filter (is_after m) xs) (filter (is_after m) xs)) out ∙ ap (λ ys. x ∷ ys) r.1,
    )

pub parted : (m : ℕ) (xs : List StampedTx) → IsRising xs → filter (is_to m) xs ++ filter (is_after m) xs ≡ xs
parted m [] r = refl
parted m (x ∷ xs) r = go (is_to m x) refl (parted m xs r.1)
  where
    go : (b : Bool) → is_to m x ≡ b → filter (is_to m) xs ++ filter (is_after m) xs ≡ xs → cond b (x ∷ filter (is_to m) xs) (filter (is_to m) xs) ++ cond (not b) (x ∷ filter (is_after m) xs) (filter (is_after m) xs) ≡ x ∷ xs
    go true e q = ap (λ ys. x ∷ ys) q
    go false e q =
        let out = leb-false x.end m e in
        let none = none_to m xs (each_weaker (λ y. x.end < y.end) (λ y. m < y.end) (λ y l. omega arith) xs r.0) in
        ap (λ ys. ys ++ (x ∷ filter (is_after m) xs)) none.0 ∙ ap (λ ys. x ∷ ys) none.1

-- ---- the rows of the front
pub after_settled-append : (xs ys : List StampedTx) (m : Map) → after_settled (xs ++ ys) m ≡ after_settled ys (after_settled xs m)
after_settled-append [] ys m = refl
after_settled-append (x ∷ xs) ys m = after_settled-append xs ys (after_history (cond x.settled x.history []) m)

pub legal_front : (m : Map) (xs ys : List StampedTx) → IsLegal m (xs ++ ys) → IsLegal m xs
legal_front m [] ys h = tt
legal_front m (x ∷ xs) ys h = (h.0, legal_front (after_history (cond x.settled x.history []) m) xs ys h.1)

pub legal_rest : (m : Map) (xs ys : List StampedTx) → IsLegal m (xs ++ ys) → IsLegal (after_settled xs m) ys
legal_rest m [] ys h = h
legal_rest m (x ∷ xs) ys h = legal_rest (after_history (cond x.settled x.history []) m) xs ys h.1

pub seen_front : (b : ℕ) (xs : List StampedTx) (m : Map) → AllByRecursion (λ x. x.settled ≡ true) xs → AllByRecursion (λ x. x.end < b) xs → seen_by m xs b ≡ after_settled xs m
seen_front b [] m s l = refl
seen_front b (x ∷ xs) m s l =
    ap (λ (c : Bool). after_history (cond c x.history [] ++ history_below b xs) m) (lt-ltb x.end b l.0)
    ∙ after_history-append x.history (history_below b xs) m
    ∙ seen_front b xs (after_history x.history m) s.1 l.1
    ∙ ap (λ (c : Bool). after_settled xs (after_history (cond c x.history []) m)) (sym s.0)

pub seen_trimmed : (base : Map) (front back : List StampedTx) (b : ℕ) → AllByRecursion (λ x. x.settled ≡ true) front → AllByRecursion (λ x. x.end < b) front → seen_by base (front ++ back) b ≡ seen_by (after_settled front base) back b
seen_trimmed base front back b s l = ap (λ ts. after_history ts base) (history_below-append b front back) ∙ after_history-append (history_below b front) (history_below b back) base ∙ ap (after_history (history_below b back)) (seen_front b front base s l)

-- ---- fewer keys count
pub counts_trimmed : (e : Entry) (q : RowKey) (b : ℕ) (base : Map) (front back : List StampedTx) → AllByRecursion (λ x. x.settled ≡ true) front → AllByRecursion (λ x. x.end < b) front → counts_for e q b (after_settled front base) back ≡ true → counts_for e q b base (front ++ back) ≡ true
counts_trimmed (Key k) q b base front back s l h = h
counts_trimmed (Range t lo hi) q b base front back s l h = go (is_some (pass p q (fin.get (after_settled front base) q))) refl h
  where
    p : Row → Bool
    p = shows (Range t lo hi)

    put : StampedTx → Bool
    put x = nat_lt x.end b && list_any (is_row_of p q) (puts x.history)

    put_more : (c : Bool) → (c || list_any put front) ≡ true → (c || list_any put (front ++ back)) ≡ true
    put_more true g = refl
    put_more false g = any_left put front back g

    go : (c : Bool) → is_some (pass p q (fin.get (after_settled front base) q)) ≡ c → (c || is_put_below p q b back) ≡ true → (is_some (pass p q (fin.get base q)) || is_put_below p q b (front ++ back)) ≡ true
    go true f g = put_more (is_some (pass p q (fin.get base q))) (seen_counts (Range t lo hi) q b base front (subst (λ (m : Map). is_some (pass p q (fin.get m q)) ≡ true) (sym (seen_front b front base s l)) f))
    go false f g = or_right (is_some (pass p q (fin.get base q))) (is_put_below p q b (front ++ back)) (any_right put front back g)

pub decided_back : (k : RowKey) (b : ℕ) (ds : List ℕ) (front back : List StampedTx) → IsDecided k b ds (front ++ back) → IsDecided k b ds back
decided_back k b ds [] back h = h
decided_back k b ds (x ∷ xs) back h = decided_back k b ds xs back h.1

consistent_after_trim : (base : Map) (front back : List StampedTx) (id : ℕ) (ts : History) (rs : List Row) (ds : List ℕ) → AllByRecursion (λ x. x.settled ≡ true) front → AllByRecursion (λ x. x.end < id) front → IsConsistent base (front ++ back) id ts rs ds → IsConsistent (after_settled front base) back id ts rs ds
consistent_after_trim base front back id ts rs ds s l h = record {
  serial = subst (AreSerial ts) (seen_trimmed base front back id s l) h.serial;
  decided = each_weaker (λ o. IsDecidedOn (entry_of o.0) id ds base (front ++ back)) (λ o. IsDecidedOn (entry_of o.0) id ds (after_settled front base) back)
      (λ o d q c. decided_back q id ds front back (d q (counts_trimmed (entry_of o.0) q id base front back s l c))) ts h.decided;
  prints = subst (λ (m : Map). footprint_of ts m ≡ rs) (seen_trimmed base front back id s l) h.prints;
}

-- ---- the trim
-- those that end at most at m are settled, and each unfinished transaction begins at m or later
pub record IsTrim (m : ℕ) (s : State) : Type 0 where
  pub above : s.start < m
  pub drawn : m ≤ s.clock
  pub settled : AllByRecursion (λ x. x.settled ≡ false → m < x.end) s.stamped
  pub active : AllByRecursion (λ r. m ≤ r.id) s.active
  pub preparing : AllByRecursion (λ x. x.settled ≡ false → m ≤ x.id) s.stamped

pub front_settled : (m : ℕ) (xs : List StampedTx) → AllByRecursion (λ x. x.settled ≡ false → m < x.end) xs → AllByRecursion (λ x. x.settled ≡ true) (filter (is_to m) xs)
front_settled m xs h = each_filter (is_to m) (λ x. x.settled ≡ false → m < x.end) (λ x. x.settled ≡ true) (λ x e f. go x (leb-true x.end m e) x.settled refl f) xs h
  where
    go : (x : StampedTx) → x.end ≤ m → (b : Bool) → x.settled ≡ b → (x.settled ≡ false → m < x.end) → x.settled ≡ true
    go x l true e f = e
    go x l false e f = absurd (let g = f e in omega arith)

pub front_below : (m b : ℕ) (xs : List StampedTx) → m ≤ b → AllByRecursion (λ x. x.end ≢ b) xs → AllByRecursion (λ x. x.end < b) (filter (is_to m) xs)
front_below m b xs le o = each_filter (is_to m) (λ x. x.end ≢ b) (λ x. x.end < b) (λ x e n. let l = leb-true x.end m e in omega arith) xs o

pub consistent_to : (m : ℕ) (base : Map) (xs : List StampedTx) (id : ℕ) (ts : History) (rs : List Row) (ds : List ℕ) → IsRising xs → AllByRecursion (λ x. x.settled ≡ false → m < x.end) xs → m ≤ id → AllByRecursion (λ x. x.end ≢ id) xs → IsConsistent base xs id ts rs ds →
    IsConsistent (after_settled (filter (is_to m) xs) base) (filter (is_after m) xs) id ts rs ds
consistent_to m base xs id ts rs ds r s le o h =
    consistent_after_trim base (filter (is_to m) xs) (filter (is_after m) xs) id ts rs ds (front_settled m xs s) (front_below m id xs le o)
    (subst (λ (l : List StampedTx). IsConsistent base l id ts rs ds) (sym (parted m xs r)) h)

pub sound_after_trim : (s : State) (m : ℕ) → IsTrim m s → IsSound s → IsSound (after_trim s m)
sound_after_trim s m t h =
    let back = filter (is_after m) s.stamped in
    let base = after_settled (filter (is_to m) s.stamped) s.base in
    record {
      legal = legal_rest s.base (filter (is_to m) s.stamped) back (subst (IsLegal s.base) (sym (parted m s.stamped h.rising)) h.legal);
      rising = rising_filter (is_after m) s.stamped h.rising;
      clear = clear_filter (is_after m) s.stamped h.clear;
      placed = each_weaker (IsPlaced s.stamped s.clock) (IsPlaced back s.clock) (λ x p. record { begun = p.begun; drawn = p.drawn; others = each_part (is_after m) (λ y. y.end ≢ x.id) s.stamped p.others }) back (each_part (is_after m) (IsPlaced s.stamped s.clock) s.stamped h.placed);
      preparing = each_part (is_after m) (λ x. x.settled ≡ false → IsPreparing base back x) s.stamped
          (each_both (λ x. x.settled ≡ false → m ≤ x.id) (λ x. IsPlaced s.stamped s.clock x × (x.settled ≡ false → IsPreparing s.base s.stamped x)) (λ x. x.settled ≡ false → IsPreparing base back x)
          (λ x le q o. let w = q.1 o in record {
            consistent = λ n. consistent_to m s.base s.stamped x.id x.history x.footprint x.depends_on h.rising t.settled (le o) q.0.others (w.consistent n);
            below = w.below;
            checked = each_weaker (IsUnchanged s.stamped x.id x.end) (IsUnchanged back x.id x.end) (λ e. each_part (is_after m) (λ u. x.id < u.end → u.end < x.end → changes e u ≡ false) s.stamped) (take x.checked (entries x.history)) w.checked;
            valid = λ v. each_weaker (IsUnchanged s.stamped x.id x.end) (IsUnchanged back x.id x.end) (λ e. each_part (is_after m) (λ u. x.id < u.end → u.end < x.end → changes e u ≡ false) s.stamped) (entries x.history) (w.valid v);
          }) s.stamped t.preparing
          (each_both (IsPlaced s.stamped s.clock) (λ x. x.settled ≡ false → IsPreparing s.base s.stamped x) (λ x. IsPlaced s.stamped s.clock x × (x.settled ≡ false → IsPreparing s.base s.stamped x)) (λ x p q. (p, q)) s.stamped h.placed h.preparing));
      active = each_both (λ r. m ≤ r.id) (IsActive s.base s.stamped s.clock) (IsActive base back s.clock) (λ r le q. record {
        consistent = λ n. consistent_to m s.base s.stamped r.id r.history r.footprint r.depends_on h.rising t.settled le q.others (q.consistent n);
        below = q.below;
        others = each_part (is_after m) (λ y. y.end ≢ r.id) s.stamped q.others;
        drawn = q.drawn;
      }) s.active t.active h.active;
    }

-- an Active transaction sees the same rows
pub snapshots_trimmed : (s : State) (m : ℕ) → IsTrim m s → IsSound s → AllByRecursion (λ (r : ActiveTx). snapshot (after_trim s m) r.id ≡ snapshot s r.id) s.active
snapshots_trimmed s m t h = each_both (λ r. m ≤ r.id) (IsActive s.base s.stamped s.clock) (λ (r : ActiveTx). snapshot (after_trim s m) r.id ≡ snapshot s r.id) (λ r le q.
    ap (after_history (history_of_active r.id s.active)) (sym (seen_trimmed s.base (filter (is_to m) s.stamped) (filter (is_after m) s.stamped) r.id (front_settled m s.stamped t.settled) (front_below m r.id s.stamped le q.others))
    ∙ ap (λ l. seen_by s.base l r.id) (parted m s.stamped h.rising))) s.active t.active h.active

-- and the origins are the same
pub timeline_trimmed : (s : State) (m : ℕ) → IsRising s.stamped → timeline (after_trim s m) ≡ timeline s
timeline_trimmed s m r = append_assoc s.past (filter (is_to m) s.stamped) (filter (is_after m) s.stamped) ∙ ap (λ l. s.past ++ l) (parted m s.stamped r)

pub origins_trimmed : (s : State) (m b : ℕ) (k : RowKey) → IsRising s.stamped → origin (after_trim s m) b k ≡ origin s b k
origins_trimmed s m b k r = ap (λ l. origin_at l) (timeline_trimmed s m r)
  where
    origin_at : List StampedTx → ℕ
    origin_at l = origin (record s { past = []; stamped = l }) b k

pub started_after_trim : (s : State) (m : ℕ) → IsTrim m s → IsSound s → IsStarted s → IsStarted (after_trim s m)
started_after_trim s m t k h = record {
  past = each_append (IsPast m) s.past (filter (is_to m) s.stamped) (each_weaker (IsPast s.start) (IsPast m) (λ x q. let e = q.until in let a = t.above in record { settled = q.settled; begun = q.begun; until = omega arith }) s.past h.past)
      (each_both (λ x. x.settled ≡ true) (λ x. (x.end ≤ m) × (x.id < x.end)) (IsPast m) (λ x a b. record { settled = a; begun = b.1; until = b.0 }) (filter (is_to m) s.stamped) (front_settled m s.stamped t.settled)
      (each_filter (is_to m) (IsPlaced s.stamped s.clock) (λ x. (x.end ≤ m) × (x.id < x.end)) (λ x e p. (leb-true x.end m e, p.begun)) s.stamped k.placed));
  rising = rising_both s.start s.past (filter (is_to m) s.stamped) (each_weaker (IsPast s.start) (λ x. x.end ≤ s.start) (λ x q. q.until) s.past h.past) (each_part (is_to m) (λ y. s.start < y.end) s.stamped h.later) h.rising (rising_filter (is_to m) s.stamped k.rising);
  later = each_filter (is_after m) (λ y. s.start < y.end) (λ y. m < y.end) (λ y e _. leb-false y.end m (is_not (is_to m y) e)) s.stamped h.later;
  drawn = t.drawn;
  opened = let a = t.above in let o = h.opened in omega arith;
  after = each_append (λ x. s.marks.opening < x.end) s.past (filter (is_to m) s.stamped) h.after
      (each_part (is_to m) (λ x. s.marks.opening < x.end) s.stamped (each_weaker (λ y. s.start < y.end) (λ x. s.marks.opening < x.end) (λ x l. let o = h.opened in omega arith) s.stamped h.later));
  begun = t.active;
}
  where
    is_not : (b : Bool) → not b ≡ true → b ≡ false
    is_not true e = absurd (false≢true e)
    is_not false e = refl
