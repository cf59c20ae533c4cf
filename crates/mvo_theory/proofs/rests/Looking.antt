-- Whom an operation depends on in the state it depends on by what happened.
use Rattle.std.proofs.Common.{◌≡◌, ℕ, ◌<◌, Bool, true, false, cond, ◌||◌, List, [], ◌∷◌, ◌++◌, Option, None, Some, map, refl, sym, ap, ◌∙◌, subst, arith}
use Rattle.std.specs.Prelude.{nat_lt, nat_le, ◌&&◌, is_some}
use Rattle.std.specs.List.{AllByRecursion, filter, list_any}
use Rattle.std.specs.Ordering.{eq_by_cmp}
use Rattle.std.specs.FinMap as fin
use Rattle.std.proofs.lemmas.Bool.{lt-ltb, le-ltb, lt-leb, le-leb, ltb-true, and_from}
use Rattle.mvo_types.specs.declared.row.RowKey.{RowKey}
use Rattle.mvo_types.specs.declared.op.Op.{Op}
use Rattle.mvo_types.specs.declared.entry.Entry.{Entry}
use Rattle.mvo_types.specs.declared.entry.Entry.TheVariants.{Key, Range}
use Rattle.mvo_types.specs.Keys.{Map, key_cmp}
use Rattle.mvo_types.specs.Write.{Effect}
use Rattle.mvo_model.specs.History.{History, net_write, after_history, after_histories}
use Rattle.mvo_model.specs.Trace.{Step, history_of, rows_up_to}
use Rattle.mvo_theory.specs.Entries.{entry_of}
use Rattle.mvo_theory.specs.Ranges.{Row, shows, pass, puts, is_row_of}
use Rattle.mvo_theory.specs.State.{State, StampedTx, ActiveTx, after_settled, active_of, preparing_of, ended_of}
use Rattle.mvo_theory.specs.Dependencies.{is_writer, or_later, last_writer, is_put_below, counts_for}
use Rattle.mvo_theory.specs.Sound.{IsPast, IsRising}
use Rattle.mvo_theory.specs.AfterTrace.{pairs}
use Rattle.mvo_theory.specs.Snapshots.{ends_with_ids}
use Rattle.mvo_theory.specs.Traced.{IsLastWriter}
use Rattle.mvo_theory.specs.Calls.{IsKept}
use Rattle.mvo_theory.proofs.Each.{each_both, each_back}
use Rattle.mvo_theory.proofs.Footprints.{key_same}
use Rattle.mvo_theory.proofs.Looks.{key_is}
use Rattle.mvo_theory.proofs.Apart.{IsIn, each_in}
use Rattle.mvo_theory.proofs.Commits.{split_at}
use Rattle.mvo_theory.proofs.Settle.{rising_after}
use Rattle.mvo_theory.proofs.Exact.{IsDeciding}
use Rattle.mvo_theory.proofs.LastWriter.{preparing_phase, preparing_there, found_in}
use Rattle.mvo_theory.proofs.Deciding.{last_in_trace}
use Rattle.mvo_theory.proofs.Who.{active_holds, id_of}
use Rattle.mvo_theory.specs.rests.Resting.{is_put_between, LooksAt, DependsNow}

-- ---- the rows where the history starts
abbrev told_of : List Step → ℕ × ℕ → History
told_of steps c = history_of c.1 steps

abbrev is_up : ℕ → ℕ × ℕ → Bool
is_up m c = nat_le c.0 m

none_up : (m : ℕ) (xs : List StampedTx) → AllByRecursion (λ x. m < x.end) xs → filter (is_up m) (pairs xs) ≡ []
none_up m [] h = refl
none_up m (x ∷ xs) h = go x.settled (none_up m xs h.1)
  where
    go : (b : Bool) → filter (is_up m) (pairs xs) ≡ [] → filter (is_up m) (cond b ((x.end, x.id) ∷ pairs xs) (pairs xs)) ≡ []
    go true r = ap (λ (c : Bool). cond c ((x.end, x.id) ∷ filter (is_up m) (pairs xs)) (filter (is_up m) (pairs xs))) (lt-leb x.end m h.0) ∙ r
    go false r = r

rows_past : (m : ℕ) (steps : List Step) (xs : List StampedTx) (cs : List (ℕ × ℕ)) (rows : Map) → AllByRecursion (IsPast m) xs → AllByRecursion (λ x. history_of x.id steps ≡ x.history) xs → filter (is_up m) cs ≡ []
    → after_histories (map (told_of steps) (filter (is_up m) (pairs xs ++ cs))) rows ≡ after_settled xs rows
rows_past m steps [] cs rows p h e = ap (λ ds. after_histories (map (told_of steps) ds) rows) e
rows_past m steps (x ∷ xs) cs rows p h e =
    ap (λ (b : Bool). after_histories (map (told_of steps) (filter (is_up m) (cond b ((x.end, x.id) ∷ pairs xs) (pairs xs) ++ cs))) rows) p.0.settled
    ∙ ap (λ (b : Bool). after_histories (map (told_of steps) (cond b ((x.end, x.id) ∷ filter (is_up m) (pairs xs ++ cs)) (filter (is_up m) (pairs xs ++ cs)))) rows) (le-leb x.end m p.0.until)
    ∙ rows_past m steps xs cs (after_history (history_of x.id steps) rows) p.1 h.1 e
    ∙ ap (λ ts. after_settled xs (after_history ts rows)) h.0
    ∙ ap (λ (b : Bool). after_settled xs (after_history (cond b x.history []) rows)) (sym p.0.settled)

base_is : (rows : Map) (steps : List Step) (s : State) → IsKept rows steps s → rows_up_to s.start rows steps ≡ s.base
base_is rows steps s k =
    ap (λ cs. after_histories (map (told_of steps) (filter (is_up s.start) cs)) rows) k.after_trace.tale
    ∙ rows_past s.start steps s.past (pairs s.stamped) rows k.started.past k.after_trace.past (none_up s.start s.stamped k.started.later)
    ∙ sym k.after_trace.base

-- ---- the rows that were put since
module _ (p : Row → Bool) (q : RowKey) (m b : ℕ) (steps : List Step) where
  abbrev is_put : ℕ × ℕ → Bool
  is_put c = (nat_lt m c.0 && nat_lt c.0 b) && list_any (is_row_of p q) (puts (history_of c.1 steps))

  put_past : (xs ys : List StampedTx) → AllByRecursion (IsPast m) xs → list_any is_put (ends_with_ids (xs ++ ys)) ≡ list_any is_put (ends_with_ids ys)
  put_past [] ys h = refl
  put_past (x ∷ xs) ys h =
      ap (λ (c : Bool). ((c && nat_lt x.end b) && list_any (is_row_of p q) (puts (history_of x.id steps))) || list_any is_put (ends_with_ids (xs ++ ys))) (le-ltb m x.end h.0.until)
      ∙ put_past xs ys h.1

  put_since : (xs : List StampedTx) → AllByRecursion (λ x. m < x.end) xs → AllByRecursion (λ x. history_of x.id steps ≡ x.history) xs → list_any is_put (ends_with_ids xs) ≡ is_put_below p q b xs
  put_since [] l h = refl
  put_since (x ∷ xs) l h =
      ap (λ (c : Bool). ((c && nat_lt x.end b) && list_any (is_row_of p q) (puts (history_of x.id steps))) || list_any is_put (ends_with_ids xs)) (lt-ltb m x.end l.0)
      ∙ ap (λ ts. (nat_lt x.end b && list_any (is_row_of p q) (puts ts)) || list_any is_put (ends_with_ids xs)) h.0
      ∙ ap (λ (c : Bool). (nat_lt x.end b && list_any (is_row_of p q) (puts x.history)) || c) (put_since xs l.1 h.1)

put_is : (p : Row → Bool) (q : RowKey) (b : ℕ) (rows : Map) (steps : List Step) (s : State) → IsKept rows steps s → is_put_between p q s.start b steps ≡ is_put_below p q b s.stamped
put_is p q b rows steps s k =
    ap (list_any (is_put p q s.start b steps)) k.has_ends.ends
    ∙ put_past p q s.start b steps s.past s.stamped k.started.past
    ∙ put_since p q s.start b steps s.stamped k.started.later k.after_trace.stamped

-- ---- a key that is looked at counts
range_is : (p : Row → Bool) (q : RowKey) (b : ℕ) (rows : Map) (steps : List Step) (s : State) → IsKept rows steps s
    → (is_some (pass p q (fin.get (rows_up_to s.start rows steps) q)) || is_put_between p q s.start b steps) ≡ (is_some (pass p q (fin.get s.base q)) || is_put_below p q b s.stamped)
range_is p q b rows steps s k =
    ap (λ (n : Map). is_some (pass p q (fin.get n q)) || is_put_between p q s.start b steps) (base_is rows steps s k)
    ∙ ap (λ (c : Bool). is_some (pass p q (fin.get s.base q)) || c) (put_is p q b rows steps s k)

looks_in : (rows : Map) (steps : List Step) (s : State) (e : Entry) (q : RowKey) (b : ℕ) → IsKept rows steps s → counts_for e q b s.base s.stamped ≡ true → LooksAt rows steps s.start b e q
looks_in rows steps s (Key j) q b k c = sym (key_same q j c)
looks_in rows steps s (Range t lo hi) q b k c = range_is (shows (Range t lo hi)) q b rows steps s k ∙ c

looks_out : (rows : Map) (steps : List Step) (s : State) (e : Entry) (q : RowKey) (b : ℕ) → IsKept rows steps s → LooksAt rows steps s.start b e q → counts_for e q b s.base s.stamped ≡ true
looks_out rows steps s (Key j) q b k l = subst (λ (i : RowKey). eq_by_cmp key_cmp q i ≡ true) l (key_is q)
looks_out rows steps s (Range t lo hi) q b k l = sym (range_is (shows (Range t lo hi)) q b rows steps s k) ∙ l

-- ---- the last writer
none_is_last : (k : RowKey) (b : ℕ) (xs : List StampedTx) → AllByRecursion (λ z. is_writer k b z ≡ false) xs → last_writer k b xs ≡ None
none_is_last k b [] h = refl
none_is_last k b (x ∷ xs) h = ap (λ (c : Bool). or_later (cond c (Some x) None) (last_writer k b xs)) h.0 ∙ ap (or_later None) (none_is_last k b xs h.1)

last_among : (k : RowKey) (b : ℕ) (before after : List StampedTx) (y : StampedTx) → is_writer k b y ≡ true → AllByRecursion (λ z. is_writer k b z ≡ false) after → last_writer k b (before ++ y ∷ after) ≡ Some y
last_among k b [] after y w n = ap (or_later (cond (is_writer k b y) (Some y) None)) (none_is_last k b after n) ∙ ap (λ (c : Bool). cond c (Some y) None) w
last_among k b (z ∷ zs) after y w n = ap (or_later (cond (is_writer k b z) (Some z) None)) (last_among k b zs after y w n)

no_writer : (k : RowKey) (b : ℕ) (z : StampedTx) → (z.end < b → net_write k z.history ≡ None) → is_writer k b z ≡ false
no_writer k b z f = go (nat_lt z.end b) refl
  where
    go : (c : Bool) → nat_lt z.end b ≡ c → (c && is_some (net_write k z.history)) ≡ false
    go true e = ap (λ (w : Option Effect). is_some w) (f (ltb-true z.end b e))
    go false e = refl

pair_each : (P : ℕ × ℕ → Type 0) (xs : List StampedTx) → AllByRecursion P (pairs xs) → AllByRecursion (λ x. x.settled ≡ true → P (x.end, x.id)) xs
pair_each P [] h = tt
pair_each P (x ∷ xs) h = go x.settled h (λ q. pair_each P xs q)
  where
    go : (b : Bool) → AllByRecursion P (cond b ((x.end, x.id) ∷ pairs xs) (pairs xs)) → (AllByRecursion P (pairs xs) → AllByRecursion (λ y. y.settled ≡ true → P (y.end, y.id)) xs) → (b ≡ true → P (x.end, x.id)) × AllByRecursion (λ y. y.settled ≡ true → P (y.end, y.id)) xs
    go true q f = ((λ _. q.0), f q.1)
    go false q f = ((λ e. absurd cc), f q)

-- none that ends later and below the begin writes the key
none_later : (rows : Map) (steps : List Step) (s : State) (k : RowKey) (b x e : ℕ) → IsKept rows steps s → IsLastWriter steps k b x e → AllByRecursion (λ z. e < z.end → z.end < b → net_write k z.history ≡ None) s.stamped
none_later rows steps s k b x e h w = each_in (λ z. e < z.end → z.end < b → net_write k z.history ≡ None) s.stamped (λ z m. go z m z.settled refl)
  where
    settled : AllByRecursion (λ z. z.settled ≡ true → e < z.end → z.end < b → net_write k (history_of z.id steps) ≡ None) s.stamped
    settled =
        let P : ℕ × ℕ → Type 0 = λ c. e < c.0 → c.0 < b → net_write k (history_of c.1 steps) ≡ None in
        pair_each P s.stamped (each_back P (pairs s.past) (pairs s.stamped) (subst (AllByRecursion P) h.after_trace.tale w.no_committed))

    go : (z : StampedTx) → IsIn z s.stamped → (c : Bool) → z.settled ≡ c → e < z.end → z.end < b → net_write k z.history ≡ None
    go z m false o lo hi = ap (net_write k) (sym (m (λ v. history_of v.id steps ≡ v.history) h.after_trace.stamped)) ∙ w.no_preparing z.id z.end (h.after_trace.phases z.id ∙ preparing_phase s z m o h.single) lo hi
    go z m true o lo hi = ap (net_write k) (sym (m (λ v. history_of v.id steps ≡ v.history) h.after_trace.stamped)) ∙ m (λ v. v.settled ≡ true → e < v.end → v.end < b → net_write k (history_of v.id steps) ≡ None) settled o lo hi

-- ---- both ways
pub depends_in : (rows : Map) (steps : List Step) (s : State) (t : ℕ) (op : Op) (r : ActiveTx) (d : ℕ) → active_of t s.active ≡ Some r → IsKept rows steps s → IsDeciding s op r d → (x : ℕ) × DependsNow rows steps s.start t op x d
depends_in rows steps s t op r d f k h =
    let is = id_of t s.active r f in
    let history = (active_holds (λ q. history_of q.id steps ≡ q.history) t s.active r f k.after_trace.active).0 in (
      h.writer.id,
      record {
        key = h.key;
        looked = subst (λ (b : ℕ). LooksAt rows steps s.start b (entry_of op) h.key) is (looks_in rows steps s (entry_of op) h.key r.id k h.counts);
        unwritten = subst (λ (i : ℕ). is_some (net_write h.key (history_of i steps)) ≡ false) is (ap (λ ts. is_some (net_write h.key ts)) history ∙ h.unwritten);
        writer = subst (λ (i : ℕ). IsLastWriter steps h.key i h.writer.id d) is (subst (IsLastWriter steps h.key r.id h.writer.id) h.ends (last_in_trace rows steps s h.key r.id h.writer h.last h.open' k.sound k.single k.started k.after_trace));
      },
    )

pub depends_out : (rows : Map) (steps : List Step) (s : State) (t : ℕ) (op : Op) (r : ActiveTx) (x d : ℕ) → active_of t s.active ≡ Some r → IsKept rows steps s → DependsNow rows steps s.start t op x d → IsDeciding s op r d
depends_out rows steps s t op r x d f k h =
    let w = h.writer in
    let there = preparing_there (active_of x s.active) (preparing_of x s.stamped) (ended_of x s.ended) d (sym (k.after_trace.phases x) ∙ w.preparing) in
    let y = there.0 in
    let found = found_in x s.stamped y there.1 in
    let place = split_at x s.stamped y there.1 in
    let ends_with_ids = there.2 in
    let below = w.below in
    let is = id_of t s.active r f in
    let history = (active_holds (λ q. history_of q.id steps ≡ q.history) t s.active r f k.after_trace.active).0 in
    let later = none_later rows steps s h.key t x d k w in
    let after = (each_back (λ z. d < z.end → z.end < t → net_write h.key z.history ≡ None) place.0 (y ∷ place.1) (subst (AllByRecursion (λ z. d < z.end → z.end < t → net_write h.key z.history ≡ None)) place.2 later)).1 in
    let rising : IsRising (place.0 ++ y ∷ place.1) = subst IsRising place.2 k.sound.rising in
    let none : AllByRecursion (λ z. is_writer h.key r.id z ≡ false) place.1 =
    each_both (λ z. y.end < z.end) (λ z. d < z.end → z.end < t → net_write h.key z.history ≡ None) (λ z. is_writer h.key r.id z ≡ false)
    (λ z lo g. no_writer h.key r.id z (λ hi. g (omega (arith, lo, ends_with_ids)) (omega (arith, hi, is)))) place.1 (rising_after place.0 place.1 y rising) after in
    let writes : is_some (net_write h.key y.history) ≡ true =
    ap (λ ts. is_some (net_write h.key ts)) (sym (found.0 (λ v. history_of v.id steps ≡ v.history) k.after_trace.stamped)) ∙ subst (λ (i : ℕ). is_some (net_write h.key (history_of i steps)) ≡ true) (sym found.1) w.writes in
    let mine : is_writer h.key r.id y ≡ true = and_from (nat_lt y.end r.id) (is_some (net_write h.key y.history)) (lt-ltb y.end r.id (omega (arith, ends_with_ids, below, is))) writes in
    record {
      key = h.key;
      counts = looks_out rows steps s (entry_of op) h.key r.id k (subst (λ (b : ℕ). LooksAt rows steps s.start b (entry_of op) h.key) (sym is) h.looked);
      unwritten = ap (λ ts. is_some (net_write h.key ts)) (sym history) ∙ subst (λ (i : ℕ). is_some (net_write h.key (history_of i steps)) ≡ false) (sym is) h.unwritten;
      writer = y;
      last = subst (λ (l : List StampedTx). last_writer h.key r.id l ≡ Some y) (sym place.2) (last_among h.key r.id place.0 place.1 y mine none);
      open' = place.4;
      ends = ends_with_ids;
    }
