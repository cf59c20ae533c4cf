-- Who an operation makes its transaction depend on, read off the trace.
use Rattle.std.proofs.Common.{◌≡◌, ℕ, ◌+◌, ◌<◌, Bool, true, false, cond, ◌||◌, List, [], ◌∷◌, None, Some, sym, ap, ◌∙◌, subst, inl, inr, arith, append-nil}
use Rattle.std.specs.Prelude.{nat_lt, ◌==◌, ◌&&◌, is_some}
use Rattle.std.specs.List.{AllByRecursion, list_any}
use Rattle.std.specs.FinMap as fin
use Rattle.std.proofs.lemmas.Bool.{false≢true, and_parts}
use Rattle.std.proofs.lemmas.List.Folds.{list_any-append}
use Rattle.mvo_types.specs.declared.row.RowKey.{RowKey}
use Rattle.mvo_types.specs.declared.op.Op.{Op}
use Rattle.mvo_types.specs.Keys.{Map}
use Rattle.mvo_model.specs.History.{write_of, net_write}
use Rattle.mvo_model.specs.Trace.{Step, history_by, history_of}
use Rattle.mvo_model.specs.Trace.Step.{Begins, Answers, Prepares, Checks, Commits, Aborts, Terminates}
use Rattle.mvo_types.specs.declared.entry.Entry.{Entry}
use Rattle.mvo_theory.specs.Entries.{entry_of}
use Rattle.mvo_theory.specs.Ranges.{Row, shows, pass, put_by, puts, is_row_of}
use Rattle.mvo_theory.specs.State.{State, StampedTx, ActiveTx, after_settled, seen_by, active_of, preparing_of, ended_of}
use Rattle.mvo_theory.specs.Dependencies.{last_writer, is_put_below, counts_for}
use Rattle.mvo_theory.specs.Sound.{IsSound, IsPast, IsStarted, IsSingle}
use Rattle.mvo_theory.specs.AfterTrace.{pairs, IsAfterTrace}
use Rattle.mvo_theory.specs.Traced.{IsLastWriter, puts_row, IsLookedAt}
use Rattle.mvo_theory.proofs.Each.{each_weaker, each_both, each_append}
use Rattle.mvo_theory.proofs.Footprints.{or_left, or_right, key_same}
use Rattle.mvo_theory.proofs.Counts.{puts-append, seen_counts}
use Rattle.mvo_theory.proofs.Depends.{below_last}
use Rattle.mvo_theory.proofs.Exact.{IsDeciding, or_cases}
use Rattle.mvo_theory.proofs.LastWriter.{last_is, last_writes, after_last, preparing_phase, preparing_there, found_in}
use Rattle.mvo_theory.proofs.Trim.{seen_front}
use Rattle.mvo_theory.proofs.Who.{active_holds, id_of}
use Rattle.mvo_types.specs.declared.entry.Entry.TheVariants.{Key, Range}

-- ---- a row that one of them put was put in the trace
here_rows : (p : Row → Bool) (q : RowKey) (t : ℕ) (x : Step) → list_any (is_row_of p q) (puts (history_by x t)) ≡ true → puts_row p q x ≡ true
here_rows p q t (Answers u op s) h = go (u == t) h
  where
    go : (b : Bool) → list_any (is_row_of p q) (puts (cond b ((op, s) ∷ []) [])) ≡ true → list_any (is_row_of p q) (put_by (write_of op s)) ≡ true
    go true g = sym (ap (list_any (is_row_of p q)) (append-nil (put_by (write_of op s)))) ∙ g
    go false g = absurd (false≢true g)
here_rows p q t (Begins u) h = absurd (false≢true h)
here_rows p q t (Prepares u e) h = absurd (false≢true h)
here_rows p q t (Checks u) h = absurd (false≢true h)
here_rows p q t (Commits u e) h = absurd (false≢true h)
here_rows p q t (Aborts u) h = absurd (false≢true h)
here_rows p q t (Terminates u) h = absurd (false≢true h)

history_rows : (p : Row → Bool) (q : RowKey) (t : ℕ) (steps : List Step) → list_any (is_row_of p q) (puts (history_of t steps)) ≡ true → list_any (puts_row p q) steps ≡ true
history_rows p q t [] h = absurd (false≢true h)
history_rows p q t (x ∷ xs) h =
    elim (or_cases (list_any (is_row_of p q) (puts (history_by x t))) (list_any (is_row_of p q) (puts (history_of t xs)))
    (sym (ap (list_any (is_row_of p q)) (puts-append (history_by x t) (history_of t xs)) ∙ list_any-append (is_row_of p q) (puts (history_by x t)) (puts (history_of t xs))) ∙ h)) [
      | inl a ↦ or_left (puts_row p q x) (list_any (puts_row p q) xs) (here_rows p q t x a)
      | inr b ↦ or_right (puts_row p q x) (list_any (puts_row p q) xs) (history_rows p q t xs b)
    ]

put_rows : (p : Row → Bool) (q : RowKey) (b : ℕ) (steps : List Step) (xs : List StampedTx) → AllByRecursion (λ x. history_of x.id steps ≡ x.history) xs → is_put_below p q b xs ≡ true → list_any (puts_row p q) steps ≡ true
put_rows p q b steps [] t h = absurd (false≢true h)
put_rows p q b steps (x ∷ xs) t h = elim (or_cases (nat_lt x.end b && list_any (is_row_of p q) (puts x.history)) (is_put_below p q b xs) h) [
  | inl a ↦ history_rows p q x.id steps (ap (λ ts. list_any (is_row_of p q) (puts ts)) t.0 ∙ (and_parts (nat_lt x.end b) (list_any (is_row_of p q) (puts x.history)) a).1)
  | inr c ↦ put_rows p q b steps xs t.1 c
]

pub looked_at : (opening : Map) (steps : List Step) (s : State) (e : Entry) (q : RowKey) (b : ℕ) → IsStarted s → IsAfterTrace opening steps s → counts_for e q b s.base s.stamped ≡ true → IsLookedAt opening steps e q
looked_at opening steps s (Key k) q b p h c = sym (key_same q k c)
looked_at opening steps s (Range t lo hi) q b p h c = elim (or_cases (is_some (pass test q (fin.get s.base q))) (is_put_below test q b s.stamped) c) [
  | inl a ↦ before (seen_counts (Range t lo hi) q (s.start + 1) opening s.past (subst (λ (m : Map). is_some (pass test q (fin.get m q)) ≡ true) (h.base ∙ sym below) a))
  | inr a ↦ or_right (is_some (pass test q (fin.get opening q))) (list_any (puts_row test q) steps) (put_rows test q b steps s.stamped h.stamped a)
]
  where
    test : Row → Bool
    test = shows (Range t lo hi)

    below : seen_by opening s.past (s.start + 1) ≡ after_settled s.past opening
    below = seen_front (s.start + 1) s.past opening (each_weaker (IsPast s.start) (λ x. x.settled ≡ true) (λ x g. g.settled) s.past p.past) (each_weaker (IsPast s.start) (λ x. x.end < s.start + 1) (λ x g. let l = g.until in omega arith) s.past p.past)

    before : (is_some (pass test q (fin.get opening q)) || is_put_below test q (s.start + 1) s.past) ≡ true → (is_some (pass test q (fin.get opening q)) || list_any (puts_row test q) steps) ≡ true
    before g = elim (or_cases (is_some (pass test q (fin.get opening q))) (is_put_below test q (s.start + 1) s.past) g) [
      | inl i ↦ or_left (is_some (pass test q (fin.get opening q))) (list_any (puts_row test q) steps) i
      | inr i ↦ or_right (is_some (pass test q (fin.get opening q))) (list_any (puts_row test q) steps) (put_rows test q (s.start + 1) steps s.past h.past i)
    ]

-- ---- the last writer
pub each_pair : (P : ℕ × ℕ → Type 0) (xs : List StampedTx) → AllByRecursion (λ x. P (x.end, x.id)) xs → AllByRecursion P (pairs xs)
each_pair P [] h = tt
each_pair P (x ∷ xs) h = go x.settled (each_pair P xs h.1)
  where
    go : (b : Bool) → AllByRecursion P (pairs xs) → AllByRecursion P (cond b ((x.end, x.id) ∷ pairs xs) (pairs xs))
    go true r = (h.0, r)
    go false r = r

pub last_in_trace : (opening : Map) (steps : List Step) (s : State) (k : RowKey) (b : ℕ) (x : StampedTx) → last_writer k b s.stamped ≡ Some x → x.settled ≡ false → IsSound s → IsSingle s → IsStarted s → IsAfterTrace opening steps s → IsLastWriter steps k b x.id x.end
last_in_trace opening steps s k b x l o sound single p h =
    let m = last_is k b s.stamped x l in
    let after = after_last k b s.stamped x sound.rising l in
    let history = m (λ y. history_of y.id steps ≡ y.history) h.stamped in
    let later = m (λ y. s.start < y.end) p.later in
    record {
      preparing = h.phases x.id ∙ preparing_phase s x m o single;
      below = below_last k b s.stamped x l;
      writes = ap (λ ts. is_some (net_write k ts)) history ∙ (and_parts (nat_lt x.end b) (is_some (net_write k x.history)) (last_writes k b s.stamped x l)).1;
      no_preparing = λ z n q lo hi.
          let there = preparing_there (active_of z s.active) (preparing_of z s.stamped) (ended_of z s.ended) n (sym (h.phases z) ∙ q) in
          let y = there.0 in
          let found = found_in z s.stamped y there.1 in
          let is = there.2 in
          subst (λ (i : ℕ). net_write k (history_of i steps) ≡ None) found.1
          (ap (net_write k) (found.0 (λ v. history_of v.id steps ≡ v.history) h.stamped) ∙ found.0 (λ v. x.end < v.end → v.end < b → net_write k v.history ≡ None) after (omega arith) (omega arith));
      no_committed = subst (AllByRecursion (λ (c : ℕ × ℕ). x.end < c.0 → c.0 < b → net_write k (history_of c.1 steps) ≡ None)) (sym h.tale)
          (each_append (λ (c : ℕ × ℕ). x.end < c.0 → c.0 < b → net_write k (history_of c.1 steps) ≡ None) (pairs s.past) (pairs s.stamped)
          (each_pair (λ c. x.end < c.0 → c.0 < b → net_write k (history_of c.1 steps) ≡ None) s.past (each_weaker (IsPast s.start) (λ y. x.end < y.end → y.end < b → net_write k (history_of y.id steps) ≡ None) (λ y g lo hi. absurd (let e = g.until in omega arith)) s.past p.past))
          (each_pair (λ c. x.end < c.0 → c.0 < b → net_write k (history_of c.1 steps) ≡ None) s.stamped
          (each_both (λ y. x.end < y.end → y.end < b → net_write k y.history ≡ None) (λ y. history_of y.id steps ≡ y.history) (λ y. x.end < y.end → y.end < b → net_write k (history_of y.id steps) ≡ None) (λ y f g lo hi. ap (net_write k) g ∙ f lo hi) s.stamped after h.stamped)));
    }

-- ---- what an operation adds
pub record IsAdded (opening : Map) (steps : List Step) (t : ℕ) (op : Op) (x d : ℕ) : Type 0 where
  pub key : RowKey
  pub looked : IsLookedAt opening steps (entry_of op) key
  pub unwritten : is_some (net_write key (history_of t steps)) ≡ false
  pub writer : IsLastWriter steps key t x d

pub deciding_in_trace : (opening : Map) (steps : List Step) (s : State) (t : ℕ) (op : Op) (r : ActiveTx) (d : ℕ) → active_of t s.active ≡ Some r → IsSound s → IsSingle s → IsStarted s → IsAfterTrace opening steps s → (h : IsDeciding s op r d) → IsAdded opening steps t op h.writer.id d
deciding_in_trace opening steps s t op r d f sound single p st h =
    let is = id_of t s.active r f in
    let history = (active_holds (λ q. history_of q.id steps ≡ q.history) t s.active r f st.active).0 in
    record {
      key = h.key;
      looked = looked_at opening steps s (entry_of op) h.key r.id p st h.counts;
      unwritten = subst (λ (i : ℕ). is_some (net_write h.key (history_of i steps)) ≡ false) is (ap (λ ts. is_some (net_write h.key ts)) history ∙ h.unwritten);
      writer = subst (λ (i : ℕ). IsLastWriter steps h.key i h.writer.id d) is (subst (IsLastWriter steps h.key r.id h.writer.id) h.ends (last_in_trace opening steps s h.key r.id h.writer h.last h.open' sound single p st));
    }
