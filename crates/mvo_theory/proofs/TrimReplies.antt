-- A trim changes no refusal, no answer and nobody that is waited for.
use Rattle.std.proofs.Common.{◌≡◌, ◌≢◌, ℕ, ◌+◌, ◌<◌, ◌≤◌, Bool, true, false, cond, not, List, [], ◌∷◌, ◌++◌, Option, None, Some, length, refl, sym, ap, ◌∙◌, subst, inl, inr, arith}
use Rattle.std.specs.Prelude.{⊤, nat_lt, nat_le, ◌==◌, ◌&&◌, is_some, slice_get, not}
use Rattle.std.specs.List.{AllByRecursion, filter}
use Rattle.std.specs.Ordering.{eq_by_cmp}
use Rattle.std.specs.FinMap as fin
use Rattle.std.proofs.lemmas.Bool.{false≢true, true≢false, ltb-true, ltb-false, lt-ltb, le-ltb, leb-true, eqb-true, and_parts, and_from, and_left}
use Rattle.mvo_types.specs.declared.cause.Cause.{Cause}
use Rattle.mvo_types.specs.declared.cause.Cause.TheVariants.{Stamped}
use Rattle.mvo_types.specs.declared.op.Op.{Op}
use Rattle.mvo_types.specs.declared.op.Op.TheVariants.{Read, Scan, Insert, Update, Delete}
use Rattle.mvo_types.specs.declared.limits.TheConstants.{MAX_STAMP, MAX_TABLE, MAX_DATA_LEN, MAX_UNFINISHED}
use Rattle.mvo_types.specs.declared.refusal.Refusal.{Refusal}
use Rattle.mvo_types.specs.declared.refusal.Refusal.TheVariants.{NotValidated, NothingToDo, RingFull, NotActive, TableFull, DataTooLong, BadTable, ClockSpent}
use Rattle.mvo_types.specs.declared.row.RowKey.{RowKey}
use Rattle.mvo_types.specs.RowData.{RowData}
use Rattle.mvo_types.specs.Keys.{Map, key_cmp}
use Rattle.mvo_types.specs.Write.{Effect}
use Rattle.mvo_model.specs.History.{after_history, net_write}
use Rattle.mvo_model.specs.Trace.{Step}
use Rattle.mvo_types.specs.declared.entry.Entry.{Entry}
use Rattle.mvo_theory.specs.Entries.{entries}
use Rattle.mvo_theory.specs.State.{State, StampedTx, ActiveTx, Claim, timeline, seen_by, active_of, preparing_of, ended_of}
use Rattle.mvo_theory.specs.Dependencies.{is_writer, last_writer, has_end}
use Rattle.mvo_theory.specs.Claims.{end_or, origin, has_claim}
use Rattle.mvo_theory.specs.Changes.{is_to, after_trim}
use Rattle.mvo_theory.specs.Marks.{least_open, below_open, low_water}
use Rattle.mvo_theory.proofs.Cases.{do_cases, precommit_cases, begin_cases, conflict_by, preparing_head, rollback_by, finish_by, if_stands, or_flagged, not_there, not_written, not_prepared, not_op, not_done_at, not_active}
use Rattle.mvo_types.specs.Causes.{when, or_next}
use Rattle.mvo_theory.specs.Causes.{was_valid, next_differs, conflicts, why_not_precommit, why_not_begin, differs, unsettled, active_claim, stamped_claim, or_cause, claimed_by, why_not_do, is_changer, or_first, last_end, change_of, entry_differs, why_not_validate, why_not_settle, waiting_for, awaited_by, awaited}
use Rattle.mvo_theory.specs.Sound.{changes, IsRising, IsActive, IsPlaced}
use Rattle.mvo_theory.specs.Claimed.{IsClaimed, HasClaims}
use Rattle.mvo_theory.specs.Calls.{Call, why_not, IsKept}
use Rattle.mvo_theory.proofs.Commits.{split_at}
use Rattle.mvo_theory.proofs.Each.{each_always, each_both, each_filter}
use Rattle.mvo_theory.proofs.Footprints.{any_none, key_same}
use Rattle.mvo_theory.proofs.Apart.{IsIn, each_in}
use Rattle.mvo_theory.proofs.LastWriter.{after_last, none_writes, found_in}
use Rattle.mvo_theory.proofs.AfterTrace.{rising_all}
use Rattle.mvo_theory.proofs.Trim.{is_after, parted, seen_trimmed, IsTrim, front_settled, front_below, origins_trimmed}
use Rattle.mvo_theory.proofs.Trimmed.{preparing_after_trim}
use Rattle.mvo_theory.proofs.Who.{active_holds}
use Rattle.mvo_theory.specs.Calls.Call.{Begin, Do, Precommit, Validate, Settle, Rollback, Finish, Trim, Close}

-- ---- the claim of one that ends below the begin is on a version that is no longer the last
none_writer : (k : RowKey) (b : ℕ) (x : StampedTx) → is_writer k b x ≡ false → x.end < b → is_some (net_write k x.history) ≡ true → ⊥
none_writer k b x f l w = true≢false (sym (and_from (nat_lt x.end b) (is_some (net_write k x.history)) (lt-ltb x.end b l) w) ∙ f)

-- who writes the key below the begin ends at most at its origin
origin_above : (s : State) (k : RowKey) (b : ℕ) (x : StampedTx) → IsIn x (timeline s) → IsRising (timeline s) → x.end < b → is_some (net_write k x.history) ≡ true → x.end ≤ origin s b k
origin_above s k b x m r l w = go (last_writer k b (timeline s)) refl
  where
    none_some : (v : Option Effect) → is_some v ≡ true → v ≡ None → ⊥
    none_some None e f = false≢true e
    none_some (Some h) e f = true≢false (ap is_some f)

    go : (v : Option StampedTx) → last_writer k b (timeline s) ≡ v → x.end ≤ end_or s.marks.opening v
    go None e = absurd (none_writer k b x (m (λ z. is_writer k b z ≡ false) (none_writes k b (timeline s) e)) l w)
    go (Some y) e = low (nat_lt y.end x.end) refl
      where
        low : (c : Bool) → nat_lt y.end x.end ≡ c → x.end ≤ y.end
        low true f = absurd (none_some (net_write k x.history) w (m (λ z. y.end < z.end → z.end < b → net_write k z.history ≡ None) (after_last k b (timeline s) y r e) (ltb-true y.end x.end f) l))
        low false f = ltb-false y.end x.end f

pub old_claim : (steps : List Step) (s : State) (k : RowKey) (b : ℕ) (x : StampedTx) → IsIn x (timeline s) → IsRising (timeline s) → HasClaims s.marks.opening steps x.id x.history x.claims → s.marks.opening < x.end → x.id < x.end → x.end < b → has_claim x.claims k (origin s b k) ≡ false
old_claim steps s k b x m r h above begun l = any_none (λ c. eq_by_cmp key_cmp k c.key && (c.origin == origin s b k)) x.claims
    (each_both (IsClaimed s.marks.opening steps x.id) (λ c. is_some (net_write c.key x.history) ≡ true) (λ c. (eq_by_cmp key_cmp k c.key && (c.origin == origin s b k)) ≡ false) (λ c p w. go c p w (eq_by_cmp key_cmp k c.key && (c.origin == origin s b k)) refl) x.claims h.sound h.written)
  where
    early : (c : Claim) → IsClaimed s.marks.opening steps x.id c → c.origin < x.end
    early c p = elim p.origin.source [ inl e ↦ omega arith | inr q ↦ let lt = q.below in omega arith ]

    go : (c : Claim) → IsClaimed s.marks.opening steps x.id c → is_some (net_write c.key x.history) ≡ true → (v : Bool) → (eq_by_cmp key_cmp k c.key && (c.origin == origin s b k)) ≡ v → (eq_by_cmp key_cmp k c.key && (c.origin == origin s b k)) ≡ false
    go c p w false e = e
    go c p w true e =
        let q = and_parts (eq_by_cmp key_cmp k c.key) (c.origin == origin s b k) e in
        let mine : is_some (net_write k x.history) ≡ true = subst (λ (j : RowKey). is_some (net_write j x.history) ≡ true) (key_same k c.key q.0) w in
        let high = origin_above s k b x m r l mine in
        let low = early c p in
        let same = eqb-true c.origin (origin s b k) q.1 in
        absurd (omega arith)

-- ---- first writer wins
stamped_append : (k : RowKey) (n : ℕ) (xs ys : List StampedTx) → AllByRecursion (λ x. has_claim x.claims k n ≡ false) xs → stamped_claim k n (xs ++ ys) ≡ stamped_claim k n ys
stamped_append k n [] ys h = refl
stamped_append k n (x ∷ xs) ys h = ap (λ (b : Bool). cond b (Some (Stamped (record { 0 = x.end }))) (stamped_claim k n (xs ++ ys))) h.0 ∙ stamped_append k n xs ys h.1

in_back : (xs ys : List StampedTx) (x : StampedTx) → IsIn x ys → IsIn x (xs ++ ys)
in_back [] ys x m = m
in_back (y ∷ xs) ys x m = λ P h. in_back xs ys x m P h.1

front_claims : (opening : Map) (steps : List Step) (s : State) (m : ℕ) (k : RowKey) (b : ℕ) → m ≤ b → AllByRecursion (λ x. x.end ≢ b) s.stamped → IsKept opening steps s → AllByRecursion (λ x. has_claim x.claims k (origin s b k) ≡ false) (filter (is_to m) s.stamped)
front_claims opening steps s m k b le o h = each_filter (is_to m) (λ x. (x.end ≢ b) × (x.end < b → has_claim x.claims k (origin s b k) ≡ false)) (λ x. has_claim x.claims k (origin s b k) ≡ false) (λ x e q. q.1 (let l = leb-true x.end m e in let ne = q.0 in omega arith)) s.stamped
    (each_both (λ x. x.end ≢ b) (λ x. x.end < b → has_claim x.claims k (origin s b k) ≡ false) (λ x. (x.end ≢ b) × (x.end < b → has_claim x.claims k (origin s b k) ≡ false)) (λ x u v. (u, v)) s.stamped o all)
  where
    all : AllByRecursion (λ x. x.end < b → has_claim x.claims k (origin s b k) ≡ false) s.stamped
    all = each_in (λ x. x.end < b → has_claim x.claims k (origin s b k) ≡ false) s.stamped (λ x i l.
        let later = i (λ y. s.start < y.end) h.started.later in
        let start = h.started.opened in
        old_claim steps s k b x (in_back s.past s.stamped x i) (rising_all s h.sound h.started) (i (λ y. HasClaims s.marks.opening steps y.id y.history y.claims) h.claimed.stamped) (omega arith) (i (IsPlaced s.stamped s.clock) h.sound.placed).begun l)

claimed_by_trimmed : (opening : Map) (steps : List Step) (s : State) (m : ℕ) (k : RowKey) (b : ℕ) → m ≤ b → AllByRecursion (λ x. x.end ≢ b) s.stamped → IsKept opening steps s → claimed_by (after_trim s m) b k ≡ claimed_by s b k
claimed_by_trimmed opening steps s m k b le o h =
    ap (λ (n : ℕ). or_cause (active_claim b k n s.active) (stamped_claim k n (filter (is_after m) s.stamped))) (origins_trimmed s m b k h.sound.rising)
    ∙ ap (or_cause (active_claim b k (origin s b k) s.active)) (sym (stamped_append k (origin s b k) (filter (is_to m) s.stamped) (filter (is_after m) s.stamped) (front_claims opening steps s m k b le o h))
    ∙ ap (stamped_claim k (origin s b k)) (parted m s.stamped h.sound.rising))

conflict_trimmed : (opening : Map) (steps : List Step) (s : State) (m : ℕ) (r : ActiveTx) (k : RowKey) → IsTrim m s → m ≤ r.id → AllByRecursion (λ x. x.end ≢ r.id) s.stamped → IsKept opening steps s → conflict_by (after_trim s m) r k ≡ conflict_by s r k
conflict_trimmed opening steps s m r k t le o h =
    let front = filter (is_to m) s.stamped in
    let back = filter (is_after m) s.stamped in
    ap (λ (n : Map). cond (fin.contains_key (after_history r.history n) k && not (is_some (net_write k r.history))) (claimed_by (after_trim s m) r.id k) None)
    (sym (seen_trimmed s.base front back r.id (front_settled m s.stamped t.settled) (front_below m r.id s.stamped le o)) ∙ ap (λ l. seen_by s.base l r.id) (parted m s.stamped h.sound.rising))
    ∙ ap (λ (c : Option Cause). cond (fin.contains_key (after_history r.history (seen_by s.base s.stamped r.id)) k && not (is_some (net_write k r.history))) c None) (claimed_by_trimmed opening steps s m k r.id le o h)

-- ---- an operation
abbrev updated_by : RowData → ActiveTx → Option Cause → Option Refusal
updated_by row r c = if_stands (nat_lt MAX_TABLE row.key.table) BadTable (if_stands (nat_lt MAX_DATA_LEN (length row.bytes)) DataTooLong (not_written row.key r (conflicts c)))

abbrev deleted_by : RowKey → ActiveTx → Option Cause → Option Refusal
deleted_by k r c = if_stands (nat_lt MAX_TABLE k.table) BadTable (not_written k r (conflicts c))

op_trimmed : (opening : Map) (steps : List Step) (s : State) (m : ℕ) (op : Op) (r : ActiveTx) → IsTrim m s → m ≤ r.id → AllByRecursion (λ x. x.end ≢ r.id) s.stamped → IsKept opening steps s → not_op (after_trim s m) op r ≡ not_op s op r
op_trimmed opening steps s m (Read k) r t le o h = refl
op_trimmed opening steps s m (Scan a lo hi) r t le o h = refl
op_trimmed opening steps s m (Insert row) r t le o h = refl
op_trimmed opening steps s m (Update row) r t le o h = ap (λ (c : Option Cause). updated_by row r c) (conflict_trimmed opening steps s m r row.key t le o h)
op_trimmed opening steps s m (Delete k) r t le o h = ap (λ (c : Option Cause). deleted_by k r c) (conflict_trimmed opening steps s m r k t le o h)

active_after_trim : (s : State) (m t : ℕ) → IsTrim m s → not_active (after_trim s m) t ≡ not_active s t
active_after_trim s m t h = ap (λ (w : Option StampedTx). cond (is_some w) NotActive (not_there s t)) (preparing_after_trim s m t h)

at_trimmed : (s : State) (m t : ℕ) (why why' : ActiveTx → Option Refusal) (w : Option ActiveTx) → IsTrim m s → ((r : ActiveTx) → w ≡ Some r → why' r ≡ why r) → not_done_at (after_trim s m) t why' w ≡ not_done_at s t why w
at_trimmed s m t why why' None h f = ap (λ (r : Refusal). Some r) (active_after_trim s m t h)
at_trimmed s m t why why' (Some r) h f = ap (or_flagged r.aborted_dependency) (f r refl)

pub done_trimmed : (opening : Map) (steps : List Step) (s : State) (m t : ℕ) (op : Op) → IsTrim m s → IsKept opening steps s → why_not_do (after_trim s m) t op ≡ why_not_do s t op
done_trimmed opening steps s m t op h k = do_cases (after_trim s m) t op ∙ at_trimmed s m t (not_op s op) (not_op (after_trim s m) op) (active_of t s.active) h (λ r f.
    op_trimmed opening steps s m op r h (active_holds (λ q. m ≤ q.id) t s.active r f h.active).0 (active_holds (IsActive s.base s.stamped s.clock) t s.active r f k.sound.active).0.others k) ∙ sym (do_cases s t op)

pub prepared_trimmed : (s : State) (m t : ℕ) → IsTrim m s → why_not_precommit (after_trim s m) t ≡ why_not_precommit s t
prepared_trimmed s m t h = precommit_cases (after_trim s m) t ∙ at_trimmed s m t (not_prepared s) (not_prepared (after_trim s m)) (active_of t s.active) h (λ r f. refl) ∙ sym (precommit_cases s t)

-- ---- validate
end_append : (p : StampedTx → Bool) (xs ys : List StampedTx) → AllByRecursion (λ x. p x ≡ false) xs → last_end p (xs ++ ys) ≡ last_end p ys
end_append p [] ys h = refl
end_append p (x ∷ xs) ys h = ap (λ (b : Bool). or_first (cond b (Some x.end) None) (last_end p (xs ++ ys))) h.0 ∙ none (last_end p (xs ++ ys)) ∙ end_append p xs ys h.1
  where
    none : (w : Option ℕ) → or_first None w ≡ w
    none None = refl
    none (Some n) = refl

change_trimmed : (s : State) (m b e : ℕ) (entry : Entry) → m ≤ b → IsRising s.stamped → change_of (filter (is_after m) s.stamped) b e entry ≡ change_of s.stamped b e entry
change_trimmed s m b e entry le r =
    sym (end_append (is_changer b e entry) (filter (is_to m) s.stamped) (filter (is_after m) s.stamped)
    (each_filter (is_to m) (λ u. u.end ≡ u.end) (λ u. is_changer b e entry u ≡ false) (λ u i _. and_left (nat_lt b u.end && nat_lt u.end e) (changes entry u) (and_left (nat_lt b u.end) (nat_lt u.end e) (le-ltb b u.end (let l = leb-true u.end m i in omega arith)))) s.stamped (each_always (λ (u : StampedTx). u.end ≡ u.end) (λ u. refl) s.stamped)))
    ∙ ap (last_end (is_changer b e entry)) (parted m s.stamped r)

pub checked_trimmed : (opening : Map) (steps : List Step) (s : State) (m t : ℕ) → IsTrim m s → IsKept opening steps s → why_not_validate (after_trim s m) t ≡ why_not_validate s t
checked_trimmed opening steps s m t h k =
    ap (λ w. preparing_head (active_of t s.active) w (ended_of t s.ended) (or_next (next_differs (filter (is_after m) s.stamped) w) None)) (preparing_after_trim s m t h)
    ∙ ap (λ n. preparing_head (active_of t s.active) (preparing_of t s.stamped) (ended_of t s.ended) (or_next n None)) (go (preparing_of t s.stamped) refl)
  where
    differs_same : (x : StampedTx) → m ≤ x.id → (w : Option Entry) → entry_differs (filter (is_after m) s.stamped) x w ≡ entry_differs s.stamped x w
    differs_same x le None = refl
    differs_same x le (Some e) = ap differs (change_trimmed s m x.id x.end e le k.sound.rising)

    go : (w : Option StampedTx) → preparing_of t s.stamped ≡ w → next_differs (filter (is_after m) s.stamped) w ≡ next_differs s.stamped w
    go None e = refl
    go (Some x) e =
        let there = found_in t s.stamped x e in
        let le = there.0 (λ y. y.settled ≡ false → m ≤ y.id) h.preparing (split_at t s.stamped x e).4 in
        ap (λ (w : Option Refusal). cond x.valid None w) (differs_same x le (slice_get (entries x.history) x.checked))

-- ---- settle
settled_after_trim : (s : State) (m t : ℕ) → IsTrim m s → why_not_settle (after_trim s m) t ≡ why_not_settle s t
settled_after_trim s m t h = ap (λ w. preparing_head (active_of t s.active) w (ended_of t s.ended) (or_next (when (not (was_valid w)) NotValidated) None)) (preparing_after_trim s m t h)

waiting_append : (ds : List ℕ) (xs ys : List StampedTx) → AllByRecursion (λ x. x.settled ≡ true) xs → waiting_for ds (xs ++ ys) ≡ waiting_for ds ys
waiting_append ds [] ys h = refl
waiting_append ds (x ∷ xs) ys h = ap (λ (b : Bool). cond (not b && has_end ds x.end) (Some x) (waiting_for ds (xs ++ ys))) h.0 ∙ waiting_append ds xs ys h.1

pub awaited_trimmed : (s : State) (m t : ℕ) → IsTrim m s → IsRising s.stamped → awaited (after_trim s m) t ≡ awaited s t
awaited_trimmed s m t h r = ap (awaited_by (filter (is_after m) s.stamped)) (preparing_after_trim s m t h) ∙ go (preparing_of t s.stamped)
  where
    go : (w : Option StampedTx) → awaited_by (filter (is_after m) s.stamped) w ≡ awaited_by s.stamped w
    go None = refl
    go (Some x) = sym (waiting_append x.depends_on (filter (is_to m) s.stamped) (filter (is_after m) s.stamped) (front_settled m s.stamped h.settled)) ∙ ap (waiting_for x.depends_on) (parted m s.stamped r)

-- ---- begin, rollback and finish
unsettled_append : (xs ys : List StampedTx) → AllByRecursion (λ x. x.settled ≡ true) xs → unsettled (xs ++ ys) ≡ unsettled ys
unsettled_append [] ys h = refl
unsettled_append (x ∷ xs) ys h = ap (λ (b : Bool). cond b (unsettled (xs ++ ys)) (unsettled (xs ++ ys) + 1)) h.0 ∙ unsettled_append xs ys h.1

pub begun_trimmed : (s : State) (m : ℕ) → IsTrim m s → IsRising s.stamped → why_not_begin (after_trim s m) ≡ why_not_begin s
begun_trimmed s m h r = begin_cases (after_trim s m) ∙ ap (λ (n : ℕ). if_stands (nat_le MAX_UNFINISHED (length s.active + (n + length s.ended))) TableFull (if_stands (nat_le MAX_STAMP s.clock) ClockSpent None))
    (sym (unsettled_append (filter (is_to m) s.stamped) (filter (is_after m) s.stamped) (front_settled m s.stamped h.settled)) ∙ ap unsettled (parted m s.stamped r)) ∙ sym (begin_cases s)

-- ---- closing a group
open_append : (xs ys : List StampedTx) → AllByRecursion (λ x. x.settled ≡ true) xs → least_open (xs ++ ys) ≡ least_open ys
open_append [] ys h = refl
open_append (x ∷ xs) ys h = ap (λ (b : Bool). cond b (least_open (xs ++ ys)) (Some x.end)) h.0 ∙ open_append xs ys h.1

pub low_trimmed : (s : State) (m : ℕ) → IsTrim m s → IsRising s.stamped → low_water (after_trim s m) ≡ low_water s
low_trimmed s m h r = ap (below_open s.clock) (sym (open_append (filter (is_to m) s.stamped) (filter (is_after m) s.stamped) (front_settled m s.stamped h.settled)) ∙ ap least_open (parted m s.stamped r))

-- ---- so each call that isn't a trim is refused alike
abbrev pub IsOther : Call → Type 0
IsOther (Trim m) = ⊥
IsOther c = ⊤

pub refused_trimmed : (opening : Map) (steps : List Step) (s : State) (m : ℕ) (c : Call) → IsOther c → IsTrim m s → IsKept opening steps s → why_not (after_trim s m) c ≡ why_not s c
refused_trimmed opening steps s m Begin o h k = begun_trimmed s m h k.sound.rising
refused_trimmed opening steps s m (Do t op) o h k = done_trimmed opening steps s m t op h k
refused_trimmed opening steps s m (Precommit t) o h k = prepared_trimmed s m t h
refused_trimmed opening steps s m (Validate t) o h k = checked_trimmed opening steps s m t h k
refused_trimmed opening steps s m (Settle t) o h k = settled_after_trim s m t h
refused_trimmed opening steps s m (Rollback t) o h k = ap (λ w. rollback_by (active_of t s.active) w (ended_of t s.ended)) (preparing_after_trim s m t h)
refused_trimmed opening steps s m (Finish t) o h k = ap (λ w. finish_by (active_of t s.active) w (ended_of t s.ended)) (preparing_after_trim s m t h)
refused_trimmed opening steps s m (Close fits g full) o h k = ap (λ (n : ℕ). or_next (when (n == s.marks.closed) NothingToDo) (or_next (when full RingFull) None)) (low_trimmed s m h k.sound.rising)
refused_trimmed opening steps s m (Trim n) o h k = absurd o
