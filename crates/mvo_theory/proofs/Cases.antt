-- The causes of each call, told apart by where the transaction stands.
use Rattle.std.proofs.Common.{◌≡◌, ℕ, Bool, true, false, cond, not, List, [], ◌∷◌, ◌++◌, Option, None, Some, length, refl, sym, ap, ◌∙◌, subst}
use Rattle.std.specs.Prelude.{nat_lt, nat_le, ◌==◌, ◌&&◌, ◌||◌, if◌then◌else◌, is_some, slice_get}
use Rattle.std.specs.List.{list_any}
use Rattle.std.specs.FinMap as fin
use Rattle.std.proofs.lemmas.Bool.{eqb-true}
use Rattle.mvo_types.specs.declared.limits.TheConstants.{MAX_STAMP, MAX_TABLE, MAX_DATA_LEN, MAX_UNFINISHED}
use Rattle.mvo_types.specs.declared.row.RowKey.{RowKey}
use Rattle.mvo_types.specs.declared.op.Op.{Op}
use Rattle.mvo_types.specs.declared.op.Op.TheVariants.{Read, Scan, Insert, Update, Delete}
use Rattle.mvo_types.specs.declared.cause.Cause.{Cause}
use Rattle.mvo_types.specs.declared.refusal.Refusal.{Refusal}
use Rattle.mvo_types.specs.declared.refusal.Refusal.TheVariants.{NoSuchTransaction, Ended, NotActive, NotPreparing, NotValidated, NotEnded, DependencyAborted, TooManyWrites, TooManyReads, DataTooLong, BadTable, ClockSpent, TableFull}
use Rattle.mvo_types.specs.RowData.{RowData}
use Rattle.mvo_model.specs.History.{History, after_history, net_write}
use Rattle.mvo_types.specs.declared.entry.Entry.{Entry}
use Rattle.mvo_theory.specs.Entries.{entries}
use Rattle.mvo_theory.specs.State.{State, StampedTx, ActiveTx, EndedTx, Outcome, active_of, preparing_of, ended_of, history_of_active, seen_by}
use Rattle.mvo_theory.specs.Phases.{phase_by, is_absent, is_active, is_preparing, is_ended}
use Rattle.mvo_types.specs.Causes.{when, or_next, first_cause}
use Rattle.mvo_theory.specs.Causes.{flag_of_active, flag_of_preparing, flagged, unless_active, unfinished, claimed_by, conflict, conflicts, is_entry_too_many, is_write_too_many, why_not_begin, why_not_do, why_not_precommit, entry_differs, next_differs, why_not_validate, was_valid, why_not_settle, why_not_rollback, why_not_finish}
use Rattle.mvo_types.specs.declared.entry.Entry.TheVariants.{Key, Range}
use Rattle.mvo_theory.specs.State.Outcome.{Committed, Aborted}

-- ---- the causes as cases
abbrev pub if_stands : Bool → Refusal → Option Refusal → Option Refusal
if_stands b r next = if b then Some r else next

abbrev pub or_flagged : Option ℕ → Option Refusal → Option Refusal
or_flagged (Some x) why = Some (DependencyAborted (record { 0 = x }))
or_flagged None why = why

abbrev pub not_there_by : Option EndedTx → Refusal
not_there_by None = NoSuchTransaction
not_there_by (Some u) = Ended

abbrev pub not_there : State → ℕ → Refusal
not_there s t = not_there_by (ended_of t s.ended)

abbrev pub not_preparing : State → ℕ → Refusal
not_preparing s t = if is_some (active_of t s.active) then NotPreparing else not_there s t

abbrev pub not_active : State → ℕ → Refusal
not_active s t = if is_some (preparing_of t s.stamped) then NotActive else not_there s t

-- ---- an operation
abbrev pub conflict_with : State → ℕ → History → RowKey → Option Cause
conflict_with s t ts k = if fin.contains_key (after_history ts (seen_by s.base s.stamped t)) k && not (is_some (net_write k ts)) then claimed_by s t k else None

abbrev pub conflict_by : State → ActiveTx → RowKey → Option Cause
conflict_by s r k = conflict_with s r.id r.history k

abbrev pub not_done_at : State → ℕ → (ActiveTx → Option Refusal) → Option ActiveTx → Option Refusal
not_done_at s t why None = Some (not_active s t)
not_done_at s t why (Some r) = or_flagged r.aborted_dependency (why r)

abbrev pub not_read : RowKey → ActiveTx → Option Refusal
not_read k r = if_stands (nat_lt MAX_TABLE k.table) BadTable (if_stands (is_entry_too_many r.history (Key k)) TooManyReads None)

abbrev pub not_scanned : ℕ → ℕ → ℕ → ActiveTx → Option Refusal
not_scanned table lo hi r = if_stands (nat_lt MAX_TABLE table) BadTable (if_stands (is_entry_too_many r.history (Range table lo hi)) TooManyReads None)

abbrev pub not_written : RowKey → ActiveTx → Option Refusal → Option Refusal
not_written k r next = if_stands (is_entry_too_many r.history (Key k)) TooManyReads (if_stands (is_write_too_many r.history k) TooManyWrites next)

abbrev pub not_inserted : RowData → ActiveTx → Option Refusal
not_inserted row r = if_stands (nat_lt MAX_TABLE row.key.table) BadTable (if_stands (nat_lt MAX_DATA_LEN (length row.bytes)) DataTooLong (not_written row.key r None))

abbrev pub not_updated : State → RowData → ActiveTx → Option Refusal
not_updated s row r = if_stands (nat_lt MAX_TABLE row.key.table) BadTable (if_stands (nat_lt MAX_DATA_LEN (length row.bytes)) DataTooLong (not_written row.key r (conflicts (conflict_by s r row.key))))

abbrev pub not_deleted : State → RowKey → ActiveTx → Option Refusal
not_deleted s k r = if_stands (nat_lt MAX_TABLE k.table) BadTable (not_written k r (conflicts (conflict_by s r k)))

abbrev pub not_op : State → Op → ActiveTx → Option Refusal
not_op s (Read k) = not_read k
not_op s (Scan table lo hi) = not_scanned table lo hi
not_op s (Insert row) = not_inserted row
not_op s (Update row) = not_updated s row
not_op s (Delete k) = not_deleted s k

abbrev pub not_prepared : State → ActiveTx → Option Refusal
not_prepared s r = if_stands (nat_le MAX_STAMP s.clock) ClockSpent None

-- ---- validation and settle
abbrev pub not_checked_at : State → ℕ → Option StampedTx → Option Refusal
not_checked_at s t None = Some (not_preparing s t)
not_checked_at s t (Some x) = or_flagged x.aborted_dependency (if x.valid then None else entry_differs s.stamped x (slice_get (entries x.history) x.checked))

abbrev pub not_settled_at : State → ℕ → Option StampedTx → Option Refusal
not_settled_at s t None = Some (not_preparing s t)
not_settled_at s t (Some x) = or_flagged x.aborted_dependency (if_stands (not x.valid) NotValidated None)

-- ---- the lists are these cases
next_when : (b : Bool) (r : Refusal) (next : Option Refusal) → or_next (when b r) next ≡ if_stands b r next
next_when true r next = refl
next_when false r next = refl

next_none : (w : Option Refusal) → or_next w None ≡ w
next_none None = refl
next_none (Some r) = refl

next_flagged : (d : Option ℕ) (next : Option Refusal) → or_next (flagged d) next ≡ or_flagged d next
next_flagged None next = refl
next_flagged (Some x) next = refl

-- the causes that a call of an Active transaction has first, by who it is
abbrev active_head : Option ActiveTx → Option StampedTx → Option EndedTx → Option Refusal → Option Refusal
active_head r w u rest =
    or_next (when (is_absent (phase_by r w u)) NoSuchTransaction) (or_next (when (is_ended (phase_by r w u)) Ended)
    (or_next (when (is_preparing (phase_by r w u)) NotActive) (or_next (flagged (flag_of_active r)) rest)))

head_none : (w : Option StampedTx) (u : Option EndedTx) (rest : Option Refusal) → active_head None w u rest ≡ Some (cond (is_some w) NotActive (not_there_by u))
head_none (Some x) u rest = refl
head_none None None rest = refl
head_none None (Some u) rest = go u.outcome
  where
    go : (o : Outcome) → active_head None None (Some (record u { outcome = o })) rest ≡ Some Ended
    go (Committed e) = refl
    go Aborted = refl

head_some : (r : ActiveTx) (w : Option StampedTx) (u : Option EndedTx) (rest : Option Refusal) → active_head (Some r) w u rest ≡ or_flagged r.aborted_dependency rest
head_some r w u rest = next_flagged r.aborted_dependency rest

unless_active_is : (s : State) (t : ℕ) (rest : List (Option Refusal)) → first_cause (unless_active s t ++ rest) ≡ active_head (active_of t s.active) (preparing_of t s.stamped) (ended_of t s.ended) (first_cause rest)
unless_active_is s t rest = refl

active_cases : (s : State) (t : ℕ) (rest : List (Option Refusal)) (why : ActiveTx → Option Refusal) → ((r : ActiveTx) → active_of t s.active ≡ Some r → first_cause rest ≡ why r) → first_cause (unless_active s t ++ rest) ≡ not_done_at s t why (active_of t s.active)
active_cases s t rest why f = go (active_of t s.active) f
  where
    go : (v : Option ActiveTx) → ((r : ActiveTx) → v ≡ Some r → first_cause rest ≡ why r) → active_head v (preparing_of t s.stamped) (ended_of t s.ended) (first_cause rest) ≡ not_done_at s t why v
    go None f = head_none (preparing_of t s.stamped) (ended_of t s.ended) (first_cause rest)
    go (Some r) f = head_some r (preparing_of t s.stamped) (ended_of t s.ended) (first_cause rest) ∙ ap (or_flagged r.aborted_dependency) (f r refl)

abbrev pub preparing_head : Option ActiveTx → Option StampedTx → Option EndedTx → Option Refusal → Option Refusal
preparing_head r w u rest =
    or_next (when (is_absent (phase_by r w u)) NoSuchTransaction) (or_next (when (is_ended (phase_by r w u)) Ended)
    (or_next (when (is_active (phase_by r w u)) NotPreparing) (or_next (flagged (flag_of_preparing w)) rest)))

preparing_none : (r : Option ActiveTx) (u : Option EndedTx) (rest : Option Refusal) → preparing_head r None u rest ≡ Some (cond (is_some r) NotPreparing (not_there_by u))
preparing_none (Some r) u rest = refl
preparing_none None None rest = refl
preparing_none None (Some u) rest = go u.outcome
  where
    go : (o : Outcome) → preparing_head None None (Some (record u { outcome = o })) rest ≡ Some Ended
    go (Committed e) = refl
    go Aborted = refl

pub none_refusal : (w : Refusal) → ◌≡◌ {A = Option Refusal} (Some w) None → ⊥
none_refusal w q = cc

-- ---- the one that is found
no_active : (r : ActiveTx) → ◌≡◌ {A = Option ActiveTx} None (Some r) → ⊥
no_active r q = cc

same_active : (q r : ActiveTx) → ◌≡◌ {A = Option ActiveTx} (Some q) (Some r) → q ≡ r
same_active q r e = cc

pub found_is : (t : ℕ) (rs : List ActiveTx) (r : ActiveTx) → active_of t rs ≡ Some r → (r.id ≡ t) × (history_of_active t rs ≡ r.history)
found_is t [] r e = absurd (no_active r e)
found_is t (q ∷ qs) r e = go (q.id == t) refl e (λ f. found_is t qs r f)
  where
    go : (b : Bool) → (q.id == t) ≡ b → cond b (Some q) (active_of t qs) ≡ Some r → (active_of t qs ≡ Some r → (r.id ≡ t) × (history_of_active t qs ≡ r.history)) → (r.id ≡ t) × (cond b q.history (history_of_active t qs) ≡ r.history)
    go true f g k = let is = same_active q r g in (subst (λ (p : ActiveTx). p.id ≡ t) is (eqb-true q.id t f), ap (λ (p : ActiveTx). p.history) is)
    go false f g k = k g

-- ---- each call's list is its cases
abbrev no_table : ℕ → Option Refusal → Option Refusal
no_table t next = or_next (when (nat_lt MAX_TABLE t) BadTable) next

abbrev bad_table : ℕ → Option Refusal → Option Refusal
bad_table t next = if_stands (nat_lt MAX_TABLE t) BadTable next

table_is : (t : ℕ) (next next' : Option Refusal) → next ≡ next' → no_table t next ≡ bad_table t next'
table_is t next next' e = next_when (nat_lt MAX_TABLE t) BadTable next ∙ ap (bad_table t) e

entry_is : (e : Entry) (ts : History) → or_next (when (is_entry_too_many ts e) TooManyReads) None ≡ if_stands (is_entry_too_many ts e) TooManyReads None
entry_is e ts = next_when (is_entry_too_many ts e) TooManyReads None

abbrev limits_of : RowKey → History → Option Refusal → Option Refusal
limits_of k ts next = or_next (when (is_entry_too_many ts (Key k)) TooManyReads) (or_next (when (is_write_too_many ts k) TooManyWrites) next)

abbrev limits_by : RowKey → History → Option Refusal → Option Refusal
limits_by k ts next = if_stands (is_entry_too_many ts (Key k)) TooManyReads (if_stands (is_write_too_many ts k) TooManyWrites next)

limits_are : (k : RowKey) (ts : History) (next : Option Refusal) → limits_of k ts next ≡ limits_by k ts next
limits_are k ts next =
    next_when (is_entry_too_many ts (Key k)) TooManyReads (or_next (when (is_write_too_many ts k) TooManyWrites) next)
    ∙ ap (if_stands (is_entry_too_many ts (Key k)) TooManyReads) (next_when (is_write_too_many ts k) TooManyWrites next)

abbrev row_of : RowData → History → Option Refusal → Option Refusal
row_of row ts next = no_table row.key.table (or_next (when (nat_lt MAX_DATA_LEN (length row.bytes)) DataTooLong) (limits_of row.key ts next))

abbrev row_by : RowData → History → Option Refusal → Option Refusal
row_by row ts next = bad_table row.key.table (if_stands (nat_lt MAX_DATA_LEN (length row.bytes)) DataTooLong (limits_by row.key ts next))

row_is : (row : RowData) (ts : History) (next : Option Refusal) → row_of row ts next ≡ row_by row ts next
row_is row ts next =
    table_is row.key.table (or_next (when (nat_lt MAX_DATA_LEN (length row.bytes)) DataTooLong) (limits_of row.key ts next)) (if_stands (nat_lt MAX_DATA_LEN (length row.bytes)) DataTooLong (limits_by row.key ts next))
    (next_when (nat_lt MAX_DATA_LEN (length row.bytes)) DataTooLong (limits_of row.key ts next) ∙ ap (if_stands (nat_lt MAX_DATA_LEN (length row.bytes)) DataTooLong) (limits_are row.key ts next))

conflict_is : (s : State) (t : ℕ) (k : RowKey) (r : ActiveTx) → active_of t s.active ≡ Some r → conflict s t k ≡ conflict_by s r k
conflict_is s t k r e = let f = found_is t s.active r e in ap (λ ts. conflict_with s t ts k) f.1 ∙ ap (λ (i : ℕ). conflict_with s i r.history k) (sym f.0)

refusal_is : (s : State) (t : ℕ) (k : RowKey) (r : ActiveTx) → active_of t s.active ≡ Some r → or_next (conflicts (conflict s t k)) None ≡ conflicts (conflict_by s r k)
refusal_is s t k r e = next_none (conflicts (conflict s t k)) ∙ ap conflicts (conflict_is s t k r e)

abbrev table_cause : ℕ → Option Refusal
table_cause t = when (nat_lt MAX_TABLE t) BadTable

abbrev entry_cause : State → ℕ → Entry → Option Refusal
entry_cause s t e = when (is_entry_too_many (history_of_active t s.active) e) TooManyReads

abbrev write_cause : State → ℕ → RowKey → Option Refusal
write_cause s t k = when (is_write_too_many (history_of_active t s.active) k) TooManyWrites

abbrev data_cause : RowData → Option Refusal
data_cause row = when (nat_lt MAX_DATA_LEN (length row.bytes)) DataTooLong

pub do_cases : (s : State) (t : ℕ) (op : Op) → why_not_do s t op ≡ not_done_at s t (not_op s op) (active_of t s.active)
do_cases s t (Read k) = active_cases s t (table_cause k.table ∷ entry_cause s t (Key k) ∷ []) (not_op s (Read k)) (λ r e.
    table_is k.table (or_next (entry_cause s t (Key k)) None) (if_stands (is_entry_too_many r.history (Key k)) TooManyReads None)
    (entry_is (Key k) (history_of_active t s.active) ∙ ap (λ ts. if_stands (is_entry_too_many ts (Key k)) TooManyReads None) (found_is t s.active r e).1))
do_cases s t (Scan table lo hi) = active_cases s t (table_cause table ∷ entry_cause s t (Range table lo hi) ∷ []) (not_op s (Scan table lo hi)) (λ r e.
    table_is table (or_next (entry_cause s t (Range table lo hi)) None) (if_stands (is_entry_too_many r.history (Range table lo hi)) TooManyReads None)
    (entry_is (Range table lo hi) (history_of_active t s.active) ∙ ap (λ ts. if_stands (is_entry_too_many ts (Range table lo hi)) TooManyReads None) (found_is t s.active r e).1))
do_cases s t (Insert row) = active_cases s t (table_cause row.key.table ∷ data_cause row ∷ entry_cause s t (Key row.key) ∷ write_cause s t row.key ∷ []) (not_op s (Insert row)) (λ r e.
    row_is row (history_of_active t s.active) None ∙ ap (λ ts. row_by row ts None) (found_is t s.active r e).1)
do_cases s t (Update row) = active_cases s t (table_cause row.key.table ∷ data_cause row ∷ entry_cause s t (Key row.key) ∷ write_cause s t row.key ∷ conflicts (conflict s t row.key) ∷ []) (not_op s (Update row)) (λ r e.
    ap (row_of row (history_of_active t s.active)) (refusal_is s t row.key r e)
    ∙ row_is row (history_of_active t s.active) (conflicts (conflict_by s r row.key))
    ∙ ap (λ ts. row_by row ts (conflicts (conflict_by s r row.key))) (found_is t s.active r e).1)
do_cases s t (Delete k) = active_cases s t (table_cause k.table ∷ entry_cause s t (Key k) ∷ write_cause s t k ∷ conflicts (conflict s t k) ∷ []) (not_op s (Delete k)) (λ r e.
    table_is k.table (limits_of k (history_of_active t s.active) (or_next (conflicts (conflict s t k)) None)) (limits_by k r.history (conflicts (conflict_by s r k)))
    (ap (limits_of k (history_of_active t s.active)) (refusal_is s t k r e)
    ∙ limits_are k (history_of_active t s.active) (conflicts (conflict_by s r k))
    ∙ ap (λ ts. limits_by k ts (conflicts (conflict_by s r k))) (found_is t s.active r e).1))

pub precommit_cases : (s : State) (t : ℕ) → why_not_precommit s t ≡ not_done_at s t (not_prepared s) (active_of t s.active)
precommit_cases s t = active_cases s t (when (nat_le MAX_STAMP s.clock) ClockSpent ∷ []) (not_prepared s) (λ r e. next_when (nat_le MAX_STAMP s.clock) ClockSpent None)

pub begin_cases : (s : State) → why_not_begin s ≡ if_stands (nat_le MAX_UNFINISHED (unfinished s)) TableFull (if_stands (nat_le MAX_STAMP s.clock) ClockSpent None)
begin_cases s =
    next_when (nat_le MAX_UNFINISHED (unfinished s)) TableFull (or_next (when (nat_le MAX_STAMP s.clock) ClockSpent) None)
    ∙ ap (if_stands (nat_le MAX_UNFINISHED (unfinished s)) TableFull) (next_when (nat_le MAX_STAMP s.clock) ClockSpent None)

-- a call of a Preparing one that isn't refused
prepared_call : (r : Option ActiveTx) (x : StampedTx) (u : Option EndedTx) (rest : Option Refusal) → preparing_head r (Some x) u rest ≡ None → or_flagged x.aborted_dependency rest ≡ None
prepared_call (Some r) x u rest h = absurd (none_refusal NotPreparing h)
prepared_call None x u rest h = sym (next_flagged x.aborted_dependency rest) ∙ h

pub validate_none : (s : State) (t : ℕ) → why_not_validate s t ≡ None → not_checked_at s t (preparing_of t s.stamped) ≡ None
validate_none s t h = go (preparing_of t s.stamped) h
  where
    go : (w : Option StampedTx) → preparing_head (active_of t s.active) w (ended_of t s.ended) (or_next (next_differs s.stamped w) None) ≡ None → not_checked_at s t w ≡ None
    go None g = absurd (none_refusal (not_preparing s t) (sym (preparing_none (active_of t s.active) (ended_of t s.ended) None) ∙ g))
    go (Some x) g = ap (or_flagged x.aborted_dependency) (sym (next_none (next_differs s.stamped (Some x)))) ∙ prepared_call (active_of t s.active) x (ended_of t s.ended) (or_next (next_differs s.stamped (Some x)) None) g

pub settle_none : (s : State) (t : ℕ) → why_not_settle s t ≡ None → not_settled_at s t (preparing_of t s.stamped) ≡ None
settle_none s t h = go (preparing_of t s.stamped) h
  where
    go : (w : Option StampedTx) → preparing_head (active_of t s.active) w (ended_of t s.ended) (or_next (when (not (was_valid w)) NotValidated) None) ≡ None → not_settled_at s t w ≡ None
    go None g = absurd (none_refusal (not_preparing s t) (sym (preparing_none (active_of t s.active) (ended_of t s.ended) (Some NotValidated)) ∙ g))
    go (Some x) g = ap (or_flagged x.aborted_dependency) (sym (next_when (not x.valid) NotValidated None)) ∙ prepared_call (active_of t s.active) x (ended_of t s.ended) (or_next (when (not x.valid) NotValidated) None) g

-- where it isn't Preparing
pub validate_not : (s : State) (t : ℕ) → preparing_of t s.stamped ≡ None → why_not_validate s t ≡ Some (not_preparing s t)
validate_not s t e = ap (λ w. preparing_head (active_of t s.active) w (ended_of t s.ended) (or_next (next_differs s.stamped w) None)) e ∙ preparing_none (active_of t s.active) (ended_of t s.ended) None

pub settle_not : (s : State) (t : ℕ) → preparing_of t s.stamped ≡ None → why_not_settle s t ≡ Some (not_preparing s t)
settle_not s t e = ap (λ w. preparing_head (active_of t s.active) w (ended_of t s.ended) (or_next (when (not (was_valid w)) NotValidated) None)) e ∙ preparing_none (active_of t s.active) (ended_of t s.ended) (Some NotValidated)

-- ---- rollback and finish
abbrev pub rollback_by : Option ActiveTx → Option StampedTx → Option EndedTx → Option Refusal
rollback_by r w u = or_next (when (is_absent (phase_by r w u)) NoSuchTransaction) (or_next (when (is_ended (phase_by r w u)) Ended) None)

pub rollback_none : (s : State) (t : ℕ) → why_not_rollback s t ≡ None → preparing_of t s.stamped ≡ None → (r : ActiveTx) × (active_of t s.active ≡ Some r)
rollback_none s t h e = go (active_of t s.active) (ended_of t s.ended) (sym (ap (λ w. rollback_by (active_of t s.active) w (ended_of t s.ended)) e) ∙ h)
  where
    ended : (u : EndedTx) (o : Outcome) → rollback_by None None (Some (record u { outcome = o })) ≡ None → ⊥
    ended u (Committed n) g = none_refusal Ended g
    ended u Aborted g = none_refusal Ended g

    go : (v : Option ActiveTx) (u : Option EndedTx) → rollback_by v None u ≡ None → (r : ActiveTx) × (v ≡ Some r)
    go (Some r) u g = (r, refl)
    go None None g = absurd (none_refusal NoSuchTransaction g)
    go None (Some u) g = absurd (ended u u.outcome g)

abbrev pub finish_by : Option ActiveTx → Option StampedTx → Option EndedTx → Option Refusal
finish_by r w u = or_next (when (is_absent (phase_by r w u)) NoSuchTransaction) (or_next (when (is_active (phase_by r w u) || is_preparing (phase_by r w u)) NotEnded) None)

pub finish_none : (s : State) (t : ℕ) → why_not_finish s t ≡ None → (u : EndedTx) × (ended_of t s.ended ≡ Some u)
finish_none s t h = go (active_of t s.active) (preparing_of t s.stamped) (ended_of t s.ended) h
  where
    go : (v : Option ActiveTx) (w : Option StampedTx) (u : Option EndedTx) → finish_by v w u ≡ None → (x : EndedTx) × (u ≡ Some x)
    go (Some r) w u g = absurd (none_refusal NotEnded g)
    go None (Some x) u g = absurd (none_refusal NotEnded g)
    go None None None g = absurd (none_refusal NoSuchTransaction g)
    go None None (Some u) g = (u, refl)

-- ---- whether it is ended
abbrev pub is_ended_in : State → ℕ → Bool
is_ended_in s t = list_any (λ u. u.id == t) s.ended

pub no_ended : (u : EndedTx) → ◌≡◌ {A = Option EndedTx} None (Some u) → ⊥
no_ended u q = cc

pub ended_in : (t : ℕ) (us : List EndedTx) (u : EndedTx) → ended_of t us ≡ Some u → list_any (λ (v : EndedTx). v.id == t) us ≡ true
ended_in t [] u e = absurd (no_ended u e)
ended_in t (v ∷ vs) u e = go (v.id == t) e (λ f. ended_in t vs u f)
  where
    go : (b : Bool) → cond b (Some v) (ended_of t vs) ≡ Some u → (ended_of t vs ≡ Some u → list_any (λ (w : EndedTx). w.id == t) vs ≡ true) → (b || list_any (λ (w : EndedTx). w.id == t) vs) ≡ true
    go true f g = refl
    go false f g = g f
