-- Each call's answer or refusal is justified by the trace.
use Rattle.std.proofs.Common.{◌≡◌, ℕ, ◌+◌, ◌<◌, ◌≤◌, Bool, true, false, not, ◌||◌, List, [], ◌∷◌, ◌++◌, Option, None, Some, length, refl, sym, ap, ◌∙◌, subst, arith, inl, inr}
use Rattle.std.specs.Prelude.{nat_lt, nat_le, ◌&&◌}
use Rattle.std.specs.List.{AllByRecursion}
use Rattle.std.proofs.lemmas.Bool.{true≢false, ltb-true, leb-true, lt-ltb, le-leb, not-true}
use Rattle.mvo_types.specs.declared.limits.TheConstants.{MAX_STAMP, MAX_TABLE, MAX_DATA_LEN, MAX_UNFINISHED}
use Rattle.mvo_types.specs.declared.row.RowKey.{RowKey}
use Rattle.mvo_types.specs.declared.op.Op.{Op}
use Rattle.mvo_types.specs.declared.op.Op.TheVariants.{Read, Scan, Insert, Update, Delete}
use Rattle.mvo_types.specs.declared.cause.Cause.{Cause}
use Rattle.mvo_types.specs.declared.refusal.Refusal.{Refusal}
use Rattle.mvo_types.specs.declared.refusal.Refusal.TheVariants.{NoSuchTransaction, Ended, NotActive, NotPreparing, NotValidated, NotEnded, WriteConflict, ValidationFailed, DependencyAborted, TableFull, TooManyWrites, TooManyReads, DataTooLong, BadTable, ClockSpent, OutOfMemory}
use Rattle.mvo_types.specs.Keys.{Map}
use Rattle.mvo_model.specs.Trace.{Step, history_of, phase_of}
use Rattle.mvo_model.specs.Trace.Phase.{Absent, Active, Preparing}
use Rattle.mvo_types.specs.declared.entry.Entry.{Entry}
use Rattle.mvo_theory.specs.Entries.{entry_of, entries}
use Rattle.mvo_types.specs.declared.entry.Entry.TheVariants.{Key, Range}
use Rattle.mvo_theory.specs.State.{State, StampedTx, ActiveTx, active_of, preparing_of, ended_of, history_of_active}
use Rattle.mvo_theory.specs.Phases.{phase_in, is_absent, is_active, is_preparing, is_ended}
use Rattle.mvo_types.specs.Causes.{when, first_cause}
use Rattle.mvo_theory.specs.Causes.{flagged, flag_of_active, flag_of_preparing, unless_active, unless_preparing, unfinished, conflict, conflicts, is_entry_too_many, is_write_too_many, why_not_begin, why_not_do, why_not_precommit, next_differs, why_not_validate, was_valid, why_not_settle, why_not_rollback, why_not_finish}
use Rattle.mvo_theory.specs.Traced.{HasAbortedDependency}
use Rattle.mvo_theory.specs.Calls.{Call, Result, why_not, takes_memory, IsRefusal, MayCome, IsKept}
use Rattle.mvo_theory.specs.Calls.Call.{Begin, Do, Precommit, Validate, Settle, Rollback, Finish, Trim, Close}
use Rattle.mvo_theory.specs.Calls.Result.{Accepted, Refused}
use Rattle.mvo_theory.proofs.Apart.{IsIn}
use Rattle.mvo_theory.proofs.Commits.{split_at}
use Rattle.mvo_theory.proofs.LastWriter.{found_in}
use Rattle.mvo_theory.proofs.Named.{flagged_active, flagged_preparing}
use Rattle.mvo_theory.specs.Counts.{draws, unfinished_in, is_validated, checks_in}
use Rattle.mvo_theory.specs.Conflicts.{IsInTheWay}
use Rattle.mvo_theory.specs.Differences.{NextDiffers, NextDiffersLast}
use Rattle.mvo_theory.specs.Counted.{HasChecks, HasCounts}
use Rattle.mvo_theory.specs.Justified.{table_asked, data_len_of, IsWriteTooMany, Conflicts, StandsAgainst, CauseStands, NoCauseStands, IsJustRefusal, IsJustified}
use Rattle.mvo_theory.proofs.Firsts.{IsFirst, first_is, none_is, when_none, when_some, flagged_some, conflicts_none, conflicts_some, absent_is, active_is, runs, prepares}
use Rattle.mvo_theory.proofs.Conflicting.{told_so, conflict_stands, no_conflict}
use Rattle.mvo_theory.proofs.Differing.{next_differs_by, next_is_same}

-- ---- along a list of causes
at_when : (P : Refusal → Type 0) (b : Bool) (v r : Refusal) (next : List (Option Refusal)) → (b ≡ true → P v) → (b ≡ false → IsFirst next r → P r) → IsFirst (when b v ∷ next) r → P r
at_when P b v r next f g first = elim first.is [
  | inl e ↦ let p = when_some b v r e in subst P (sym p.1) (f p.0)
  | inr q ↦ g (when_none b v q.0) (record { is = q.1 })
]

at_flag : (P : Refusal → Type 0) (d : Option ℕ) (r : Refusal) (next : List (Option Refusal)) → ((x : ℕ) → d ≡ Some x → P (DependencyAborted (record { 0 = x }))) → (IsFirst next r → P r) → IsFirst (flagged d ∷ next) r → P r
at_flag P d r next f g first = elim first.is [
  | inl e ↦ let p = flagged_some d r e in subst P (sym p.2) (f p.0 p.1)
  | inr q ↦ g (record { is = q.1 })
]

at_last : (P : Refusal → Type 0) (w : Option Refusal) (r : Refusal) → (w ≡ Some r → P r) → IsFirst (w ∷ []) r → P r
at_last P w r f first = elim first.is [ inl e ↦ f e | inr q ↦ absurd q.1 ]

at_end : (P : Refusal → Type 0) (r : Refusal) → IsFirst [] r → P r
at_end P r first = absurd first.is

no_both : (b : Bool) → b ≡ false → b ≡ true → ⊥
no_both b e f = true≢false (sym f ∙ e)

not_above : (m n : ℕ) → nat_lt m n ≡ false → m < n → ⊥
not_above m n e f = true≢false (sym (lt-ltb m n f) ∙ e)

not_at_least : (m n : ℕ) → nat_le m n ≡ false → m ≤ n → ⊥
not_at_least m n e f = true≢false (sym (le-leb m n f) ∙ e)

module _ (opening : Map) (steps : List Step) (s : State) (kept : IsKept opening steps s) (counted : HasCounts s.marks.opening steps s) where
  phase_is : (t : ℕ) → phase_of t steps ≡ phase_in s t
  phase_is t = kept.after_trace.phases t

  not_absent : (t : ℕ) → is_absent (phase_in s t) ≡ false → phase_of t steps ≡ Absent → ⊥
  not_absent t e f = true≢false (sym (ap is_absent (sym (phase_is t) ∙ f)) ∙ e)

  not_active : (t : ℕ) → is_active (phase_in s t) ≡ false → phase_of t steps ≡ Active → ⊥
  not_active t e f = true≢false (sym (ap is_active (sym (phase_is t) ∙ f)) ∙ e)

  not_ended : (t : ℕ) → is_ended (phase_in s t) ≡ false → is_ended (phase_of t steps) ≡ true → ⊥
  not_ended t e f = true≢false (sym f ∙ ap is_ended (phase_is t) ∙ e)

  not_preparing : (t : ℕ) → is_preparing (phase_in s t) ≡ false → is_preparing (phase_of t steps) ≡ true → ⊥
  not_preparing t e f = true≢false (sym f ∙ ap is_preparing (phase_is t) ∙ e)

  -- ---- the causes that the calls of an Active transaction have first
  at_active : (t : ℕ) (P : Refusal → Type 0) (r : Refusal) (rest : List (Option Refusal)) → (phase_of t steps ≡ Absent → P NoSuchTransaction) → (is_ended (phase_of t steps) ≡ true → P Ended) → (is_preparing (phase_of t steps) ≡ true → P NotActive) → ((x : ℕ) → HasAbortedDependency opening steps t x → P (DependencyAborted (record { 0 = x })))
      → ((a : ActiveTx) → active_of t s.active ≡ Some a → IsFirst rest r → P r) → IsFirst (unless_active s t ++ rest) r → P r
  at_active t P r rest f g h k l first =
      at_when P (is_absent (phase_in s t)) NoSuchTransaction r (when (is_ended (phase_in s t)) Ended ∷ when (is_preparing (phase_in s t)) NotActive ∷ flagged (flag_of_active (active_of t s.active)) ∷ rest) (λ e. f (phase_is t ∙ absent_is (phase_in s t) e)) (λ a.
      at_when P (is_ended (phase_in s t)) Ended r (when (is_preparing (phase_in s t)) NotActive ∷ flagged (flag_of_active (active_of t s.active)) ∷ rest) (λ e. g (ap is_ended (phase_is t) ∙ e)) (λ b.
      at_when P (is_preparing (phase_in s t)) NotActive r (flagged (flag_of_active (active_of t s.active)) ∷ rest) (λ e. h (ap is_preparing (phase_is t) ∙ e)) (λ c.
      let there = runs (active_of t s.active) (preparing_of t s.stamped) (ended_of t s.ended) a b c in
      at_flag P (flag_of_active (active_of t s.active)) r rest (λ x e. k x (flagged_active opening steps s t x there.0 there.1 (sym (ap flag_of_active there.1) ∙ e) kept)) (l there.0 there.1)))) first

  -- ---- an operation
  abbrev RefusedSo : ℕ → Op → Refusal → Type 0
  RefusedSo t op r = IsJustRefusal opening s.marks.opening steps (Do t op) r

  at_operation : (t : ℕ) (op : Op) (r : Refusal) (rest : List (Option Refusal)) → ((a : ActiveTx) → active_of t s.active ≡ Some a → IsFirst rest r → RefusedSo t op r) → IsFirst (unless_active s t ++ rest) r → RefusedSo t op r
  at_operation t op r rest l = at_active t (RefusedSo t op) r rest (λ e. e) (λ e. e) (λ e. e) (λ x h. h) l

  at_table : (t : ℕ) (op : Op) (r : Refusal) (next : List (Option Refusal)) → (IsFirst next r → RefusedSo t op r) → IsFirst (when (nat_lt MAX_TABLE (table_asked op)) BadTable ∷ next) r → RefusedSo t op r
  at_table t op r next g = at_when (RefusedSo t op) (nat_lt MAX_TABLE (table_asked op)) BadTable r next (λ e. ltb-true MAX_TABLE (table_asked op) e) (λ _. g)

  at_data : (t : ℕ) (op : Op) (r : Refusal) (next : List (Option Refusal)) → (IsFirst next r → RefusedSo t op r) → IsFirst (when (nat_lt MAX_DATA_LEN (data_len_of op)) DataTooLong ∷ next) r → RefusedSo t op r
  at_data t op r next g = at_when (RefusedSo t op) (nat_lt MAX_DATA_LEN (data_len_of op)) DataTooLong r next (λ e. ltb-true MAX_DATA_LEN (data_len_of op) e) (λ _. g)

  at_entry : (t : ℕ) (op : Op) (a : ActiveTx) (r : Refusal) (next : List (Option Refusal)) → active_of t s.active ≡ Some a → (IsFirst next r → RefusedSo t op r) → IsFirst (when (is_entry_too_many (history_of_active t s.active) (entry_of op)) TooManyReads ∷ next) r → RefusedSo t op r
  at_entry t op a r next f g = at_when (RefusedSo t op) (is_entry_too_many (history_of_active t s.active) (entry_of op)) TooManyReads r next (λ e. sym (ap (λ ts. is_entry_too_many ts (entry_of op)) (told_so opening steps s t a f kept)) ∙ e) (λ _. g)

  at_write : (t : ℕ) (op : Op) (a : ActiveTx) (k : RowKey) (r : Refusal) (next : List (Option Refusal)) → active_of t s.active ≡ Some a → (is_write_too_many (history_of t steps) k ≡ true → IsWriteTooMany (history_of t steps) op) → (IsFirst next r → RefusedSo t op r) → IsFirst (when (is_write_too_many (history_of_active t s.active) k) TooManyWrites ∷ next) r → RefusedSo t op r
  at_write t op a k r next f w g = at_when (RefusedSo t op) (is_write_too_many (history_of_active t s.active) k) TooManyWrites r next (λ e. w (sym (ap (λ ts. is_write_too_many ts k) (told_so opening steps s t a f kept)) ∙ e)) (λ _. g)

  at_way : (t : ℕ) (op : Op) (a : ActiveTx) (k : RowKey) (r : Refusal) → active_of t s.active ≡ Some a → ((c : Cause) → IsInTheWay opening s.marks.opening steps t k c → Conflicts opening s.marks.opening steps t op c) → IsFirst (conflicts (conflict s t k) ∷ []) r → RefusedSo t op r
  at_way t op a k r f w = at_last (RefusedSo t op) (conflicts (conflict s t k)) r (λ e. let p = conflicts_some (conflict s t k) r e in subst (RefusedSo t op) (sym p.2) (w p.0 (conflict_stands opening steps s t k p.0 a f p.1 kept)))

  abbrev many_entries : ℕ → Entry → Option Refusal
  many_entries t e = when (is_entry_too_many (history_of_active t s.active) e) TooManyReads

  abbrev many_writes : ℕ → RowKey → Option Refusal
  many_writes t k = when (is_write_too_many (history_of_active t s.active) k) TooManyWrites

  abbrev bad_table : Op → Option Refusal
  bad_table op = when (nat_lt MAX_TABLE (table_asked op)) BadTable

  abbrev long_data : Op → Option Refusal
  long_data op = when (nat_lt MAX_DATA_LEN (data_len_of op)) DataTooLong

  -- the causes of an operation behind those
  abbrev causes_of : ℕ → Op → List (Option Refusal)
  causes_of t (Read k) = bad_table (Read k) ∷ many_entries t (Key k) ∷ []
  causes_of t (Scan table lo hi) = bad_table (Scan table lo hi) ∷ many_entries t (Range table lo hi) ∷ []
  causes_of t (Insert row) = bad_table (Insert row) ∷ long_data (Insert row) ∷ many_entries t (Key row.key) ∷ many_writes t row.key ∷ []
  causes_of t (Update row) = bad_table (Update row) ∷ long_data (Update row) ∷ many_entries t (Key row.key) ∷ many_writes t row.key ∷ conflicts (conflict s t row.key) ∷ []
  causes_of t (Delete k) = bad_table (Delete k) ∷ many_entries t (Key k) ∷ many_writes t k ∷ conflicts (conflict s t k) ∷ []

  causes_are : (t : ℕ) (op : Op) → why_not_do s t op ≡ first_cause (unless_active s t ++ causes_of t op)
  causes_are t (Read k) = refl
  causes_are t (Scan table lo hi) = refl
  causes_are t (Insert row) = refl
  causes_are t (Update row) = refl
  causes_are t (Delete k) = refl

  one_stands : (t : ℕ) (op : Op) (a : ActiveTx) (r : Refusal) → active_of t s.active ≡ Some a → IsFirst (causes_of t op) r → RefusedSo t op r
  one_stands t (Read k) a r f = at_table t (Read k) r (many_entries t (Key k) ∷ []) (at_entry t (Read k) a r [] f (at_end (RefusedSo t (Read k)) r))
  one_stands t (Scan table lo hi) a r f = at_table t (Scan table lo hi) r (many_entries t (Range table lo hi) ∷ []) (at_entry t (Scan table lo hi) a r [] f (at_end (RefusedSo t (Scan table lo hi)) r))
  one_stands t (Insert row) a r f =
      at_table t (Insert row) r (long_data (Insert row) ∷ many_entries t (Key row.key) ∷ many_writes t row.key ∷ [])
      (at_data t (Insert row) r (many_entries t (Key row.key) ∷ many_writes t row.key ∷ [])
      (at_entry t (Insert row) a r (many_writes t row.key ∷ []) f
      (at_write t (Insert row) a row.key r [] f (λ e. e) (at_end (RefusedSo t (Insert row)) r))))
  one_stands t (Update row) a r f =
      at_table t (Update row) r (long_data (Update row) ∷ many_entries t (Key row.key) ∷ many_writes t row.key ∷ conflicts (conflict s t row.key) ∷ [])
      (at_data t (Update row) r (many_entries t (Key row.key) ∷ many_writes t row.key ∷ conflicts (conflict s t row.key) ∷ [])
      (at_entry t (Update row) a r (many_writes t row.key ∷ conflicts (conflict s t row.key) ∷ []) f
      (at_write t (Update row) a row.key r (conflicts (conflict s t row.key) ∷ []) f (λ e. e) (at_way t (Update row) a row.key r f (λ c e. e)))))
  one_stands t (Delete k) a r f =
      at_table t (Delete k) r (many_entries t (Key k) ∷ many_writes t k ∷ conflicts (conflict s t k) ∷ [])
      (at_entry t (Delete k) a r (many_writes t k ∷ conflicts (conflict s t k) ∷ []) f
      (at_write t (Delete k) a k r (conflicts (conflict s t k) ∷ []) f (λ e. e) (at_way t (Delete k) a k r f (λ c e. e))))

  operation_refused : (t : ℕ) (op : Op) (r : Refusal) → why_not_do s t op ≡ Some r → RefusedSo t op r
  operation_refused t op r w = at_operation t op r (causes_of t op) (λ a f. one_stands t op a r f) (first_is (unless_active s t ++ causes_of t op) r (sym (causes_are t op) ∙ w))

  -- nothing stands against an operation that isn't refused
  abbrev AllNone : List (Option Refusal) → Type 0
  AllNone cs = AllByRecursion (λ c. c ≡ None) cs

  active_free : (t : ℕ) (op : Op) (rest : List (Option Refusal)) → AllNone (unless_active s t ++ rest) → ((a : ActiveTx) → active_of t s.active ≡ Some a → (nat_lt MAX_TABLE (table_asked op) ≡ false) × (nat_lt MAX_DATA_LEN (data_len_of op) ≡ false) × (is_entry_too_many (history_of t steps) (entry_of op) ≡ false) × (IsWriteTooMany (history_of t steps) op → ⊥) × ((c : Cause) → Conflicts opening s.marks.opening steps t op c → ⊥))
      → (r : Refusal) → StandsAgainst opening s.marks.opening steps t op r → ⊥
  active_free t op rest n f = go
    where
      absent : is_absent (phase_in s t) ≡ false
      absent = when_none (is_absent (phase_in s t)) NoSuchTransaction n.0

      ended : is_ended (phase_in s t) ≡ false
      ended = when_none (is_ended (phase_in s t)) Ended n.1.0

      preparing : is_preparing (phase_in s t) ≡ false
      preparing = when_none (is_preparing (phase_in s t)) NotActive n.1.1.0

      there : (a : ActiveTx) × (active_of t s.active ≡ Some a)
      there = runs (active_of t s.active) (preparing_of t s.stamped) (ended_of t s.ended) absent ended preparing

      free : (nat_lt MAX_TABLE (table_asked op) ≡ false) × (nat_lt MAX_DATA_LEN (data_len_of op) ≡ false) × (is_entry_too_many (history_of t steps) (entry_of op) ≡ false) × (IsWriteTooMany (history_of t steps) op → ⊥) × ((c : Cause) → Conflicts opening s.marks.opening steps t op c → ⊥)
      free = f there.0 there.1

      go : (r : Refusal) → StandsAgainst opening s.marks.opening steps t op r → ⊥
      go NoSuchTransaction e = not_absent t absent e
      go Ended e = not_ended t ended e
      go NotActive e = not_preparing t preparing e
      go BadTable e = not_above MAX_TABLE (table_asked op) free.0 e
      go DataTooLong e = not_above MAX_DATA_LEN (data_len_of op) free.1 e
      go TooManyReads e = no_both (is_entry_too_many (history_of t steps) (entry_of op)) free.2 e
      go TooManyWrites e = free.3 e
      go (WriteConflict c) e = free.4 c e
      go r e = e

  few_entries : (t : ℕ) (a : ActiveTx) (e : Entry) → active_of t s.active ≡ Some a → when (is_entry_too_many (history_of_active t s.active) e) TooManyReads ≡ None → is_entry_too_many (history_of t steps) e ≡ false
  few_entries t a e f n = sym (ap (λ ts. is_entry_too_many ts e) (told_so opening steps s t a f kept)) ∙ when_none (is_entry_too_many (history_of_active t s.active) e) TooManyReads n

  few_writes : (t : ℕ) (a : ActiveTx) (k : RowKey) → active_of t s.active ≡ Some a → when (is_write_too_many (history_of_active t s.active) k) TooManyWrites ≡ None → is_write_too_many (history_of t steps) k ≡ true → ⊥
  few_writes t a k f n e = no_both (is_write_too_many (history_of_active t s.active) k) (when_none (is_write_too_many (history_of_active t s.active) k) TooManyWrites n) (ap (λ ts. is_write_too_many ts k) (told_so opening steps s t a f kept) ∙ e)

  none_stands : (t : ℕ) (op : Op) (a : ActiveTx) → active_of t s.active ≡ Some a → AllNone (causes_of t op) → (nat_lt MAX_TABLE (table_asked op) ≡ false) × (nat_lt MAX_DATA_LEN (data_len_of op) ≡ false) × (is_entry_too_many (history_of t steps) (entry_of op) ≡ false) × (IsWriteTooMany (history_of t steps) op → ⊥) × ((c : Cause) → Conflicts opening s.marks.opening steps t op c → ⊥)
  none_stands t (Read k) a f n = (when_none (nat_lt MAX_TABLE k.table) BadTable n.0, refl, few_entries t a (Key k) f n.1.0, (λ q. q), (λ c q. q))
  none_stands t (Scan table lo hi) a f n = (when_none (nat_lt MAX_TABLE table) BadTable n.0, refl, few_entries t a (Range table lo hi) f n.1.0, (λ q. q), (λ c q. q))
  none_stands t (Insert row) a f n = (when_none (nat_lt MAX_TABLE row.key.table) BadTable n.0, when_none (nat_lt MAX_DATA_LEN (length row.bytes)) DataTooLong n.1.0, few_entries t a (Key row.key) f n.1.1.0, few_writes t a row.key f n.1.1.1.0, (λ c q. q))
  none_stands t (Update row) a f n = (
    when_none (nat_lt MAX_TABLE row.key.table) BadTable n.0,
    when_none (nat_lt MAX_DATA_LEN (length row.bytes)) DataTooLong n.1.0,
    few_entries t a (Key row.key) f n.1.1.0,
    few_writes t a row.key f n.1.1.1.0,
    (λ c q. no_conflict opening steps s t row.key c a f (conflicts_none (conflict s t row.key) n.1.1.1.1.0) kept q),
  )
  none_stands t (Delete k) a f n = (
    when_none (nat_lt MAX_TABLE k.table) BadTable n.0,
    refl,
    few_entries t a (Key k) f n.1.0,
    few_writes t a k f n.1.1.0,
    (λ c q. no_conflict opening steps s t k c a f (conflicts_none (conflict s t k) n.1.1.1.0) kept q),
  )

  operation_free : (t : ℕ) (op : Op) → why_not_do s t op ≡ None → NoCauseStands opening s.marks.opening steps (Do t op)
  operation_free t op w =
      let n : AllNone (unless_active s t ++ causes_of t op) = none_is (unless_active s t ++ causes_of t op) (sym (causes_are t op) ∙ w) in
      active_free t op (causes_of t op) n (λ a f. none_stands t op a f n.1.1.1.1)

  -- ---- begin, and precommit
  abbrev Just : Call → Refusal → Type 0
  Just c v = IsJustRefusal opening s.marks.opening steps c v

  unfinished_is : unfinished_in steps ≡ unfinished s
  unfinished_is = let h = counted.unfinished in omega (arith, h)

  -- no timestamp is left
  abbrev spent : List (Option Refusal)
  spent = when (nat_le MAX_STAMP s.clock) ClockSpent ∷ []

  table_full : nat_le MAX_UNFINISHED (unfinished s) ≡ true → MAX_UNFINISHED ≤ unfinished_in steps
  table_full e = let l = leb-true MAX_UNFINISHED (unfinished s) e in let is = unfinished_is in subst (λ (n : ℕ). MAX_UNFINISHED ≤ n) (sym is) l

  not_full : nat_le MAX_UNFINISHED (unfinished s) ≡ false → MAX_UNFINISHED ≤ unfinished_in steps → ⊥
  not_full e l = not_at_least MAX_UNFINISHED (unfinished s) e (subst (λ (n : ℕ). MAX_UNFINISHED ≤ n) unfinished_is l)

  clock_spent : nat_le MAX_STAMP s.clock ≡ true → MAX_STAMP ≤ s.marks.opening + draws steps
  clock_spent e = subst (λ (n : ℕ). MAX_STAMP ≤ n) counted.clock (leb-true MAX_STAMP s.clock e)

  not_spent : nat_le MAX_STAMP s.clock ≡ false → MAX_STAMP ≤ s.marks.opening + draws steps → ⊥
  not_spent e l = not_at_least MAX_STAMP s.clock e (subst (λ (n : ℕ). MAX_STAMP ≤ n) (sym counted.clock) l)

  begin_refused : (r : Refusal) → why_not_begin s ≡ Some r → IsJustRefusal opening s.marks.opening steps Begin r
  begin_refused r w = at_when (Just Begin) (nat_le MAX_UNFINISHED (unfinished s)) TableFull r spent table_full (λ _. at_when (Just Begin) (nat_le MAX_STAMP s.clock) ClockSpent r [] clock_spent (λ _. at_end (Just Begin) r)) (first_is (when (nat_le MAX_UNFINISHED (unfinished s)) TableFull ∷ spent) r w)

  begin_free : why_not_begin s ≡ None → NoCauseStands opening s.marks.opening steps Begin
  begin_free w = go
    where
      n : AllNone (when (nat_le MAX_UNFINISHED (unfinished s)) TableFull ∷ spent)
      n = none_is (when (nat_le MAX_UNFINISHED (unfinished s)) TableFull ∷ spent) w

      go : (r : Refusal) → CauseStands opening s.marks.opening steps Begin r → ⊥
      go TableFull e = not_full (when_none (nat_le MAX_UNFINISHED (unfinished s)) TableFull n.0) e
      go ClockSpent e = not_spent (when_none (nat_le MAX_STAMP s.clock) ClockSpent n.1.0) e
      go r e = e

  precommit_refused : (t : ℕ) (r : Refusal) → why_not_precommit s t ≡ Some r → IsJustRefusal opening s.marks.opening steps (Precommit t) r
  precommit_refused t r w = at_active t (Just (Precommit t)) r spent (λ e. e) (λ e. e) (λ e. e) (λ x h. h) (λ a f. at_when (Just (Precommit t)) (nat_le MAX_STAMP s.clock) ClockSpent r [] clock_spent (λ _. at_end (Just (Precommit t)) r)) (first_is (unless_active s t ++ spent) r w)

  precommit_free : (t : ℕ) → why_not_precommit s t ≡ None → NoCauseStands opening s.marks.opening steps (Precommit t)
  precommit_free t w = go
    where
      n : AllNone (unless_active s t ++ spent)
      n = none_is (unless_active s t ++ spent) w

      go : (r : Refusal) → CauseStands opening s.marks.opening steps (Precommit t) r → ⊥
      go NoSuchTransaction e = not_absent t (when_none (is_absent (phase_in s t)) NoSuchTransaction n.0) e
      go Ended e = not_ended t (when_none (is_ended (phase_in s t)) Ended n.1.0) e
      go NotActive e = not_preparing t (when_none (is_preparing (phase_in s t)) NotActive n.1.1.0) e
      go ClockSpent e = not_spent (when_none (nat_le MAX_STAMP s.clock) ClockSpent n.1.1.1.1.0) e
      go r e = e

  -- ---- a Preparing transaction
  pub record IsOpen (t : ℕ) (x : StampedTx) : Type 1 where
    pub found : preparing_of t s.stamped ≡ Some x
    pub among : IsIn x s.stamped
    pub named : x.id ≡ t
    pub open' : x.settled ≡ false
    pub phase : phase_of x.id steps ≡ Preparing x.end
    pub checks : HasChecks steps x

  is_open : (t : ℕ) (x : StampedTx) → preparing_of t s.stamped ≡ Some x → phase_in s t ≡ Preparing x.end → IsOpen t x
  is_open t x f p =
      let m = found_in t s.stamped x f in
      let o = (split_at t s.stamped x f).4 in
      record {
        found = f;
        among = m.0;
        named = m.1;
        open' = o;
        phase = ap (λ (u : ℕ). phase_of u steps) m.1 ∙ phase_is t ∙ p;
        checks = m.0 (λ y. y.settled ≡ false → HasChecks steps y) counted.preparing o;
      }

  at_preparing : (t : ℕ) (P : Refusal → Type 0) (r : Refusal) (rest : List (Option Refusal)) → (phase_of t steps ≡ Absent → P NoSuchTransaction) → (is_ended (phase_of t steps) ≡ true → P Ended) → (phase_of t steps ≡ Active → P NotPreparing) → ((x : ℕ) → HasAbortedDependency opening steps t x → P (DependencyAborted (record { 0 = x })))
      → ((x : StampedTx) → IsOpen t x → IsFirst rest r → P r) → IsFirst (unless_preparing s t ++ rest) r → P r
  at_preparing t P r rest f g h k l first =
      at_when P (is_absent (phase_in s t)) NoSuchTransaction r (when (is_ended (phase_in s t)) Ended ∷ when (is_active (phase_in s t)) NotPreparing ∷ flagged (flag_of_preparing (preparing_of t s.stamped)) ∷ rest) (λ e. f (phase_is t ∙ absent_is (phase_in s t) e)) (λ a.
      at_when P (is_ended (phase_in s t)) Ended r (when (is_active (phase_in s t)) NotPreparing ∷ flagged (flag_of_preparing (preparing_of t s.stamped)) ∷ rest) (λ e. g (ap is_ended (phase_is t) ∙ e)) (λ b.
      at_when P (is_active (phase_in s t)) NotPreparing r (flagged (flag_of_preparing (preparing_of t s.stamped)) ∷ rest) (λ e. h (phase_is t ∙ active_is (phase_in s t) e)) (λ c.
      let there = prepares (active_of t s.active) (preparing_of t s.stamped) (ended_of t s.ended) a b c in
      at_flag P (flag_of_preparing (preparing_of t s.stamped)) r rest (λ x e. k x (flagged_preparing opening steps s t x there.0 there.1 (sym (ap flag_of_preparing there.1) ∙ e) kept)) (l there.0 (is_open t there.0 there.1 there.2))))) first

  validate_refused : (t : ℕ) (r : Refusal) → why_not_validate s t ≡ Some r → IsJustRefusal opening s.marks.opening steps (Validate t) r
  validate_refused t r w = at_preparing t (Just (Validate t)) r (next_differs s.stamped (preparing_of t s.stamped) ∷ []) (λ e. e) (λ e. e) (λ e. e) (λ x h. h) last (first_is (unless_preparing s t ++ next_differs s.stamped (preparing_of t s.stamped) ∷ []) r w)
    where
      last : (x : StampedTx) → IsOpen t x → IsFirst (next_differs s.stamped (preparing_of t s.stamped) ∷ []) r → (Just (Validate t)) r
      last x o = at_last (Just (Validate t)) (next_differs s.stamped (preparing_of t s.stamped)) r (λ e.
          let d = next_differs_by opening steps s x r o.among o.open' o.phase o.checks kept (sym (ap (next_differs s.stamped) o.found) ∙ e) in
          subst (Just (Validate t)) (sym d.1) (subst (λ (u : ℕ). NextDiffersLast opening steps u d.0) o.named d.2))

  abbrev open_one : (t : ℕ) → is_absent (phase_in s t) ≡ false → is_ended (phase_in s t) ≡ false → is_active (phase_in s t) ≡ false → (x : StampedTx) × IsOpen t x
  open_one t a b c = let there = prepares (active_of t s.active) (preparing_of t s.stamped) (ended_of t s.ended) a b c in (there.0, is_open t there.0 there.1 there.2)

  validate_free : (t : ℕ) → why_not_validate s t ≡ None → NoCauseStands opening s.marks.opening steps (Validate t)
  validate_free t w = go
    where
      n : AllNone (unless_preparing s t ++ next_differs s.stamped (preparing_of t s.stamped) ∷ [])
      n = none_is (unless_preparing s t ++ next_differs s.stamped (preparing_of t s.stamped) ∷ []) w

      absent : is_absent (phase_in s t) ≡ false
      absent = when_none (is_absent (phase_in s t)) NoSuchTransaction n.0

      ended : is_ended (phase_in s t) ≡ false
      ended = when_none (is_ended (phase_in s t)) Ended n.1.0

      active : is_active (phase_in s t) ≡ false
      active = when_none (is_active (phase_in s t)) NotPreparing n.1.1.0

      go : (r : Refusal) → CauseStands opening s.marks.opening steps (Validate t) r → ⊥
      go NoSuchTransaction e = not_absent t absent e
      go Ended e = not_ended t ended e
      go NotPreparing e = not_active t active e
      go (ValidationFailed m) e =
          let o = open_one t absent ended active in
          next_is_same opening steps s o.0 m.0 o.1.among o.1.open' o.1.phase o.1.checks kept (sym (ap (next_differs s.stamped) o.1.found) ∙ n.1.1.1.1.0) (subst (λ (u : ℕ). NextDiffers opening steps u m.0) (sym o.1.named) e)
      go r e = e

  validated_is : (t : ℕ) (x : StampedTx) → IsOpen t x → is_validated t steps ≡ x.valid
  validated_is t x o =
      subst (λ (u : ℕ). is_validated u steps ≡ x.valid) o.named
      (ap (λ ts. nat_lt 0 (checks_in x.id steps) && nat_le (length (entries ts)) (checks_in x.id steps)) (o.among (λ y. history_of y.id steps ≡ y.history) kept.after_trace.stamped) ∙ o.checks.valid)

  abbrev unvalidated : ℕ → List (Option Refusal)
  unvalidated t = when (not (was_valid (preparing_of t s.stamped))) NotValidated ∷ []

  settle_refused : (t : ℕ) (r : Refusal) → why_not_settle s t ≡ Some r → IsJustRefusal opening s.marks.opening steps (Settle t) r
  settle_refused t r w = at_preparing t (Just (Settle t)) r (unvalidated t) (λ e. e) (λ e. e) (λ e. e) (λ x h. h) (λ x o. at_when (Just (Settle t)) (not (was_valid (preparing_of t s.stamped))) NotValidated r [] (λ e. validated_is t x o ∙ not-true x.valid (sym (ap (λ v. not (was_valid v)) o.found) ∙ e)) (λ _. at_end (Just (Settle t)) r)) (first_is (unless_preparing s t ++ unvalidated t) r w)

  settle_free : (t : ℕ) → why_not_settle s t ≡ None → NoCauseStands opening s.marks.opening steps (Settle t)
  settle_free t w = go
    where
      n : AllNone (unless_preparing s t ++ unvalidated t)
      n = none_is (unless_preparing s t ++ unvalidated t) w

      absent : is_absent (phase_in s t) ≡ false
      absent = when_none (is_absent (phase_in s t)) NoSuchTransaction n.0

      ended : is_ended (phase_in s t) ≡ false
      ended = when_none (is_ended (phase_in s t)) Ended n.1.0

      active : is_active (phase_in s t) ≡ false
      active = when_none (is_active (phase_in s t)) NotPreparing n.1.1.0

      go : (r : Refusal) → CauseStands opening s.marks.opening steps (Settle t) r → ⊥
      go NoSuchTransaction e = not_absent t absent e
      go Ended e = not_ended t ended e
      go NotPreparing e = not_active t active e
      go NotValidated e =
          let o = open_one t absent ended active in
          no_both (not (was_valid (preparing_of t s.stamped))) (when_none (not (was_valid (preparing_of t s.stamped))) NotValidated n.1.1.1.1.0) (ap (λ v. not (was_valid v)) o.1.found ∙ ap not (sym (validated_is t o.0 o.1) ∙ e))
      go r e = e

  -- ---- rollback, and finish
  rollback_refused : (t : ℕ) (r : Refusal) → why_not_rollback s t ≡ Some r → IsJustRefusal opening s.marks.opening steps (Rollback t) r
  rollback_refused t r w = at_when (Just (Rollback t)) (is_absent (phase_in s t)) NoSuchTransaction r (when (is_ended (phase_in s t)) Ended ∷ []) (λ e. phase_is t ∙ absent_is (phase_in s t) e) (λ _. at_when (Just (Rollback t)) (is_ended (phase_in s t)) Ended r [] (λ e. ap is_ended (phase_is t) ∙ e) (λ _. at_end (Just (Rollback t)) r)) (first_is (when (is_absent (phase_in s t)) NoSuchTransaction ∷ when (is_ended (phase_in s t)) Ended ∷ []) r w)

  rollback_free : (t : ℕ) → why_not_rollback s t ≡ None → NoCauseStands opening s.marks.opening steps (Rollback t)
  rollback_free t w = go
    where
      n : AllNone (when (is_absent (phase_in s t)) NoSuchTransaction ∷ when (is_ended (phase_in s t)) Ended ∷ [])
      n = none_is (when (is_absent (phase_in s t)) NoSuchTransaction ∷ when (is_ended (phase_in s t)) Ended ∷ []) w

      go : (r : Refusal) → CauseStands opening s.marks.opening steps (Rollback t) r → ⊥
      go NoSuchTransaction e = not_absent t (when_none (is_absent (phase_in s t)) NoSuchTransaction n.0) e
      go Ended e = not_ended t (when_none (is_ended (phase_in s t)) Ended n.1.0) e
      go r e = e

  abbrev unended : ℕ → List (Option Refusal)
  unended t = when (is_active (phase_in s t) || is_preparing (phase_in s t)) NotEnded ∷ []

  finish_refused : (t : ℕ) (r : Refusal) → why_not_finish s t ≡ Some r → IsJustRefusal opening s.marks.opening steps (Finish t) r
  finish_refused t r w = at_when (Just (Finish t)) (is_absent (phase_in s t)) NoSuchTransaction r (unended t) (λ e. phase_is t ∙ absent_is (phase_in s t) e)
      (λ _. at_when (Just (Finish t)) (is_active (phase_in s t) || is_preparing (phase_in s t)) NotEnded r [] (λ e. ap (λ p. is_active p || is_preparing p) (phase_is t) ∙ e) (λ _. at_end (Just (Finish t)) r)) (first_is (when (is_absent (phase_in s t)) NoSuchTransaction ∷ unended t) r w)

  finish_free : (t : ℕ) → why_not_finish s t ≡ None → NoCauseStands opening s.marks.opening steps (Finish t)
  finish_free t w = go
    where
      n : AllNone (when (is_absent (phase_in s t)) NoSuchTransaction ∷ unended t)
      n = none_is (when (is_absent (phase_in s t)) NoSuchTransaction ∷ unended t) w

      go : (r : Refusal) → CauseStands opening s.marks.opening steps (Finish t) r → ⊥
      go NoSuchTransaction e = not_absent t (when_none (is_absent (phase_in s t)) NoSuchTransaction n.0) e
      go NotEnded e = no_both (is_active (phase_in s t) || is_preparing (phase_in s t)) (when_none (is_active (phase_in s t) || is_preparing (phase_in s t)) NotEnded n.1.0) (sym (ap (λ p. is_active p || is_preparing p) (phase_is t)) ∙ e)
      go r e = e

  -- ---- each call
  all_free : (c : Call) → why_not s c ≡ None → IsJustified opening s.marks.opening steps c Accepted × IsJustified opening s.marks.opening steps c (Refused OutOfMemory)
  all_free Begin w = (begin_free w, begin_free w)
  all_free (Do t op) w = (operation_free t op w, operation_free t op w)
  all_free (Precommit t) w = (precommit_free t w, precommit_free t w)
  all_free (Validate t) w = (validate_free t w, validate_free t w)
  all_free (Settle t) w = (settle_free t w, settle_free t w)
  all_free (Rollback t) w = (rollback_free t w, rollback_free t w)
  all_free (Finish t) w = (finish_free t w, finish_free t w)
  all_free (Trim upto) w = (tt, tt)
  all_free (Close fits g full) w = (tt, tt)

  all_refused : (c : Call) (r : Refusal) → why_not s c ≡ Some r → IsJustified opening s.marks.opening steps c (Refused r)
  all_refused Begin r w = begin_refused r w
  all_refused (Do t op) r w = operation_refused t op r w
  all_refused (Precommit t) r w = precommit_refused t r w
  all_refused (Validate t) r w = validate_refused t r w
  all_refused (Settle t) r w = settle_refused t r w
  all_refused (Rollback t) r w = rollback_refused t r w
  all_refused (Finish t) r w = finish_refused t r w
  all_refused (Trim upto) r w = tt
  all_refused (Close fits g full) r w = tt

  all_justified : (c : Call) (r : Result) → MayCome s c r → IsJustified opening s.marks.opening steps c r
  all_justified c Accepted m = (all_free c m.0).0
  all_justified c (Refused r) m = go (why_not s c) refl (takes_memory c) m
    where
      go : (w : Option Refusal) → why_not s c ≡ w → (b : Bool) → IsRefusal b w r → IsJustified opening s.marks.opening steps c (Refused r)
      go (Some why) e b q = all_refused c r (e ∙ ap (λ (v : Refusal). Some v) (sym q))
      go None e true q = subst (λ (v : Refusal). IsJustified opening s.marks.opening steps c (Refused v)) (sym q) (all_free c e).1
      go None e false q = absurd q

-- what a call may come to is justified by the trace
pub justified : (opening : Map) (mark : ℕ) (steps : List Step) (s : State) (c : Call) (r : Result) → IsKept opening steps s → HasCounts mark steps s → MayCome s c r → IsJustified opening mark steps c r
justified opening mark steps s c r kept counted m =
    subst (λ (n : ℕ). IsJustified opening n steps c r) counted.opening
    (all_justified opening steps s kept (subst (λ (n : ℕ). HasCounts n steps s) (sym counted.opening) counted) c r m)
