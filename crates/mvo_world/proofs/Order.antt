-- No cause that comes before the one that is answered stands.
use Rattle.std.proofs.Common.{◌≡◌, ℕ, ◌<◌, ◌≤◌, Bool, true, false, not, ◌||◌, List, [], ◌∷◌, ◌++◌, Option, None, Some, refl, sym, ap, ◌∙◌, subst, arith, inl, inr}
use Rattle.std.specs.Prelude.{nat_lt, nat_le, length, slice_get, cond, ⊤}
use Rattle.std.proofs.lemmas.Bool.{true≢false, lt-ltb, le-leb}
use Rattle.mvo_types.specs.declared.limits.TheConstants.{MAX_STAMP, MAX_TABLE, MAX_DATA_LEN, MAX_UNFINISHED}
use Rattle.mvo_types.specs.declared.op.Op.{Op}
use Rattle.mvo_types.specs.declared.op.Op.TheVariants.{Read, Scan, Insert, Update, Delete}
use Rattle.mvo_types.specs.declared.entry.Entry.{Entry}
use Rattle.mvo_types.specs.declared.entry.Entry.TheVariants.{Key, Range}
use Rattle.mvo_types.specs.declared.row.RowKey.{RowKey}
use Rattle.mvo_types.specs.declared.refusal.Refusal.{Refusal}
use Rattle.mvo_types.specs.declared.refusal.Refusal.TheVariants.{NoSuchTransaction, Ended, NotActive, NotPreparing, NotValidated, NotEnded, WriteConflict, ValidationFailed, DependencyAborted, TableFull, TooManyWrites, TooManyReads, DataTooLong, BadTable, ClockSpent, OutOfMemory}
use Rattle.mvo_types.specs.Causes.{when}
use Rattle.mvo_model.specs.Trace.{history_of, phase_of}
use Rattle.mvo_model.specs.Trace.Phase.{Absent, Active}
use Rattle.mvo_theory.specs.Entries.{entry_of, entries}
use Rattle.mvo_theory.specs.State.{State, StampedTx, ActiveTx, active_of, preparing_of, ended_of, history_of_active}
use Rattle.mvo_theory.specs.Phases.{phase_in, is_absent, is_active, is_preparing, is_ended}
use Rattle.mvo_theory.specs.Causes.{flagged, flag_of_active, flag_of_preparing, unless_active, unless_preparing, unfinished, conflict, conflicts, is_entry_too_many, is_write_too_many, why_not_do, next_differs, entry_differs, change_of, was_valid}
use Rattle.mvo_theory.specs.Calls.{Call, Result, why_not, takes_memory, IsRefusal, MayCome, IsKept}
use Rattle.mvo_theory.specs.Calls.Call.{Begin, Do, Precommit, Validate, Settle, Rollback, Finish, Trim, Close}
use Rattle.mvo_theory.specs.Calls.Result.{Accepted, Refused}
use Rattle.mvo_theory.specs.Counts.{unfinished_in}
use Rattle.mvo_theory.specs.Counted.{HasCounts}
use Rattle.mvo_theory.specs.Justified.{table_asked, data_len_of, IsWriteTooMany, CauseStands, IsJustified}
use Rattle.mvo_theory.specs.rests.Course.{Course}
use Rattle.mvo_theory.proofs.Firsts.{FirstOf, first_is, when_none, when_some, flagged_some, conflicts_some, differs_some, none_refusal, runs}
use Rattle.mvo_theory.proofs.Conflicting.{told_so}
use Rattle.mvo_world.specs.Order.{cause_place}
use Rattle.mvo_world.specs.WholeJustified.{NoneBefore}

-- ---- what is known only where one number is below another
abbrev pub Given : Bool → Type 0 → Type 0
Given true A = A
Given false A = ⊤

abbrev pub If : ℕ → ℕ → Type 0 → Type 0
If k n A = Given (nat_lt k n) A

pub known : (A : Type 0) (k n : ℕ) → k < n → If k n A → A
known A k n lt a = subst (λ (b : Bool). Given b A) (lt-ltb k n lt) a

pub not_above : (m n : ℕ) → nat_lt m n ≡ false → m < n → ⊥
not_above m n e f = true≢false (sym (lt-ltb m n f) ∙ e)

not_at_least : (m n : ℕ) → nat_le m n ≡ false → m ≤ n → ⊥
not_at_least m n e f = true≢false (sym (le-leb m n f) ∙ e)

no_both : (b : Bool) → b ≡ false → b ≡ true → ⊥
no_both b e f = true≢false (sym f ∙ e)

-- a check is refused for its entry alone
fails : (stamped : List StampedTx) (v : Option StampedTx) (r : Refusal) → next_differs stamped v ≡ Some r → cause_place r ≡ 4
fails stamped None r e = absurd (none_refusal r e)
fails stamped (Some x) r e = go x.valid (slice_get (entries x.history) x.checked) e
  where
    go : (b : Bool) (o : Option Entry) → cond b None (entry_differs stamped x o) ≡ Some r → cause_place r ≡ 4
    go true o q = absurd (none_refusal r q)
    go false None q = absurd (none_refusal r q)
    go false (Some y) q = ap cause_place (differs_some (change_of stamped x.id x.end y) r q).2

module _ (p : Course) (s : State) (kept : IsKept p.rows p.steps s) (counted : HasCounts p.mark p.steps s) where
  -- no cause at a place below n stands
  abbrev Below : Call → ℕ → Type 0
  Below c n = (v : Refusal) → cause_place v < n → CauseStands p.rows p.mark p.steps c v → ⊥

  abbrev Safe : Call → Refusal → Type 0
  Safe c r = Below c (cause_place r)

  not_absent : (t : ℕ) → is_absent (phase_in s t) ≡ false → phase_of t p.steps ≡ Absent → ⊥
  not_absent t e f = true≢false (sym (ap is_absent (sym (kept.after_trace.phases t) ∙ f)) ∙ e)

  not_active : (t : ℕ) → is_active (phase_in s t) ≡ false → phase_of t p.steps ≡ Active → ⊥
  not_active t e f = true≢false (sym (ap is_active (sym (kept.after_trace.phases t) ∙ f)) ∙ e)

  not_ended : (t : ℕ) → is_ended (phase_in s t) ≡ false → is_ended (phase_of t p.steps) ≡ true → ⊥
  not_ended t e f = true≢false (sym f ∙ ap is_ended (kept.after_trace.phases t) ∙ e)

  not_preparing : (t : ℕ) → is_preparing (phase_in s t) ≡ false → is_preparing (phase_of t p.steps) ≡ true → ⊥
  not_preparing t e f = true≢false (sym f ∙ ap is_preparing (kept.after_trace.phases t) ∙ e)

  -- ---- along a list of causes
  here : (c : Call) (n : ℕ) (v r : Refusal) → cause_place v ≡ n → Below c n → r ≡ v → Safe c r
  here c n v r at below e = subst (Below c) (sym (ap cause_place e ∙ at)) below

  at_when : (c : Call) (n : ℕ) (b : Bool) (v r : Refusal) (next : List (Option Refusal)) → cause_place v ≡ n → Below c n → (b ≡ false → FirstOf next r → Safe c r) → FirstOf (when b v ∷ next) r → Safe c r
  at_when c n b v r next at below rest (inl e) = here c n v r at below (when_some b v r e).1
  at_when c n b v r next at below rest (inr (none, f)) = rest (when_none b v none) f

  at_flag : (c : Call) (d : Option ℕ) (r : Refusal) (next : List (Option Refusal)) → Below c 3 → (FirstOf next r → Safe c r) → FirstOf (flagged d ∷ next) r → Safe c r
  at_flag c d r next below rest (inl e) = let q = flagged_some d r e in here c 3 (DependencyAborted (record { 0 = q.0 })) r refl below q.2
  at_flag c d r next below rest (inr (none, f)) = rest f

  at_end : (c : Call) (r : Refusal) → FirstOf [] r → Safe c r
  at_end c r f = absurd f

  -- the causes of the calls of an Active transaction
  at_active : (c : Call) (t : ℕ) (r : Refusal) (rest : List (Option Refusal)) → Below c 0 → (is_absent (phase_in s t) ≡ false → Below c 1) → (is_absent (phase_in s t) ≡ false → is_ended (phase_in s t) ≡ false → Below c 2) → (is_absent (phase_in s t) ≡ false → is_ended (phase_in s t) ≡ false → is_preparing (phase_in s t) ≡ false → Below c 3)
      → (is_absent (phase_in s t) ≡ false → is_ended (phase_in s t) ≡ false → is_preparing (phase_in s t) ≡ false → FirstOf rest r → Safe c r) → FirstOf (unless_active s t ++ rest) r → Safe c r
  at_active c t r rest b0 b1 b2 b3 last f =
      at_when c 0 (is_absent (phase_in s t)) NoSuchTransaction r (when (is_ended (phase_in s t)) Ended ∷ when (is_preparing (phase_in s t)) NotActive ∷ flagged (flag_of_active (active_of t s.active)) ∷ rest) refl b0 (λ x.
      at_when c 1 (is_ended (phase_in s t)) Ended r (when (is_preparing (phase_in s t)) NotActive ∷ flagged (flag_of_active (active_of t s.active)) ∷ rest) refl (b1 x) (λ y.
      at_when c 2 (is_preparing (phase_in s t)) NotActive r (flagged (flag_of_active (active_of t s.active)) ∷ rest) refl (b2 x y) (λ z.
      at_flag c (flag_of_active (active_of t s.active)) r rest (b3 x y z) (last x y z)))) f

  at_preparing : (c : Call) (t : ℕ) (r : Refusal) (rest : List (Option Refusal)) → Below c 0 → (is_absent (phase_in s t) ≡ false → Below c 1) → (is_absent (phase_in s t) ≡ false → is_ended (phase_in s t) ≡ false → Below c 2) → (is_absent (phase_in s t) ≡ false → is_ended (phase_in s t) ≡ false → is_active (phase_in s t) ≡ false → Below c 4)
      → (FirstOf rest r → Below c 4 → Safe c r) → FirstOf (unless_preparing s t ++ rest) r → Safe c r
  at_preparing c t r rest b0 b1 b2 b4 last f =
      at_when c 0 (is_absent (phase_in s t)) NoSuchTransaction r (when (is_ended (phase_in s t)) Ended ∷ when (is_active (phase_in s t)) NotPreparing ∷ flagged (flag_of_preparing (preparing_of t s.stamped)) ∷ rest) refl b0 (λ x.
      at_when c 1 (is_ended (phase_in s t)) Ended r (when (is_active (phase_in s t)) NotPreparing ∷ flagged (flag_of_preparing (preparing_of t s.stamped)) ∷ rest) refl (b1 x) (λ y.
      at_when c 2 (is_active (phase_in s t)) NotPreparing r (flagged (flag_of_preparing (preparing_of t s.stamped)) ∷ rest) refl (b2 x y) (λ z.
      at_flag c (flag_of_preparing (preparing_of t s.stamped)) r rest (λ v lt. b4 x y z v (omega (arith, lt))) (λ g. last g (b4 x y z))))) f

  -- ---- an operation
  do_below : (t : ℕ) (op : Op) (n : ℕ) → n ≤ 8 → If 0 n (phase_of t p.steps ≡ Absent → ⊥) → If 1 n (is_ended (phase_of t p.steps) ≡ true → ⊥) → If 2 n (is_preparing (phase_of t p.steps) ≡ true → ⊥) → If 4 n (MAX_TABLE < table_asked op → ⊥) → If 5 n (MAX_DATA_LEN < data_len_of op → ⊥)
      → If 6 n (is_entry_too_many (history_of t p.steps) (entry_of op) ≡ true → ⊥) → If 7 n (IsWriteTooMany (history_of t p.steps) op → ⊥) → Below (Do t op) n
  do_below t op n le f0 f1 f2 f4 f5 f6 f7 NoSuchTransaction lt e = known (phase_of t p.steps ≡ Absent → ⊥) 0 n lt f0 e
  do_below t op n le f0 f1 f2 f4 f5 f6 f7 Ended lt e = known (is_ended (phase_of t p.steps) ≡ true → ⊥) 1 n lt f1 e
  do_below t op n le f0 f1 f2 f4 f5 f6 f7 NotActive lt e = known (is_preparing (phase_of t p.steps) ≡ true → ⊥) 2 n lt f2 e
  do_below t op n le f0 f1 f2 f4 f5 f6 f7 BadTable lt e = known (MAX_TABLE < table_asked op → ⊥) 4 n lt f4 e
  do_below t op n le f0 f1 f2 f4 f5 f6 f7 DataTooLong lt e = known (MAX_DATA_LEN < data_len_of op → ⊥) 5 n lt f5 e
  do_below t op n le f0 f1 f2 f4 f5 f6 f7 TooManyReads lt e = known (is_entry_too_many (history_of t p.steps) (entry_of op) ≡ true → ⊥) 6 n lt f6 e
  do_below t op n le f0 f1 f2 f4 f5 f6 f7 TooManyWrites lt e = known (IsWriteTooMany (history_of t p.steps) op → ⊥) 7 n lt f7 e
  do_below t op n le f0 f1 f2 f4 f5 f6 f7 (WriteConflict c) lt e = omega (arith, lt, le)
  do_below t op n le f0 f1 f2 f4 f5 f6 f7 v lt e = e

  module _ (t : ℕ) (op : Op) (r : Refusal) where
    abbrev bad : Bool
    bad = nat_lt MAX_TABLE (table_asked op)

    abbrev long : Bool
    long = nat_lt MAX_DATA_LEN (data_len_of op)

    at_operation : (rest : List (Option Refusal)) → (((phase_of t p.steps ≡ Absent → ⊥) × (is_ended (phase_of t p.steps) ≡ true → ⊥) × (is_preparing (phase_of t p.steps) ≡ true → ⊥)) → (a : ActiveTx) → active_of t s.active ≡ Some a → FirstOf rest r → Safe (Do t op) r) → FirstOf (unless_active s t ++ rest) r → Safe (Do t op) r
    at_operation rest last f = at_active (Do t op) t r rest (do_below t op 0 (omega arith) tt tt tt tt tt tt tt) (λ x. do_below t op 1 (omega arith) (not_absent t x) tt tt tt tt tt tt)
        (λ x y. do_below t op 2 (omega arith) (not_absent t x) (not_ended t y) tt tt tt tt tt) (λ x y z. do_below t op 3 (omega arith) (not_absent t x) (not_ended t y) (not_preparing t z) tt tt tt tt)
        (λ x y z g. let there = runs (active_of t s.active) (preparing_of t s.stamped) (ended_of t s.ended) x y z in last (not_absent t x, not_ended t y, not_preparing t z) there.0 there.1 g) f

  few_entries : (t : ℕ) (a : ActiveTx) (e : Entry) → active_of t s.active ≡ Some a → is_entry_too_many (history_of_active t s.active) e ≡ false → is_entry_too_many (history_of t p.steps) e ≡ true → ⊥
  few_entries t a e f n q = no_both (is_entry_too_many (history_of_active t s.active) e) n (ap (λ ts. is_entry_too_many ts e) (told_so p.rows p.steps s t a f kept) ∙ q)

  few_writes : (t : ℕ) (a : ActiveTx) (k : RowKey) → active_of t s.active ≡ Some a → is_write_too_many (history_of_active t s.active) k ≡ false → is_write_too_many (history_of t p.steps) k ≡ true → ⊥
  few_writes t a k f n q = no_both (is_write_too_many (history_of_active t s.active) k) n (ap (λ ts. is_write_too_many ts k) (told_so p.rows p.steps s t a f kept) ∙ q)

  at_conflict : (t : ℕ) (op : Op) (k : RowKey) (r : Refusal) → Below (Do t op) 8 → FirstOf (conflicts (conflict s t k) ∷ []) r → Safe (Do t op) r
  at_conflict t op k r below (inl e) = let q = conflicts_some (conflict s t k) r e in here (Do t op) 8 (WriteConflict q.0) r refl below q.2
  at_conflict t op k r below (inr (none, f)) = absurd f

  no_data : MAX_DATA_LEN < 0 → ⊥
  no_data lt = omega (arith, lt)

  do_safe : (t : ℕ) (op : Op) (r : Refusal) → why_not_do s t op ≡ Some r → Safe (Do t op) r
  do_safe t (Read k) r w = at_operation t (Read k) r (when (nat_lt MAX_TABLE k.table) BadTable ∷ when (is_entry_too_many (history_of_active t s.active) (Key k)) TooManyReads ∷ [])
      (λ o a f. at_when (Do t (Read k)) 4 (nat_lt MAX_TABLE k.table) BadTable r (when (is_entry_too_many (history_of_active t s.active) (Key k)) TooManyReads ∷ []) refl (do_below t (Read k) 4 (omega arith) o.0 o.1 o.2 tt tt tt tt) (λ x.
      at_when (Do t (Read k)) 6 (is_entry_too_many (history_of_active t s.active) (Key k)) TooManyReads r [] refl (do_below t (Read k) 6 (omega arith) o.0 o.1 o.2 (not_above MAX_TABLE k.table x) no_data tt tt) (λ _. at_end (Do t (Read k)) r)))
      (first_is (unless_active s t ++ when (nat_lt MAX_TABLE k.table) BadTable ∷ when (is_entry_too_many (history_of_active t s.active) (Key k)) TooManyReads ∷ []) r w).is
  do_safe t (Scan table lo hi) r w = at_operation t (Scan table lo hi) r (when (nat_lt MAX_TABLE table) BadTable ∷ when (is_entry_too_many (history_of_active t s.active) (Range table lo hi)) TooManyReads ∷ [])
      (λ o a f. at_when (Do t (Scan table lo hi)) 4 (nat_lt MAX_TABLE table) BadTable r (when (is_entry_too_many (history_of_active t s.active) (Range table lo hi)) TooManyReads ∷ []) refl (do_below t (Scan table lo hi) 4 (omega arith) o.0 o.1 o.2 tt tt tt tt) (λ x.
      at_when (Do t (Scan table lo hi)) 6 (is_entry_too_many (history_of_active t s.active) (Range table lo hi)) TooManyReads r [] refl (do_below t (Scan table lo hi) 6 (omega arith) o.0 o.1 o.2 (not_above MAX_TABLE table x) no_data tt tt) (λ _. at_end (Do t (Scan table lo hi)) r)))
      (first_is (unless_active s t ++ when (nat_lt MAX_TABLE table) BadTable ∷ when (is_entry_too_many (history_of_active t s.active) (Range table lo hi)) TooManyReads ∷ []) r w).is
  do_safe t (Insert row) r w =
      let c = Do t (Insert row) in
      let k = row.key in
      let many = when (is_write_too_many (history_of_active t s.active) k) TooManyWrites ∷ [] in
      let reads = when (is_entry_too_many (history_of_active t s.active) (Key k)) TooManyReads ∷ many in
      let long = when (nat_lt MAX_DATA_LEN (length row.bytes)) DataTooLong ∷ reads in
      at_operation t (Insert row) r (when (nat_lt MAX_TABLE k.table) BadTable ∷ long)
      (λ o a f. at_when c 4 (nat_lt MAX_TABLE k.table) BadTable r long refl (do_below t (Insert row) 4 (omega arith) o.0 o.1 o.2 tt tt tt tt) (λ x.
      at_when c 5 (nat_lt MAX_DATA_LEN (length row.bytes)) DataTooLong r reads refl (do_below t (Insert row) 5 (omega arith) o.0 o.1 o.2 (not_above MAX_TABLE k.table x) tt tt tt) (λ y.
      at_when c 6 (is_entry_too_many (history_of_active t s.active) (Key k)) TooManyReads r many refl (do_below t (Insert row) 6 (omega arith) o.0 o.1 o.2 (not_above MAX_TABLE k.table x) (not_above MAX_DATA_LEN (length row.bytes) y) tt tt) (λ z.
      at_when c 7 (is_write_too_many (history_of_active t s.active) k) TooManyWrites r [] refl (do_below t (Insert row) 7 (omega arith) o.0 o.1 o.2 (not_above MAX_TABLE k.table x) (not_above MAX_DATA_LEN (length row.bytes) y) (few_entries t a (Key k) f z) tt) (λ _. at_end c r)))))
      (first_is (unless_active s t ++ when (nat_lt MAX_TABLE k.table) BadTable ∷ long) r w).is
  do_safe t (Update row) r w =
      let c = Do t (Update row) in
      let k = row.key in
      let way = conflicts (conflict s t k) ∷ [] in
      let many = when (is_write_too_many (history_of_active t s.active) k) TooManyWrites ∷ way in
      let reads = when (is_entry_too_many (history_of_active t s.active) (Key k)) TooManyReads ∷ many in
      let long = when (nat_lt MAX_DATA_LEN (length row.bytes)) DataTooLong ∷ reads in
      at_operation t (Update row) r (when (nat_lt MAX_TABLE k.table) BadTable ∷ long)
      (λ o a f. at_when c 4 (nat_lt MAX_TABLE k.table) BadTable r long refl (do_below t (Update row) 4 (omega arith) o.0 o.1 o.2 tt tt tt tt) (λ x.
      at_when c 5 (nat_lt MAX_DATA_LEN (length row.bytes)) DataTooLong r reads refl (do_below t (Update row) 5 (omega arith) o.0 o.1 o.2 (not_above MAX_TABLE k.table x) tt tt tt) (λ y.
      at_when c 6 (is_entry_too_many (history_of_active t s.active) (Key k)) TooManyReads r many refl (do_below t (Update row) 6 (omega arith) o.0 o.1 o.2 (not_above MAX_TABLE k.table x) (not_above MAX_DATA_LEN (length row.bytes) y) tt tt) (λ z.
      at_when c 7 (is_write_too_many (history_of_active t s.active) k) TooManyWrites r way refl (do_below t (Update row) 7 (omega arith) o.0 o.1 o.2 (not_above MAX_TABLE k.table x) (not_above MAX_DATA_LEN (length row.bytes) y) (few_entries t a (Key k) f z) tt) (λ u.
      at_conflict t (Update row) k r (do_below t (Update row) 8 (omega arith) o.0 o.1 o.2 (not_above MAX_TABLE k.table x) (not_above MAX_DATA_LEN (length row.bytes) y) (few_entries t a (Key k) f z) (few_writes t a k f u)))))))
      (first_is (unless_active s t ++ when (nat_lt MAX_TABLE k.table) BadTable ∷ long) r w).is
  do_safe t (Delete k) r w =
      let c = Do t (Delete k) in
      let way = conflicts (conflict s t k) ∷ [] in
      let many = when (is_write_too_many (history_of_active t s.active) k) TooManyWrites ∷ way in
      let reads = when (is_entry_too_many (history_of_active t s.active) (Key k)) TooManyReads ∷ many in
      at_operation t (Delete k) r (when (nat_lt MAX_TABLE k.table) BadTable ∷ reads)
      (λ o a f. at_when c 4 (nat_lt MAX_TABLE k.table) BadTable r reads refl (do_below t (Delete k) 4 (omega arith) o.0 o.1 o.2 tt tt tt tt) (λ x.
      at_when c 6 (is_entry_too_many (history_of_active t s.active) (Key k)) TooManyReads r many refl (do_below t (Delete k) 6 (omega arith) o.0 o.1 o.2 (not_above MAX_TABLE k.table x) no_data tt tt) (λ z.
      at_when c 7 (is_write_too_many (history_of_active t s.active) k) TooManyWrites r way refl (do_below t (Delete k) 7 (omega arith) o.0 o.1 o.2 (not_above MAX_TABLE k.table x) no_data (few_entries t a (Key k) f z) tt) (λ u.
      at_conflict t (Delete k) k r (do_below t (Delete k) 8 (omega arith) o.0 o.1 o.2 (not_above MAX_TABLE k.table x) no_data (few_entries t a (Key k) f z) (few_writes t a k f u))))))
      (first_is (unless_active s t ++ when (nat_lt MAX_TABLE k.table) BadTable ∷ reads) r w).is

  -- ---- the other calls
  precommit_below : (t n : ℕ) → n ≤ 5 → If 0 n (phase_of t p.steps ≡ Absent → ⊥) → If 1 n (is_ended (phase_of t p.steps) ≡ true → ⊥) → If 2 n (is_preparing (phase_of t p.steps) ≡ true → ⊥) → Below (Precommit t) n
  precommit_below t n le f0 f1 f2 NoSuchTransaction lt e = known (phase_of t p.steps ≡ Absent → ⊥) 0 n lt f0 e
  precommit_below t n le f0 f1 f2 Ended lt e = known (is_ended (phase_of t p.steps) ≡ true → ⊥) 1 n lt f1 e
  precommit_below t n le f0 f1 f2 NotActive lt e = known (is_preparing (phase_of t p.steps) ≡ true → ⊥) 2 n lt f2 e
  precommit_below t n le f0 f1 f2 ClockSpent lt e = omega (arith, lt, le)
  precommit_below t n le f0 f1 f2 v lt e = e

  precommit_safe : (t : ℕ) (r : Refusal) → why_not s (Precommit t) ≡ Some r → Safe (Precommit t) r
  precommit_safe t r w =
      let spent = when (nat_le MAX_STAMP s.clock) ClockSpent ∷ [] in
      at_active (Precommit t) t r spent (precommit_below t 0 (omega arith) tt tt tt) (λ x. precommit_below t 1 (omega arith) (not_absent t x) tt tt) (λ x y. precommit_below t 2 (omega arith) (not_absent t x) (not_ended t y) tt) (λ x y z. precommit_below t 3 (omega arith) (not_absent t x) (not_ended t y) (not_preparing t z))
      (λ x y z. at_when (Precommit t) 5 (nat_le MAX_STAMP s.clock) ClockSpent r [] refl (precommit_below t 5 (omega arith) (not_absent t x) (not_ended t y) (not_preparing t z)) (λ _. at_end (Precommit t) r))
      (first_is (unless_active s t ++ spent) r w).is

  validate_below : (t n : ℕ) → n ≤ 4 → If 0 n (phase_of t p.steps ≡ Absent → ⊥) → If 1 n (is_ended (phase_of t p.steps) ≡ true → ⊥) → If 2 n (phase_of t p.steps ≡ Active → ⊥) → Below (Validate t) n
  validate_below t n le f0 f1 f2 NoSuchTransaction lt e = known (phase_of t p.steps ≡ Absent → ⊥) 0 n lt f0 e
  validate_below t n le f0 f1 f2 Ended lt e = known (is_ended (phase_of t p.steps) ≡ true → ⊥) 1 n lt f1 e
  validate_below t n le f0 f1 f2 NotPreparing lt e = known (phase_of t p.steps ≡ Active → ⊥) 2 n lt f2 e
  validate_below t n le f0 f1 f2 (ValidationFailed m) lt e = omega (arith, lt, le)
  validate_below t n le f0 f1 f2 v lt e = e

  -- the one next entry that differs is the last of them
  at_differing : (c : Call) (w : Option Refusal) (r : Refusal) → Below c 4 → (w ≡ Some r → cause_place r ≡ 4) → FirstOf (w ∷ []) r → Safe c r
  at_differing c w r below at (inl e) = subst (Below c) (sym (at e)) below
  at_differing c w r below at (inr (none, f)) = absurd f

  validate_safe : (t : ℕ) (r : Refusal) → why_not s (Validate t) ≡ Some r → Safe (Validate t) r
  validate_safe t r w =
      let last = next_differs s.stamped (preparing_of t s.stamped) ∷ [] in
      at_preparing (Validate t) t r last (validate_below t 0 (omega arith) tt tt tt) (λ x. validate_below t 1 (omega arith) (not_absent t x) tt tt) (λ x y. validate_below t 2 (omega arith) (not_absent t x) (not_ended t y) tt) (λ x y z. validate_below t 4 (omega arith) (not_absent t x) (not_ended t y) (not_active t z))
      (λ g below. at_differing (Validate t) (next_differs s.stamped (preparing_of t s.stamped)) r below (fails s.stamped (preparing_of t s.stamped) r) g)
      (first_is (unless_preparing s t ++ last) r w).is

  settle_below : (t n : ℕ) → n ≤ 4 → If 0 n (phase_of t p.steps ≡ Absent → ⊥) → If 1 n (is_ended (phase_of t p.steps) ≡ true → ⊥) → If 2 n (phase_of t p.steps ≡ Active → ⊥) → Below (Settle t) n
  settle_below t n le f0 f1 f2 NoSuchTransaction lt e = known (phase_of t p.steps ≡ Absent → ⊥) 0 n lt f0 e
  settle_below t n le f0 f1 f2 Ended lt e = known (is_ended (phase_of t p.steps) ≡ true → ⊥) 1 n lt f1 e
  settle_below t n le f0 f1 f2 NotPreparing lt e = known (phase_of t p.steps ≡ Active → ⊥) 2 n lt f2 e
  settle_below t n le f0 f1 f2 NotValidated lt e = omega (arith, lt, le)
  settle_below t n le f0 f1 f2 v lt e = e

  settle_safe : (t : ℕ) (r : Refusal) → why_not s (Settle t) ≡ Some r → Safe (Settle t) r
  settle_safe t r w =
      let last = when (not (was_valid (preparing_of t s.stamped))) NotValidated ∷ [] in
      at_preparing (Settle t) t r last (settle_below t 0 (omega arith) tt tt tt) (λ x. settle_below t 1 (omega arith) (not_absent t x) tt tt) (λ x y. settle_below t 2 (omega arith) (not_absent t x) (not_ended t y) tt) (λ x y z. settle_below t 4 (omega arith) (not_absent t x) (not_ended t y) (not_active t z))
      (λ g below. at_when (Settle t) 4 (not (was_valid (preparing_of t s.stamped))) NotValidated r [] refl below (λ _. at_end (Settle t) r) g)
      (first_is (unless_preparing s t ++ last) r w).is

  begin_below : (n : ℕ) → n ≤ 5 → If 4 n (MAX_UNFINISHED ≤ unfinished_in p.steps → ⊥) → Below Begin n
  begin_below n le f TableFull lt e = known (MAX_UNFINISHED ≤ unfinished_in p.steps → ⊥) 4 n lt f e
  begin_below n le f ClockSpent lt e = omega (arith, lt, le)
  begin_below n le f v lt e = e

  begin_safe : (r : Refusal) → why_not s Begin ≡ Some r → Safe Begin r
  begin_safe r w =
      let spent = when (nat_le MAX_STAMP s.clock) ClockSpent ∷ [] in
      let is : unfinished_in p.steps ≡ unfinished s = let h = counted.unfinished in omega (arith, h) in
      at_when Begin 4 (nat_le MAX_UNFINISHED (unfinished s)) TableFull r spent refl (begin_below 4 (omega arith) tt) (λ x.
      at_when Begin 5 (nat_le MAX_STAMP s.clock) ClockSpent r [] refl (begin_below 5 (omega arith) (λ l. not_at_least MAX_UNFINISHED (unfinished s) x (subst (λ (n : ℕ). MAX_UNFINISHED ≤ n) is l))) (λ _. at_end Begin r))
      (first_is (when (nat_le MAX_UNFINISHED (unfinished s)) TableFull ∷ spent) r w).is

  rollback_below : (t n : ℕ) → n ≤ 1 → If 0 n (phase_of t p.steps ≡ Absent → ⊥) → Below (Rollback t) n
  rollback_below t n le f NoSuchTransaction lt e = known (phase_of t p.steps ≡ Absent → ⊥) 0 n lt f e
  rollback_below t n le f Ended lt e = omega (arith, lt, le)
  rollback_below t n le f v lt e = e

  rollback_safe : (t : ℕ) (r : Refusal) → why_not s (Rollback t) ≡ Some r → Safe (Rollback t) r
  rollback_safe t r w =
      let ended = when (is_ended (phase_in s t)) Ended ∷ [] in
      at_when (Rollback t) 0 (is_absent (phase_in s t)) NoSuchTransaction r ended refl (rollback_below t 0 (omega arith) tt) (λ x.
      at_when (Rollback t) 1 (is_ended (phase_in s t)) Ended r [] refl (rollback_below t 1 (omega arith) (not_absent t x)) (λ _. at_end (Rollback t) r))
      (first_is (when (is_absent (phase_in s t)) NoSuchTransaction ∷ ended) r w).is

  finish_below : (t n : ℕ) → n ≤ 2 → If 0 n (phase_of t p.steps ≡ Absent → ⊥) → Below (Finish t) n
  finish_below t n le f NoSuchTransaction lt e = known (phase_of t p.steps ≡ Absent → ⊥) 0 n lt f e
  finish_below t n le f NotEnded lt e = omega (arith, lt, le)
  finish_below t n le f v lt e = e

  finish_safe : (t : ℕ) (r : Refusal) → why_not s (Finish t) ≡ Some r → Safe (Finish t) r
  finish_safe t r w =
      let unended = when (is_active (phase_in s t) || is_preparing (phase_in s t)) NotEnded ∷ [] in
      at_when (Finish t) 0 (is_absent (phase_in s t)) NoSuchTransaction r unended refl (finish_below t 0 (omega arith) tt) (λ x.
      at_when (Finish t) 2 (is_active (phase_in s t) || is_preparing (phase_in s t)) NotEnded r [] refl (finish_below t 2 (omega arith) (not_absent t x)) (λ _. at_end (Finish t) r))
      (first_is (when (is_absent (phase_in s t)) NoSuchTransaction ∷ unended) r w).is

  -- ---- each call
  stands_first : (c : Call) (r : Refusal) → why_not s c ≡ Some r → Safe c r
  stands_first Begin r w = begin_safe r w
  stands_first (Do t op) r w = do_safe t op r w
  stands_first (Precommit t) r w = precommit_safe t r w
  stands_first (Validate t) r w = validate_safe t r w
  stands_first (Settle t) r w = settle_safe t r w
  stands_first (Rollback t) r w = rollback_safe t r w
  stands_first (Finish t) r w = finish_safe t r w
  stands_first (Trim m) r w = λ v lt e. e
  stands_first (Close fits g full) r w = λ v lt e. e

  no_memory : (c : Call) → IsJustified p.rows p.mark p.steps c (Refused OutOfMemory) → Safe c OutOfMemory
  no_memory (Trim m) just v lt e = e
  no_memory (Close fits g full) just v lt e = e
  no_memory Begin just v lt e = just v e
  no_memory (Do t op) just v lt e = just v e
  no_memory (Precommit t) just v lt e = just v e
  no_memory (Validate t) just v lt e = just v e
  no_memory (Settle t) just v lt e = just v e
  no_memory (Rollback t) just v lt e = just v e
  no_memory (Finish t) just v lt e = just v e

  pub first_cause_stands : (c : Call) (r : Result) → MayCome s c r → IsJustified p.rows p.mark p.steps c r → NoneBefore false p c r
  first_cause_stands c Accepted m just = tt
  first_cause_stands c (Refused r) m just = go (why_not s c) refl (takes_memory c) m
    where
      go : (w : Option Refusal) → why_not s c ≡ w → (b : Bool) → IsRefusal b w r → Safe c r
      go (Some why) e b q = stands_first c r (e ∙ ap (λ (v : Refusal). Some v) (sym q))
      go None e true q = subst (Safe c) (sym q) (no_memory c (subst (λ (v : Refusal). IsJustified p.rows p.mark p.steps c (Refused v)) q just))
      go None e false q = absurd q
