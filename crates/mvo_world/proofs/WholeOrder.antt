-- No cause that comes before the one that is answered stands, by the whole trace: of a read-only
-- transaction none of its own list, of another none of the list of a core.
use Rattle.std.proofs.Common.{◌≡◌, ℕ, ◌+◌, ◌-◌, ◌<◌, ◌≤◌, Bool, true, false, not, ◌||◌, ◌⊎◌, inl, inr, List, [], ◌∷◌, ◌++◌, Option, None, Some, refl, sym, ap, ◌∙◌, subst, arith}
use Rattle.std.specs.Prelude.{nat_lt}
use Rattle.std.proofs.lemmas.Bool.{true≢false}
use Rattle.mvo_types.specs.declared.limits.TheConstants.{MAX_STAMP, MAX_TABLE, MAX_UNFINISHED}
use Rattle.mvo_types.specs.declared.op.Op.{Op}
use Rattle.mvo_types.specs.declared.op.Op.TheVariants.{Read, Scan, Insert, Update, Delete}
use Rattle.mvo_types.specs.declared.entry.Entry.TheVariants.{Key, Range}
use Rattle.mvo_types.specs.declared.refusal.Refusal.{Refusal}
use Rattle.mvo_types.specs.declared.refusal.Refusal.TheVariants.{NoSuchTransaction, Ended, NotActive, NotPreparing, NotValidated, NotEnded, WriteConflict, ValidationFailed, DependencyAborted, TableFull, TooManyWrites, TooManyReads, DataTooLong, BadTable, ClockSpent, ReadOnly, OutOfMemory}
use Rattle.mvo_types.specs.Causes.{when}
use Rattle.mvo_model.specs.Trace.{Phase, phase_of}
use Rattle.mvo_model.specs.Trace.Phase.{Absent, Active as IsActive}
use Rattle.mvo_theory.specs.Entries.{entry_of}
use Rattle.mvo_theory.specs.State.{State, history_of_active}
use Rattle.mvo_theory.specs.Phases.{is_active, is_preparing, is_ended}
use Rattle.mvo_theory.specs.Causes.{flagged, is_entry_too_many}
use Rattle.mvo_theory.specs.Calls.{Call, Result, IsRefusal, MayCome}
use Rattle.mvo_theory.specs.Calls.Call.{Begin, Do, Precommit, Validate, Settle, Rollback, Finish, Trim, Close}
use Rattle.mvo_theory.specs.Calls.Result.{Accepted, Refused}
use Rattle.mvo_theory.specs.Counts.{draws, unfinished_in, is_begin, is_finish}
use Rattle.mvo_theory.specs.Sound.{how_many}
use Rattle.mvo_theory.specs.Justified.{table_asked, IsWriteTooMany, StandsAgainst, CauseStands, IsJustRefusal, IsJustified}
use Rattle.mvo_theory.specs.rests.Course.{Course}
use Rattle.mvo_theory.proofs.Firsts.{IsFirst, first_is}
use Rattle.mvo_theory.proofs.Justified.{justified}
use Rattle.mvo_readonly.specs.Whole.{ReaderStage, WholeState, phase_at_stage, stage_of, id_named, stage_named}
use Rattle.mvo_readonly.specs.Whole.ReaderStage.{Reading, Preparing, Committed, Aborted}
use Rattle.mvo_readonly.specs.WholeCauses.{flag_of_reader, unless_reading, unless_prepared, unless_read_only, is_valid_stage, why_not_reader, MayComeAtStage}
use Rattle.mvo_readonly.specs.WholeJustified.{asks_to_write, ReaderCauseStands, IsJustReaderRefusal, IsReaderJustified}
use Rattle.mvo_readonly.specs.rests.Followed.{IsFollowed}
use Rattle.mvo_readonly.proofs.Stages.{core_stands}
use Rattle.mvo_readonly.proofs.ReaderJustified.{at_when, at_flag, at_end, by_cause}
use Rattle.mvo_world.specs.Order.{cause_place}
use Rattle.mvo_world.specs.WholeJustified.{NoneBefore}
use Rattle.mvo_world.proofs.Order.{If, known, not_above, first_cause_stands}

some_is : (a b : Refusal) → ◌≡◌ {A = Option Refusal} (Some a) (Some b) → a ≡ b
some_is a b e = cc

no_stage : (p : ReaderStage) → ◌≡◌ {A = Option ReaderStage} None (Some p) → ⊥
no_stage p e = cc

-- an unfinished one isn't Absent
pub never_absent : (t : ℕ) (p : ReaderStage) → phase_at_stage t p ≡ Absent → ⊥
never_absent t Reading e = absurd cc
never_absent t (Preparing n v) e = absurd cc
never_absent t Committed e = absurd cc
never_absent t Aborted e = absurd cc

module _ (a o : Course) (w : WholeState) (f : IsFollowed a o w) where
  -- ---- of another: what stands by the whole trace stands by the core's own
  same_unfinished : unfinished_in a.steps ≡ unfinished_in o.steps
  same_unfinished = ap (λ (c : ℕ). c - how_many is_finish a.steps) f.counts.begun ∙ ap (λ (c : ℕ). how_many is_begin o.steps - c) f.counts.finished

  same_draws : a.mark + draws a.steps ≡ o.mark + draws o.steps
  same_draws = ap (λ (c : ℕ). c + draws a.steps) f.joint.mark ∙ ap (λ (c : ℕ). o.mark + c) f.counts.drawn

  begin_own : (v : Refusal) → CauseStands a.rows a.mark a.steps Begin v → CauseStands o.rows o.mark o.steps Begin v
  begin_own TableFull e = subst (λ (c : ℕ). MAX_UNFINISHED ≤ c) same_unfinished e
  begin_own ClockSpent e = subst (λ (c : ℕ). MAX_STAMP ≤ c) same_draws e
  begin_own v e = e

  module _ (t : ℕ) (none : stage_of t w.readers ≡ None) where
    same : phase_of t a.steps ≡ phase_of t o.steps
    same = f.kept.phases t none

    op_own : (op : Op) (v : Refusal) → cause_place v < 8 → StandsAgainst a.rows a.mark a.steps t op v → StandsAgainst o.rows o.mark o.steps t op v
    op_own op NoSuchTransaction lt e = sym same ∙ e
    op_own op Ended lt e = ap is_ended (sym same) ∙ e
    op_own op NotActive lt e = ap is_preparing (sym same) ∙ e
    op_own op BadTable lt e = e
    op_own op DataTooLong lt e = e
    op_own op TooManyReads lt e = ap (λ ts. is_entry_too_many ts (entry_of op)) (sym (f.kept.histories t)) ∙ e
    op_own op TooManyWrites lt e = subst (λ ts. IsWriteTooMany ts op) (f.kept.histories t) e
    op_own op (WriteConflict c) lt e = absurd (omega (arith, lt))
    op_own op v lt e = e

    precommit_own : (v : Refusal) → CauseStands a.rows a.mark a.steps (Precommit t) v → CauseStands o.rows o.mark o.steps (Precommit t) v
    precommit_own NoSuchTransaction e = sym same ∙ e
    precommit_own Ended e = ap is_ended (sym same) ∙ e
    precommit_own NotActive e = ap is_preparing (sym same) ∙ e
    precommit_own ClockSpent e = subst (λ (c : ℕ). MAX_STAMP ≤ c) same_draws e
    precommit_own v e = e

    validate_own : (v : Refusal) → cause_place v < 4 → CauseStands a.rows a.mark a.steps (Validate t) v → CauseStands o.rows o.mark o.steps (Validate t) v
    validate_own NoSuchTransaction lt e = sym same ∙ e
    validate_own Ended lt e = ap is_ended (sym same) ∙ e
    validate_own NotPreparing lt e = sym same ∙ e
    validate_own (ValidationFailed n) lt e = absurd (omega (arith, lt))
    validate_own v lt e = e

    settle_own : (v : Refusal) → cause_place v < 4 → CauseStands a.rows a.mark a.steps (Settle t) v → CauseStands o.rows o.mark o.steps (Settle t) v
    settle_own NoSuchTransaction lt e = sym same ∙ e
    settle_own Ended lt e = ap is_ended (sym same) ∙ e
    settle_own NotPreparing lt e = sym same ∙ e
    settle_own NotValidated lt e = absurd (omega (arith, lt))
    settle_own v lt e = e

    rollback_own : (v : Refusal) → CauseStands a.rows a.mark a.steps (Rollback t) v → CauseStands o.rows o.mark o.steps (Rollback t) v
    rollback_own NoSuchTransaction e = sym same ∙ e
    rollback_own Ended e = ap is_ended (sym same) ∙ e
    rollback_own v e = e

    finish_own : (v : Refusal) → CauseStands a.rows a.mark a.steps (Finish t) v → CauseStands o.rows o.mark o.steps (Finish t) v
    finish_own NoSuchTransaction e = sym same ∙ e
    finish_own NotEnded e = ap (λ (p : Phase). is_active p || is_preparing p) (sym same) ∙ e
    finish_own v e = e

  -- where the last cause of a list stands, and that memory is wanting
  op_last : (t : ℕ) (op : Op) (r : Refusal) → IsJustRefusal a.rows a.mark a.steps (Do t op) r → (cause_place r ≤ 8) ⊎ (r ≡ OutOfMemory)
  op_last t op NoSuchTransaction j = inl (omega arith)
  op_last t op Ended j = inl (omega arith)
  op_last t op NotActive j = inl (omega arith)
  op_last t op (DependencyAborted x) j = inl (omega arith)
  op_last t op BadTable j = inl (omega arith)
  op_last t op DataTooLong j = inl (omega arith)
  op_last t op TooManyReads j = inl (omega arith)
  op_last t op TooManyWrites j = inl (omega arith)
  op_last t op (WriteConflict c) j = inl (omega arith)
  op_last t op OutOfMemory j = inr refl
  op_last t op r j = absurd j

  validate_last : (t : ℕ) (r : Refusal) → IsJustRefusal a.rows a.mark a.steps (Validate t) r → (cause_place r ≤ 4) ⊎ (r ≡ OutOfMemory)
  validate_last t NoSuchTransaction j = inl (omega arith)
  validate_last t Ended j = inl (omega arith)
  validate_last t NotPreparing j = inl (omega arith)
  validate_last t (DependencyAborted x) j = inl (omega arith)
  validate_last t (ValidationFailed n) j = inl (omega arith)
  validate_last t OutOfMemory j = inr refl
  validate_last t r j = absurd j

  settle_last : (t : ℕ) (r : Refusal) → IsJustRefusal a.rows a.mark a.steps (Settle t) r → (cause_place r ≤ 4) ⊎ (r ≡ OutOfMemory)
  settle_last t NoSuchTransaction j = inl (omega arith)
  settle_last t Ended j = inl (omega arith)
  settle_last t NotPreparing j = inl (omega arith)
  settle_last t (DependencyAborted x) j = inl (omega arith)
  settle_last t NotValidated j = inl (omega arith)
  settle_last t OutOfMemory j = inr refl
  settle_last t r j = absurd j

  abbrev FirstIn : Course → Call → Refusal → Type 0
  FirstIn c call r = NoneBefore false c call (Refused r)

  -- up to a place, or where memory is wanting
  up_to : (call : Call) (r : Refusal) (n : ℕ) → IsJustRefusal a.rows a.mark a.steps call r → (cause_place r ≤ n) ⊎ (r ≡ OutOfMemory) → ((v : Refusal) → cause_place v < n → CauseStands a.rows a.mark a.steps call v → CauseStands o.rows o.mark o.steps call v) → FirstIn o call r → FirstIn a call r
  up_to call r n j (inl le) own first = λ v lt e. first v lt (own v (omega (arith, lt, le)) e)
  up_to call r n j (inr is) own first = λ v lt e. (subst (IsJustRefusal a.rows a.mark a.steps call) is j) v e

  other_first : (call : Call) (r : Refusal) → stage_named w.readers (id_named call) ≡ None → IsJustified a.rows a.mark a.steps call (Refused r) → FirstIn o call r → FirstIn a call r
  other_first Begin r n j first = λ v lt e. first v lt (begin_own v e)
  other_first (Do t op) r n j first = up_to (Do t op) r 8 j (op_last t op r j) (op_own t n op) first
  other_first (Precommit t) r n j first = λ v lt e. first v lt (precommit_own t n v e)
  other_first (Validate t) r n j first = up_to (Validate t) r 4 j (validate_last t r j) (validate_own t n) first
  other_first (Settle t) r n j first = up_to (Settle t) r 4 j (settle_last t r j) (settle_own t n) first
  other_first (Rollback t) r n j first = λ v lt e. first v lt (rollback_own t n v e)
  other_first (Finish t) r n j first = λ v lt e. first v lt (finish_own t n v e)
  other_first (Trim m) r n j first = λ v lt e. e
  other_first (Close fits g full) r n j first = λ v lt e. e

  pub other_before : (call : Call) (r : Result) → stage_named w.readers (id_named call) ≡ None → MayCome w.core call r → IsJustified a.rows a.mark a.steps call r → NoneBefore false a call r
  other_before call Accepted n m j = tt
  other_before call (Refused r) n m j = other_first call r n j (first_cause_stands o w.core f.kept.kept f.counts.core call (Refused r) m (justified o.rows o.mark o.steps w.core call (Refused r) f.kept.kept f.counts.core m))

  -- ---- of a read-only one
  module _ (t : ℕ) (p : ReaderStage) (e : stage_of t w.readers ≡ Some p) where
    abbrev s : State
    s = w.core

    here : phase_of t a.steps ≡ phase_at_stage t p
    here = (core_stands a.steps o.steps s t w.readers p e f.kept.readers).1

    not_absent : phase_of t a.steps ≡ Absent → ⊥
    not_absent i = never_absent t p (sym here ∙ i)

    not_ended : is_ended (phase_at_stage t p) ≡ false → is_ended (phase_of t a.steps) ≡ true → ⊥
    not_ended x i = true≢false (sym i ∙ ap is_ended here ∙ x)

    not_preparing : is_preparing (phase_at_stage t p) ≡ false → is_preparing (phase_of t a.steps) ≡ true → ⊥
    not_preparing x i = true≢false (sym i ∙ ap is_preparing here ∙ x)

    not_active : is_active (phase_at_stage t p) ≡ false → phase_of t a.steps ≡ IsActive → ⊥
    not_active x i = true≢false (sym (ap is_active i) ∙ ap is_active here ∙ x)

    -- no cause at a place below n stands
    abbrev Below : Call → ℕ → Type 0
    Below call n = (v : Refusal) → cause_place v < n → ReaderCauseStands a.steps call v → ⊥

    abbrev Safe : Call → Refusal → Type 0
    Safe call r = Below call (cause_place r)

    -- what is known where one's Ended, one's NotActive and a read's table were passed
    abbrev Looks : Op → Type 0
    Looks op = (asks_to_write op ≡ true → ⊥) × (MAX_TABLE < table_asked op → ⊥)

    op_below : (op : Op) (n : ℕ) → n ≤ 6 → If 1 n (is_ended (phase_of t a.steps) ≡ true → ⊥) → If 2 n (is_preparing (phase_of t a.steps) ≡ true → ⊥) → If 4 n (Looks op) → Below (Do t op) n
    op_below op n le f1 f2 f4 NoSuchTransaction lt i = not_absent i
    op_below op n le f1 f2 f4 Ended lt i = known (is_ended (phase_of t a.steps) ≡ true → ⊥) 1 n lt f1 i
    op_below op n le f1 f2 f4 NotActive lt i = known (is_preparing (phase_of t a.steps) ≡ true → ⊥) 2 n lt f2 i
    op_below op n le f1 f2 f4 ReadOnly lt i = (known (Looks op) 4 n lt f4).0 i
    op_below op n le f1 f2 f4 BadTable lt i = (known (Looks op) 4 n lt f4).1 i.1
    op_below op n le f1 f2 f4 TooManyReads lt i = omega (arith, lt, le)
    op_below op n le f1 f2 f4 v lt i = i

    precommit_below : (n : ℕ) → If 1 n (is_ended (phase_of t a.steps) ≡ true → ⊥) → If 2 n (is_preparing (phase_of t a.steps) ≡ true → ⊥) → Below (Precommit t) n
    precommit_below n f1 f2 NoSuchTransaction lt i = not_absent i
    precommit_below n f1 f2 Ended lt i = known (is_ended (phase_of t a.steps) ≡ true → ⊥) 1 n lt f1 i
    precommit_below n f1 f2 NotActive lt i = known (is_preparing (phase_of t a.steps) ≡ true → ⊥) 2 n lt f2 i
    precommit_below n f1 f2 v lt i = i

    validate_below : (n : ℕ) → If 1 n (is_ended (phase_of t a.steps) ≡ true → ⊥) → If 2 n (phase_of t a.steps ≡ IsActive → ⊥) → Below (Validate t) n
    validate_below n f1 f2 NoSuchTransaction lt i = not_absent i
    validate_below n f1 f2 Ended lt i = known (is_ended (phase_of t a.steps) ≡ true → ⊥) 1 n lt f1 i
    validate_below n f1 f2 NotPreparing lt i = known (phase_of t a.steps ≡ IsActive → ⊥) 2 n lt f2 i
    validate_below n f1 f2 v lt i = i

    settle_below : (n : ℕ) → n ≤ 4 → If 1 n (is_ended (phase_of t a.steps) ≡ true → ⊥) → If 2 n (phase_of t a.steps ≡ IsActive → ⊥) → Below (Settle t) n
    settle_below n le f1 f2 NoSuchTransaction lt i = not_absent i
    settle_below n le f1 f2 Ended lt i = known (is_ended (phase_of t a.steps) ≡ true → ⊥) 1 n lt f1 i
    settle_below n le f1 f2 NotPreparing lt i = known (phase_of t a.steps ≡ IsActive → ⊥) 2 n lt f2 i
    settle_below n le f1 f2 NotValidated lt i = omega (arith, lt, le)
    settle_below n le f1 f2 v lt i = i

    -- along the causes that come first
    at_reading : (call : Call) (r : Refusal) (rest : List (Option Refusal)) → Below call 1 → (is_ended (phase_at_stage t p) ≡ false → Below call 2) → (is_ended (phase_at_stage t p) ≡ false → is_preparing (phase_at_stage t p) ≡ false → Below call 3)
        → (is_ended (phase_at_stage t p) ≡ false → is_preparing (phase_at_stage t p) ≡ false → IsFirst rest r → Safe call r) → IsFirst (unless_reading s t p ++ rest) r → Safe call r
    at_reading call r rest b1 b2 b3 last first =
        at_when (Safe call) (is_ended (phase_at_stage t p)) Ended r (when (is_preparing (phase_at_stage t p)) NotActive ∷ flagged (flag_of_reader s t) ∷ rest) (λ _. b1) (λ x.
        at_when (Safe call) (is_preparing (phase_at_stage t p)) NotActive r (flagged (flag_of_reader s t) ∷ rest) (λ _. b2 x) (λ y.
        at_flag (Safe call) (flag_of_reader s t) r rest (λ z i. b3 x y) (λ _. last x y))) first

    at_prepared : (call : Call) (r : Refusal) (rest : List (Option Refusal)) → Below call 1 → (is_ended (phase_at_stage t p) ≡ false → Below call 2) → (is_ended (phase_at_stage t p) ≡ false → is_active (phase_at_stage t p) ≡ false → Below call 3)
        → (is_ended (phase_at_stage t p) ≡ false → is_active (phase_at_stage t p) ≡ false → IsFirst rest r → Safe call r) → IsFirst (unless_prepared s t p ++ rest) r → Safe call r
    at_prepared call r rest b1 b2 b3 last first =
        at_when (Safe call) (is_ended (phase_at_stage t p)) Ended r (when (is_active (phase_at_stage t p)) NotPreparing ∷ flagged (flag_of_reader s t) ∷ rest) (λ _. b1) (λ x.
        at_when (Safe call) (is_active (phase_at_stage t p)) NotPreparing r (flagged (flag_of_reader s t) ∷ rest) (λ _. b2 x) (λ y.
        at_flag (Safe call) (flag_of_reader s t) r rest (λ z i. b3 x y) (λ _. last x y))) first

    -- an operation
    passed : (op : Op) (n : ℕ) → n ≤ 4 → is_ended (phase_at_stage t p) ≡ false → is_preparing (phase_at_stage t p) ≡ false → Below (Do t op) n
    passed op n le x y = λ v lt i. op_below op 4 (omega arith) (not_ended x) (not_preparing y) tt v (omega (arith, lt, le)) i

    looked : (op : Op) (table : ℕ) (many : Bool) (r : Refusal) → asks_to_write op ≡ false → table_asked op ≡ table → is_ended (phase_at_stage t p) ≡ false → is_preparing (phase_at_stage t p) ≡ false → IsFirst (when (nat_lt MAX_TABLE table) BadTable ∷ when many TooManyReads ∷ []) r → Safe (Do t op) r
    looked op table many r reads is x y first =
        at_when (Safe (Do t op)) (nat_lt MAX_TABLE table) BadTable r (when many TooManyReads ∷ []) (λ _. passed op 4 (omega arith) x y) (λ z.
        at_when (Safe (Do t op)) many TooManyReads r [] (λ _. op_below op 6 (omega arith) (not_ended x) (not_preparing y) ((λ i. true≢false (sym i ∙ reads)), (λ i. not_above MAX_TABLE table z (subst (λ (n : ℕ). MAX_TABLE < n) is i)))) (λ _. at_end (Safe (Do t op)) r)) first

    writes : (op : Op) (r : Refusal) → is_ended (phase_at_stage t p) ≡ false → is_preparing (phase_at_stage t p) ≡ false → IsFirst (Some ReadOnly ∷ []) r → Safe (Do t op) r
    writes op r x y first = elim first.is [
      | inl i ↦ subst (Safe (Do t op)) (some_is ReadOnly r i) (passed op 4 (omega arith) x y)
      | inr i ↦ absurd i.1
    ]

    behind : (op : Op) (r : Refusal) → is_ended (phase_at_stage t p) ≡ false → is_preparing (phase_at_stage t p) ≡ false → IsFirst (unless_read_only s t op) r → Safe (Do t op) r
    behind (Read j) r x y first = looked (Read j) j.table (is_entry_too_many (history_of_active t s.active) (Key j)) r refl refl x y first
    behind (Scan table lo hi) r x y first = looked (Scan table lo hi) table (is_entry_too_many (history_of_active t s.active) (Range table lo hi)) r refl refl x y first
    behind (Insert row) r x y first = writes (Insert row) r x y first
    behind (Update row) r x y first = writes (Update row) r x y first
    behind (Delete j) r x y first = writes (Delete j) r x y first

    op_safe : (op : Op) (r : Refusal) → why_not_reader s p (Do t op) ≡ Some r → Safe (Do t op) r
    op_safe op r i = at_reading (Do t op) r (unless_read_only s t op) (op_below op 1 (omega arith) tt tt tt) (λ x. op_below op 2 (omega arith) (not_ended x) tt tt) (λ x y. passed op 3 (omega arith) x y) (behind op r)
        (first_is (unless_reading s t p ++ unless_read_only s t op) r i)

    precommit_safe : (r : Refusal) → why_not_reader s p (Precommit t) ≡ Some r → Safe (Precommit t) r
    precommit_safe r i = at_reading (Precommit t) r [] (precommit_below 1 tt tt) (λ x. precommit_below 2 (not_ended x) tt) (λ x y. precommit_below 3 (not_ended x) (not_preparing y)) (λ x y. at_end (Safe (Precommit t)) r) (first_is (unless_reading s t p) r i)

    validate_safe : (r : Refusal) → why_not_reader s p (Validate t) ≡ Some r → Safe (Validate t) r
    validate_safe r i = at_prepared (Validate t) r [] (validate_below 1 tt tt) (λ x. validate_below 2 (not_ended x) tt) (λ x y. validate_below 3 (not_ended x) (not_active y)) (λ x y. at_end (Safe (Validate t)) r) (first_is (unless_prepared s t p) r i)

    settle_safe : (r : Refusal) → why_not_reader s p (Settle t) ≡ Some r → Safe (Settle t) r
    settle_safe r i = at_prepared (Settle t) r (when (not (is_valid_stage p)) NotValidated ∷ []) (settle_below 1 (omega arith) tt tt) (λ x. settle_below 2 (omega arith) (not_ended x) tt) (λ x y. settle_below 3 (omega arith) (not_ended x) (not_active y))
        (λ x y. at_when (Safe (Settle t)) (not (is_valid_stage p)) NotValidated r [] (λ _. settle_below 4 (omega arith) (not_ended x) (not_active y)) (λ _. at_end (Safe (Settle t)) r))
        (first_is (unless_prepared s t p ++ when (not (is_valid_stage p)) NotValidated ∷ []) r i)

    -- a rollback and a finishing have two causes alone
    rollback_safe : (r : Refusal) → IsJustReaderRefusal a.rows a.steps (Rollback t) r → Safe (Rollback t) r
    rollback_safe r j NoSuchTransaction lt i = not_absent i
    rollback_safe r j Ended lt i = let le = rollback_last r j in omega (arith, lt, le)
      where
        rollback_last : (v : Refusal) → IsJustReaderRefusal a.rows a.steps (Rollback t) v → cause_place v ≤ 1
        rollback_last NoSuchTransaction k = omega arith
        rollback_last Ended k = omega arith
        rollback_last v k = absurd k
    rollback_safe r j v lt i = i

    finish_safe : (r : Refusal) → IsJustReaderRefusal a.rows a.steps (Finish t) r → Safe (Finish t) r
    finish_safe r j NoSuchTransaction lt i = not_absent i
    finish_safe r j NotEnded lt i = let le = finish_last r j in omega (arith, lt, le)
      where
        finish_last : (v : Refusal) → IsJustReaderRefusal a.rows a.steps (Finish t) v → cause_place v ≤ 2
        finish_last NoSuchTransaction k = omega arith
        finish_last NotEnded k = omega arith
        finish_last v k = absurd k
    finish_safe r j v lt i = i

    -- where an operation is refused memory none stands
    no_memory : (op : Op) (r : Refusal) → r ≡ OutOfMemory → IsJustReaderRefusal a.rows a.steps (Do t op) r → Safe (Do t op) r
    no_memory op r is j = λ v lt i. (subst (IsJustReaderRefusal a.rows a.steps (Do t op)) is j) v i

    op_refused : (op : Op) (r : Refusal) → (v : Option Refusal) → why_not_reader s p (Do t op) ≡ v → IsRefusal true v r → IsJustReaderRefusal a.rows a.steps (Do t op) r → Safe (Do t op) r
    op_refused op r (Some why) i m j = subst (Safe (Do t op)) (sym m) (op_safe op why i)
    op_refused op r None i m j = no_memory op r m j

  reader_refused : (call : Call) (r : Refusal) (p : ReaderStage) → stage_named w.readers (id_named call) ≡ Some p → MayComeAtStage w call (Some p) (Refused r) → IsJustReaderRefusal a.rows a.steps call r → NoneBefore true a call (Refused r)
  reader_refused Begin r p e m j = absurd (no_stage p e)
  reader_refused (Trim k) r p e m j = absurd (no_stage p e)
  reader_refused (Close fits k full) r p e m j = absurd (no_stage p e)
  reader_refused (Do t op) r p e m j = op_refused t p e op r (why_not_reader w.core p (Do t op)) refl m j
  reader_refused (Precommit t) r p e m j = by_cause (why_not_reader w.core p (Precommit t)) r (λ v. NoneBefore true a (Precommit t) (Refused v)) m (precommit_safe t p e)
  reader_refused (Validate t) r p e m j = by_cause (why_not_reader w.core p (Validate t)) r (λ v. NoneBefore true a (Validate t) (Refused v)) m (validate_safe t p e)
  reader_refused (Settle t) r p e m j = by_cause (why_not_reader w.core p (Settle t)) r (λ v. NoneBefore true a (Settle t) (Refused v)) m (settle_safe t p e)
  reader_refused (Rollback t) r p e m j = rollback_safe t p e r j
  reader_refused (Finish t) r p e m j = finish_safe t p e r j

  pub reader_before : (call : Call) (r : Result) (p : ReaderStage) → stage_named w.readers (id_named call) ≡ Some p → MayComeAtStage w call (Some p) r → IsReaderJustified a.rows a.steps call r → NoneBefore true a call r
  reader_before call Accepted p e m j = tt
  reader_before call (Refused r) p e m j = reader_refused call r p e m j
