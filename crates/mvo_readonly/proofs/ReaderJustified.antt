-- Each answer or refusal of a call of a read-only transaction is justified by the whole trace.
use Rattle.std.proofs.Common.{◌≡◌, ℕ, Bool, true, false, not, ◌||◌, inl, inr, List, [], ◌∷◌, ◌++◌, Option, None, Some, refl, sym, ap, ◌∙◌, subst}
use Rattle.std.specs.Prelude.{nat_lt}
use Rattle.std.specs.List.{AllByRecursion}
use Rattle.std.proofs.lemmas.Bool.{true≢false, false≢true, ltb-true, lt-ltb, not-true}
use Rattle.mvo_types.specs.declared.limits.TheConstants.{MAX_TABLE}
use Rattle.mvo_types.specs.declared.op.Op.{Op}
use Rattle.mvo_types.specs.declared.op.Op.TheVariants.{Read, Scan, Insert, Update, Delete}
use Rattle.mvo_types.specs.declared.entry.Entry.TheVariants.{Key, Range}
use Rattle.mvo_types.specs.declared.refusal.Refusal.{Refusal}
use Rattle.mvo_types.specs.declared.refusal.Refusal.TheVariants.{NoSuchTransaction, Ended, NotActive, NotPreparing, NotValidated, NotEnded, DependencyAborted, TooManyReads, BadTable, ReadOnly, OutOfMemory}
use Rattle.mvo_types.specs.Causes.{first_cause, when}
use Rattle.mvo_types.specs.Keys.{Map}
use Rattle.mvo_model.specs.Trace.{Step, Phase, history_of, phase_of}
use Rattle.mvo_model.specs.Trace.Phase.{Absent, Active as IsActive, Preparing as IsPreparing, Committed as IsCommitted, Aborted as IsAborted}
use Rattle.mvo_theory.specs.Entries.{entry_of}
use Rattle.mvo_theory.specs.State.{State, ActiveTx, active_of, history_of_active}
use Rattle.mvo_theory.specs.Phases.{is_absent, is_active, is_preparing, is_ended}
use Rattle.mvo_theory.specs.Causes.{flagged, flag_of_active, is_entry_too_many, why_not_rollback, why_not_finish}
use Rattle.mvo_theory.specs.Traced.{HasAbortedDependency}
use Rattle.mvo_theory.specs.Calls.{Call, Result, IsRefusal}
use Rattle.mvo_theory.specs.Calls.Call.{Begin, Do, Precommit, Validate, Settle, Rollback, Finish, Trim, Close}
use Rattle.mvo_theory.specs.Calls.Result.{Accepted, Refused}
use Rattle.mvo_theory.specs.Counts.{is_validated}
use Rattle.mvo_theory.specs.Justified.{table_asked}
use Rattle.mvo_theory.proofs.Conflicting.{told_so}
use Rattle.mvo_theory.proofs.Firsts.{IsFirst, first_is, none_is, when_none, when_some, flagged_some}
use Rattle.mvo_theory.proofs.Named.{flagged_active}
use Rattle.mvo_readonly.specs.Whole.{ReaderStage, WholeState, stage_of, phase_at_stage, id_named, stage_named}
use Rattle.mvo_readonly.specs.Whole.ReaderStage.{Reading, Preparing, Committed, Aborted}
use Rattle.mvo_readonly.specs.WholeCauses.{flag_of_reader, unless_reading, unless_prepared, unless_read_only, is_valid_stage, why_not_reader, MayComeAtStage}
use Rattle.mvo_readonly.specs.WholeKept.{core_phase, IsWholeKept}
use Rattle.mvo_readonly.specs.BothTraces.{IsMatched, IsRemembered}
use Rattle.mvo_readonly.specs.WholeCounts.{HasStageChecks}
use Rattle.mvo_readonly.specs.WholeJustified.{asks_to_write, ReaderStandsAgainst, ReaderCauseStands, NoReaderCauseStands, IsJustReaderRefusal, IsReaderJustified}
use Rattle.mvo_readonly.proofs.Stages.{core_stands, found_active}
use Rattle.mvo_readonly.proofs.ReaderCalls.{in_core}
use Rattle.mvo_readonly.proofs.WholeCounts.{at_stage}
use Rattle.mvo_readonly.proofs.Flags.{flag_whole}

some_is : (a b : Refusal) → ◌≡◌ {A = Option Refusal} (Some a) (Some b) → a ≡ b
some_is a b e = cc

some_none : (a : Refusal) → ◌≡◌ {A = Option Refusal} (Some a) None → ⊥
some_none a e = cc

none_some : (a : Refusal) → ◌≡◌ {A = Option Refusal} None (Some a) → ⊥
none_some a e = cc

no_flag : (d : Option ℕ) → flagged d ≡ None → d ≡ None
no_flag None e = refl
no_flag (Some x) e = absurd cc

not_false : (b : Bool) → not b ≡ false → b ≡ true
not_false true e = refl
not_false false e = absurd (true≢false e)

-- along a list of causes
pub at_when : (P : Refusal → Type 0) (b : Bool) (v r : Refusal) (next : List (Option Refusal)) → (b ≡ true → P v) → (b ≡ false → IsFirst next r → P r) → IsFirst (when b v ∷ next) r → P r
at_when P b v r next f k first = elim first.is [
  | inl e ↦ let i = when_some b v r e in subst P (sym i.1) (f i.0)
  | inr i ↦ k (when_none b v i.0) (record { is = i.1 })
]

pub at_flag : (P : Refusal → Type 0) (d : Option ℕ) (r : Refusal) (next : List (Option Refusal)) → ((x : ℕ) → d ≡ Some x → P (DependencyAborted (record { 0 = x }))) → (d ≡ None → IsFirst next r → P r) → IsFirst (flagged d ∷ next) r → P r
at_flag P d r next f k first = elim first.is [
  | inl e ↦ let i = flagged_some d r e in subst P (sym i.2) (f i.0 i.1)
  | inr i ↦ k (no_flag d i.0) (record { is = i.1 })
]

pub at_end : (P : Refusal → Type 0) (r : Refusal) → IsFirst [] r → P r
at_end P r first = absurd first.is

-- the only stage of one that is neither ended nor Preparing, and of one that is neither ended nor Active
pub reads_alone : (t : ℕ) (p : ReaderStage) → is_ended (phase_at_stage t p) ≡ false → is_preparing (phase_at_stage t p) ≡ false → p ≡ Reading
reads_alone t Reading e f = refl
reads_alone t (Preparing n v) e f = absurd (true≢false f)
reads_alone t Committed e f = absurd (true≢false e)
reads_alone t Aborted e f = absurd (true≢false e)

never_absent : (t : ℕ) (p : ReaderStage) → phase_at_stage t p ≡ Absent → ⊥
never_absent t Reading e = absurd cc
never_absent t (Preparing n v) e = absurd cc
never_absent t Committed e = absurd cc
never_absent t Aborted e = absurd cc

only_active : (f : Phase) → is_active f ≡ true → f ≡ IsActive
only_active IsActive e = refl
only_active Absent e = absurd (false≢true e)
only_active (IsPreparing n) e = absurd (false≢true e)
only_active (IsCommitted n) e = absurd (false≢true e)
only_active IsAborted e = absurd (false≢true e)

module _ (opening : Map) (ws xs : List Step) (w : WholeState) (h : IsWholeKept opening ws xs w) (m : IsRemembered opening ws xs) (k : IsMatched ws xs w) (c : AllByRecursion (λ r. HasStageChecks ws r.id r.stage) w.readers) (t : ℕ) (p : ReaderStage) (o : stage_of t w.readers ≡ Some p) where
  abbrev s : State
  s = w.core

  here : phase_of t ws ≡ phase_at_stage t p
  here = (core_stands ws xs s t w.readers p o h.readers).1

  not_absent : phase_of t ws ≡ Absent → ⊥
  not_absent e = never_absent t p (sym here ∙ e)

  not_ended : is_ended (phase_at_stage t p) ≡ false → is_ended (phase_of t ws) ≡ true → ⊥
  not_ended f e = true≢false (sym e ∙ ap is_ended here ∙ f)

  not_preparing_now : is_preparing (phase_at_stage t p) ≡ false → is_preparing (phase_of t ws) ≡ true → ⊥
  not_preparing_now f e = true≢false (sym e ∙ ap is_preparing here ∙ f)

  not_active_now : is_active (phase_at_stage t p) ≡ false → phase_of t ws ≡ IsActive → ⊥
  not_active_now f e = true≢false (sym (ap is_active e) ∙ ap is_active here ∙ f)

  flag_stands : (x : ℕ) → flag_of_reader s t ≡ Some x → HasAbortedDependency opening ws t x
  flag_stands x e = go (active_of t s.active) refl e
    where
      go : (a : Option ActiveTx) → active_of t s.active ≡ a → flag_of_active a ≡ Some x → HasAbortedDependency opening ws t x
      go None f q = absurd cc
      go (Some r) f q = flag_whole opening ws xs w t x m k (flagged_active opening xs s t x r f q h.kept)

  told : is_ended (phase_at_stage t p) ≡ false → is_preparing (phase_at_stage t p) ≡ false → history_of_active t s.active ≡ history_of t ws
  told e f =
      let i = in_core opening ws xs w t p o h ∙ ap core_phase (reads_alone t p e f) in
      let r = found_active s t i in
      told_so opening xs s t r.0 r.1 h.kept ∙ sym (h.histories t)

  -- ---- an operation
  abbrev Just : Call → Refusal → Type 0
  Just d r = IsJustReaderRefusal opening ws d r

  abbrev AllNone : List (Option Refusal) → Type 0
  AllNone cs = AllByRecursion (λ d. d ≡ None) cs

  at_reading : (P : Refusal → Type 0) (r : Refusal) (rest : List (Option Refusal)) → (is_ended (phase_of t ws) ≡ true → P Ended) → (is_preparing (phase_of t ws) ≡ true → P NotActive) → ((x : ℕ) → HasAbortedDependency opening ws t x → P (DependencyAborted (record { 0 = x })))
      → (is_ended (phase_at_stage t p) ≡ false → is_preparing (phase_at_stage t p) ≡ false → IsFirst rest r → P r) → IsFirst (unless_reading s t p ++ rest) r → P r
  at_reading P r rest f g d l first =
      at_when P (is_ended (phase_at_stage t p)) Ended r (when (is_preparing (phase_at_stage t p)) NotActive ∷ flagged (flag_of_reader s t) ∷ rest) (λ e. f (ap is_ended here ∙ e)) (λ a.
      at_when P (is_preparing (phase_at_stage t p)) NotActive r (flagged (flag_of_reader s t) ∷ rest) (λ e. g (ap is_preparing here ∙ e)) (λ b.
      at_flag P (flag_of_reader s t) r rest (λ x e. d x (flag_stands x e)) (λ _. l a b))) first

  at_prepared : (P : Refusal → Type 0) (r : Refusal) (rest : List (Option Refusal)) → (is_ended (phase_of t ws) ≡ true → P Ended) → (phase_of t ws ≡ IsActive → P NotPreparing) → ((x : ℕ) → HasAbortedDependency opening ws t x → P (DependencyAborted (record { 0 = x })))
      → (is_ended (phase_at_stage t p) ≡ false → is_active (phase_at_stage t p) ≡ false → IsFirst rest r → P r) → IsFirst (unless_prepared s t p ++ rest) r → P r
  at_prepared P r rest f g d l first =
      at_when P (is_ended (phase_at_stage t p)) Ended r (when (is_active (phase_at_stage t p)) NotPreparing ∷ flagged (flag_of_reader s t) ∷ rest) (λ e. f (ap is_ended here ∙ e)) (λ a.
      at_when P (is_active (phase_at_stage t p)) NotPreparing r (flagged (flag_of_reader s t) ∷ rest) (λ e. g (here ∙ only_active (phase_at_stage t p) e)) (λ b.
      at_flag P (flag_of_reader s t) r rest (λ x e. d x (flag_stands x e)) (λ _. l a b))) first

  -- what stands behind those
  behind : (op : Op) (r : Refusal) → is_ended (phase_at_stage t p) ≡ false → is_preparing (phase_at_stage t p) ≡ false → IsFirst (unless_read_only s t op) r → Just (Do t op) r
  behind (Read j) r a b first =
      at_when (Just (Do t (Read j))) (nat_lt MAX_TABLE j.table) BadTable r (when (is_entry_too_many (history_of_active t s.active) (Key j)) TooManyReads ∷ []) (λ e. (refl, ltb-true MAX_TABLE j.table e)) (λ _.
      at_when (Just (Do t (Read j))) (is_entry_too_many (history_of_active t s.active) (Key j)) TooManyReads r [] (λ e. (refl, sym (ap (λ ts. is_entry_too_many ts (Key j)) (told a b)) ∙ e)) (λ _. at_end (Just (Do t (Read j))) r)) first
  behind (Scan table lo hi) r a b first =
      at_when (Just (Do t (Scan table lo hi))) (nat_lt MAX_TABLE table) BadTable r (when (is_entry_too_many (history_of_active t s.active) (Range table lo hi)) TooManyReads ∷ []) (λ e. (refl, ltb-true MAX_TABLE table e)) (λ _.
      at_when (Just (Do t (Scan table lo hi))) (is_entry_too_many (history_of_active t s.active) (Range table lo hi)) TooManyReads r [] (λ e. (refl, sym (ap (λ ts. is_entry_too_many ts (Range table lo hi)) (told a b)) ∙ e)) (λ _. at_end (Just (Do t (Scan table lo hi))) r)) first
  behind (Insert row) r a b first = writes (Do t (Insert row)) r first refl
    where
      writes : (d : Call) (v : Refusal) → IsFirst (Some ReadOnly ∷ []) v → Just d ReadOnly → Just d v
      writes d v i j = elim i.is [
        | inl e ↦ subst (Just d) (some_is ReadOnly v e) j
        | inr e ↦ absurd e.1
      ]
  behind (Update row) r a b first = writes (Do t (Update row)) r first refl
    where
      writes : (d : Call) (v : Refusal) → IsFirst (Some ReadOnly ∷ []) v → Just d ReadOnly → Just d v
      writes d v i j = elim i.is [
        | inl e ↦ subst (Just d) (some_is ReadOnly v e) j
        | inr e ↦ absurd e.1
      ]
  behind (Delete j) r a b first = writes (Do t (Delete j)) r first refl
    where
      writes : (d : Call) (v : Refusal) → IsFirst (Some ReadOnly ∷ []) v → Just d ReadOnly → Just d v
      writes d v i l = elim i.is [
        | inl e ↦ subst (Just d) (some_is ReadOnly v e) l
        | inr e ↦ absurd e.1
      ]

  operation_refused : (op : Op) (r : Refusal) → why_not_reader s p (Do t op) ≡ Some r → Just (Do t op) r
  operation_refused op r e = at_reading (Just (Do t op)) r (unless_read_only s t op) (λ i. i) (λ i. i) (λ x i. i) (behind op r) (first_is (unless_reading s t p ++ unless_read_only s t op) r e)

  -- an operation that isn't refused is a read or a scan
  looks : (op : Op) → is_ended (phase_at_stage t p) ≡ false → is_preparing (phase_at_stage t p) ≡ false → AllNone (unless_read_only s t op) → (asks_to_write op ≡ false) × (nat_lt MAX_TABLE (table_asked op) ≡ false) × (is_entry_too_many (history_of t ws) (entry_of op) ≡ false)
  looks (Read j) a b l = (refl, when_none (nat_lt MAX_TABLE j.table) BadTable l.0, sym (ap (λ ts. is_entry_too_many ts (Key j)) (told a b)) ∙ when_none (is_entry_too_many (history_of_active t s.active) (Key j)) TooManyReads l.1.0)
  looks (Scan table lo hi) a b l = (refl, when_none (nat_lt MAX_TABLE table) BadTable l.0, sym (ap (λ ts. is_entry_too_many ts (Range table lo hi)) (told a b)) ∙ when_none (is_entry_too_many (history_of_active t s.active) (Range table lo hi)) TooManyReads l.1.0)
  looks (Insert row) a b l = absurd (some_none ReadOnly l.0)
  looks (Update row) a b l = absurd (some_none ReadOnly l.0)
  looks (Delete j) a b l = absurd (some_none ReadOnly l.0)

  operation_free : (op : Op) → why_not_reader s p (Do t op) ≡ None → NoReaderCauseStands ws (Do t op)
  operation_free op e = go
    where
      all : AllNone (unless_reading s t p ++ unless_read_only s t op)
      all = none_is (unless_reading s t p ++ unless_read_only s t op) e

      ended : is_ended (phase_at_stage t p) ≡ false
      ended = when_none (is_ended (phase_at_stage t p)) Ended all.0

      preparing : is_preparing (phase_at_stage t p) ≡ false
      preparing = when_none (is_preparing (phase_at_stage t p)) NotActive all.1.0

      free_one : (asks_to_write op ≡ false) × (nat_lt MAX_TABLE (table_asked op) ≡ false) × (is_entry_too_many (history_of t ws) (entry_of op) ≡ false)
      free_one = looks op ended preparing all.1.1.1

      go : (r : Refusal) → ReaderStandsAgainst ws t op r → ⊥
      go NoSuchTransaction i = not_absent i
      go Ended i = not_ended ended i
      go NotActive i = not_preparing_now preparing i
      go ReadOnly i = true≢false (sym i ∙ free_one.0)
      go BadTable i = true≢false (sym (lt-ltb MAX_TABLE (table_asked op) i.1) ∙ free_one.1)
      go TooManyReads i = true≢false (sym i.1 ∙ free_one.2)
      go r i = i

  -- ---- precommit, a check, a settling
  precommit_refused : (r : Refusal) → why_not_reader s p (Precommit t) ≡ Some r → Just (Precommit t) r
  precommit_refused r e = at_reading (Just (Precommit t)) r [] (λ i. i) (λ i. i) (λ x i. i) (λ a b. at_end (Just (Precommit t)) r) (first_is (unless_reading s t p) r e)

  precommit_free : why_not_reader s p (Precommit t) ≡ None → NoReaderCauseStands ws (Precommit t)
  precommit_free e = go
    where
      all : AllNone (unless_reading s t p)
      all = none_is (unless_reading s t p) e

      go : (r : Refusal) → ReaderCauseStands ws (Precommit t) r → ⊥
      go NoSuchTransaction i = not_absent i
      go Ended i = not_ended (when_none (is_ended (phase_at_stage t p)) Ended all.0) i
      go NotActive i = not_preparing_now (when_none (is_preparing (phase_at_stage t p)) NotActive all.1.0) i
      go r i = i

  validate_refused : (r : Refusal) → why_not_reader s p (Validate t) ≡ Some r → Just (Validate t) r
  validate_refused r e = at_prepared (Just (Validate t)) r [] (λ i. i) (λ i. i) (λ x i. i) (λ a b. at_end (Just (Validate t)) r) (first_is (unless_prepared s t p) r e)

  validate_free : why_not_reader s p (Validate t) ≡ None → NoReaderCauseStands ws (Validate t)
  validate_free e = go
    where
      all : AllNone (unless_prepared s t p)
      all = none_is (unless_prepared s t p) e

      go : (r : Refusal) → ReaderCauseStands ws (Validate t) r → ⊥
      go NoSuchTransaction i = not_absent i
      go Ended i = not_ended (when_none (is_ended (phase_at_stage t p)) Ended all.0) i
      go NotPreparing i = not_active_now (when_none (is_active (phase_at_stage t p)) NotPreparing all.1.0) i
      go r i = i

  -- it is valid as often as the whole trace says
  valid_is : is_ended (phase_at_stage t p) ≡ false → is_active (phase_at_stage t p) ≡ false → is_validated t ws ≡ is_valid_stage p
  valid_is a b = go p o a b
    where
      go : (v : ReaderStage) → stage_of t w.readers ≡ Some v → is_ended (phase_at_stage t v) ≡ false → is_active (phase_at_stage t v) ≡ false → is_validated t ws ≡ is_valid_stage v
      go Reading i e f = absurd (true≢false f)
      go (Preparing j v) i e f = (at_stage opening ws xs w h c t (Preparing j v) i).valid
      go Committed i e f = absurd (true≢false e)
      go Aborted i e f = absurd (true≢false e)

  settle_refused : (r : Refusal) → why_not_reader s p (Settle t) ≡ Some r → Just (Settle t) r
  settle_refused r e = at_prepared (Just (Settle t)) r (when (not (is_valid_stage p)) NotValidated ∷ []) (λ i. i) (λ i. i) (λ x i. i)
      (λ a b. at_when (Just (Settle t)) (not (is_valid_stage p)) NotValidated r [] (λ i. valid_is a b ∙ not-true (is_valid_stage p) i) (λ _. at_end (Just (Settle t)) r))
      (first_is (unless_prepared s t p ++ when (not (is_valid_stage p)) NotValidated ∷ []) r e)

  settle_free : why_not_reader s p (Settle t) ≡ None → NoReaderCauseStands ws (Settle t)
  settle_free e = go
    where
      all : AllNone (unless_prepared s t p ++ when (not (is_valid_stage p)) NotValidated ∷ [])
      all = none_is (unless_prepared s t p ++ when (not (is_valid_stage p)) NotValidated ∷ []) e

      ended : is_ended (phase_at_stage t p) ≡ false
      ended = when_none (is_ended (phase_at_stage t p)) Ended all.0

      active : is_active (phase_at_stage t p) ≡ false
      active = when_none (is_active (phase_at_stage t p)) NotPreparing all.1.0

      go : (r : Refusal) → ReaderCauseStands ws (Settle t) r → ⊥
      go NoSuchTransaction i = not_absent i
      go Ended i = not_ended ended i
      go NotPreparing i = not_active_now active i
      go NotValidated i = true≢false (sym (not_false (is_valid_stage p) (when_none (not (is_valid_stage p)) NotValidated all.1.1.1.0)) ∙ sym (valid_is ended active) ∙ i)
      go r i = i

  -- ---- rollback and finishing: the core's own answer
  rollback_refused : (r : Refusal) → why_not_rollback s t ≡ Some r → Just (Rollback t) r
  rollback_refused r e = go p o
      (ap (λ (f : Phase). first_cause (when (is_absent f) NoSuchTransaction ∷ when (is_ended f) Ended ∷ [])) (sym (in_core opening ws xs w t p o h)) ∙ e)
    where
      go : (v : ReaderStage) → stage_of t w.readers ≡ Some v → first_cause (when (is_absent (core_phase v)) NoSuchTransaction ∷ when (is_ended (core_phase v)) Ended ∷ []) ≡ Some r → Just (Rollback t) r
      go Reading i f = absurd (none_some r f)
      go (Preparing j v) i f = absurd (none_some r f)
      go Committed i f = subst (Just (Rollback t)) (some_is Ended r f) (ap is_ended (core_stands ws xs s t w.readers Committed i h.readers).1)
      go Aborted i f = subst (Just (Rollback t)) (some_is Ended r f) (ap is_ended (core_stands ws xs s t w.readers Aborted i h.readers).1)

  rollback_free : why_not_rollback s t ≡ None → NoReaderCauseStands ws (Rollback t)
  rollback_free e = go
    where
      alive : (v : ReaderStage) → first_cause (when (is_absent (core_phase v)) NoSuchTransaction ∷ when (is_ended (core_phase v)) Ended ∷ []) ≡ None → is_ended (phase_at_stage t v) ≡ false
      alive Reading f = refl
      alive (Preparing j v) f = refl
      alive Committed f = absurd (some_none Ended f)
      alive Aborted f = absurd (some_none Ended f)

      go : (r : Refusal) → ReaderCauseStands ws (Rollback t) r → ⊥
      go NoSuchTransaction i = not_absent i
      go Ended i = not_ended (alive p (ap (λ (f : Phase). first_cause (when (is_absent f) NoSuchTransaction ∷ when (is_ended f) Ended ∷ [])) (sym (in_core opening ws xs w t p o h)) ∙ e)) i
      go r i = i

  finish_refused : (r : Refusal) → why_not_finish s t ≡ Some r → Just (Finish t) r
  finish_refused r e = go p o
      (ap (λ (f : Phase). first_cause (when (is_absent f) NoSuchTransaction ∷ when (is_active f || is_preparing f) NotEnded ∷ [])) (sym (in_core opening ws xs w t p o h)) ∙ e)
    where
      go : (v : ReaderStage) → stage_of t w.readers ≡ Some v → first_cause (when (is_absent (core_phase v)) NoSuchTransaction ∷ when (is_active (core_phase v) || is_preparing (core_phase v)) NotEnded ∷ []) ≡ Some r → Just (Finish t) r
      go Reading i f = subst (Just (Finish t)) (some_is NotEnded r f) (ap (λ (u : Phase). is_active u || is_preparing u) (core_stands ws xs s t w.readers Reading i h.readers).1)
      go (Preparing j v) i f = subst (Just (Finish t)) (some_is NotEnded r f) (ap (λ (u : Phase). is_active u || is_preparing u) (core_stands ws xs s t w.readers (Preparing j v) i h.readers).1)
      go Committed i f = absurd (none_some r f)
      go Aborted i f = absurd (none_some r f)

  finish_free : why_not_finish s t ≡ None → NoReaderCauseStands ws (Finish t)
  finish_free e = go
    where
      gone : (v : ReaderStage) → first_cause (when (is_absent (core_phase v)) NoSuchTransaction ∷ when (is_active (core_phase v) || is_preparing (core_phase v)) NotEnded ∷ []) ≡ None → (is_active (phase_at_stage t v) || is_preparing (phase_at_stage t v)) ≡ false
      gone Reading f = absurd (some_none NotEnded f)
      gone (Preparing j v) f = absurd (some_none NotEnded f)
      gone Committed f = refl
      gone Aborted f = refl

      go : (r : Refusal) → ReaderCauseStands ws (Finish t) r → ⊥
      go NoSuchTransaction i = not_absent i
      go NotEnded i = true≢false (sym i ∙ ap (λ (u : Phase). is_active u || is_preparing u) here ∙ gone p (ap (λ (f : Phase). first_cause (when (is_absent f) NoSuchTransaction ∷ when (is_active f || is_preparing f) NotEnded ∷ [])) (sym (in_core opening ws xs w t p o h)) ∙ e))
      go r i = i

-- ---- each call of a read-only transaction
pub by_memory : (v : Option Refusal) (r : Refusal) (P : Refusal → Type 0) → IsRefusal true v r → ((q : Refusal) → v ≡ Some q → P q) → (v ≡ None → P OutOfMemory) → P r
by_memory (Some why) r P i f g = subst P (sym i) (f why refl)
by_memory None r P i f g = subst P (sym i) (g refl)

pub by_cause : (v : Option Refusal) (r : Refusal) (P : Refusal → Type 0) → IsRefusal false v r → ((q : Refusal) → v ≡ Some q → P q) → P r
by_cause (Some why) r P i f = subst P (sym i) (f why refl)
by_cause None r P i f = absurd i

no_stage : (p : ReaderStage) → ◌≡◌ {A = Option ReaderStage} None (Some p) → ⊥
no_stage p e = cc

pub reader_justified : (opening : Map) (ws xs : List Step) (w : WholeState) → IsWholeKept opening ws xs w → IsRemembered opening ws xs → IsMatched ws xs w → AllByRecursion (λ r. HasStageChecks ws r.id r.stage) w.readers → (c : Call) (r : Result) (p : ReaderStage) → stage_named w.readers (id_named c) ≡ Some p → MayComeAtStage w c (Some p) r → IsReaderJustified opening ws c r
reader_justified opening ws xs w h m k n Begin r p o i = absurd (no_stage p o)
reader_justified opening ws xs w h m k n (Trim j) r p o i = absurd (no_stage p o)
reader_justified opening ws xs w h m k n (Close fits j full) r p o i = absurd (no_stage p o)
reader_justified opening ws xs w h m k n (Do t op) Accepted p o i = operation_free opening ws xs w h m k n t p o op i.0
reader_justified opening ws xs w h m k n (Precommit t) Accepted p o i = precommit_free opening ws xs w h m k n t p o i.0
reader_justified opening ws xs w h m k n (Validate t) Accepted p o i = validate_free opening ws xs w h m k n t p o i.0
reader_justified opening ws xs w h m k n (Settle t) Accepted p o i = settle_free opening ws xs w h m k n t p o i.0
reader_justified opening ws xs w h m k n (Rollback t) Accepted p o i = rollback_free opening ws xs w h m k n t p o i.0
reader_justified opening ws xs w h m k n (Finish t) Accepted p o i = finish_free opening ws xs w h m k n t p o i.0
reader_justified opening ws xs w h m k n (Do t op) (Refused r) p o i = by_memory (why_not_reader w.core p (Do t op)) r (IsJustReaderRefusal opening ws (Do t op)) i (operation_refused opening ws xs w h m k n t p o op) (operation_free opening ws xs w h m k n t p o op)
reader_justified opening ws xs w h m k n (Precommit t) (Refused r) p o i = by_cause (why_not_reader w.core p (Precommit t)) r (IsJustReaderRefusal opening ws (Precommit t)) i (precommit_refused opening ws xs w h m k n t p o)
reader_justified opening ws xs w h m k n (Validate t) (Refused r) p o i = by_cause (why_not_reader w.core p (Validate t)) r (IsJustReaderRefusal opening ws (Validate t)) i (validate_refused opening ws xs w h m k n t p o)
reader_justified opening ws xs w h m k n (Settle t) (Refused r) p o i = by_cause (why_not_reader w.core p (Settle t)) r (IsJustReaderRefusal opening ws (Settle t)) i (settle_refused opening ws xs w h m k n t p o)
reader_justified opening ws xs w h m k n (Rollback t) (Refused r) p o i = by_cause (why_not_rollback w.core t) r (IsJustReaderRefusal opening ws (Rollback t)) i (rollback_refused opening ws xs w h m k n t p o)
reader_justified opening ws xs w h m k n (Finish t) (Refused r) p o i = by_cause (why_not_finish w.core t) r (IsJustReaderRefusal opening ws (Finish t)) i (finish_refused opening ws xs w h m k n t p o)
