-- What a call of a whole state leaves: the start of the tale, the closed mark, and what the stored commits count, those of read-only transactions among them.
use Rattle.std.proofs.Common.{◌≡◌, ℕ, ◌+◌, ◌<◌, ◌≤◌, Bool, true, false, cond, List, [], ◌∷◌, ◌++◌, map, Option, None, Some, refl, sym, ap, ◌∙◌, arith}
use Rattle.std.specs.Prelude.{nat_lt}
use Rattle.std.specs.List.{sum_by}
use Rattle.std.proofs.lemmas.Bool.{false≢true, ltb-false}
use Rattle.std.proofs.lemmas.List.Sums.{sum_by-cons, sum_by-append}
use Rattle.mvo_types.specs.declared.refusal.Refusal.{Refusal}
use Rattle.mvo_types.specs.Keys.{Map}
use Rattle.mvo_model.specs.Trace.{Step}
use Rattle.mvo_theory.specs.State.{State, StampedTx}
use Rattle.mvo_theory.specs.Causes.{is_failure}
use Rattle.mvo_theory.specs.Calls.{Call, Result, Run, IsKept, MayRun, after_call, after_run, steps_of, groups_closed_by, groups_of}
use Rattle.mvo_theory.specs.Calls.Call.{Begin, Do, Precommit, Validate, Settle, Rollback, Finish, Trim, Close}
use Rattle.mvo_theory.specs.Calls.Result.{Accepted, Refused}
use Rattle.mvo_theory.proofs.Runs.{kept_after_call}
use Rattle.mvo_readonly.specs.Whole.{CommittedReader, ReaderStage, WholeState, id_named, stage_named}
use Rattle.mvo_readonly.specs.WholeCauses.{awaited_by_reader}
use Rattle.mvo_readonly.specs.WholeCauses.WholeCall.{CoreCall}
use Rattle.mvo_readonly.specs.WholeCalls.{rolled_back, unless_awaited, core_failed, core_other, core_reader, core_at_stage, core_calls, committed_by_reader, committed_at_stage, committed_after}
use Rattle.mvo_readonly.specs.WholeTale.{stored_readers}
use Rattle.mvo_core.specs.Receipts.{Receipt, IsAt, stored_commits}
use Rattle.mvo_core.specs.WholeTales.{receipt_of_reader, stored_receipts}
use Rattle.mvo_engine.proofs.Added.{added, tale_weight, weight_is}
use Rattle.mvo_engine.proofs.Counted.{counted_after_call}
use Rattle.mvo_engine.proofs.Starts.{start_rises}

-- ---- runs of the core's own
pub start_up_run : (opening : Map) (steps : List Step) (s : State) (cs : Run) → MayRun s cs → IsKept opening steps s → s.start ≤ (after_run s cs).start
start_up_run opening steps s [] m k = omega arith
start_up_run opening steps s (c ∷ cs) m k =
    let up = start_rises s c.0 c.1 m.0 k.sound in
    let rest = start_up_run opening (steps ++ steps_of s c.0 c.1) (after_call s c.0 c.1) cs m.1 (kept_after_call opening steps s c.0 c.1 m.0 k) in
    omega (arith, up, rest)

abbrev pub added_by_run : (Receipt → ℕ) → State → Run → ℕ
added_by_run h s [] = 0
added_by_run h s (c ∷ cs) = added h s c.0 c.1 + added_by_run h (after_call s c.0 c.1) cs

pub counted_after_run : (h : Receipt → ℕ) (e : ℕ) → IsAt e h → (opening : Map) (steps : List Step) (s : State) (cs : Run) → MayRun s cs → IsKept opening steps s → (after_run s cs).start < e
    → tale_weight h (after_run s cs).stamped ≡ tale_weight h s.stamped + added_by_run h s cs
counted_after_run h e at opening steps s [] m k low = omega arith
counted_after_run h e at opening steps s (c ∷ cs) m k low =
    let next = kept_after_call opening steps s c.0 c.1 m.0 k in
    let up = start_up_run opening (steps ++ steps_of s c.0 c.1) (after_call s c.0 c.1) cs m.1 next in
    let one = counted_after_call h e at s c.0 c.1 k.sound (omega (arith, up, low)) in
    let rest = counted_after_run h e at opening (steps ++ steps_of s c.0 c.1) (after_call s c.0 c.1) cs m.1 next low in
    omega (arith, one, rest)

-- ---- what the stored commits count
abbrev pub readers_weight : (Receipt → ℕ) → List CommittedReader → ℕ
readers_weight h ys = sum_by h (map receipt_of_reader ys)

abbrev pub whole_weight : (Receipt → ℕ) → WholeState → ℕ
whole_weight h w = readers_weight h w.committed_readers + tale_weight h w.core.stamped

-- a read-only one up to the start of the tale counts nothing
stored_weigh : (h : Receipt → ℕ) (e start : ℕ) → IsAt e h → start < e → (ys : List CommittedReader) → sum_by h (map receipt_of_reader (stored_readers start ys)) ≡ readers_weight h ys
stored_weigh h e start at low [] = refl
stored_weigh h e start at low (y ∷ ys) = go (nat_lt start y.id) refl (stored_weigh h e start at low ys)
  where
    go : (b : Bool) → nat_lt start y.id ≡ b → sum_by h (map receipt_of_reader (stored_readers start ys)) ≡ readers_weight h ys
        → sum_by h (map receipt_of_reader (cond b (y ∷ stored_readers start ys) (stored_readers start ys))) ≡ readers_weight h (y ∷ ys)
    go true q ih =
        let one = sum_by-cons h (receipt_of_reader y) (map receipt_of_reader (stored_readers start ys)) in
        let all = sum_by-cons h (receipt_of_reader y) (map receipt_of_reader ys) in
        omega (arith, one, all, ih)
    go false q ih =
        let upto = ltb-false start y.id q in
        let none : h (receipt_of_reader y) ≡ 0 = at (receipt_of_reader y) (λ is. omega (arith, upto, low, is)) in
        let all = sum_by-cons h (receipt_of_reader y) (map receipt_of_reader ys) in
        omega (arith, none, all, ih)

pub weight_of_stored : (h : Receipt → ℕ) (e : ℕ) (w : WholeState) → IsAt e h → w.core.start < e → sum_by h (stored_receipts w) ≡ whole_weight h w
weight_of_stored h e w at low =
    let start = w.core.start in
    let both = sum_by-append h (map receipt_of_reader (stored_readers start w.committed_readers)) (stored_commits w.core) in
    let reads = stored_weigh h e start at low w.committed_readers in
    let others = weight_is h w.core.stamped in
    omega (arith, both, reads, others)

pub one_more_reader : (h : Receipt → ℕ) (ys : List CommittedReader) (y : CommittedReader) → readers_weight h (ys ++ y ∷ []) ≡ readers_weight h ys + h (receipt_of_reader y)
one_more_reader h [] y = let one = sum_by-cons h (receipt_of_reader y) [] in omega (arith, one)
one_more_reader h (x ∷ xs) y =
    let all = sum_by-cons h (receipt_of_reader x) (map receipt_of_reader (xs ++ y ∷ [])) in
    let was = sum_by-cons h (receipt_of_reader x) (map receipt_of_reader xs) in
    let rest = one_more_reader h xs y in
    omega (arith, all, was, rest)

-- ---- a call that closes no group closes none of the core's own
failed_closes_none : (t : ℕ) (r : Refusal) → groups_of (core_failed t r) ≡ []
failed_closes_none t r = go (is_failure r)
  where
    go : (b : Bool) → groups_of (cond b (rolled_back t) []) ≡ []
    go true = refl
    go false = refl

other_closes_none : (c : Call) (r : Result) → groups_closed_by c r ≡ [] → groups_of (core_other c r) ≡ []
other_closes_none Begin r e = refl
other_closes_none (Do t op) r e = refl
other_closes_none (Precommit t) r e = refl
other_closes_none (Validate t) r e = refl
other_closes_none (Settle t) r e = refl
other_closes_none (Rollback t) r e = refl
other_closes_none (Finish t) r e = refl
other_closes_none (Trim m) Accepted e = refl
other_closes_none (Trim m) (Refused q) e = refl
other_closes_none (Close fits g full) Accepted e = absurd cc
other_closes_none (Close fits g full) (Refused q) e = refl

reader_closes_none : (s : State) (c : Call) (r : Result) → groups_closed_by c r ≡ [] → groups_of (core_reader s c r) ≡ []
reader_closes_none s Begin Accepted e = refl
reader_closes_none s (Do t op) Accepted e = refl
reader_closes_none s (Precommit t) Accepted e = refl
reader_closes_none s (Validate t) Accepted e = refl
reader_closes_none s (Settle t) Accepted e = go (awaited_by_reader s t)
  where
    go : (w : Option StampedTx) → groups_of (unless_awaited t w) ≡ []
    go (Some x) = refl
    go None = refl
reader_closes_none s (Rollback t) Accepted e = refl
reader_closes_none s (Finish t) Accepted e = refl
reader_closes_none s (Trim m) Accepted e = refl
reader_closes_none s (Close fits g full) Accepted e = absurd cc
reader_closes_none s Begin (Refused q) e = refl
reader_closes_none s (Do t op) (Refused q) e = failed_closes_none t q
reader_closes_none s (Precommit t) (Refused q) e = failed_closes_none t q
reader_closes_none s (Validate t) (Refused q) e = failed_closes_none t q
reader_closes_none s (Settle t) (Refused q) e = failed_closes_none t q
reader_closes_none s (Rollback t) (Refused q) e = refl
reader_closes_none s (Finish t) (Refused q) e = refl
reader_closes_none s (Trim m) (Refused q) e = refl
reader_closes_none s (Close fits g full) (Refused q) e = refl

pub closes_none : (w : WholeState) (c : Call) (r : Result) → groups_closed_by c r ≡ [] → groups_of (core_calls w (CoreCall c) r) ≡ []
closes_none w c r e = go (stage_named w.readers (id_named c))
  where
    go : (o : Option ReaderStage) → groups_of (core_at_stage w.core c r o) ≡ []
    go None = other_closes_none c r e
    go (Some p) = reader_closes_none w.core c r e

-- ---- a call that commits nothing adds nothing
abbrev pub may_commit : Call → Result → Bool
may_commit (Settle t) Accepted = true
may_commit c r = false

module _ (h : Receipt → ℕ) where
  failed_adds_none : (s : State) (t : ℕ) (r : Refusal) → added_by_run h s (core_failed t r) ≡ 0
  failed_adds_none s t r = go (is_failure r)
    where
      go : (b : Bool) → added_by_run h s (cond b (rolled_back t) []) ≡ 0
      go true = refl
      go false = refl

  other_adds_none : (s : State) (c : Call) (r : Result) → may_commit c r ≡ false → added_by_run h s (core_other c r) ≡ 0
  other_adds_none s Begin r e = refl
  other_adds_none s (Do t op) r e = refl
  other_adds_none s (Precommit t) r e = refl
  other_adds_none s (Validate t) r e = refl
  other_adds_none s (Settle t) Accepted e = absurd (false≢true (sym e))
  other_adds_none s (Settle t) (Refused q) e = refl
  other_adds_none s (Rollback t) r e = refl
  other_adds_none s (Finish t) r e = refl
  other_adds_none s (Trim m) Accepted e = refl
  other_adds_none s (Trim m) (Refused q) e = refl
  other_adds_none s (Close fits g full) r e = refl

  reader_adds_none : (s : State) (c : Call) (r : Result) → may_commit c r ≡ false → added_by_run h s (core_reader s c r) ≡ 0
  reader_adds_none s Begin Accepted e = refl
  reader_adds_none s (Do t op) Accepted e = refl
  reader_adds_none s (Precommit t) Accepted e = refl
  reader_adds_none s (Validate t) Accepted e = refl
  reader_adds_none s (Settle t) Accepted e = absurd (false≢true (sym e))
  reader_adds_none s (Rollback t) Accepted e = refl
  reader_adds_none s (Finish t) Accepted e = refl
  reader_adds_none s (Trim m) Accepted e = refl
  reader_adds_none s (Close fits g full) Accepted e = refl
  reader_adds_none s Begin (Refused q) e = refl
  reader_adds_none s (Do t op) (Refused q) e = failed_adds_none s t q
  reader_adds_none s (Precommit t) (Refused q) e = failed_adds_none s t q
  reader_adds_none s (Validate t) (Refused q) e = failed_adds_none s t q
  reader_adds_none s (Settle t) (Refused q) e = failed_adds_none s t q
  reader_adds_none s (Rollback t) (Refused q) e = refl
  reader_adds_none s (Finish t) (Refused q) e = refl
  reader_adds_none s (Trim m) (Refused q) e = refl
  reader_adds_none s (Close fits g full) (Refused q) e = refl

  pub adds_none : (w : WholeState) (c : Call) (r : Result) → may_commit c r ≡ false → added_by_run h w.core (core_calls w (CoreCall c) r) ≡ 0
  adds_none w c r e = go (stage_named w.readers (id_named c))
    where
      go : (o : Option ReaderStage) → added_by_run h w.core (core_at_stage w.core c r o) ≡ 0
      go None = other_adds_none w.core c r e
      go (Some p) = reader_adds_none w.core c r e

same_by_reader : (s : State) (c : Call) (r : Result) (ys : List CommittedReader) → may_commit c r ≡ false → committed_by_reader s c r ys ≡ ys
same_by_reader s Begin Accepted ys e = refl
same_by_reader s (Do t op) Accepted ys e = refl
same_by_reader s (Precommit t) Accepted ys e = refl
same_by_reader s (Validate t) Accepted ys e = refl
same_by_reader s (Settle t) Accepted ys e = absurd (false≢true (sym e))
same_by_reader s (Rollback t) Accepted ys e = refl
same_by_reader s (Finish t) Accepted ys e = refl
same_by_reader s (Trim m) Accepted ys e = refl
same_by_reader s (Close fits g full) Accepted ys e = refl
same_by_reader s c (Refused q) ys e = refl

pub same_committed : (w : WholeState) (c : Call) (r : Result) → may_commit c r ≡ false → committed_after w (CoreCall c) r ≡ w.committed_readers
same_committed w c r e = go (stage_named w.readers (id_named c))
  where
    go : (o : Option ReaderStage) → committed_at_stage w.core c r o w.committed_readers ≡ w.committed_readers
    go None = refl
    go (Some p) = same_by_reader w.core c r w.committed_readers e
