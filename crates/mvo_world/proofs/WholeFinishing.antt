-- Each call of a state with its read-only transactions keeps the count of the words that finishing
-- replaces, and what others committed up to a closed mark.
use Rattle.std.proofs.Common.{◌≡◌, ℕ, Bool, true, false, List, [], ◌∷◌, ◌++◌, Option, None, Some, refl, sym, subst, append-nil, append_assoc}
use Rattle.std.specs.Prelude.{if◌then◌else◌}
use Rattle.mvo_types.specs.declared.refusal.Refusal.{Refusal}
use Rattle.mvo_types.specs.Keys.{Map}
use Rattle.mvo_model.specs.Trace.{Step}
use Rattle.mvo_theory.specs.State.{State, StampedTx}
use Rattle.mvo_theory.specs.Causes.{is_failure}
use Rattle.mvo_theory.specs.Marks.{StaysBelow}
use Rattle.mvo_theory.specs.Calls.{Call, Result, Run, IsKept, MayRun, after_call, after_run, steps_of, trace_of}
use Rattle.mvo_theory.specs.Calls.Call.{Begin, Do, Precommit, Validate, Settle, Rollback, Finish, Trim, Close}
use Rattle.mvo_theory.specs.Calls.Result.{Accepted, Refused}
use Rattle.mvo_theory.proofs.Runs.{kept_after_call}
use Rattle.mvo_theory.proofs.Stays.{stays_after_run}
use Rattle.mvo_readonly.specs.Whole.{ReaderStage, WholeState, id_named, stage_named}
use Rattle.mvo_readonly.specs.WholeCauses.{WholeCall, MayComeWhole, awaited_by_reader}
use Rattle.mvo_readonly.specs.WholeCauses.WholeCall.{CoreCall, BeginReadOnly}
use Rattle.mvo_readonly.specs.WholeCalls.{rolled_back, unless_awaited, core_failed, core_reader, core_other, core_at_stage, core_calls}
use Rattle.mvo_readonly.specs.WholeKept.{IsWholeKept}
use Rattle.mvo_readonly.proofs.CoreRuns.{may_core}
use Rattle.mvo_world.specs.Finishing.{HaveCountedWords}
use Rattle.mvo_world.proofs.Finishing.{mores_with, counted_words_after_call}

-- what a call makes of the answers More
abbrev pub mores_whole : WholeState → WholeCall → Result → List ℕ → List ℕ
mores_whole w BeginReadOnly r ms = ms
mores_whole w (CoreCall c) r ms = mores_with w.core c r ms

abbrev mores_of_run : State → Run → List ℕ → List ℕ
mores_of_run s [] ms = ms
mores_of_run s (c ∷ cs) ms = mores_of_run (after_call s c.0 c.1) cs (mores_with s c.0 c.1 ms)

-- ---- the core's own calls make the same of them
mores_other : (s : State) (c : Call) (r : Result) (ms : List ℕ) → mores_of_run s (core_other c r) ms ≡ mores_with s c r ms
mores_other s (Trim m) (Refused why) ms = refl
mores_other s (Trim m) Accepted ms = refl
mores_other s Begin r ms = refl
mores_other s (Do t op) r ms = refl
mores_other s (Precommit t) r ms = refl
mores_other s (Validate t) r ms = refl
mores_other s (Settle t) r ms = refl
mores_other s (Rollback t) r ms = refl
mores_other s (Finish t) r ms = refl
mores_other s (Close fits g full) r ms = refl

mores_unless : (s : State) (t : ℕ) (x : Option StampedTx) (ms : List ℕ) → mores_of_run s (unless_awaited t x) ms ≡ ms
mores_unless s t None ms = refl
mores_unless s t (Some x) ms = refl

mores_failed : (s : State) (t : ℕ) (r : Refusal) (ms : List ℕ) → mores_of_run s (core_failed t r) ms ≡ ms
mores_failed s t r ms = go (is_failure r)
  where
    go : (b : Bool) → mores_of_run s (if b then rolled_back t else []) ms ≡ ms
    go true = refl
    go false = refl

mores_reader : (s : State) (c : Call) (r : Result) (ms : List ℕ) → mores_of_run s (core_reader s c r) ms ≡ mores_with s c r ms
mores_reader s Begin Accepted ms = refl
mores_reader s (Do t op) Accepted ms = refl
mores_reader s (Precommit t) Accepted ms = refl
mores_reader s (Validate t) Accepted ms = refl
mores_reader s (Settle t) Accepted ms = mores_unless s t (awaited_by_reader s t) ms
mores_reader s (Rollback t) Accepted ms = refl
mores_reader s (Finish t) Accepted ms = refl
mores_reader s (Trim m) Accepted ms = refl
mores_reader s (Close fits g full) Accepted ms = refl
mores_reader s Begin (Refused r) ms = refl
mores_reader s (Do t op) (Refused r) ms = mores_failed s t r ms
mores_reader s (Precommit t) (Refused r) ms = mores_failed s t r ms
mores_reader s (Validate t) (Refused r) ms = mores_failed s t r ms
mores_reader s (Settle t) (Refused r) ms = mores_failed s t r ms
mores_reader s (Rollback t) (Refused r) ms = refl
mores_reader s (Finish t) (Refused r) ms = refl
mores_reader s (Trim m) (Refused r) ms = refl
mores_reader s (Close fits g full) (Refused r) ms = refl

mores_are : (w : WholeState) (a : WholeCall) (r : Result) (ms : List ℕ) → mores_of_run w.core (core_calls w a r) ms ≡ mores_whole w a r ms
mores_are w BeginReadOnly r ms = refl
mores_are w (CoreCall c) r ms = go (stage_named w.readers (id_named c))
  where
    go : (p : Option ReaderStage) → mores_of_run w.core (core_at_stage w.core c r p) ms ≡ mores_with w.core c r ms
    go None = mores_other w.core c r ms
    go (Some p) = mores_reader w.core c r ms

words_after_run : (opening : Map) (xs : List Step) (s : State) (cs : Run) (ms : List ℕ) → MayRun s cs → IsKept opening xs s → HaveCountedWords ms xs s → HaveCountedWords (mores_of_run s cs ms) (xs ++ trace_of s cs) (after_run s cs)
words_after_run opening xs s [] ms m k h = subst (λ ys. HaveCountedWords ms ys s) (sym (append-nil xs)) h
words_after_run opening xs s (c ∷ cs) ms m k h =
    let next = after_call s c.0 c.1 in
    let more = mores_with s c.0 c.1 ms in
    subst (λ ys. HaveCountedWords (mores_of_run next cs more) ys (after_run next cs)) (append_assoc xs (steps_of s c.0 c.1) (trace_of next cs))
    (words_after_run opening (xs ++ steps_of s c.0 c.1) next cs more m.1 (kept_after_call opening xs s c.0 c.1 m.0 k) (counted_words_after_call opening xs s k ms h c.0 c.1 m.0))

-- ---- over a call
module _ (opening : Map) (steps own : List Step) (w : WholeState) (a : WholeCall) (r : Result) (may : MayComeWhole w a r) (kept : IsWholeKept opening steps own w) where
  pub words_after_whole_call : (ms : List ℕ) → HaveCountedWords ms own w.core → HaveCountedWords (mores_whole w a r ms) (own ++ trace_of w.core (core_calls w a r)) (after_run w.core (core_calls w a r))
  words_after_whole_call ms h =
      subst (λ (ns : List ℕ). HaveCountedWords ns (own ++ trace_of w.core (core_calls w a r)) (after_run w.core (core_calls w a r))) (mores_are w a r ms)
      (words_after_run opening own w.core (core_calls w a r) ms (may_core opening steps own w a r may kept) kept.kept h)

  pub stays_after_whole_call : StaysBelow w.core (after_run w.core (core_calls w a r))
  stays_after_whole_call = stays_after_run opening own w.core (core_calls w a r) (may_core opening steps own w a r may kept) kept.kept
