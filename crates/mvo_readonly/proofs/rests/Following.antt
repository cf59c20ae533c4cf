-- Each call keeps all that is kept of a state with its read-only transactions.
use Rattle.std.proofs.Common.{◌≡◌, ℕ, Bool, true, false, cond, inl, List, [], ◌∷◌, ◌++◌, Option, None, Some, refl, sym, subst}
use Rattle.mvo_types.specs.declared.refusal.Refusal.{Refusal}
use Rattle.mvo_types.specs.Keys.{Map}
use Rattle.mvo_model.specs.Trace.{Step}
use Rattle.mvo_model.specs.Trace.Step.{Answers, Aborts}
use Rattle.mvo_theory.specs.State.{State, StampedTx}
use Rattle.mvo_theory.specs.Causes.{is_failure}
use Rattle.mvo_theory.specs.Snapshots.{is_aborted}
use Rattle.mvo_theory.specs.Calls.{Call, Result, Run, MayCome, MayRun, after_call, after_run, steps_of, trace_of, IsKept}
use Rattle.mvo_theory.specs.Calls.Call.{Begin, Do, Precommit, Validate, Settle, Rollback, Finish, Trim, Close}
use Rattle.mvo_theory.specs.Calls.Result.{Accepted, Refused}
use Rattle.mvo_theory.specs.rests.Course.{Course, trims_after, with_trim}
use Rattle.mvo_theory.specs.rests.Known.{KnowsRests}
use Rattle.mvo_theory.proofs.Each.{each_append}
use Rattle.mvo_theory.proofs.rests.Knowing.{known_opened, known_after_call}
use Rattle.mvo_readonly.specs.Whole.{ReaderStage, WholeState, opened_whole, id_named, stage_named}
use Rattle.mvo_readonly.specs.WholeCauses.{WholeCall, MayComeWhole, awaited_by_reader}
use Rattle.mvo_readonly.specs.WholeCauses.WholeCall.{CoreCall, BeginReadOnly}
use Rattle.mvo_readonly.specs.WholeCalls.{rolled_back, unless_awaited, core_failed, core_reader, core_other, core_at_stage, core_calls, steps_of_whole_call, after_whole_call}
use Rattle.mvo_readonly.specs.WholeKept.{IsWholeKept}
use Rattle.mvo_readonly.specs.BothTraces.{is_prepare_of, NoPrepare, IsMatched, AreGiven}
use Rattle.mvo_readonly.specs.rests.Joint.{AreJoint, whole_trims_after, course_after}
use Rattle.mvo_readonly.specs.rests.Followed.{opened_course, IsFollowed}
use Rattle.mvo_readonly.proofs.Traces.{append-none}
use Rattle.mvo_readonly.proofs.WholeRuns.{whole_opened, whole_after_call}
use Rattle.mvo_readonly.proofs.CoreRuns.{may_core}
use Rattle.mvo_readonly.proofs.Depending.{Adds, call_adds, remembered_opened, remembered_more}
use Rattle.mvo_readonly.proofs.Flags.{call_prepares, matched_opened, matched_more, run_clock}
use Rattle.mvo_readonly.proofs.Shapes.{call_shape}
use Rattle.mvo_readonly.proofs.Snapshots.{given_opened, given_more}
use Rattle.mvo_readonly.proofs.Conflicting.{recalled_opened, recalled_more}
use Rattle.mvo_readonly.proofs.WholeCounts.{whole_counts_opened, whole_counts_after_call}
use Rattle.mvo_readonly.proofs.rests.Joint.{AddsAborts, joint_more, joint_trimmed}
use Rattle.mvo_readonly.proofs.rests.Ending.{call_ends}

-- ---- the two courses
-- a call that is no trim moves no start
joint_after : (a o : Course) (w : WholeState) (us vs : List Step) → Adds us vs → AddsAborts o.steps us vs → ((t : ℕ) → is_aborted t o.steps ≡ true → NoPrepare t o.steps → NoPrepare t (o.steps ++ vs)) → IsWholeKept o.rows a.steps o.steps w → IsMatched a.steps o.steps w → AreGiven o.rows a.steps o.steps w → AreJoint a o
    → (c : WholeCall) (r : Result) → ((x : Course) → whole_trims_after x c r ≡ x.trims) → AreJoint (course_after a us c r) (course_after o vs c r)
joint_after a o w us vs d e still h k g j c r same =
    subst (λ (ts : List (ℕ × ℕ)). AreJoint (record a { steps = a.steps ++ us; trims = ts }) (course_after o vs c r)) (sym (same a))
    (subst (λ (ts : List (ℕ × ℕ)). AreJoint (record a { steps = a.steps ++ us; trims = a.trims }) (record o { steps = o.steps ++ vs; trims = ts })) (sym (same o))
    (joint_more a o us vs w d e still h k g j))

-- an accepted trim is no step
joint_trim : (a o : Course) (m : ℕ) → AreJoint a o → AreJoint (course_after a [] (CoreCall (Trim m)) Accepted) (course_after o [] (CoreCall (Trim m)) Accepted)
joint_trim a o m j =
    subst (λ (xs : List Step). AreJoint (record (with_trim a m) { steps = xs }) (course_after o [] (CoreCall (Trim m)) Accepted)) (sym (append-none a.steps))
    (subst (λ (xs : List Step). AreJoint (with_trim a m) (record (with_trim o m) { steps = xs })) (sym (append-none o.steps))
    (joint_trimmed a o m j))

joint_after_call : (a o : Course) (w : WholeState) (c : WholeCall) (r : Result) → MayComeWhole w c r → IsWholeKept o.rows a.steps o.steps w → IsMatched a.steps o.steps w → AreGiven o.rows a.steps o.steps w → AreJoint a o → AreJoint (course_after a (steps_of_whole_call w c r) c r) (course_after o (trace_of w.core (core_calls w c r)) c r)
joint_after_call a o w c r m h k g j = go c r m
  where
    still : (d : WholeCall) (q : Result) → MayComeWhole w d q → (t : ℕ) → is_aborted t o.steps ≡ true → NoPrepare t o.steps → NoPrepare t (o.steps ++ trace_of w.core (core_calls w d q))
    still d q i t e n = each_append (λ z. is_prepare_of t z ≡ false) o.steps (trace_of w.core (core_calls w d q)) n (call_prepares o.rows a.steps o.steps w d q t i h (inl e))

    one : (d : WholeCall) (q : Result) → MayComeWhole w d q → ((x : Course) → whole_trims_after x d q ≡ x.trims) → AreJoint (course_after a (steps_of_whole_call w d q) d q) (course_after o (trace_of w.core (core_calls w d q)) d q)
    one d q i same = joint_after a o w (steps_of_whole_call w d q) (trace_of w.core (core_calls w d q)) (call_adds w d q) (call_ends a.steps o.steps w d q k) (still d q i) h k g j d q same

    go : (d : WholeCall) (q : Result) → MayComeWhole w d q → AreJoint (course_after a (steps_of_whole_call w d q) d q) (course_after o (trace_of w.core (core_calls w d q)) d q)
    go BeginReadOnly q i = one BeginReadOnly q i (λ x. refl)
    go (CoreCall (Trim n)) Accepted i = joint_trim a o n j
    go (CoreCall (Trim n)) (Refused v) i = one (CoreCall (Trim n)) (Refused v) i (λ x. refl)
    go (CoreCall Begin) q i = one (CoreCall Begin) q i (λ x. refl)
    go (CoreCall (Do t op)) q i = one (CoreCall (Do t op)) q i (λ x. refl)
    go (CoreCall (Precommit t)) q i = one (CoreCall (Precommit t)) q i (λ x. refl)
    go (CoreCall (Validate t)) q i = one (CoreCall (Validate t)) q i (λ x. refl)
    go (CoreCall (Settle t)) q i = one (CoreCall (Settle t)) q i (λ x. refl)
    go (CoreCall (Rollback t)) q i = one (CoreCall (Rollback t)) q i (λ x. refl)
    go (CoreCall (Finish t)) q i = one (CoreCall (Finish t)) q i (λ x. refl)
    go (CoreCall (Close fits n full)) q i = one (CoreCall (Close fits n full)) q i (λ x. refl)

-- ---- on whom the transactions of the core rest
-- no call of the core
known_none : (o : Course) (s : State) (c : WholeCall) (r : Result) → whole_trims_after o c r ≡ o.trims → KnowsRests o s → KnowsRests (course_after o [] c r) s
known_none o s c r same k =
    subst (λ (ts : List (ℕ × ℕ)). KnowsRests (record o { steps = o.steps ++ []; trims = ts }) s) (sym same)
    (subst (λ (xs : List Step). KnowsRests (record o { steps = xs }) s) (sym (append-none o.steps)) k)

-- one call of it
known_one : (o : Course) (s : State) (d : Call) (q : Result) (c : WholeCall) (r : Result) → MayCome s d q → IsKept o.rows o.steps s → whole_trims_after o c r ≡ trims_after o d q → KnowsRests o s → KnowsRests (course_after o (steps_of s d q ++ []) c r) (after_call s d q)
known_one o s d q c r m h same k =
    subst (λ (ts : List (ℕ × ℕ)). KnowsRests (record o { steps = o.steps ++ (steps_of s d q ++ []); trims = ts }) (after_call s d q)) (sym same)
    (subst (λ (xs : List Step). KnowsRests (record o { steps = o.steps ++ xs; trims = trims_after o d q }) (after_call s d q)) (sym (append-none (steps_of s d q)))
    (known_after_call o s d q m h k))

module _ (o : Course) (w : WholeState) (h : IsKept o.rows o.steps w.core) (k : KnowsRests o w.core) where
  -- the core goes by these calls
  abbrev KnowsBy : Run → WholeCall → Result → Type 0
  KnowsBy cs c r = MayRun w.core cs → KnowsRests (course_after o (trace_of w.core cs) c r) (after_run w.core cs)

  by_none : (c : WholeCall) (r : Result) → whole_trims_after o c r ≡ o.trims → KnowsBy [] c r
  by_none c r same = λ m. known_none o w.core c r same k

  by_one : (d : Call) (q : Result) (c : WholeCall) (r : Result) → whole_trims_after o c r ≡ trims_after o d q → KnowsBy ((d, q) ∷ []) c r
  by_one d q c r same = λ m. known_one o w.core d q c r m.0 h same k

  by_failed : (t : ℕ) (v : Refusal) (c : WholeCall) (r : Result) → whole_trims_after o c r ≡ o.trims → KnowsBy (core_failed t v) c r
  by_failed t v c r same = go (is_failure v)
    where
      go : (b : Bool) → KnowsBy (cond b (rolled_back t) []) c r
      go true = by_one (Rollback t) Accepted c r same
      go false = by_none c r same

  by_settled : (t : ℕ) (x : Option StampedTx) → KnowsBy (unless_awaited t x) (CoreCall (Settle t)) Accepted
  by_settled t (Some x) = by_none (CoreCall (Settle t)) Accepted refl
  by_settled t None = by_one (Rollback t) Accepted (CoreCall (Settle t)) Accepted refl

  by_other : (c : Call) (r : Result) → KnowsBy (core_other c r) (CoreCall c) r
  by_other Begin r = by_one Begin r (CoreCall Begin) r refl
  by_other (Do t op) r = by_one (Do t op) r (CoreCall (Do t op)) r refl
  by_other (Precommit t) r = by_one (Precommit t) r (CoreCall (Precommit t)) r refl
  by_other (Validate t) r = by_one (Validate t) r (CoreCall (Validate t)) r refl
  by_other (Settle t) r = by_one (Settle t) r (CoreCall (Settle t)) r refl
  by_other (Rollback t) r = by_one (Rollback t) r (CoreCall (Rollback t)) r refl
  by_other (Finish t) r = by_one (Finish t) r (CoreCall (Finish t)) r refl
  by_other (Close fits n full) r = by_one (Close fits n full) r (CoreCall (Close fits n full)) r refl
  by_other (Trim n) Accepted = by_one (Trim n) Accepted (CoreCall (Trim n)) Accepted refl
  by_other (Trim n) (Refused q) = by_none (CoreCall (Trim n)) (Refused q) refl

  by_reader : (c : Call) (r : Result) → KnowsBy (core_reader w.core c r) (CoreCall c) r
  by_reader Begin Accepted = by_one Begin Accepted (CoreCall Begin) Accepted refl
  by_reader (Do t op) Accepted = by_one (Do t op) Accepted (CoreCall (Do t op)) Accepted refl
  by_reader (Precommit t) Accepted = by_none (CoreCall (Precommit t)) Accepted refl
  by_reader (Validate t) Accepted = by_none (CoreCall (Validate t)) Accepted refl
  by_reader (Settle t) Accepted = by_settled t (awaited_by_reader w.core t)
  by_reader (Rollback t) Accepted = by_one (Rollback t) Accepted (CoreCall (Rollback t)) Accepted refl
  by_reader (Finish t) Accepted = by_one (Finish t) Accepted (CoreCall (Finish t)) Accepted refl
  by_reader (Trim n) Accepted = by_one (Trim n) Accepted (CoreCall (Trim n)) Accepted refl
  by_reader (Close fits n full) Accepted = by_one (Close fits n full) Accepted (CoreCall (Close fits n full)) Accepted refl
  by_reader Begin (Refused q) = by_none (CoreCall Begin) (Refused q) refl
  by_reader (Do t op) (Refused q) = by_failed t q (CoreCall (Do t op)) (Refused q) refl
  by_reader (Precommit t) (Refused q) = by_failed t q (CoreCall (Precommit t)) (Refused q) refl
  by_reader (Validate t) (Refused q) = by_failed t q (CoreCall (Validate t)) (Refused q) refl
  by_reader (Settle t) (Refused q) = by_failed t q (CoreCall (Settle t)) (Refused q) refl
  by_reader (Rollback t) (Refused q) = by_none (CoreCall (Rollback t)) (Refused q) refl
  by_reader (Finish t) (Refused q) = by_none (CoreCall (Finish t)) (Refused q) refl
  by_reader (Trim n) (Refused q) = by_none (CoreCall (Trim n)) (Refused q) refl
  by_reader (Close fits n full) (Refused q) = by_none (CoreCall (Close fits n full)) (Refused q) refl

  known_after_whole_call : (c : WholeCall) (r : Result) → KnowsBy (core_calls w c r) c r
  known_after_whole_call BeginReadOnly r = by_one Begin r BeginReadOnly r refl
  known_after_whole_call (CoreCall c) r = go (stage_named w.readers (id_named c))
    where
      go : (p : Option ReaderStage) → KnowsBy (core_at_stage w.core c r p) (CoreCall c) r
      go None = by_other c r
      go (Some p) = by_reader c r

-- ---- EACH CALL keeps all of it
pub followed_after_call : (a o : Course) (w : WholeState) (c : WholeCall) (r : Result) → MayComeWhole w c r → IsFollowed a o w → IsFollowed (course_after a (steps_of_whole_call w c r) c r) (course_after o (trace_of w.core (core_calls w c r)) c r) (after_whole_call w c r)
followed_after_call a o w c r m f =
    let run = may_core o.rows a.steps o.steps w c r m f.kept in
    let us = steps_of_whole_call w c r in
    let vs = trace_of w.core (core_calls w c r) in
    record {
      kept = whole_after_call o.rows a.steps o.steps w c r m f.kept;
      matched = matched_more o.rows a.steps o.steps w c r m f.kept f.matched;
      given = given_more o.rows a.steps o.steps us vs w (after_whole_call w c r) (call_shape o.rows a.steps o.steps w c r m f.kept) (run_clock o.rows o.steps w.core (core_calls w c r) run f.kept.kept) f.kept f.matched f.given;
      remembered = remembered_more o.rows a.steps o.steps us vs w (call_adds w c r) f.kept f.remembered;
      recalled = recalled_more o.rows a.steps o.steps us vs w (call_adds w c r) f.kept f.recalled;
      counts = whole_counts_after_call o.rows o.mark a.steps o.steps w c r m f.kept f.counts;
      joint = joint_after_call a o w c r m f.kept f.matched f.given f.joint;
      knows = known_after_whole_call o w f.kept.kept f.knows c r run;
    }

no_step : (before after : List Step) (z : Step) → [] ≡ before ++ (z ∷ after) → ⊥
no_step [] after z e = absurd cc
no_step (b ∷ before) after z e = absurd cc

pub followed_opened : (rows : Map) (mark : ℕ) → IsFollowed (opened_course rows mark) (opened_course rows mark) (opened_whole rows mark)
followed_opened rows mark = record {
  kept = whole_opened rows mark;
  matched = matched_opened rows mark;
  given = given_opened rows mark;
  remembered = remembered_opened rows;
  recalled = recalled_opened rows;
  counts = whole_counts_opened rows mark;
  joint = record {
    rows = refl;
    mark = refl;
    to_own = λ front back t op s e. absurd (no_step front back (Answers t op s) e);
    to_whole = λ before after t op s e. absurd (no_step before after (Answers t op s) e);
    aborts = λ before after t e. absurd (no_step before after (Aborts t) e);
    now = refl;
    earlier = tt;
    earlier_own = tt;
  };
  knows = known_opened rows mark;
}
