-- The core of the others goes by calls that it may take: so all that holds of runs holds of it.
use Rattle.std.proofs.Common.{◌≡◌, ℕ, Bool, true, false, cond, List, [], ◌∷◌, ◌++◌, Option, None, Some, refl, sym, ◌∙◌, subst}
use Rattle.mvo_types.specs.declared.refusal.Refusal.{Refusal}
use Rattle.mvo_types.specs.Keys.{Map}
use Rattle.mvo_model.specs.Trace.{Step}
use Rattle.mvo_model.specs.Trace.Phase.{Active as IsActive}
use Rattle.mvo_theory.specs.State.{State, StampedTx}
use Rattle.mvo_theory.specs.Causes.{is_failure}
use Rattle.mvo_theory.specs.Marks.{StaysBelow}
use Rattle.mvo_theory.specs.Calls.{Call, Result, Run, MayRun, after_call, after_run, trace_of}
use Rattle.mvo_theory.specs.Calls.Call.{Begin, Do, Precommit, Validate, Settle, Rollback, Finish, Trim, Close}
use Rattle.mvo_theory.specs.Calls.Result.{Accepted, Refused}
use Rattle.mvo_theory.proofs.Stays.{stays_after_run}
use Rattle.mvo_theory.proofs.Chain.{groups_are_chained}
use Rattle.mvo_theory.specs.Groups.{AreGroupsOf}
use Rattle.mvo_theory.specs.Calls.{groups_of}
use Rattle.mvo_readonly.specs.Whole.{opened_whole}
use Rattle.mvo_readonly.proofs.WholeRuns.{whole_opened}
use Rattle.mvo_readonly.specs.Whole.{ReaderStage, WholeState, stage_of, id_named, stage_named}
use Rattle.mvo_readonly.specs.WholeCauses.{WholeCall, MayComeAtStage, MayComeWhole, awaited_by_reader}
use Rattle.mvo_readonly.specs.WholeCalls.{core_run, rolled_back, unless_awaited, core_failed, core_reader, core_other, core_at_stage, core_calls, after_whole_call, WholeRun, MayRunWhole, after_whole_run, steps_of_whole_call}
use Rattle.mvo_readonly.specs.WholeCauses.WholeCall.{CoreCall, BeginReadOnly}
use Rattle.mvo_readonly.specs.WholeKept.{core_phase, IsWholeKept}
use Rattle.mvo_readonly.proofs.Others.{may_come, may_trim}
use Rattle.mvo_readonly.proofs.Stages.{may_roll_back, may_read, may_settle, may_fail_do, may_fail_precommit, may_fail_validate, may_fail_settle}
use Rattle.mvo_readonly.proofs.ReaderCalls.{in_core}
use Rattle.mvo_readonly.proofs.WholeRuns.{whole_after_call}

may_back : (opening : Map) (ws xs : List Step) (w : WholeState) (t : ℕ) (p : ReaderStage) → stage_of t w.readers ≡ Some p → core_phase p ≡ IsActive → IsWholeKept opening ws xs w → MayRun w.core (rolled_back t)
may_back opening ws xs w t p e a h = ((may_roll_back w.core t (in_core opening ws xs w t p e h ∙ a), tt), tt)

may_fail : (opening : Map) (ws xs : List Step) (w : WholeState) (t : ℕ) (p : ReaderStage) (r : Refusal) → stage_of t w.readers ≡ Some p → (is_failure r ≡ true → core_phase p ≡ IsActive) → IsWholeKept opening ws xs w → MayRun w.core (core_failed t r)
may_fail opening ws xs w t p r e f h = go (is_failure r) refl
  where
    go : (b : Bool) → is_failure r ≡ b → MayRun w.core (cond b (rolled_back t) [])
    go true g = may_back opening ws xs w t p e (f g) h
    go false g = tt

no_stage : (p : ReaderStage) → ◌≡◌ {A = Option ReaderStage} None (Some p) → ⊥
no_stage p e = cc

may_reader : (opening : Map) (ws xs : List Step) (w : WholeState) (c : Call) (r : Result) (p : ReaderStage) → stage_named w.readers (id_named c) ≡ Some p → MayComeAtStage w c (Some p) r → IsWholeKept opening ws xs w → MayRun w.core (core_reader w.core c r)
may_reader opening ws xs w Begin r p e m h = absurd (no_stage p e)
may_reader opening ws xs w (Trim k) r p e m h = absurd (no_stage p e)
may_reader opening ws xs w (Close fits g full) r p e m h = absurd (no_stage p e)
may_reader opening ws xs w (Do t op) Accepted p e m h = (((may_read w.core t op p (in_core opening ws xs w t p e h) m.0).0, tt), tt)
may_reader opening ws xs w (Precommit t) Accepted p e m h = tt
may_reader opening ws xs w (Validate t) Accepted p e m h = tt
may_reader opening ws xs w (Settle t) Accepted p e m h = go (awaited_by_reader w.core t)
  where
    go : (v : Option StampedTx) → MayRun w.core (unless_awaited t v)
    go (Some x) = tt
    go None = may_back opening ws xs w t p e (may_settle w.core t p m.0).0 h
may_reader opening ws xs w (Rollback t) Accepted p e m h = ((m.0, tt), tt)
may_reader opening ws xs w (Finish t) Accepted p e m h = ((m.0, m.1), tt)
may_reader opening ws xs w (Do t op) (Refused r) p e m h = may_fail opening ws xs w t p r e (may_fail_do w t op p r m) h
may_reader opening ws xs w (Precommit t) (Refused r) p e m h = may_fail opening ws xs w t p r e (may_fail_precommit w t p r m) h
may_reader opening ws xs w (Validate t) (Refused r) p e m h = may_fail opening ws xs w t p r e (may_fail_validate w t p r m) h
may_reader opening ws xs w (Settle t) (Refused r) p e m h = may_fail opening ws xs w t p r e (may_fail_settle w t p r m) h
may_reader opening ws xs w (Rollback t) (Refused r) p e m h = tt
may_reader opening ws xs w (Finish t) (Refused r) p e m h = tt

may_other : (w : WholeState) (c : Call) (r : Result) → MayComeAtStage w c None r → MayRun w.core (core_other c r)
may_other w Begin r m = (may_come w Begin r (λ k i. absurd cc) m, tt)
may_other w (Do t op) r m = (may_come w (Do t op) r (λ k i. absurd cc) m, tt)
may_other w (Precommit t) r m = (may_come w (Precommit t) r (λ k i. absurd cc) m, tt)
may_other w (Validate t) r m = (may_come w (Validate t) r (λ k i. absurd cc) m, tt)
may_other w (Settle t) r m = (may_come w (Settle t) r (λ k i. absurd cc) m, tt)
may_other w (Rollback t) r m = (may_come w (Rollback t) r (λ k i. absurd cc) m, tt)
may_other w (Finish t) r m = (may_come w (Finish t) r (λ k i. absurd cc) m, tt)
may_other w (Close fits g full) r m = (may_come w (Close fits g full) r (λ k i. absurd cc) m, tt)
may_other w (Trim k) Accepted m = (((may_trim w k m.0).0, m.1), tt)
may_other w (Trim k) (Refused q) m = tt

-- the calls that a call makes of it may come to that
pub may_core : (opening : Map) (ws xs : List Step) (w : WholeState) (a : WholeCall) (r : Result) → MayComeWhole w a r → IsWholeKept opening ws xs w → MayRun w.core (core_calls w a r)
may_core opening ws xs w BeginReadOnly r m h = (m, tt)
may_core opening ws xs w (CoreCall c) r m h = go (stage_named w.readers (id_named c)) refl m
  where
    go : (p : Option ReaderStage) → stage_named w.readers (id_named c) ≡ p → MayComeAtStage w c p r → MayRun w.core (core_at_stage w.core c r p)
    go None e k = may_other w c r k
    go (Some p) e k = may_reader opening ws xs w c r p e k h

-- ---- a list of calls is a run of the core of the others
run_both : (s : State) (cs ds : Run) → after_run s (cs ++ ds) ≡ after_run (after_run s cs) ds
run_both s [] ds = refl
run_both s (c ∷ cs) ds = run_both (after_call s c.0 c.1) cs ds

may_both : (s : State) (cs ds : Run) → MayRun s cs → MayRun (after_run s cs) ds → MayRun s (cs ++ ds)
may_both s [] ds m n = n
may_both s (c ∷ cs) ds m n = (m.0, may_both (after_call s c.0 c.1) cs ds m.1 n)

pub core_is_run : (opening : Map) (ws xs : List Step) (w : WholeState) (d : WholeRun) → MayRunWhole w d → IsWholeKept opening ws xs w → MayRun w.core (core_run w d) × ((after_whole_run w d).core ≡ after_run w.core (core_run w d))
core_is_run opening ws xs w [] m h = (tt, refl)
core_is_run opening ws xs w (a ∷ rest) m h =
    let w' = after_whole_call w a.0 a.1 in
    let cs = core_calls w a.0 a.1 in
    let k = core_is_run opening (ws ++ steps_of_whole_call w a.0 a.1) (xs ++ trace_of w.core cs) w' rest m.1 (whole_after_call opening ws xs w a.0 a.1 m.0 h) in
    (may_both w.core cs (core_run w' rest) (may_core opening ws xs w a.0 a.1 m.0 h) k.0, k.1 ∙ sym (run_both w.core cs (core_run w' rest)))

-- so what the others committed up to a closed mark stays, whatever read-only ones do
pub stays_after_whole_run : (opening : Map) (ws xs : List Step) (w : WholeState) (d : WholeRun) → MayRunWhole w d → IsWholeKept opening ws xs w → StaysBelow w.core (after_whole_run w d).core
stays_after_whole_run opening ws xs w d m h = let k = core_is_run opening ws xs w d m h in subst (StaysBelow w.core) (sym k.1) (stays_after_run opening xs w.core (core_run w d) k.0 h.kept)

-- and its groups are one chain from the opening mark, each with exactly the commits that wrote up to its mark
pub core_run_is_chained : (rows : Map) (mark : ℕ) (d : WholeRun) → MayRunWhole (opened_whole rows mark) d → AreGroupsOf (after_whole_run (opened_whole rows mark) d).core mark (groups_of (core_run (opened_whole rows mark) d))
core_run_is_chained rows mark d m =
    let k = core_is_run rows [] [] (opened_whole rows mark) d m (whole_opened rows mark) in
    subst (λ s. AreGroupsOf s mark (groups_of (core_run (opened_whole rows mark) d))) (sym k.1) (groups_are_chained rows mark (core_run (opened_whole rows mark) d) k.0)
