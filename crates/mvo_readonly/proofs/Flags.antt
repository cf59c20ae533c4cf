-- Who is flagged, and for whom, read off the whole trace.
use Rattle.std.proofs.Common.{◌≡◌, ◌≢◌, ℕ, ◌+◌, ◌<◌, ◌≤◌, Bool, true, false, cond, not, ◌||◌, ◌⊎◌, inl, inr, List, [], ◌∷◌, ◌++◌, Option, None, Some, refl, sym, ap, ◌∙◌, subst, arith, append_assoc}
use Rattle.std.specs.Prelude.{◌==◌}
use Rattle.std.proofs.lemmas.Bool.{true≢false, false≢true, ne_eqb, eqb-true, or_cases, cases_eq}
use Rattle.mvo_types.specs.declared.refusal.Refusal.{Refusal}
use Rattle.mvo_types.specs.Keys.{Map}
use Rattle.mvo_model.specs.Trace.{Step, Phase, owner_of, phase_after, phase_from, phase_of}
use Rattle.mvo_model.specs.Trace.Step.{Begins, Answers, Prepares, Checks, Commits, Aborts, Terminates}
use Rattle.mvo_model.specs.Trace.Phase.{Preparing as IsPreparing}
use Rattle.mvo_theory.specs.Causes.{awaited, end_of, is_failure}
use Rattle.mvo_theory.specs.Snapshots.{is_aborted}
use Rattle.mvo_theory.specs.Sound.{IsActive as IsActiveTx}
use Rattle.mvo_theory.specs.State.{State, StampedTx}
use Rattle.mvo_theory.specs.Traced.{is_abort_of, HasAbortedDependency, IsDependency, IsTraced, AreTraced}
use Rattle.mvo_theory.specs.Words.{is_done}
use Rattle.mvo_theory.specs.Steps.{steps_of_refusal}
use Rattle.mvo_theory.specs.Calls.{Call, Result, Run, MayCome, MayRun, after_call, after_run, steps_unless, steps_of, trace_of, IsKept}
use Rattle.mvo_theory.specs.Calls.Call.{Begin, Do, Precommit, Validate, Settle, Rollback, Finish, Trim, Close}
use Rattle.mvo_theory.specs.Calls.Result.{Accepted, Refused}
use Rattle.mvo_theory.proofs.Each.{each_weaker, each_append, each_front}
use Rattle.mvo_theory.proofs.Footprints.{or_right}
use Rattle.mvo_theory.proofs.Runs.{kept_after_call}
use Rattle.mvo_theory.proofs.Who.{active_after_prepare, active_holds}
use Rattle.mvo_readonly.specs.Whole.{ReaderStage, UnfinishedReader, WholeState, opened_whole, stage_of, stage_named, id_named}
use Rattle.mvo_readonly.specs.WholeCauses.{WholeCall, awaited_by_reader, MayComeAtStage, MayComeWhole}
use Rattle.mvo_readonly.specs.WholeCalls.{own_trace, unless_awaited, rolled_back, core_failed, core_reader, core_other, core_at_stage, core_calls, commits_unless, reader_steps, steps_at_stage, steps_of_whole_call, checked_more, with_stage, without_reader, settled_unless, readers_failed, readers_reader, readers_at_stage, readers_after, after_whole_call, WholeRun, MayRunWhole, after_whole_run, whole_trace}
use Rattle.mvo_readonly.specs.Whole.ReaderStage.{Reading, Preparing, Committed, Aborted}
use Rattle.mvo_readonly.specs.WholeCauses.WholeCall.{CoreCall, BeginReadOnly}
use Rattle.mvo_readonly.specs.WholeKept.{IsWholeKept}
use Rattle.mvo_readonly.specs.BothTraces.{is_prepare_of, NoPrepare, IsMatched, IsRemembered}
use Rattle.mvo_readonly.proofs.Traces.{append-none, aborted_still}
use Rattle.mvo_readonly.proofs.Others.{may_come}
use Rattle.mvo_readonly.proofs.Growing.{grows_after_call}
use Rattle.mvo_readonly.proofs.CoreRuns.{may_core}
use Rattle.mvo_readonly.proofs.WholeRuns.{whole_opened, whole_after_call, whole_after_run}
use Rattle.mvo_readonly.proofs.Depending.{any_both, depends_whole, remembered_after_whole_run, remembered_opened}

-- ---- whether a transaction gets an end of its own in these steps
not_preparing_by : (u : ℕ) (z : Step) (p : Phase) → ((e : ℕ) → p ≡ IsPreparing e → ⊥) → is_prepare_of u z ≡ false → (e : ℕ) → cond (owner_of z == u) (phase_after z p) p ≡ IsPreparing e → ⊥
not_preparing_by u z p n h e = go (owner_of z == u) refl
  where
    after : (y : Step) → is_prepare_of u y ≡ false → (owner_of y == u) ≡ true → phase_after y p ≡ IsPreparing e → ⊥
    after (Begins v) f g q = absurd cc
    after (Answers v op a) f g q = n e q
    after (Prepares v m) f g q = true≢false (sym g ∙ f)
    after (Checks v) f g q = n e q
    after (Commits v m) f g q = absurd cc
    after (Aborts v) f g q = absurd cc
    after (Terminates v) f g q = absurd cc

    go : (b : Bool) → (owner_of z == u) ≡ b → cond b (phase_after z p) p ≡ IsPreparing e → ⊥
    go true g q = after z h g q
    go false g q = n e q

not_preparing_from : (u : ℕ) (p : Phase) (zs : List Step) → ((e : ℕ) → p ≡ IsPreparing e → ⊥) → NoPrepare u zs → (e : ℕ) → phase_from p u zs ≡ IsPreparing e → ⊥
not_preparing_from u p [] n h e q = n e q
not_preparing_from u p (z ∷ zs) n h e q = not_preparing_from u (cond (owner_of z == u) (phase_after z p) p) zs (not_preparing_by u z p n h.0) h.1 e q

-- one that gets none is never Preparing
pub never_preparing : (u : ℕ) (zs : List Step) (e : ℕ) → NoPrepare u zs → phase_of u zs ≡ IsPreparing e → ⊥
never_preparing u zs e h q = not_preparing_from u _ zs (λ n i. absurd cc) h e q

-- ---- only a precommit of an Active one gives an end
no_prepare : (u : ℕ) (s : State) (c : Call) (r : Result) → ((t : ℕ) → c ≡ Precommit t → r ≡ Accepted → t ≢ u) → NoPrepare u (steps_of s c r)
no_prepare u s c r n = go c r n
  where
    failed : (t : ℕ) (b : Bool) → NoPrepare u (cond b (Aborts t ∷ []) [])
    failed t true = (refl, tt)
    failed t false = tt

    unless : (t e : ℕ) (x : Option StampedTx) → NoPrepare u (steps_unless t e x)
    unless t e (Some x) = tt
    unless t e None = (refl, tt)

    done : (t : ℕ) (b : Bool) → NoPrepare u (cond b (Terminates t ∷ []) [])
    done t true = (refl, tt)
    done t false = tt

    go : (c' : Call) (r' : Result) → ((t : ℕ) → c' ≡ Precommit t → r' ≡ Accepted → t ≢ u) → NoPrepare u (steps_of s c' r')
    go Begin Accepted m = (refl, tt)
    go (Do t op) Accepted m = (refl, tt)
    go (Precommit t) Accepted m = (ne_eqb t u (m t refl refl), tt)
    go (Validate t) Accepted m = (refl, tt)
    go (Settle t) Accepted m = unless t (end_of s t) (awaited s t)
    go (Rollback t) Accepted m = (refl, tt)
    go (Finish t) Accepted m = done t (is_done s t)
    go (Trim k) Accepted m = tt
    go (Close fits g full) Accepted m = tt
    go Begin (Refused q) m = tt
    go (Do t op) (Refused q) m = failed t (is_failure q)
    go (Precommit t) (Refused q) m = failed t (is_failure q)
    go (Validate t) (Refused q) m = failed t (is_failure q)
    go (Settle t) (Refused q) m = failed t (is_failure q)
    go (Rollback t) (Refused q) m = tt
    go (Finish t) (Refused q) m = tt
    go (Trim k) (Refused q) m = tt
    go (Close fits g full) (Refused q) m = tt

-- u is aborted, or read-only, or hasn't begun
abbrev IsElsewhere : List Step → WholeState → ℕ → Type 0
IsElsewhere xs w u = (is_aborted u xs ≡ true) ⊎ (((p : ReaderStage) × (stage_of u w.readers ≡ Some p)) ⊎ (w.core.clock < u))

not_it : (opening : Map) (ws xs : List Step) (w : WholeState) (t u : ℕ) → stage_of t w.readers ≡ None → MayCome w.core (Precommit t) Accepted → IsWholeKept opening ws xs w → IsElsewhere xs w u → t ≢ u
not_it opening ws xs w t u e m h k i =
    let found = active_after_prepare w.core t m.0 in
    let alive = active_holds (λ q. is_aborted q.id xs ≡ false) t w.core.active found.0 found.1 h.kept.has_ends.active in
    let mine = active_holds (IsActiveTx w.core.base w.core.stamped w.core.clock) t w.core.active found.0 found.1 h.kept.sound.active in
    let drawn = mine.0.drawn in
    let is = mine.1 in
    go k (subst (λ (n : ℕ). is_aborted n xs ≡ false) alive.1 alive.0) (omega arith)
  where
    some_none : (p : ReaderStage) → ◌≡◌ {A = Option ReaderStage} (Some p) None → ⊥
    some_none p q = cc

    go : IsElsewhere xs w u → is_aborted t xs ≡ false → t ≤ w.core.clock → ⊥
    go (inl a) al d = true≢false (sym (subst (λ (n : ℕ). is_aborted n xs ≡ true) (sym i) a) ∙ al)
    go (inr (inl q)) al d = some_none q.0 (sym q.1 ∙ subst (λ (n : ℕ). stage_of n w.readers ≡ None) i e)
    go (inr (inr lt)) al d = absurd (omega arith)

behind_none : (u : ℕ) (zs : List Step) → NoPrepare u zs → NoPrepare u (zs ++ [])
behind_none u zs h = subst (NoPrepare u) (sym (append-none zs)) h

other_prepares : (opening : Map) (ws xs : List Step) (w : WholeState) (c : Call) (r : Result) (u : ℕ) → stage_named w.readers (id_named c) ≡ None → MayComeAtStage w c None r → IsWholeKept opening ws xs w → IsElsewhere xs w u → NoPrepare u (trace_of w.core (core_other c r))
other_prepares opening ws xs w (Precommit t) r u e m h k = behind_none u (steps_of w.core (Precommit t) r) (no_prepare u w.core (Precommit t) r (λ v i j. subst (λ (n : ℕ). n ≢ u) (same t v i) (not_it opening ws xs w t u e (subst (MayCome w.core (Precommit t)) j (may_come w (Precommit t) r (λ n q. absurd cc) m)) h k)))
  where
    same : (a b : ℕ) → Precommit a ≡ Precommit b → a ≡ b
    same a b q = cc
other_prepares opening ws xs w Begin r u e m h k = behind_none u (steps_of w.core Begin r) (no_prepare u w.core Begin r (λ v i j. absurd cc))
other_prepares opening ws xs w (Do t op) r u e m h k = behind_none u (steps_of w.core (Do t op) r) (no_prepare u w.core (Do t op) r (λ v i j. absurd cc))
other_prepares opening ws xs w (Validate t) r u e m h k = behind_none u (steps_of w.core (Validate t) r) (no_prepare u w.core (Validate t) r (λ v i j. absurd cc))
other_prepares opening ws xs w (Settle t) r u e m h k = behind_none u (steps_of w.core (Settle t) r) (no_prepare u w.core (Settle t) r (λ v i j. absurd cc))
other_prepares opening ws xs w (Rollback t) r u e m h k = behind_none u (steps_of w.core (Rollback t) r) (no_prepare u w.core (Rollback t) r (λ v i j. absurd cc))
other_prepares opening ws xs w (Finish t) r u e m h k = behind_none u (steps_of w.core (Finish t) r) (no_prepare u w.core (Finish t) r (λ v i j. absurd cc))
other_prepares opening ws xs w (Close fits g full) r u e m h k = behind_none u (steps_of w.core (Close fits g full) r) (no_prepare u w.core (Close fits g full) r (λ v i j. absurd cc))
other_prepares opening ws xs w (Trim n) Accepted u e m h k = tt
other_prepares opening ws xs w (Trim n) (Refused q) u e m h k = tt

failed_prepares : (u : ℕ) (s : State) (t : ℕ) (r : Refusal) → NoPrepare u (trace_of s (core_failed t r))
failed_prepares u s t r = go (is_failure r)
  where
    go : (b : Bool) → NoPrepare u (trace_of s (cond b (rolled_back t) []))
    go true = (refl, tt)
    go false = tt

settled_prepares : (u : ℕ) (s : State) (t : ℕ) (x : Option StampedTx) → NoPrepare u (trace_of s (unless_awaited t x))
settled_prepares u s t (Some x) = tt
settled_prepares u s t None = (refl, tt)

reader_prepares : (u : ℕ) (s : State) (c : Call) (r : Result) → NoPrepare u (trace_of s (core_reader s c r))
reader_prepares u s Begin Accepted = (refl, tt)
reader_prepares u s (Do t op) Accepted = (refl, tt)
reader_prepares u s (Precommit t) Accepted = tt
reader_prepares u s (Validate t) Accepted = tt
reader_prepares u s (Settle t) Accepted = settled_prepares u s t (awaited_by_reader s t)
reader_prepares u s (Rollback t) Accepted = (refl, tt)
reader_prepares u s (Finish t) Accepted = behind_none u (steps_of s (Finish t) Accepted) (no_prepare u s (Finish t) Accepted (λ v i j. absurd cc))
reader_prepares u s (Trim m) Accepted = tt
reader_prepares u s (Close fits g full) Accepted = tt
reader_prepares u s Begin (Refused q) = tt
reader_prepares u s (Do t op) (Refused q) = failed_prepares u s t q
reader_prepares u s (Precommit t) (Refused q) = failed_prepares u s t q
reader_prepares u s (Validate t) (Refused q) = failed_prepares u s t q
reader_prepares u s (Settle t) (Refused q) = failed_prepares u s t q
reader_prepares u s (Rollback t) (Refused q) = tt
reader_prepares u s (Finish t) (Refused q) = tt
reader_prepares u s (Trim m) (Refused q) = tt
reader_prepares u s (Close fits g full) (Refused q) = tt

pub call_prepares : (opening : Map) (ws xs : List Step) (w : WholeState) (a : WholeCall) (r : Result) (u : ℕ) → MayComeWhole w a r → IsWholeKept opening ws xs w → IsElsewhere xs w u → NoPrepare u (trace_of w.core (core_calls w a r))
call_prepares opening ws xs w BeginReadOnly r u m h k = behind_none u (steps_of w.core Begin r) (no_prepare u w.core Begin r (λ v i j. absurd cc))
call_prepares opening ws xs w (CoreCall c) r u m h k = go (stage_named w.readers (id_named c)) refl m
  where
    go : (p : Option ReaderStage) → stage_named w.readers (id_named c) ≡ p → MayComeAtStage w c p r → NoPrepare u (trace_of w.core (core_at_stage w.core c r p))
    go None e q = other_prepares opening ws xs w c r u e q h k
    go (Some p) e q = reader_prepares u w.core c r

-- ---- who is read-only began so: nobody becomes so later
none_staged : (u t : ℕ) (q : ReaderStage) (rs : List UnfinishedReader) → stage_of u rs ≡ None → stage_of u (with_stage t q rs) ≡ None
none_staged u t q [] e = refl
none_staged u t q (r ∷ rs) e = go (r.id == u) e (none_staged u t q rs)
  where
    some_none : (p : ReaderStage) → ◌≡◌ {A = Option ReaderStage} (Some p) None → ⊥
    some_none p f = cc

    go : (b : Bool) → cond b (Some r.stage) (stage_of u rs) ≡ None → (stage_of u rs ≡ None → stage_of u (with_stage t q rs) ≡ None) → cond b (Some (cond (r.id == t) q r.stage)) (stage_of u (with_stage t q rs)) ≡ None
    go true f k = absurd (some_none r.stage f)
    go false f k = k f

none_without : (u t : ℕ) (rs : List UnfinishedReader) → stage_of u rs ≡ None → stage_of u (without_reader t rs) ≡ None
none_without u t [] e = refl
none_without u t (r ∷ rs) e = go (r.id == u) (not (r.id == t)) refl e (none_without u t rs)
  where
    some_none : (p : ReaderStage) → ◌≡◌ {A = Option ReaderStage} (Some p) None → ⊥
    some_none p f = cc

    go : (b c : Bool) → (r.id == u) ≡ b → cond b (Some r.stage) (stage_of u rs) ≡ None → (stage_of u rs ≡ None → stage_of u (without_reader t rs) ≡ None) → stage_of u (cond c (r ∷ without_reader t rs) (without_reader t rs)) ≡ None
    go true c g f k = absurd (some_none r.stage f)
    go false true g f k = ap (λ (b : Bool). cond b (Some r.stage) (stage_of u (without_reader t rs))) g ∙ k f
    go false false g f k = k f

none_last : (u : ℕ) (r : UnfinishedReader) (rs : List UnfinishedReader) → r.id ≢ u → stage_of u rs ≡ None → stage_of u (rs ++ r ∷ []) ≡ None
none_last u r [] n e = ap (λ (b : Bool). cond b (Some r.stage) None) (ne_eqb r.id u n)
none_last u r (q ∷ qs) n e = go (q.id == u) e (none_last u r qs n)
  where
    some_none : (p : ReaderStage) → ◌≡◌ {A = Option ReaderStage} (Some p) None → ⊥
    some_none p f = cc

    go : (b : Bool) → cond b (Some q.stage) (stage_of u qs) ≡ None → (stage_of u qs ≡ None → stage_of u (qs ++ r ∷ []) ≡ None) → cond b (Some q.stage) (stage_of u (qs ++ r ∷ [])) ≡ None
    go true f k = absurd (some_none q.stage f)
    go false f k = k f

none_failed : (u t : ℕ) (q : Refusal) (rs : List UnfinishedReader) → stage_of u rs ≡ None → stage_of u (readers_failed t q rs) ≡ None
none_failed u t q rs e = go (is_failure q)
  where
    go : (b : Bool) → stage_of u (cond b (with_stage t Aborted rs) rs) ≡ None
    go true = none_staged u t Aborted rs e
    go false = e

none_by : (u : ℕ) (s : State) (p : ReaderStage) (c : Call) (r : Result) (rs : List UnfinishedReader) → stage_of u rs ≡ None → stage_of u (readers_reader s p c r rs) ≡ None
none_by u s p Begin Accepted rs e = e
none_by u s p (Do t op) Accepted rs e = e
none_by u s p (Precommit t) Accepted rs e = none_staged u t (Preparing 0 false) rs e
none_by u s p (Validate t) Accepted rs e = none_staged u t (checked_more s t p) rs e
none_by u s p (Settle t) Accepted rs e = go (awaited_by_reader s t)
  where
    go : (v : Option StampedTx) → stage_of u (settled_unless t rs v) ≡ None
    go (Some x) = e
    go None = none_staged u t Committed rs e
none_by u s p (Rollback t) Accepted rs e = none_staged u t Aborted rs e
none_by u s p (Finish t) Accepted rs e = go (is_done s t)
  where
    go : (b : Bool) → stage_of u (cond b (without_reader t rs) rs) ≡ None
    go true = none_without u t rs e
    go false = e
none_by u s p (Trim m) Accepted rs e = e
none_by u s p (Close fits g full) Accepted rs e = e
none_by u s p Begin (Refused q) rs e = e
none_by u s p (Do t op) (Refused q) rs e = none_failed u t q rs e
none_by u s p (Precommit t) (Refused q) rs e = none_failed u t q rs e
none_by u s p (Validate t) (Refused q) rs e = none_failed u t q rs e
none_by u s p (Settle t) (Refused q) rs e = none_failed u t q rs e
none_by u s p (Rollback t) (Refused q) rs e = e
none_by u s p (Finish t) (Refused q) rs e = e
none_by u s p (Trim m) (Refused q) rs e = e
none_by u s p (Close fits g full) (Refused q) rs e = e

call_staged : (w : WholeState) (a : WholeCall) (r : Result) (u : ℕ) → stage_of u w.readers ≡ None → (u ≡ w.core.clock + 1) ⊎ (stage_of u (readers_after w a r) ≡ None)
call_staged w BeginReadOnly (Refused q) u e = inr e
call_staged w BeginReadOnly Accepted u e = go (cases_eq u (w.core.clock + 1))
  where
    go : ((u ≡ w.core.clock + 1) ⊎ (u ≡ w.core.clock + 1 → ⊥)) → (u ≡ w.core.clock + 1) ⊎ (stage_of u (readers_after w BeginReadOnly Accepted) ≡ None)
    go (inl i) = inl i
    go (inr n) = inr (none_last u (record { id = w.core.clock + 1; stage = Reading }) w.readers (λ i. n (sym i)) e)
call_staged w (CoreCall c) r u e = inr (go (stage_named w.readers (id_named c)))
  where
    go : (p : Option ReaderStage) → stage_of u (readers_at_stage w.core c r p w.readers) ≡ None
    go None = e
    go (Some p) = none_by u w.core p c r w.readers e

-- ---- an abort of the core's trace is one of the whole, or the commit of a read-only one
abbrev AbortsIn : ℕ → List Step → List Step → WholeState → Type 0
AbortsIn u us vs w = is_aborted u vs ≡ true → (is_aborted u us ≡ true) ⊎ ((p : ReaderStage) × (stage_of u w.readers ≡ Some p))

aborts_once : (u : ℕ) (w : WholeState) (zs : List Step) → AbortsIn u zs (zs ++ []) w
aborts_once u w zs e = inl (subst (λ l. is_aborted u l ≡ true) (append-none zs) e)

other_aborts : (u : ℕ) (w : WholeState) (c : Call) (r : Result) → AbortsIn u (steps_of w.core c r) (trace_of w.core (core_other c r)) w
other_aborts u w Begin r = aborts_once u w (steps_of w.core Begin r)
other_aborts u w (Do t op) r = aborts_once u w (steps_of w.core (Do t op) r)
other_aborts u w (Precommit t) r = aborts_once u w (steps_of w.core (Precommit t) r)
other_aborts u w (Validate t) r = aborts_once u w (steps_of w.core (Validate t) r)
other_aborts u w (Settle t) r = aborts_once u w (steps_of w.core (Settle t) r)
other_aborts u w (Rollback t) r = aborts_once u w (steps_of w.core (Rollback t) r)
other_aborts u w (Finish t) r = aborts_once u w (steps_of w.core (Finish t) r)
other_aborts u w (Close fits g full) r = aborts_once u w (steps_of w.core (Close fits g full) r)
other_aborts u w (Trim m) Accepted = λ e. absurd (false≢true e)
other_aborts u w (Trim m) (Refused q) = λ e. absurd (false≢true e)

failed_aborts : (u : ℕ) (w : WholeState) (t : ℕ) (r : Refusal) → AbortsIn u (steps_of_refusal t r) (trace_of w.core (core_failed t r)) w
failed_aborts u w t r = go (is_failure r)
  where
    go : (b : Bool) → AbortsIn u (cond b (Aborts t ∷ []) []) (trace_of w.core (cond b (rolled_back t) [])) w
    go true = λ e. inl e
    go false = λ e. absurd (false≢true e)

settled_aborts : (u : ℕ) (w : WholeState) (t : ℕ) (p : ReaderStage) (x : Option StampedTx) → stage_of t w.readers ≡ Some p → AbortsIn u (commits_unless t x) (trace_of w.core (unless_awaited t x)) w
settled_aborts u w t p (Some x) f = λ e. absurd (false≢true e)
settled_aborts u w t p None f = λ e. inr (p, subst (λ (n : ℕ). stage_of n w.readers ≡ Some p) (eqb-true t u (or_none (t == u) e)) f)
  where
    or_none : (b : Bool) → (b || false) ≡ true → b ≡ true
    or_none true q = refl
    or_none false q = q

no_stage : (p : ReaderStage) → ◌≡◌ {A = Option ReaderStage} None (Some p) → ⊥
no_stage p e = cc

reader_aborts : (u : ℕ) (w : WholeState) (c : Call) (r : Result) (p : ReaderStage) → stage_named w.readers (id_named c) ≡ Some p → AbortsIn u (reader_steps w.core c r) (trace_of w.core (core_reader w.core c r)) w
reader_aborts u w Begin r p e = absurd (no_stage p e)
reader_aborts u w (Trim m) r p e = absurd (no_stage p e)
reader_aborts u w (Close fits g full) r p e = absurd (no_stage p e)
reader_aborts u w (Do t op) Accepted p e = aborts_once u w (steps_of w.core (Do t op) Accepted)
reader_aborts u w (Precommit t) Accepted p e = λ q. absurd (false≢true q)
reader_aborts u w (Validate t) Accepted p e = λ q. absurd (false≢true q)
reader_aborts u w (Settle t) Accepted p e = settled_aborts u w t p (awaited_by_reader w.core t) e
reader_aborts u w (Rollback t) Accepted p e = aborts_once u w (steps_of w.core (Rollback t) Accepted)
reader_aborts u w (Finish t) Accepted p e = aborts_once u w (steps_of w.core (Finish t) Accepted)
reader_aborts u w (Do t op) (Refused q) p e = failed_aborts u w t q
reader_aborts u w (Precommit t) (Refused q) p e = failed_aborts u w t q
reader_aborts u w (Validate t) (Refused q) p e = failed_aborts u w t q
reader_aborts u w (Settle t) (Refused q) p e = failed_aborts u w t q
reader_aborts u w (Rollback t) (Refused q) p e = λ k. absurd (false≢true k)
reader_aborts u w (Finish t) (Refused q) p e = λ k. absurd (false≢true k)

call_aborts : (u : ℕ) (w : WholeState) (a : WholeCall) (r : Result) → AbortsIn u (steps_of_whole_call w a r) (trace_of w.core (core_calls w a r)) w
call_aborts u w BeginReadOnly r = aborts_once u w (steps_of w.core Begin r)
call_aborts u w (CoreCall c) r = go (stage_named w.readers (id_named c)) refl
  where
    go : (p : Option ReaderStage) → stage_named w.readers (id_named c) ≡ p → AbortsIn u (steps_at_stage w.core c r p) (trace_of w.core (core_at_stage w.core c r p)) w
    go None e = other_aborts u w c r
    go (Some p) e = reader_aborts u w c r p e

-- ---- what is kept of both traces
pub run_clock : (opening : Map) (xs : List Step) (s : State) (cs : Run) → MayRun s cs → IsKept opening xs s → s.clock ≤ (after_run s cs).clock
run_clock opening xs s [] m h = omega arith
run_clock opening xs s (c ∷ cs) m h =
    let g = (grows_after_call opening xs s c.0 c.1 m.0 h).clock in
    let k = run_clock opening (xs ++ steps_of s c.0 c.1) (after_call s c.0 c.1) cs m.1 (kept_after_call opening xs s c.0 c.1 m.0 h) in
    omega arith

pub matched_more : (opening : Map) (ws xs : List Step) (w : WholeState) (a : WholeCall) (r : Result) → MayComeWhole w a r → IsWholeKept opening ws xs w → IsMatched ws xs w → IsMatched (ws ++ steps_of_whole_call w a r) (xs ++ trace_of w.core (core_calls w a r)) (after_whole_call w a r)
matched_more opening ws xs w a r m h k = record {
  fresh = λ u lt. let c = run_clock opening xs w.core (core_calls w a r) (may_core opening ws xs w a r m h) h.kept in let l : w.core.clock < u = omega arith in both u (k.fresh u l) (inr (inr l));
  readers = λ u p e. staged u p e (stage_of u w.readers) refl;
  aborts = λ u e. found u (or_cases (is_aborted u xs) (is_aborted u vs) (sym (any_both (is_abort_of u) xs vs) ∙ e));
}
  where
    us : List Step
    us = steps_of_whole_call w a r

    vs : List Step
    vs = trace_of w.core (core_calls w a r)

    both : (u : ℕ) → NoPrepare u xs → IsElsewhere xs w u → NoPrepare u (xs ++ vs)
    both u n e = each_append (λ z. is_prepare_of u z ≡ false) xs vs n (call_prepares opening ws xs w a r u m h e)

    staged : (u : ℕ) (p : ReaderStage) → stage_of u (readers_after w a r) ≡ Some p → (q : Option ReaderStage) → stage_of u w.readers ≡ q → NoPrepare u (xs ++ vs)
    staged u p e (Some q) f = both u (k.readers u q f) (inr (inl (q, f)))
    staged u p e None f = new (call_staged w a r u f)
      where
        new : (u ≡ w.core.clock + 1) ⊎ (stage_of u (readers_after w a r) ≡ None) → NoPrepare u (xs ++ vs)
        new (inl i) = let l : w.core.clock < u = omega arith in both u (k.fresh u l) (inr (inr l))
        new (inr n) = absurd (no_stage p (sym n ∙ e))

    found : (u : ℕ) → (is_aborted u xs ≡ true) ⊎ (is_aborted u vs ≡ true) → (is_aborted u (ws ++ us) ≡ true) ⊎ NoPrepare u (xs ++ vs)
    found u (inl e) = before (k.aborts u e)
      where
        before : (is_aborted u ws ≡ true) ⊎ NoPrepare u xs → (is_aborted u (ws ++ us) ≡ true) ⊎ NoPrepare u (xs ++ vs)
        before (inl q) = inl (aborted_still u ws us q)
        before (inr n) = inr (both u n (inl e))
    found u (inr e) = now (call_aborts u w a r e)
      where
        now : (is_aborted u us ≡ true) ⊎ ((p : ReaderStage) × (stage_of u w.readers ≡ Some p)) → (is_aborted u (ws ++ us) ≡ true) ⊎ NoPrepare u (xs ++ vs)
        now (inl q) = inl (any_both (is_abort_of u) ws us ∙ or_right (is_aborted u ws) (is_aborted u us) q)
        now (inr q) = inr (both u (k.readers u q.0 q.1) (inr (inl q)))

pub matched_after_whole_run : (opening : Map) (ws xs : List Step) (w : WholeState) (d : WholeRun) → MayRunWhole w d → IsWholeKept opening ws xs w → IsMatched ws xs w → IsMatched (ws ++ whole_trace w d) (xs ++ own_trace w d) (after_whole_run w d)
matched_after_whole_run opening ws xs w [] m h k = subst (λ l. IsMatched l (xs ++ []) w) (sym (append-none ws)) (subst (λ l. IsMatched ws l w) (sym (append-none xs)) k)
matched_after_whole_run opening ws xs w (a ∷ rest) m h k =
    let w' = after_whole_call w a.0 a.1 in
    let us = steps_of_whole_call w a.0 a.1 in
    let vs = trace_of w.core (core_calls w a.0 a.1) in
    subst (λ l. IsMatched l (xs ++ (vs ++ own_trace w' rest)) (after_whole_run w' rest)) (append_assoc ws us (whole_trace w' rest))
    (subst (λ l. IsMatched ((ws ++ us) ++ whole_trace w' rest) l (after_whole_run w' rest)) (append_assoc xs vs (own_trace w' rest))
    (matched_after_whole_run opening (ws ++ us) (xs ++ vs) w' rest m.1 (whole_after_call opening ws xs w a.0 a.1 m.0 h) (matched_more opening ws xs w a.0 a.1 m.0 h k)))

-- ---- FLAGS: an aborted dependency of the core's own trace is one of the whole
pub flag_whole : (opening : Map) (ws xs : List Step) (w : WholeState) (t u : ℕ) → IsRemembered opening ws xs → IsMatched ws xs w → HasAbortedDependency opening xs t u → HasAbortedDependency opening ws t u
flag_whole opening ws xs w t u m k h = record {
  end' = h.end';
  depends = depends_whole opening ws xs t u h.end' m h.depends;
  aborted = go (k.aborts u h.aborted);
}
  where
    go : (is_aborted u ws ≡ true) ⊎ NoPrepare u xs → is_aborted u ws ≡ true
    go (inl q) = q
    go (inr n) = absurd (never_preparing u h.depends.before h.end' (each_front (λ z. is_prepare_of u z ≡ false) h.depends.before _ (subst (NoPrepare u) h.depends.then' n)) h.depends.writer.preparing)

traced_whole : (opening : Map) (ws xs : List Step) (w : WholeState) (t : ℕ) (ds : List ℕ) (f : Option ℕ) → IsRemembered opening ws xs → IsMatched ws xs w → IsTraced opening xs w.core.stamped t ds f → IsTraced opening ws w.core.stamped t ds f
traced_whole opening ws xs w t ds f m k h = record {
  depends = each_weaker (IsDependency opening xs w.core.stamped t) (IsDependency opening ws w.core.stamped t) (λ d q. record { id = q.id; depends = depends_whole opening ws xs t q.id d m q.depends; one = q.one }) ds h.depends;
  flagged = λ u e. flag_whole opening ws xs w t u m k (h.flagged u e);
}

-- what the state keeps of dependencies and flags, of the read-only ones and of the others, is what the whole trace says
pub are_traced : (opening : Map) (ws xs : List Step) (w : WholeState) → IsWholeKept opening ws xs w → IsRemembered opening ws xs → IsMatched ws xs w → AreTraced opening ws w.core
are_traced opening ws xs w h m k = record {
  active = each_weaker (λ r. IsTraced opening xs w.core.stamped r.id r.depends_on r.aborted_dependency) (λ r. IsTraced opening ws w.core.stamped r.id r.depends_on r.aborted_dependency) (λ r. traced_whole opening ws xs w r.id r.depends_on r.aborted_dependency m k) w.core.active h.kept.traced.active;
  preparing = each_weaker (λ x. x.settled ≡ false → IsTraced opening xs w.core.stamped x.id x.depends_on x.aborted_dependency) (λ x. x.settled ≡ false → IsTraced opening ws w.core.stamped x.id x.depends_on x.aborted_dependency) (λ x q o. traced_whole opening ws xs w x.id x.depends_on x.aborted_dependency m k (q o)) w.core.stamped h.kept.traced.preparing;
}

pub matched_opened : (rows : Map) (mark : ℕ) → IsMatched [] [] (opened_whole rows mark)
matched_opened rows mark = record { fresh = λ u l. tt; readers = λ u p e. tt; aborts = λ u e. absurd (false≢true e) }

pub runs_are_traced : (rows : Map) (mark : ℕ) (d : WholeRun) → MayRunWhole (opened_whole rows mark) d → AreTraced rows (whole_trace (opened_whole rows mark) d) (after_whole_run (opened_whole rows mark) d).core
runs_are_traced rows mark d m =
    let w = opened_whole rows mark in
    are_traced rows (whole_trace w d) (own_trace w d) (after_whole_run w d) (whole_after_run rows [] [] w d m (whole_opened rows mark)) (remembered_after_whole_run rows [] [] w d m (whole_opened rows mark) (remembered_opened rows)) (matched_after_whole_run rows [] [] w d m (whole_opened rows mark) (matched_opened rows mark))
