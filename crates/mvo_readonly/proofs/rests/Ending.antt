-- The aborts that each call adds to the whole trace and to the core's own.
use Rattle.std.proofs.Common.{◌≡◌, ℕ, Bool, true, false, cond, inl, inr, List, [], ◌∷◌, ◌++◌, Option, None, Some, refl, subst}
use Rattle.mvo_types.specs.declared.refusal.Refusal.{Refusal}
use Rattle.mvo_model.specs.Trace.{Step}
use Rattle.mvo_model.specs.Trace.Step.{Aborts, Terminates}
use Rattle.mvo_theory.specs.State.{State, StampedTx}
use Rattle.mvo_theory.specs.Causes.{awaited, end_of, is_failure}
use Rattle.mvo_theory.specs.Words.{is_done}
use Rattle.mvo_theory.specs.Steps.{steps_of_refusal}
use Rattle.mvo_theory.specs.Calls.{Call, Result, steps_unless, steps_of, trace_of}
use Rattle.mvo_theory.specs.Calls.Call.{Begin, Do, Precommit, Validate, Settle, Rollback, Finish, Trim, Close}
use Rattle.mvo_theory.specs.Calls.Result.{Accepted, Refused}
use Rattle.mvo_readonly.specs.Whole.{ReaderStage, WholeState, id_named, stage_named}
use Rattle.mvo_readonly.specs.WholeCauses.{WholeCall, awaited_by_reader}
use Rattle.mvo_readonly.specs.WholeCauses.WholeCall.{CoreCall, BeginReadOnly}
use Rattle.mvo_readonly.specs.WholeCalls.{rolled_back, unless_awaited, core_failed, core_reader, core_other, core_at_stage, core_calls, commits_unless, reader_steps, steps_at_stage, steps_of_whole_call}
use Rattle.mvo_readonly.specs.BothTraces.{NoPrepare, IsMatched}
use Rattle.mvo_readonly.proofs.rests.Joint.{AddsAborts}

failed_ends : (xs : List Step) (s : State) (t : ℕ) (r : Refusal) → AddsAborts xs (steps_of_refusal t r) (steps_of_refusal t r ++ [])
failed_ends xs s t r = go (is_failure r)
  where
    go : (b : Bool) → AddsAborts xs (cond b (Aborts t ∷ []) []) (cond b (Aborts t ∷ []) [] ++ [])
    go true = inr (inl (t, refl, refl))
    go false = inl tt

unless_ends : (xs : List Step) (t e : ℕ) (x : Option StampedTx) → AddsAborts xs (steps_unless t e x) (steps_unless t e x ++ [])
unless_ends xs t e (Some x) = inl tt
unless_ends xs t e None = inl (refl, tt)

done_ends : (xs : List Step) (t : ℕ) (b : Bool) → AddsAborts xs (cond b (Terminates t ∷ []) []) (cond b (Terminates t ∷ []) [] ++ [])
done_ends xs t true = inl (refl, tt)
done_ends xs t false = inl tt

-- one call of the core
once_ends : (xs : List Step) (s : State) (c : Call) (r : Result) → AddsAborts xs (steps_of s c r) (steps_of s c r ++ [])
once_ends xs s Begin Accepted = inl (refl, tt)
once_ends xs s (Do t op) Accepted = inl (refl, tt)
once_ends xs s (Precommit t) Accepted = inl (refl, tt)
once_ends xs s (Validate t) Accepted = inl (refl, tt)
once_ends xs s (Settle t) Accepted = unless_ends xs t (end_of s t) (awaited s t)
once_ends xs s (Rollback t) Accepted = inr (inl (t, refl, refl))
once_ends xs s (Finish t) Accepted = done_ends xs t (is_done s t)
once_ends xs s (Trim m) Accepted = inl tt
once_ends xs s (Close fits g full) Accepted = inl tt
once_ends xs s Begin (Refused q) = inl tt
once_ends xs s (Do t op) (Refused q) = failed_ends xs s t q
once_ends xs s (Precommit t) (Refused q) = failed_ends xs s t q
once_ends xs s (Validate t) (Refused q) = failed_ends xs s t q
once_ends xs s (Settle t) (Refused q) = failed_ends xs s t q
once_ends xs s (Rollback t) (Refused q) = inl tt
once_ends xs s (Finish t) (Refused q) = inl tt
once_ends xs s (Trim m) (Refused q) = inl tt
once_ends xs s (Close fits g full) (Refused q) = inl tt

other_ends : (xs : List Step) (s : State) (c : Call) (r : Result) → AddsAborts xs (steps_of s c r) (trace_of s (core_other c r))
other_ends xs s Begin r = once_ends xs s Begin r
other_ends xs s (Do t op) r = once_ends xs s (Do t op) r
other_ends xs s (Precommit t) r = once_ends xs s (Precommit t) r
other_ends xs s (Validate t) r = once_ends xs s (Validate t) r
other_ends xs s (Settle t) r = once_ends xs s (Settle t) r
other_ends xs s (Rollback t) r = once_ends xs s (Rollback t) r
other_ends xs s (Finish t) r = once_ends xs s (Finish t) r
other_ends xs s (Close fits g full) r = once_ends xs s (Close fits g full) r
other_ends xs s (Trim m) Accepted = inl tt
other_ends xs s (Trim m) (Refused q) = inl tt

-- a read-only transaction that commits is rolled back in the core, where it got no end
settled_ends : (xs : List Step) (s : State) (t : ℕ) (x : Option StampedTx) → NoPrepare t xs → AddsAborts xs (commits_unless t x) (trace_of s (unless_awaited t x))
settled_ends xs s t (Some x) n = inl tt
settled_ends xs s t None n = inr (inr (t, refl, n))

failed_reader : (xs : List Step) (s : State) (t : ℕ) (r : Refusal) → AddsAborts xs (steps_of_refusal t r) (trace_of s (core_failed t r))
failed_reader xs s t r = go (is_failure r)
  where
    go : (b : Bool) → AddsAborts xs (cond b (Aborts t ∷ []) []) (trace_of s (cond b (rolled_back t) []))
    go true = inr (inl (t, refl, refl))
    go false = inl tt

reader_ends : (xs : List Step) (s : State) (c : Call) (r : Result) → ((t : ℕ) → id_named c ≡ Some t → NoPrepare t xs) → AddsAborts xs (reader_steps s c r) (trace_of s (core_reader s c r))
reader_ends xs s Begin Accepted n = once_ends xs s Begin Accepted
reader_ends xs s (Do t op) Accepted n = once_ends xs s (Do t op) Accepted
reader_ends xs s (Precommit t) Accepted n = inl tt
reader_ends xs s (Validate t) Accepted n = inl tt
reader_ends xs s (Settle t) Accepted n = settled_ends xs s t (awaited_by_reader s t) (n t refl)
reader_ends xs s (Rollback t) Accepted n = once_ends xs s (Rollback t) Accepted
reader_ends xs s (Finish t) Accepted n = once_ends xs s (Finish t) Accepted
reader_ends xs s (Trim m) Accepted n = inl tt
reader_ends xs s (Close fits g full) Accepted n = inl tt
reader_ends xs s Begin (Refused q) n = inl tt
reader_ends xs s (Do t op) (Refused q) n = failed_reader xs s t q
reader_ends xs s (Precommit t) (Refused q) n = failed_reader xs s t q
reader_ends xs s (Validate t) (Refused q) n = failed_reader xs s t q
reader_ends xs s (Settle t) (Refused q) n = failed_reader xs s t q
reader_ends xs s (Rollback t) (Refused q) n = inl tt
reader_ends xs s (Finish t) (Refused q) n = inl tt
reader_ends xs s (Trim m) (Refused q) n = inl tt
reader_ends xs s (Close fits g full) (Refused q) n = inl tt

pub call_ends : (ws xs : List Step) (w : WholeState) (a : WholeCall) (r : Result) → IsMatched ws xs w → AddsAborts xs (steps_of_whole_call w a r) (trace_of w.core (core_calls w a r))
call_ends ws xs w BeginReadOnly r k = once_ends xs w.core Begin r
call_ends ws xs w (CoreCall c) r k = go (stage_named w.readers (id_named c)) refl
  where
    go : (p : Option ReaderStage) → stage_named w.readers (id_named c) ≡ p → AddsAborts xs (steps_at_stage w.core c r p) (trace_of w.core (core_at_stage w.core c r p))
    go None e = other_ends xs w.core c r
    go (Some p) e = reader_ends xs w.core c r (λ t i. k.readers t p (subst (λ (o : Option ℕ). stage_named w.readers o ≡ Some p) i e))
