-- A call that is given up leads on to what its refusal leaves.
use Rattle.std.proofs.Common.{◌≡◌, ℕ, Bool, true, false, cond, List, [], ◌∷◌, ◌++◌, None, Some, refl, sym, ◌∙◌, subst, append-nil}
use Rattle.mvo_types.specs.declared.refusal.Refusal.{Refusal}
use Rattle.mvo_types.specs.Keys.{Map}
use Rattle.mvo_model.specs.Trace.{Step}
use Rattle.mvo_model.specs.Trace.Step.{Aborts}
use Rattle.mvo_theory.specs.State.{State}
use Rattle.mvo_theory.specs.Causes.{is_failure}
use Rattle.mvo_theory.specs.Steps.{after_abort}
use Rattle.mvo_theory.specs.Calls.{Call, IsRefusal, why_not, takes_memory}
use Rattle.mvo_theory.specs.Calls.Call.{Precommit, Validate, Settle, Rollback}
use Rattle.mvo_theory.specs.Calls.Result.{Accepted, Refused}
use Rattle.mvo_readonly.specs.Whole.{stage_of}
use Rattle.mvo_readonly.specs.Whole.ReaderStage.{Aborted as IsAbortedStage}
use Rattle.mvo_readonly.specs.WholeCalls.{with_stage}
use Rattle.mvo_txn.specs.Txns.{state_of}
use Rattle.mvo_core.specs.Readers.{Readers}
use Rattle.mvo_core.specs.Causes.{why_not_undo}
use Rattle.mvo_core.specs.Data.{CoreData}
use Rattle.mvo_core.specs.Standing.{StandsAmong}
use Rattle.mvo_core.specs.Steps.{LeadsAmong}
use Rattle.mvo_core.specs.Aborting.{IsGivenUp, IsAborted, IsReaderGivenUp, IsReaderAborted, with_unfinished}
use Rattle.mvo_core.proofs.CausesTold.{not_undone_is}

-- it is a failure, and the transaction is aborted
pub failed : (old new : CoreData) (t : ℕ) (r : Refusal) → is_failure r ≡ true → IsAborted old t new → IsGivenUp old t r new
failed old new t r e aborted rs opening steps s other h =
    subst (λ (b : Bool). StandsAmong rs opening (steps ++ cond b (Aborts t ∷ []) []) (cond b (after_abort s t) s) new) (sym e) (aborted rs opening steps s other h)

pub reader_failed : (old new : CoreData) (t : ℕ) (r : Refusal) → is_failure r ≡ true → IsReaderAborted old t new → IsReaderGivenUp old t r new
reader_failed old new t r e aborted rs opening steps s p at going h =
    subst (λ (b : Bool). StandsAmong (with_unfinished rs (cond b (with_stage t IsAbortedStage rs.unfinished) rs.unfinished)) opening (steps ++ cond b (Aborts t ∷ []) []) (cond b (after_abort s t) s) new) (sym e) (aborted rs opening steps s p at (going e) h)

-- it isn't one, and nothing changes
pub reader_stays : (c : CoreData) (t : ℕ) (r : Refusal) → is_failure r ≡ false → IsReaderGivenUp c t r c
reader_stays c t r e rs opening steps s p at going h =
    subst (λ (b : Bool). StandsAmong (with_unfinished rs (cond b (with_stage t IsAbortedStage rs.unfinished) rs.unfinished)) opening (steps ++ cond b (Aborts t ∷ []) []) (cond b (after_abort s t) s) c) (sym e)
    (subst (λ ys. StandsAmong rs opening ys s c) (sym (append-nil steps)) h)

-- the first cause that stands is the refusal
pub first_stands : (s : State) (call : Call) (r : Refusal) → why_not s call ≡ Some r → IsRefusal (takes_memory call) (why_not s call) r
first_stands s call r e = subst (λ o. IsRefusal (takes_memory call) o r) (sym e) refl

module _ (rs : Readers) (opening : Map) (steps : List Step) (s : State) (old new : CoreData) (h : StandsAmong rs opening steps s old) (t : ℕ) (other : stage_of t rs.unfinished ≡ None) (r : Refusal) (left : IsGivenUp old t r new) where
  pub precommit_given_up : why_not s (Precommit t) ≡ Some r → LeadsAmong rs opening steps s (Precommit t) (Refused r) new
  precommit_given_up why = record { may = first_stands s (Precommit t) r why; stands = left rs opening steps s other h }

  pub validate_given_up : why_not s (Validate t) ≡ Some r → LeadsAmong rs opening steps s (Validate t) (Refused r) new
  validate_given_up why = record { may = first_stands s (Validate t) r why; stands = left rs opening steps s other h }

  pub settle_given_up : why_not s (Settle t) ≡ Some r → LeadsAmong rs opening steps s (Settle t) (Refused r) new
  settle_given_up why = record { may = first_stands s (Settle t) r why; stands = left rs opening steps s other h }

-- ---- a rollback
module _ (rs : Readers) (opening : Map) (steps : List Step) (s : State) (old new : CoreData) (h : StandsAmong rs opening steps s old) (t : ℕ) (other : stage_of t rs.unfinished ≡ None) where
  pub rolled_back : why_not_undo (state_of old.table t) ≡ None → IsAborted old t new → LeadsAmong rs opening steps s (Rollback t) Accepted new
  rolled_back none aborted = record { may = (sym (not_undone_is rs opening steps s old h t) ∙ none, tt); stands = aborted rs opening steps s other h }
