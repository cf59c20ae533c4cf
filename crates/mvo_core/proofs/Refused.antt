-- An operation is refused: what the core stands for then.
use Rattle.std.proofs.Common.{◌≡◌, ℕ, true, List, ◌++◌, append-nil, None, Some, refl, sym, ap, subst}
use Rattle.std.specs.Prelude.{Result, Ok, Err}
use Rattle.std.specs.Result.{IsErrAnd}
use Rattle.mvo_types.specs.declared.op.Op.{Op}
use Rattle.mvo_types.specs.declared.refusal.Refusal.{Refusal}
use Rattle.mvo_types.specs.declared.refusal.Refusal.TheVariants.{OutOfMemory}
use Rattle.mvo_types.specs.Keys.{Map}
use Rattle.mvo_model.specs.Trace.{Step}
use Rattle.mvo_theory.specs.State.{State}
use Rattle.mvo_theory.specs.Steps.{after_refusal, steps_of_refusal}
use Rattle.mvo_theory.specs.Causes.{why_not_do}
use Rattle.mvo_theory.specs.Calls as theory
use Rattle.mvo_theory.specs.Calls.{IsRefusal}
use Rattle.mvo_theory.specs.Calls.Call.{Do}
use Rattle.mvo_theory.specs.Calls.Result.{Refused}
use Rattle.mvo_core.specs.Readers.{Readers}
use Rattle.mvo_core.specs.Data.{CoreData}
use Rattle.mvo_core.specs.Standing.{StandsAmong}
use Rattle.mvo_core.specs.Steps.{came, LeadsAmong}

module _ (rs : Readers) (opening : Map) (steps : List Step) (s : State) (t : ℕ) (op : Op) (c : CoreData) where
  -- for its first cause, after which the transaction is Aborted or not
  pub refused_leads : (r : Refusal) → why_not_do s t op ≡ Some r → StandsAmong rs opening (steps ++ steps_of_refusal t r) (after_refusal s t r) c
      → LeadsAmong rs opening steps s (Do t op) (Refused r) c
  refused_leads r why h = record { may = subst (λ o. IsRefusal true o r) (sym why) refl; stands = h }

  -- for want of memory
  pub spent_leads : why_not_do s t op ≡ None → StandsAmong rs opening steps s c → LeadsAmong rs opening steps s (Do t op) (Refused OutOfMemory) c
  spent_leads why h = record {
    may = subst (λ o. IsRefusal true o OutOfMemory) (sym why) refl;
    stands = subst (λ ys. StandsAmong rs opening ys s c) (sym (append-nil steps)) h;
  }

-- what a failed allocation comes to
pub came_spent : {A : Type 0} (r : Result A Refusal) → IsErrAnd r (λ e. e ≡ OutOfMemory) → ◌≡◌ {A = theory.Result} (Refused OutOfMemory) (came r)
came_spent (Ok x) e = absurd e
came_spent (Err x) e = ap Refused (sym e)
