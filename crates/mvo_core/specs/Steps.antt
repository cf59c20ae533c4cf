-- What each call comes to, and what the core stands for then.
use Rattle.std.specs.Prelude.{ℕ, ◌≡◌, if◌then◌else◌, List, ◌++◌, Option, None, Some, Result, Ok, Err}
use Rattle.mvo_types.specs.declared.refusal.Refusal.{Refusal}
use Rattle.mvo_types.specs.declared.answer.Answer.{Answer}
use Rattle.mvo_types.specs.declared.op.Op.{Op}
use Rattle.mvo_types.specs.AnswerData.{answer_data}
use Rattle.mvo_types.specs.Keys.{Map}
use Rattle.mvo_model.specs.Trace.{Step}
use Rattle.mvo_theory.specs.State.{State, StampedTx}
use Rattle.mvo_theory.specs.Causes.{awaited, end_of}
use Rattle.mvo_theory.specs.Words.{is_done}
use Rattle.mvo_theory.specs.Steps.{is_valid_now}
use Rattle.mvo_theory.specs.Calls as theory
use Rattle.mvo_theory.specs.Calls.{Call, MayCome, after_call, steps_of, answer_in}
use Rattle.mvo_theory.specs.Calls.Result.{Accepted, Refused}
use Rattle.mvo_core.specs.declared.answers.Settlement.{Settlement}
use Rattle.mvo_core.specs.declared.answers.Settlement.TheVariants.{Committed, Waiting}
use Rattle.mvo_core.specs.declared.answers.Validation.{Validation}
use Rattle.mvo_core.specs.declared.answers.Validation.TheVariants as validation
use Rattle.mvo_core.specs.declared.answers.Finishing.{Finishing}
use Rattle.mvo_core.specs.declared.answers.Finishing.TheVariants as finishing
use Rattle.mvo_core.specs.Data.{CoreData}
use Rattle.mvo_core.specs.Readers.{Readers, no_readers}
use Rattle.mvo_core.specs.Standing.{StandsAmong, StandsFor}

-- what a call came to
abbrev pub came : {A : Type 0} → Result A Refusal → theory.Result
came (Ok a) = Accepted
came (Err r) = Refused r

-- a call of none of these read-only transactions may come to this in the state, and leads to the
-- named one
pub record LeadsAmong (rs : Readers) (opening : Map) (steps : List Step) (s : State) (call : Call)
    (r : theory.Result) (new : CoreData) : Type 0 where
  pub may : MayCome s call r
  pub stands : StandsAmong rs opening (steps ++ steps_of s call r) (after_call s call r) new

-- so it does where no transaction is read-only
abbrev pub LeadsOn : Map → List Step → State → Call → theory.Result → CoreData → Type 0
LeadsOn opening steps s call r new = LeadsAmong no_readers opening steps s call r new

-- so it does from each state that the core stands for
abbrev pub IsStep : {A : Type 0} → CoreData → Call → Result A Refusal → CoreData → Type 0
IsStep old call result new = (opening : Map) (steps : List Step) (s : State)
    → StandsFor opening steps s old → LeadsOn opening steps s call (came result) new

-- ---- what is answered
abbrev pub InEach : CoreData → (State → Type 0) → Type 0
InEach c P = (opening : Map) (steps : List Step) (s : State) → StandsFor opening steps s c → P s

-- what the serial step answers on the transaction's snapshot
abbrev pub IsAnswered : CoreData → ℕ → Op → Answer → Type 0
IsAnswered c t op a = InEach c (λ s. answer_data a ≡ answer_in s t op)

abbrev pub IsValidation : CoreData → ℕ → Validation → Type 0
IsValidation c t v =
    InEach c (λ s. v ≡ (if is_valid_now s t then validation.Valid else validation.More))

abbrev pub settled_as : State → ℕ → Option StampedTx → Settlement
settled_as s t None = Committed (record { 0 = end_of s t })
settled_as s t (Some x) = Waiting (record { 0 = x.id })

-- it waits for whom the state says, or has its end
abbrev pub IsSettlement : CoreData → ℕ → Settlement → Type 0
IsSettlement c t a = InEach c (λ s. a ≡ settled_as s t (awaited s t))

abbrev pub IsFinishing : CoreData → ℕ → Finishing → Type 0
IsFinishing c t a = InEach c (λ s. a ≡ (if is_done s t then finishing.Done else finishing.More))
