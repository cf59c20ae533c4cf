-- Whether a transaction was told just this.
use Rattle.std.specs.Prelude.{ℕ, ◌≡◌, ◌↔◌, Bool, IsTrue, Option, None, Some}
use Rattle.std.specs.Option.{option_map}
use Rattle.mvo_types.specs.declared.op.Op.{Op}
use Rattle.mvo_types.specs.declared.answer.Answer.{Answer}
use Rattle.mvo_types.specs.AnswerData.{AnswerData, answer_data}
use Rattle.mvo_model.specs.History.{History}
use Rattle.mvo_theory.specs.State.{State, ActiveTx, StampedTx, active_of, preparing_of}
use Rattle.mvo_txn.specs.declared.state.TxState.{TxState}
use Rattle.mvo_txn.specs.declared.state.TxState.TheVariants.{Active, Preparing, Committed, Aborted}
use Rattle.mvo_core.specs.declared.kept_transaction.KeptTransaction.{KeptTransaction}
use Rattle.mvo_core.specs.Data.{CoreData}
use Rattle.mvo_core.specs.Steps.{InEach}
use Rattle.mvo_core.specs.WholeAnswers.{InEachWhole}

-- an operation with its answer, apart from where it lies in memory
abbrev pub told_as : Op × Answer → Op × AnswerData
told_as t = (t.0, answer_data t.1)

-- the operations with their answers that precommit took, if something is kept of a transaction
abbrev pub own_told : Option KeptTransaction → Option History
own_told own = option_map (λ t. t.taken.history) own

-- those of one that stands so: the work of an Active one has them
abbrev pub told_at : Option TxState → History → Option KeptTransaction → Option History
told_at (Some Active) work own = Some work
told_at state work own = own_told own

-- the answer of one that stands so and was told this: yes where it is neither Active nor Preparing
abbrev pub HasToldAs : Option TxState → Option History → History → Bool → Type 0
HasToldAs None told h b = IsTrue b
HasToldAs (Some Active) told h b = IsTrue b ↔ (told ≡ Some h)
HasToldAs (Some (Preparing e)) told h b = IsTrue b ↔ (told ≡ Some h)
HasToldAs (Some (Committed e)) told h b = IsTrue b
HasToldAs (Some Aborted) told h b = IsTrue b

-- Where the transaction is Active or Preparing, the answer is yes just where its history is this
-- one; where it is neither, there is nothing to compare, and the answer is yes.
abbrev pub HasJust : State → ℕ → History → Bool → Type 0
HasJust s t h b =
    ((r : ActiveTx) → active_of t s.active ≡ Some r → (IsTrue b ↔ (r.history ≡ h)))
    × ((x : StampedTx) → preparing_of t s.stamped ≡ Some x → (IsTrue b ↔ (x.history ≡ h)))
    × (active_of t s.active ≡ None → preparing_of t s.stamped ≡ None → IsTrue b)

abbrev pub HoldsJust : CoreData → ℕ → History → Bool → Type 0
HoldsJust c t h b = InEach c (λ s. HasJust s t h b)

-- so it is in each whole state, in which a read-only one is Active until it ends
abbrev pub HoldsJustWhole : CoreData → ℕ → History → Bool → Type 0
HoldsJustWhole c t h b = InEachWhole c (λ w. HasJust w.core t h b)
