-- What a session asked of the core, each time under its lock.
use Rattle.std.specs.Prelude.{◌≡◌, ◌⊎◌, ◌≤◌, ℕ, true, false, Option, None, Some, Result, Ok, Err, IfOk, IfSome}
use Rattle.mvo_types.specs.declared.answer.Answer.{Answer}
use Rattle.mvo_types.specs.declared.ids.Stamp.{Stamp}
use Rattle.mvo_types.specs.declared.op.Op.{Op}
use Rattle.mvo_types.specs.declared.refusal.Refusal.{Refusal}
use Rattle.mvo_types.specs.declared.refusal.Refusal.TheVariants.{NoSuchTransaction, Down, Busy, OutOfMemory}
use Rattle.mvo_model.specs.History.{History}
use Rattle.mvo_theory.specs.Calls as theory
use Rattle.mvo_theory.specs.Calls.Call.{Do, Precommit, Validate, Settle, Rollback, Finish}
use Rattle.mvo_core.specs.declared.answers.Finishing.{Finishing}
use Rattle.mvo_core.specs.declared.answers.Finishing.TheVariants.{Done}
use Rattle.mvo_core.specs.declared.answers.Settlement.{Settlement}
use Rattle.mvo_core.specs.declared.answers.Settlement.TheVariants.{Committed}
use Rattle.mvo_core.specs.declared.answers.Validation.{Validation}
use Rattle.mvo_core.specs.Holding.{HoldsJustWhole}
use Rattle.mvo_core.specs.WholeAnswers.{IsAnsweredWhole, IsFinishingWhole}
use Rattle.mvo_core.specs.WholeEnds.{IsSettlementWhole}
use Rattle.mvo_disk.specs.declared.disk.Disk.{Ghosts}
use Rattle.mvo_store.specs.Causes.{why_not_take}
use Rattle.mvo_store.specs.Seen.{mark_of}
use Rattle.mvo_engine.specs.run.Opening.{Opening}
use Rattle.mvo_engine.specs.Sound.{IsSoundCore, IsSoundStore}
use Rattle.mvo_engine.specs.States.{CoreState, StoreState}
use Rattle.mvo_engine.specs.Calls.{IsCoreStep, IsBeginning, IsReadOnlyBeginning, IsSettling, IsAnother, ends_transaction}

-- Under its lock the core lay sound, and the call came to this.
pub record WasAsked {A : Type 0} (o : Opening) (call : theory.Call) (result : Result A Refusal)
    : Type 0 where
  pub old : CoreState
  pub new : CoreState
  pub sound : IsSoundCore o old.core old.sends.sent
  pub step : IsCoreStep old call result new

-- So a transaction began there, of a session whose commits ended at most at that stamp; or it was
-- refused.
pub record WasBegun {A : Type 0} (o : Opening) (result : Result A Refusal) : Type 0 where
  pub old : CoreState
  pub new : CoreState
  pub last : ℕ
  pub sound : IsSoundCore o old.core old.sends.sent
  pub step : IsBeginning old last result new

-- and so a read-only one did
pub record WasBegunReadOnly {A : Type 0} (o : Opening) (result : Result A Refusal) : Type 0 where
  pub old : CoreState
  pub new : CoreState
  pub last : ℕ
  pub sound : IsSoundCore o old.core old.sends.sent
  pub step : IsReadOnlyBeginning old last result new

-- so it is with the begins of a session that has no transaction
abbrev pub IsCoreBegin : {A : Type 0} → Opening → Option ℕ → Result A Refusal → Type 0
IsCoreBegin o None result = WasBegun o result
IsCoreBegin o (Some t) result = Unit {0}

abbrev pub IsCoreReadOnlyBegin : {A : Type 0} → Opening → Option ℕ → Result A Refusal → Type 0
IsCoreReadOnlyBegin o None result = WasBegunReadOnly o result
IsCoreReadOnlyBegin o (Some t) result = Unit {0}

-- The transaction was rolled back in the core; or that was refused, since it had ended or was no
-- longer there.
abbrev pub WasRolledBack : Opening → ℕ → Type 0
WasRolledBack o t = (result : Result (Unit {0}) Refusal) × WasAsked o (Rollback t) result

-- a step of its finishing
pub record IsFinishingAnswer (o : Opening) (t : ℕ) (result : Result Finishing Refusal) : Type 0
  where
    pub old : CoreState
    pub new : CoreState
    pub sound : IsSoundCore o old.core old.sends.sent
    pub step : IsCoreStep old (Finish t) result new
    pub answer : IfOk result (IsFinishingWhole old.core t)

-- its last word was replaced in the core, or it was no longer there
pub data WasFinished (o : Opening) (t : ℕ) : Type 0 where
  Last : IsFinishingAnswer o t (Ok Done) → WasFinished o t
  NotThere : IsFinishingAnswer o t (Err NoSuchTransaction) → WasFinished o t

-- it was rolled back in the core and finished
pub record HasGone (o : Opening) (t : ℕ) : Type 0 where
  pub rolled_back : WasRolledBack o t
  pub finished : WasFinished o t

-- What a refusal leaves of the transaction: it stays the session's; or the refusal ended it, and it
-- is finished in the core; or it was rolled back there.
pub data HasLeftTx (o : Opening) (before : Option ℕ) (e : Refusal) (after : Option ℕ) : Type 0 where
  Stays : after ≡ before → HasLeftTx o before e after
  Over : ends_transaction e ≡ true → IfSome before (WasFinished o) → HasLeftTx o before e after
  Gone : IfSome before (HasGone o) → HasLeftTx o before e after

-- what the core answered to an operation of the transaction
pub record WasAnswered (o : Opening) (t : ℕ) (op : Op) (a : Answer) : Type 0 where
  pub old : CoreState
  pub new : CoreState
  pub sound : IsSoundCore o old.core old.sends.sent
  pub step : IsCoreStep old (Do t op) (Ok a) new
  pub answer : IsAnsweredWhole old.core t op a

-- what an operation was answered or refused, the core answered or refused; but for want of memory
abbrev pub IsCoreAnswer : Opening → Option ℕ → Op → Result Answer Refusal → Type 0
IsCoreAnswer o tx op (Ok a) = IfSome tx (λ t. WasAnswered o t op a)
IsCoreAnswer o tx op (Err e) =
    (e ≡ OutOfMemory) ⊎ IfSome tx (λ t. WasAsked {A = Answer} o (Do t op) (Err e))

-- Under its lock the core lay sound, and one session more was made; or none, as many were made as
-- may be.
abbrev pub WasMade : {A : Type 0} → Opening → Result A Refusal → Type 0
WasMade o (Ok session) = (old new : CoreState)
    × IsSoundCore o old.core old.sends.sent × IsAnother old (Some session) new
WasMade {A} o (Err e) = (old new : CoreState)
    × IsSoundCore o old.core old.sends.sent × IsAnother {A = A} old None new

-- Under its lock the core lay sound, and held other answers of the transaction than these: it was
-- Active or Preparing there.
pub record WasUnlike (o : Opening) (t : ℕ) (told : History) : Type 0 where
  pub old : CoreState
  pub sound : IsSoundCore o old.core old.sends.sent
  pub holds : HoldsJustWhole old.core t told false

-- Under its lock the core lay sound, and settled the transaction, which was told just this: it is
-- committed, with this end. Of a read-only one that is its begin.
pub record WasSettled (o : Opening) (t : ℕ) (told : History) (end : Stamp) : Type 0 where
  pub old : CoreState
  pub new : CoreState
  pub sound : IsSoundCore o old.core old.sends.sent
  pub step : IsSettling old t told (Ok (Committed end)) new
  pub answer : IsSettlementWhole old.core t (Committed end)

-- what refuses a commit of a transaction that was told this: a step of the core; or want of memory
-- for the receipt, or Busy, since the core held other answers than its calls gave
pub data HasRefusedToCommit (o : Opening) (t : ℕ) (told : History) (e : Refusal) : Type 0 where
  Preparing : WasAsked {A = Stamp} o (Precommit t) (Err e) → HasRefusedToCommit o t told e
  Checking : WasAsked {A = Validation} o (Validate t) (Err e) → HasRefusedToCommit o t told e
  Settling : WasAsked {A = Settlement} o (Settle t) (Err e) → HasRefusedToCommit o t told e
  Receipt : e ≡ OutOfMemory → HasRefusedToCommit o t told e
  Unlike : WasUnlike o t told → e ≡ Busy → HasRefusedToCommit o t told e

-- Under its lock the store lay sound and was down, at a mark at least what was seen to be durable.
pub record WasDown {D : Type 0} (d : Ghosts D) (o : Opening) (seen : ℕ) : Type 0 where
  pub state : StoreState D
  pub sound : IsSoundStore d o state.store state.received
  pub covers : seen ≤ mark_of state.store
  pub down : why_not_take state.store ≡ Some Down
