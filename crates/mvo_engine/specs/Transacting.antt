-- What a whole transaction of a session comes to, and each attempt at it.
use Rattle.std.specs.Prelude.{◌≡◌, ◌<◌, ◌+◌, ℕ, zero, suc, true, List, [], ◌∷◌, ◌++◌, Option, None, Some, Result, Ok, Err, max, IfErr, IfSome}
use Rattle.mvo_types.specs.declared.refusal.Refusal.{Refusal}
use Rattle.mvo_types.specs.declared.refusal.Refusal.TheVariants.{Busy}
use Rattle.mvo_types.specs.declared.ids.Stamp.{Stamp}
use Rattle.mvo_theory.specs.Causes.{is_failure}
use Rattle.mvo_core.specs.Receipts.{Receipt, receipt}
use Rattle.mvo_engine.specs.declared.outcome.Outcome.{Outcome}
use Rattle.mvo_engine.specs.declared.outcome.Outcome.TheVariants.{Commit, GiveUp}
use Rattle.mvo_engine.specs.declared.transacted.Transacted.{Transacted}
use Rattle.mvo_engine.specs.run.Receiving.{AreBelow}
use Rattle.mvo_engine.specs.run.Opening.{Opening}
use Rattle.mvo_engine.specs.States.{SessionState}
use Rattle.mvo_engine.specs.Asked.{HasGone}
use Rattle.mvo_engine.specs.Forgetting.{HasForgottenSome, HasForgottenAny}
use Rattle.mvo_engine.specs.declared.session.operating.TheConstants.{FORGOTTEN_AT_ONCE}
use Rattle.mvo_engine.specs.Refusing.{refuses_begin, refuses_commit}

-- what work in a transaction comes to: the session before it, its result, and the session after it
abbrev pub Work : Type 0 → Type 1
Work A = SessionState → Result (Outcome A) Refusal → SessionState → Type 0

-- a transaction is begun, above the ends of all receipts, of which some may be forgotten then, and
-- was told nothing yet
pub record HasNewTx (o : Opening) (old new : SessionState) : Type 0 where
  pub tx : ℕ
  pub above : AreBelow tx old.receipts
  pub forgets : HasForgottenSome o FORGOTTEN_AT_ONCE old new
  pub begun : new ≡ record old {
    tx = Some tx;
    told = [];
    receipts = new.receipts;
    forgotten = new.forgotten;
  }

-- An attempt that is refused: by its begin; by the work, of which the transaction is rolled back in
-- the core and finished; or by its commit.
pub data IsRefusedBy {A : Type 0} (o : Opening) (work : Work A) (old : SessionState) (e : Refusal)
    : Type 0 where
  Beginning : refuses_begin e ≡ true → IsRefusedBy o work old e
  Working : (begun worked : SessionState) → HasNewTx o old begun → work begun (Err e) worked
      → IfSome worked.tx (HasGone o) → IsRefusedBy o work old e
  Committing : (begun worked : SessionState) → HasNewTx o old begun → (a : A)
      → work begun (Ok (Commit a)) worked → refuses_commit e ≡ true → IsRefusedBy o work old e

-- it leaves no receipt more and no transaction
pub record HasNotDone {A : Type 0} (o : Opening) (work : Work A) (old : SessionState) (e : Refusal)
    (new : SessionState) : Type 0 where
  pub by : IsRefusedBy o work old e
  pub receipts : HasForgottenAny o old.receipts new.receipts
  pub tx : new.tx ≡ None

-- An attempt that is committed: the work's transaction is, and its receipt is one more.
pub record HasDone {A : Type 0} (o : Opening) (work : Work A) (old : SessionState) (told : A)
    (end : Stamp) (new : SessionState) : Type 0 where
  pub begun : SessionState
  pub begins : HasNewTx o old begun
  pub worked : SessionState
  pub works : work begun (Ok (Commit told)) worked
  pub tx : ℕ
  pub there : worked.tx ≡ Some tx
  pub commits : new ≡ record worked {
    tx = None;
    told = [];
    receipts = begun.receipts ++ receipt tx end.0 worked.told ∷ [];
  }

-- An attempt that the work gave up: the transaction is rolled back in the core and finished, and no
-- receipt is more.
pub record HasGivenUp {A : Type 0} (o : Opening) (work : Work A) (old : SessionState) (told : A)
    (new : SessionState) : Type 0 where
  pub begun : SessionState
  pub begins : HasNewTx o old begun
  pub worked : SessionState
  pub works : work begun (Ok (GiveUp told)) worked
  pub gone : IfSome worked.tx (HasGone o)
  pub leaves : new ≡ record worked { tx = None; receipts = begun.receipts }

-- it was committed, with its end; or the work gave it up
abbrev pub HasTransacted : {A : Type 0} → Opening → Work A → SessionState → A → Option Stamp
    → SessionState → Type 0
HasTransacted o work old told (Some end) new = HasDone o work old told end new
HasTransacted o work old told None new = HasGivenUp o work old told new

abbrev pub IsAttempt : {A : Type 0} → Opening → Work A → SessionState
    → Result (Transacted A) Refusal → SessionState → Type 0
IsAttempt o work old (Ok done) new = HasTransacted o work old done.told done.end new
IsAttempt o work old (Err e) new = HasNotDone o work old e new

-- so many attempts one after another, each refused with a failure
abbrev pub HaveFailed : {A : Type 0} → Opening → Work A → ℕ → SessionState → SessionState → Type 0
HaveFailed o work zero old new = new ≡ old
HaveFailed o work (suc n) old new = (between : SessionState) × HaveFailed o work n old between
    × (e : Refusal) × (is_failure e ≡ true) × IsAttempt o work between (Err e) new

-- where a whole transaction was committed
abbrev pub end_committed : {A : Type 0} → Result (Transacted A) Refusal → Option Stamp
end_committed (Ok done) = done.end
end_committed (Err e) = None

-- What is committed has one receipt more, which ends there; what isn't has none. Of those that were
-- there some may be forgotten.
abbrev pub HasOneMore : Opening → Option Stamp → List Receipt → List Receipt → Type 0
HasOneMore o (Some end) old new = (left : List Receipt) × HasForgottenAny o old left
    × (r : Receipt) × (r.end ≡ end.0) × (new ≡ left ++ r ∷ [])
HasOneMore o None old new = HasForgottenAny o old new

-- Attempts up to the first that doesn't fail, up to so many in all, and at least one: the answer is
-- the last one's, and a failure alone where all of them failed.
pub record AreAttempts {A : Type 0} (o : Opening) (work : Work A) (times : ℕ) (old : SessionState)
    (result : Result (Transacted A) Refusal) (new : SessionState) : Type 0 where
  pub failures : ℕ
  pub before : SessionState
  pub failed : HaveFailed o work failures old before
  pub last : IsAttempt o work before result new
  pub fewer : failures < max 1 times
  pub spent : IfErr result (λ e. is_failure e ≡ true → failures + 1 ≡ max 1 times)
  pub receipts : HasOneMore o (end_committed result) old.receipts new.receipts
  pub tx : new.tx ≡ None

-- Refused with Busy where it has a transaction, and nothing changes.
abbrev pub IsTransacted : {A : Type 0} → Opening → Work A → ℕ → Option ℕ → SessionState
    → Result (Transacted A) Refusal → SessionState → Type 0
IsTransacted o work times (Some t) old result new = (result ≡ Err Busy) × (new ≡ old)
IsTransacted o work times None old result new = AreAttempts o work times old result new
