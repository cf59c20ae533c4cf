-- What a session lets go of: receipts that end up to the start of the tale, as no commit is stored
-- there.
use Rattle.std.specs.Prelude.{◌≡◌, ◌≤◌, ◌+◌, ℕ, nat_lt, max, length, List, ◌++◌, Result, Ok, Err}
use Rattle.std.specs.List.{AllByRecursion, filter}
use Rattle.mvo_types.specs.declared.refusal.Refusal.{Refusal}
use Rattle.mvo_core.specs.Receipts.{Receipt}
use Rattle.mvo_engine.specs.run.Opening.{Opening}
use Rattle.mvo_engine.specs.run.Receiving.{HasLetGo}
use Rattle.mvo_engine.specs.Sound.{IsSoundCore}
use Rattle.mvo_engine.specs.States.{CoreState, SessionState}

-- the receipts that end above the start of the tale
abbrev pub above_start : ℕ → List Receipt → List Receipt
above_start start rs = filter (λ r. nat_lt start r.end) rs

-- All receipts but those that end above the start are gone, so many.
pub record HasForgottenAll (start : ℕ) (old : SessionState) (n : ℕ) (new : SessionState) : Type 0
  where
    pub session : new ≡ record old {
      receipts = above_start start old.receipts;
      forgotten = max old.forgotten start;
    }
    pub number : n + length new.receipts ≡ length old.receipts

-- under the lock of a core that lay sound, the tale started there
pub record WasStart (o : Opening) (start : ℕ) : Type 0 where
  pub core : CoreState
  pub sound : IsSoundCore o core.core core.sends.sent
  pub is : core.core.start ≡ start

-- Of the receipts in front that end up to where the tale started, so many are gone at most: all,
-- where they are fewer.
pub record HasForgottenSome (o : Opening) (most : ℕ) (old new : SessionState) : Type 0 where
  pub start : ℕ
  pub was : WasStart o start
  pub number : ℕ
  pub gone : HasLetGo start most old.receipts number new.receipts
  pub forgotten : new.forgotten ≡ max old.forgotten start

-- a begin that is accepted comes to this, and one that is refused forgets nothing
abbrev pub HasForgottenIfOk : {A : Type 0} → Opening → ℕ → SessionState → Result A Refusal
    → SessionState → Type 0
HasForgottenIfOk o most old (Ok a) new = HasForgottenSome o most old new
HasForgottenIfOk o most old (Err e) new =
    (new.receipts ≡ old.receipts) × (new.forgotten ≡ old.forgotten)

-- the tale started there, or behind it
abbrev pub WasUpToStart : Opening → ℕ → Type 0
WasUpToStart o end' = (start : ℕ) × (end' ≤ start) × WasStart o start

-- Receipts in front are gone, none of which ended above where the tale started.
pub record HasForgottenAny (o : Opening) (old new : List Receipt) : Type 0 where
  pub gone : List Receipt
  pub front : old ≡ gone ++ new
  pub each : AllByRecursion (λ r. WasUpToStart o r.end) gone
