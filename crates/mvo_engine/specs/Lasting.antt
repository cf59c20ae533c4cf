-- What keeps a session's commits from being durable.
use Rattle.std.specs.Prelude.{◌≡◌, ◌<◌, ℕ, false, Err}
use Rattle.mvo_types.specs.declared.refusal.Refusal.{Refusal}
use Rattle.mvo_types.specs.declared.refusal.Refusal.TheVariants.{NothingToDo, Down}
use Rattle.mvo_disk.specs.declared.disk.Disk.{Ghosts}
use Rattle.mvo_core.specs.Seen.{clock_of}
use Rattle.mvo_core.specs.declared.answers.Closed.{Closed}
use Rattle.mvo_store.specs.Flushing.{IsTurn}
use Rattle.mvo_engine.specs.run.Opening.{Opening}
use Rattle.mvo_engine.specs.Legal.{IsLegalCore}
use Rattle.mvo_engine.specs.States.{CoreState, StoreState}
use Rattle.mvo_engine.specs.Calls.{IsCoreSending, IsTaking, IsLockedCall}
use Rattle.mvo_engine.specs.Asked.{WasDown}
use Rattle.mvo_engine.specs.Flushing.{HasNotFlushed, goes_past}

-- under the lock of the core the clock was below the stamp
pub record WasAboveClock (o : Opening) (stamp : ℕ) : Type 0 where
  pub core : CoreState
  pub legal : IsLegalCore o core.core core.sends.sent
  pub above : clock_of core.core < stamp

-- Under the lock of the core no group was closed, and not since there was none to close or no room
-- for it.
pub record WasNotClosed (e : Refusal) : Type 0 where
  pub old : CoreState
  pub new : CoreState
  pub closing : IsCoreSending old (Err e) new
  pub stops : goes_past {A = Closed} (Err e) ≡ false

-- under the lock of the store a step of a flush was refused, so nothing more was durable by it
pub record WasNotFlushed {D : Type 0} (d : Ghosts D) (e : Refusal) : Type 0 where
  pub old : StoreState D
  pub new : StoreState D
  pub step : IsTurn (IsTaking d) (IsLockedCall d) old (Err e) new
  pub flushed : HasNotFlushed old new

-- what a session is refused that makes its own commits durable, up to the stamp
pub data IsNotMadeDurable {D : Type 0} (d : Ghosts D) (o : Opening) (stamp : ℕ) (e : Refusal)
    : Type 0 where
  AboveClock : e ≡ NothingToDo → WasAboveClock o stamp → IsNotMadeDurable d o stamp e
  AtClosing : WasNotClosed e → IsNotMadeDurable d o stamp e
  AtFlushing : WasNotFlushed d e → IsNotMadeDurable d o stamp e

-- what one is refused that waits, and has seen commits to be durable up to there
pub data IsNotAwaited {D : Type 0} (d : Ghosts D) (o : Opening) (seen : ℕ) (e : Refusal) : Type 0
  where
    WhereDown : e ≡ Down → WasDown d o seen → IsNotAwaited d o seen e
    WhereRefused : WasNotFlushed d e → IsNotAwaited d o seen e
