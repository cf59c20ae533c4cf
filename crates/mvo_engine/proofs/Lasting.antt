-- What keeps commits from being durable, by what the calls under the locks came to.
use Rattle.std.proofs.Common.{◌≡◌, ◌≢◌, Bool, false, Result, Err, refl, subst}
use Rattle.mvo_types.specs.declared.refusal.Refusal.{Refusal}
use Rattle.mvo_types.specs.declared.refusal.Refusal.TheVariants.{NothingToDo, RingFull}
use Rattle.mvo_disk.specs.declared.disk.Disk.{Ghosts}
use Rattle.mvo_core.specs.declared.answers.Closed.{Closed}
use Rattle.mvo_store.specs.Flushing.{IsTurn}
use Rattle.mvo_engine.specs.States.{CoreState, StoreState}
use Rattle.mvo_engine.specs.Calls.{IsCoreSending, IsTaking, IsLockedCall}
use Rattle.mvo_engine.specs.Flushing.{IsFlushOfOne, goes_past}
use Rattle.mvo_engine.specs.Lasting.{WasNotClosed, WasNotFlushed}

stops_of : (e : Refusal) → e ≢ NothingToDo → e ≢ RingFull → goes_past {A = Closed} (Err e) ≡ false
stops_of NothingToDo a b = absurd (a refl)
stops_of RingFull a b = absurd (b refl)
stops_of e a b = refl

-- a closing that was refused, and not since there was none to close or no room for it
pub not_closed : (old new : CoreState) (r : Result Closed Refusal) (e : Refusal) → r ≡ Err e → IsCoreSending old r new → e ≢ NothingToDo → e ≢ RingFull → WasNotClosed e
not_closed old new r e is h a b = record {
  old = old;
  new = new;
  closing = subst (λ (x : Result Closed Refusal). IsCoreSending old x new) is h;
  stops = stops_of e a b;
}

-- a step of a flush that was refused
pub not_flushed_so : {D : Type 0} (d : Ghosts D) (old new : StoreState D) (r : Result Bool Refusal) (e : Refusal) → r ≡ Err e → IsTurn (IsTaking d) (IsLockedCall d) old r new → IsFlushOfOne old r new → WasNotFlushed d e
not_flushed_so d old new r e is h f = record {
  old = old;
  new = new;
  step = subst (λ (x : Result Bool Refusal). IsTurn (IsTaking d) (IsLockedCall d) old x new) is h;
  flushed = subst (λ (x : Result Bool Refusal). IsFlushOfOne old x new) is f;
}
