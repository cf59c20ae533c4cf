-- What giving a session back comes to.
use Rattle.std.specs.Prelude.{◌≡◌, ◌+◌, ◌<◌, ℕ, [], None, Some, Result, Ok, Err}
use Rattle.mvo_types.specs.declared.refusal.Refusal.{Refusal}
use Rattle.mvo_types.specs.declared.refusal.Refusal.TheVariants.{Busy}
use Rattle.mvo_engine.specs.run.Opening.{Opening}
use Rattle.mvo_engine.specs.Forgetting.{above_start, HasForgottenAll, WasStart}
use Rattle.mvo_engine.specs.Sound.{IsSoundCore}
use Rattle.mvo_engine.specs.States.{CoreState, SessionState}

-- It had no transaction. Under the lock of a core that lay sound, none of its receipts ended above
-- the start of the tale, and there is one session fewer.
pub record HasRetired (o : Opening) (session : SessionState) : Type 0 where
  pub no_tx : session.tx ≡ None
  pub old : CoreState
  pub new : CoreState
  pub sound : IsSoundCore o old.core old.sends.sent
  pub no_receipts : above_start old.core.start session.receipts ≡ []
  pub fewer : new.made + 1 ≡ old.made
  pub rest : new ≡ record old { made = new.made }

-- It has a transaction, and is as it was. Or receipts are left that end above the start of the
-- tale; or it had let go of some there, which no run meets.
pub data IsNotRetired (o : Opening) (session back : SessionState) : Type 0 where
  InTx : (t : ℕ) → session.tx ≡ Some t → back ≡ session → IsNotRetired o session back
  WithReceipts : (start n : ℕ) → WasStart o start → HasForgottenAll start session n back
      → (back.receipts ≡ [] → start < session.forgotten) → IsNotRetired o session back

abbrev pub IsRetired : {A : Type 0} → Opening → SessionState → Result A (Refusal × SessionState)
    → Type 0
IsRetired o session (Ok a) = HasRetired o session
IsRetired o session (Err e) = (e.0 ≡ Busy) × IsNotRetired o session e.1
