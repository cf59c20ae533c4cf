-- Who stands in the way of ending a version.
use Rattle.std.specs.Prelude.{ℕ, ◌==◌, cond, Option, None, Some}
use Rattle.mvo_types.specs.declared.ids.TxId.{TxId}
use Rattle.mvo_types.specs.declared.cause.Cause.{Cause}
use Rattle.mvo_types.specs.declared.cause.Cause.TheVariants as cause
use Rattle.mvo_word.specs.declared.held.Held.{Held}
use Rattle.mvo_word.specs.declared.held.Held.TheVariants.{At, By, Infinity}
use Rattle.mvo_txn.specs.declared.state.TxState.{TxState}
use Rattle.mvo_txn.specs.declared.state.TxState.TheVariants.{Active, Preparing, Committed, Aborted}
use Rattle.mvo_visible.specs.Words.{States}

abbrev pub cause_in : TxId → Option TxState → Option Cause
cause_in t None = None
cause_in t (Some Active) = Some (cause.Active t)
cause_in t (Some (Preparing e)) = Some (cause.Stamped e)
cause_in t (Some (Committed e)) = Some (cause.Stamped e)
cause_in t (Some Aborted) = None

-- whom the End word of a version tells to another writer: nobody where it is infinity, or names
-- that writer or one that is Aborted or gone
abbrev pub cause_of : States → ℕ → Held → Option Cause
cause_of states writer (At s) = Some (cause.Stamped s)
cause_of states writer (By t) = cond (t.0 == writer) None (cause_in t (states t.0))
cause_of states writer Infinity = None
