-- What a word of a version says, to others and to the transaction that it names.
use Rattle.std.specs.Prelude.{ℕ, ◌==◌, Bool, false, Option, None, Some}
use Rattle.mvo_types.specs.declared.ids.TxId.{TxId}
use Rattle.mvo_word.specs.declared.held.Held.{Held}
use Rattle.mvo_word.specs.declared.held.Held.TheVariants.{At, By, Infinity}
use Rattle.mvo_txn.specs.declared.state.TxState.{TxState}
use Rattle.mvo_txn.specs.declared.state.TxState.TheVariants.{Active, Preparing, Committed, Aborted}
use Rattle.mvo_visible.specs.declared.seen.Seen.{Seen}
use Rattle.mvo_visible.specs.declared.seen.Seen.TheVariants.{Nothing, Settled, Speculative}

-- where each transaction of the table stands, by its id
abbrev pub States : Type 0
States = ℕ → Option TxState

abbrev pub seen_in : TxId → Option TxState → Seen
seen_in t None = Nothing
seen_in t (Some Active) = Nothing
seen_in t (Some (Preparing e)) = Speculative e t
seen_in t (Some (Committed e)) = Settled e
seen_in t (Some Aborted) = Nothing

-- what others see in a word: a timestamp, or the end of the transaction that it names
abbrev pub seen_of : States → Held → Seen
seen_of states (At s) = Settled s
seen_of states (By t) = seen_in t (states t.0)
seen_of states Infinity = Nothing

-- whether the word names the transaction
abbrev pub names : ℕ → Held → Bool
names t (At s) = false
names t (By u) = u.0 == t
names t Infinity = false
