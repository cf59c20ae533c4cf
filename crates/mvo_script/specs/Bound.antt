-- What the names of a script are bound to.
use Rattle.std.specs.Prelude.{◌≡◌, ℕ, Bool, false, nat_le, List, Option, Some, None, if◌then◌else◌, option_map}
use Rattle.std.specs.Option.{option_flatten}
use Rattle.std.specs.BTreeMap.{get_by_text}
use Rattle.std.specs.Str.{bytes_eq}
use Rattle.mvo_types.specs.declared.ids.TxId.{TxId}
use Rattle.mvo_types.specs.declared.ids.Stamp.{Stamp}
use Rattle.mvo_world.specs.declared.reply.Reply.{Reply}
use Rattle.mvo_world.specs.declared.reply.Reply.TheVariants.{Began}
use Rattle.mvo_script.specs.Begun.{begun}
use Rattle.mvo_script.specs.declared.bound.BoundTx.{BoundTx}
use Rattle.mvo_script.specs.declared.names.Names.{Names}

-- what a name is bound to
abbrev pub bound_by : Names → List ℕ → Option BoundTx
bound_by names name = option_flatten (get_by_text names.bound name)

-- no name is bound
abbrev pub BindsNone : Names → Type 0
BindsNone names = (q : List ℕ) → bound_by names q ≡ None

-- the name is bound to the transaction, which isn't Committed, and all others stay
abbrev pub Binds : Names → Names → List ℕ → TxId → Type 0
Binds old new name tx =
    (q : List ℕ) → bound_by new q ≡ (if bytes_eq q name then Some (begun tx) else bound_by old q)

-- each name is bound as it was
abbrev pub KeepsBound : Names → Names → Type 0
KeepsBound old new = (q : List ℕ) → bound_by new q ≡ bound_by old q

-- the name is bound to the transaction that was begun; where none was, each is bound as it was
abbrev pub BindsBegun : Names → Names → List ℕ → Reply → Type 0
BindsBegun old new name (Began tx) = Binds old new name tx
BindsBegun old new name _ = KeepsBound old new

-- a transaction that is Committed with this end
abbrev pub with_its_end : Stamp → BoundTx → BoundTx
with_its_end end' b = record b { end = Some end' }

-- one transaction with its end noted, if it is there and the name is its own
abbrev pub with_end_if : Stamp → Bool → Option BoundTx → Option BoundTx
with_end_if end' is_its b = if is_its then option_map (with_its_end end') b else b

-- the transaction that the name is bound to has this end, and all others stay
abbrev pub BindsEnd : Names → Names → List ℕ → Stamp → Type 0
BindsEnd old new name end' =
    (q : List ℕ) → bound_by new q ≡ with_end_if end' (bytes_eq q name) (bound_by old q)

-- an end is there, and the mark is at least it
abbrev pub is_covered : ℕ → Option Stamp → Bool
is_covered mark None = false
is_covered mark (Some end') = nat_le end'.0 mark
