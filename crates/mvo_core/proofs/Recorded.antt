-- Room is made for words, and those are registered on whom it lets the transaction depend.
use Rattle.std.proofs.Common.{◌≡◌, ◌≤◌, List, Some, ap, ◌∙◌}
use Rattle.std.specs.Prelude.{IsSome, IfSome}
use Rattle.std.specs.Option.{is_some}
use Rattle.mvo_types.specs.declared.ids.TxId.{TxId}
use Rattle.mvo_txn.specs.Txns.{Txns}
use Rattle.mvo_deps.specs.declared.node.Node.{Node}
use Rattle.mvo_deps.specs.Nodes.{after_register_all}
use Rattle.mvo_deps.specs.Graph.{IsUnfinished}
use Rattle.mvo_core.specs.declared.kept_transaction.KeptTransaction.{KeptTransaction}
use Rattle.mvo_core.specs.Data.{own_of}
use Rattle.mvo_core.specs.Keeping.{IsWritten, HasMadeRoom}
use Rattle.mvo_core.proofs.Asked.{unfinished_if_own, if_own}
use Rattle.mvo_core.proofs.OwnChanged.{IsOwnChanged, own_changed, own_registered_all}

module _ (old roomy : Txns (Node KeptTransaction)) (t : TxId) (room : IsWritten old roomy t.0 HasMadeRoom) where
  changed : IsOwnChanged old roomy t.0 HasMadeRoom
  changed = own_changed old roomy t.0 HasMadeRoom room

  pub there_roomy : IsSome (own_of roomy t.0)
  there_roomy = ap is_some changed.is

  pub unfinished_roomy : IsUnfinished roomy t
  unfinished_roomy = unfinished_if_own roomy t.0 there_roomy

  module _ (ids : List TxId) (table : Txns (Node KeptTransaction)) (is : table ≡ after_register_all roomy t ids) where
    own_then : own_of table t.0 ≡ Some changed.after
    own_then = ap (λ x. own_of x t.0) is ∙ own_registered_all roomy t ids t.0 ∙ changed.is

    pub there_then : IsSome (own_of table t.0)
    there_then = ap is_some own_then

    pub room_then : IfSome (own_of table t.0) (λ own. 2 ≤ own.writes.room)
    room_then = if_own (own_of table t.0) changed.after (λ own. 2 ≤ own.writes.room) own_then changed.changed.room
