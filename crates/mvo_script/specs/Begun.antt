-- A transaction that a name was bound to just now.
use Rattle.std.specs.Prelude.{None}
use Rattle.mvo_types.specs.declared.ids.TxId.{TxId}
use Rattle.mvo_script.specs.declared.bound.BoundTx.{BoundTx}

-- it isn't Committed
abbrev pub begun : TxId → BoundTx
begun t = record { tx = t; end = None }
