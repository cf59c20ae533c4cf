-- What a core has.
use Rattle.std.specs.Prelude.{ℕ, List, Option}
use Rattle.std.specs.Option.{option_map}
use Rattle.mvo_txn.specs.Txns.{Txns, kept_of}
use Rattle.mvo_deps.specs.declared.node.Node.{Node}
use Rattle.mvo_tale.specs.declared.tale_place.TalePlace.{TalePlace}
use Rattle.mvo_versions.specs.Data.{VersionsData}
use Rattle.mvo_content.specs.Works.{WorksData}
use Rattle.mvo_core.specs.declared.kept_transaction.KeptTransaction.{KeptTransaction}

pub record CoreData : Type 0 where
  pub versions : VersionsData
  pub table : Txns (Node KeptTransaction)
  pub tale : List TalePlace
  -- what each has done, as its own work holds it
  pub works : WorksData
  -- where the tale starts: the opening mark, or where it was trimmed last
  pub start : ℕ
  -- the marks of the rows that it was opened over, and of the group that was closed last
  pub opening : ℕ
  pub closed : ℕ
  -- the place in the tale from which the next group goes on
  pub grouped : ℕ

-- what is kept of an unfinished transaction
abbrev pub own_of : Txns (Node KeptTransaction) → ℕ → Option KeptTransaction
own_of table t = option_map (λ node. node.own) (kept_of table t)
