-- What a settled transaction claims.
use Rattle.std.specs.Prelude.{◌≡◌, true, is_some, List}
use Rattle.std.specs.List.{AllByRecursion}
use Rattle.std.specs.FinMap as fin
use Rattle.mvo_types.specs.declared.row.RowKey.{RowKey}
use Rattle.mvo_types.specs.Keys.{Map}
use Rattle.mvo_model.specs.History.{net_write}
use Rattle.mvo_model.specs.Trace.{Step}
use Rattle.mvo_theory.specs.State.{State, StampedTx, timeline}
use Rattle.mvo_theory.specs.Claims.{has_claim}
use Rattle.mvo_theory.specs.Origins.{settled_origin, settled_rows}
use Rattle.mvo_theory.specs.Calls.{IsKept}

-- a settled one that writes the key, where a row of it stands in the serial order, claims that row
abbrev pub ClaimsIfStanding : Map → State → RowKey → StampedTx → Type 0
ClaimsIfStanding opening s k x =
    x.settled ≡ true → is_some (net_write k x.history) ≡ true
    → is_some (fin.get (settled_rows opening s x.end) k) ≡ true
    → has_claim x.claims k (settled_origin s x.end k) ≡ true

-- Each settled transaction claims each row that stands for it and that it writes.
abbrev pub SettledClaim : Type 0
SettledClaim = (opening : Map) (steps : List Step) (s : State) (k : RowKey)
    → IsKept opening steps s → AllByRecursion (ClaimsIfStanding opening s k) (timeline s)
