-- On whom a transaction depends by a scan.
use Rattle.std.proofs.Common.{◌≡◌, ℕ, List, Some, subst}
use Rattle.mvo_types.specs.declared.ids.TxId.{TxId}
use Rattle.mvo_types.specs.declared.op.Op.TheVariants.{Scan}
use Rattle.mvo_types.specs.Keys.{Map}
use Rattle.mvo_types.specs.RowData.{RowData}
use Rattle.mvo_model.specs.Trace.{Step}
use Rattle.mvo_theory.specs.State.{State, ActiveTx, active_of}
use Rattle.mvo_txn.specs.declared.state.TxState.TheVariants.{Active}
use Rattle.mvo_txn.specs.Txns.{state_of}
use Rattle.mvo_representation.specs.Dependencies.{AreDependencies}
use Rattle.mvo_representation.proofs.OnWhom.{scan_named}
use Rattle.mvo_core.specs.Readers.{Readers}
use Rattle.mvo_core.specs.Data.{CoreData}
use Rattle.mvo_core.specs.Scanning.{IsSeen, IsScanned}
use Rattle.mvo_core.specs.Standing.{StandsAmong}
use Rattle.mvo_core.proofs.Looked.{versions_in_order}
use Rattle.mvo_core.proofs.ScanNamed.{named_by_scan}

module _ (rs : Readers) (opening : Map) (steps : List Step) (s : State) (c : CoreData) (h : StandsAmong rs opening steps s c) (t : ℕ) (table lo hi : ℕ) (rows : List RowData) (on : List TxId) where
  -- the versions of each key stand in order, so what is collected is what the rules show
  pub scan_seen : (start : ℕ) → start ≡ s.start → state_of c.table t ≡ Some Active → IsScanned (state_of c.table) c.versions start t table lo hi rows on → IsSeen (state_of c.table) c.versions s.start t table lo hi rows on
  scan_seen start is active w = subst (λ (n : ℕ). IsSeen (state_of c.table) c.versions n t table lo hi rows on) is (w (versions_in_order rs opening steps s c h t active))

  pub scan_depends : (r : ActiveTx) → active_of t s.active ≡ Some r → IsSeen (state_of c.table) c.versions s.start t table lo hi rows on → AreDependencies s (Scan table lo hi) r on
  scan_depends r f w =
      scan_named opening s (state_of c.table) c.versions.slots c.versions.lists c.versions.places t r table lo hi on h.versions f
      (named_by_scan s (state_of c.table) c.versions t table lo hi h.versions.numbers h.versions.order on w.named)
