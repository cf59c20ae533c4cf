-- What ties the transaction table, with the dependencies that it keeps, to a state.
use Rattle.std.specs.Prelude.{ℕ, ◌≡◌, ◌||◌, Bool, true, false, List, [], ◌∷◌, Option, None, Some, IsSome}
use Rattle.std.specs.List.{AllByRecursion}
use Rattle.mvo_types.specs.declared.ids.TxId.{TxId}
use Rattle.mvo_types.specs.declared.row.RowKey.{RowKey}
use Rattle.mvo_types.specs.declared.op.Op.{Op}
use Rattle.mvo_types.specs.declared.entry.Entry.TheVariants.{Range}
use Rattle.mvo_theory.specs.Ranges.{shows, is_row_of}
use Rattle.mvo_theory.specs.State.{State, ActiveTx, preparing_of}
use Rattle.mvo_theory.specs.Dependencies.{has_end, dependencies}
use Rattle.mvo_theory.specs.Phases.{phase_in}
use Rattle.mvo_txn.specs.Txns.{Txns, state_of}
use Rattle.mvo_chain.specs.Slots.{Slots}
use Rattle.mvo_hash.specs.Lists.{Lists}
use Rattle.mvo_visible.specs.Words.{States}
use Rattle.mvo_visible.specs.Versions.{versions_at}
use Rattle.mvo_visible.specs.Shown.{shown_to}
use Rattle.mvo_deps.specs.declared.node.Node.{Node}
use Rattle.mvo_deps.specs.Data.{is_id_among}
use Rattle.mvo_deps.specs.Graph.{IsDependencyGraph}
use Rattle.mvo_representation.specs.Words.{ends_of, is_met}
use Rattle.mvo_representation.specs.Indexes.{all_versions}
use Rattle.mvo_representation.specs.Nodes.{nodes_of, HasNodes, HasDrawnDependents}
use Rattle.mvo_representation.specs.Table.{phases_of}

-- the table's clock is the state's, and each transaction stands in both alike
pub record IsTableOf {P : Type 0} (s : State) (table : Txns P) : Type 0 where
  pub clock : table.clock ≡ s.clock
  pub phases : (t : ℕ) → phases_of (state_of table) t ≡ phase_in s t

-- the table is the state's, and its counters, flags and dependents are the state's dependencies
pub record HasDependencies {P : Type 0} (s : State) (table : Txns (Node P)) : Type 0 where
  pub stands : IsTableOf s table
  pub nodes : HasNodes s (nodes_of table)
  pub drawn : HasDrawnDependents s (nodes_of table)
  pub aborted : List TxId
  pub graph : IsDependencyGraph table aborted

abbrev pub tx_id : ℕ → TxId
tx_id t = record { 0 = t }

-- these are Preparing, and of all Preparing ones the operation lets the transaction depend on just
-- these and those on which it depended before
pub record AreDependencies (s : State) (op : Op) (r : ActiveTx) (ids : List TxId) : Type 0 where
  pub preparing : AllByRecursion (λ id. IsSome (preparing_of id.0 s.stamped)) ids
  pub just :
      AllByRecursion
      (λ x. x.settled ≡ false
      → has_end (dependencies s op r) x.end
      ≡ (has_end r.depends_on x.end || is_id_among (tx_id x.id) ids)) s.stamped

-- ---- whom the rules name
-- on whom it makes the transaction t depend, what the rules show it of the key
abbrev pub named_at : States → Slots → Lists → ℕ → RowKey → Option TxId
named_at states slots lists t k = (shown_to states t t (versions_at slots lists k)).depends_on

abbrev pub named_ids : Option TxId → List TxId
named_ids None = []
named_ids (Some id) = id ∷ []

-- whether a scan of t meets a row of the key
abbrev pub is_met_at : States → State → Slots → ℕ → ℕ → ℕ → ℕ → RowKey → Bool
is_met_at states s slots t table lo hi q =
    is_met (ends_of (phases_of states)) s.start t (is_row_of (shows (Range table lo hi)) q)
    (all_versions slots)

-- these are just those whom the rules name at the keys that a scan of t meets
pub record AreNamedByScan (s : State) (states : States) (slots : Slots) (lists : Lists)
    (t table lo hi : ℕ) (ids : List TxId) : Type 0 where
  pub each : (q : RowKey) (id : TxId) → is_met_at states s slots t table lo hi q ≡ true
      → named_at states slots lists t q ≡ Some id → is_id_among id ids ≡ true
  pub only :
      AllByRecursion
      (λ id. (q : RowKey) × (is_met_at states s slots t table lo hi q ≡ true)
      × (named_at states slots lists t q ≡ Some id)) ids
