-- A table of transactions with their dependencies.
use Rattle.std.specs.Prelude.{ℕ, ◌≡◌, Bool, true, false, cond, length, List, [], ◌∷◌, Option, None, Some, IsSome}
use Rattle.std.specs.Option.{option_map}
use Rattle.std.specs.FinMap as map
use Rattle.mvo_types.specs.declared.ids.TxId.{TxId}
use Rattle.mvo_txn.specs.declared.table_seat.TableSeat.{TableSeat}
use Rattle.mvo_txn.specs.Txns.{Txns, kept_of, table_after_write}
use Rattle.mvo_deps.specs.declared.node.Node.{Node}
use Rattle.mvo_deps.specs.Data.{DependencyData, no_dependencies, is_id_among}
use Rattle.mvo_deps.specs.Data.{with_dependency, with_dependent, without_dependents}

abbrev pub data_in : {P : Type 0} → Option (Node P) → DependencyData
data_in None = no_dependencies
data_in (Some node) = node.dependencies

-- the dependencies of a transaction
abbrev pub data_of : {P : Type 0} → Txns (Node P) → TxId → DependencyData
data_of t id = data_in (kept_of t id.0)

abbrev pub after_change_at : {P : Type 0} → Option (Node P)
    → Txns (Node P) → ℕ → (DependencyData → DependencyData) → Txns (Node P)
after_change_at None t id change = t
after_change_at (Some node) t id change =
    table_after_write t id (record node { dependencies = change node.dependencies })

-- the table where the dependencies of one transaction are changed so
abbrev pub after_change : {P : Type 0} → Txns (Node P) → ℕ
    → (DependencyData → DependencyData) → Txns (Node P)
after_change t id change = after_change_at (kept_of t id) t id change

-- both sides note that the one depends on the other
abbrev pub noted_on : {P : Type 0} → Txns (Node P) → TxId → TxId → Txns (Node P)
noted_on t tx on =
    after_change (after_change t on.0 (with_dependent tx)) tx.0 (with_dependency on)

-- it depends on the other, where it did not yet
abbrev pub after_register : {P : Type 0} → Txns (Node P) → TxId → TxId → Txns (Node P)
after_register t tx on =
    cond (is_id_among on (data_of t tx).on) t
    (cond (is_id_among tx (data_of t on).dependents) t (noted_on t tx on))

-- it depends on each of these, one after another
abbrev pub after_register_all : {P : Type 0} → Txns (Node P) → TxId → List TxId → Txns (Node P)
after_register_all t tx [] = t
after_register_all t tx (on ∷ ons) = after_register_all (after_register t tx on) tx ons

-- both sides note it of each of these, of which the first was noted last
abbrev pub noted_all : {P : Type 0} → Txns (Node P) → TxId → List TxId → Txns (Node P)
noted_all t tx [] = t
noted_all t tx (on ∷ ons) = noted_on (noted_all t tx ons) tx on

-- the table is as before but for some that were noted; before, the transaction depended on so many
pub record HasNoted {P : Type 0} (before t : Txns (Node P)) (tx : TxId) (count : ℕ) : Type 0 where
  pub there : IsSome (map.get before.seats tx.0)
  pub counted : length (data_of before tx).on ≡ count
  pub noted : List TxId
  pub is : t ≡ noted_all before tx noted

-- those that were noted are taken back, all or some of them
abbrev pub TakesBack : {P : Type 0} → Txns (Node P) → Txns (Node P) → TxId → ℕ → Type 0
TakesBack {P} old new tx count =
    (before : Txns (Node P)) → HasNoted before old tx count → new ≡ before

abbrev pub TakesSomeBack : {P : Type 0} → Txns (Node P) → Txns (Node P) → TxId → ℕ → Type 0
TakesSomeBack {P} old new tx count =
    (before : Txns (Node P)) → HasNoted before old tx count → HasNoted before new tx count

abbrev pub changed_if : Bool → (DependencyData → DependencyData) → DependencyData → DependencyData
changed_if true change d = change d
changed_if false change d = d

-- the seat where the dependencies are changed so
abbrev pub with_data : {P : Type 0}
    → (DependencyData → DependencyData) → TableSeat (Node P) → TableSeat (Node P)
with_data change s =
    record s { kept = record s.kept { dependencies = change s.kept.dependencies } }

-- each of these has its dependencies changed so, and nothing else changes
pub record IsEachChanged {P : Type 0} (change : DependencyData → DependencyData)
    (old new : Txns (Node P)) (ids : List TxId) : Type 0 where
  pub clock : new.clock ≡ old.clock
  pub each : (id : TxId) → map.get new.seats id.0
      ≡ option_map (with_data (changed_if (is_id_among id ids) change)) (map.get old.seats id.0)

-- each dependent of the transaction has its dependencies changed so, and nobody depends on it
abbrev pub IsReported : {P : Type 0} → (DependencyData → DependencyData)
    → Txns (Node P) → Txns (Node P) → TxId → Type 0
IsReported change old new on =
    IsEachChanged change (after_change old on.0 without_dependents) new (data_of old on).dependents
