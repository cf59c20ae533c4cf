-- What holds of the dependencies over a whole table.
use Rattle.std.specs.Prelude.{ℕ, ◌≡◌, ◌≤◌, ◌++◌, Bool, true, false, if◌then◌else◌, nat_lt, count_by, List, [], ◌∷◌, Option, None, Some, IsSome, is_some}
use Rattle.std.specs.List.{AllByRecursion}
use Rattle.std.specs.FinMap as map
use Rattle.mvo_types.specs.declared.ids.TxId.{TxId}
use Rattle.mvo_types.specs.declared.ids.Stamp.{Stamp}
use Rattle.mvo_txn.specs.declared.state.TxState.{TxState}
use Rattle.mvo_txn.specs.declared.state.TxState.TheVariants.{Active, Preparing, Committed, Aborted}
use Rattle.mvo_txn.specs.Txns.{Txns, state_of, IsPreparingState, IsUnended, table_after_change}
use Rattle.mvo_txn.specs.Queue.{open_end}
use Rattle.mvo_deps.specs.declared.node.Node.{Node}
use Rattle.mvo_deps.specs.Data.{DependencyData, is_id_among, AreDistinctIds}
use Rattle.mvo_deps.specs.Nodes.{data_of}

abbrev pub is_id_preparing : {P : Type 0} → Txns P → TxId → Bool
is_id_preparing t id = is_some (open_end (state_of t id.0))

-- how many of these are Preparing
abbrev pub preparing_count : {P : Type 0} → Txns P → List TxId → ℕ
preparing_count t ids = count_by (is_id_preparing t) ids

abbrev pub IsUnfinished : {P : Type 0} → Txns P → TxId → Type 0
IsUnfinished t id = IsSome (map.get t.seats id.0)

-- the first of the former that is among the latter
abbrev pub first_among : List TxId → List TxId → Option TxId
first_among [] ids = None
first_among (x ∷ xs) ids = if is_id_among x ids then Some x else first_among xs ids

-- it has begun, and isn't Active any more
pub record HasStopped {P : Type 0} (t : Txns P) (id : TxId) : Type 0 where
  pub drawn : id.0 ≤ t.clock
  pub stopped : state_of t id.0 ≡ Some Active → ⊥

-- Aborted, or not in the table
abbrev pub IsAbortedOrGone : Option TxState → Type 0
IsAbortedOrGone None = Unit {0}
IsAbortedOrGone (Some Active) = ⊥
IsAbortedOrGone (Some (Preparing end)) = ⊥
IsAbortedOrGone (Some (Committed end)) = ⊥
IsAbortedOrGone (Some Aborted) = Unit {0}

-- it has begun, and was aborted
pub record HasFallen {P : Type 0} (t : Txns P) (id : TxId) : Type 0 where
  pub drawn : id.0 ≤ t.clock
  pub fallen : IsAbortedOrGone (state_of t id.0)

-- Of each transaction: the counter is the number of those it depends on that are Preparing; the
-- flag is the first of the aborted, in the order of their reports, that it depends on; nobody
-- stands twice in a list; and who depends on it is noted on both sides until it is settled.
pub record IsDependencyGraph {P : Type 0} (t : Txns (Node P)) (aborted : List TxId) : Type 0 where
  pub counter : (tx : TxId)
      → (data_of t tx).unsettled ≡ preparing_count t (data_of t tx).on
  pub flag : (tx : TxId)
      → (data_of t tx).aborted ≡ first_among aborted (data_of t tx).on
  pub on_once : (tx : TxId) → AreDistinctIds (data_of t tx).on
  pub dependents_once : (on : TxId) → AreDistinctIds (data_of t on).dependents
  pub both_sides : (tx on : TxId) → IsUnfinished t tx → is_id_preparing t on ≡ true
      → is_id_among tx (data_of t on).dependents ≡ is_id_among on (data_of t tx).on
  pub settled : (on : TxId) → is_id_preparing t on ≡ false → (data_of t on).dependents ≡ []
  pub stopped : (tx on : TxId) → is_id_among on (data_of t tx).on ≡ true → HasStopped t on
  pub known : (tx on : TxId) → is_id_among tx (data_of t on).dependents ≡ true → tx.0 ≤ t.clock
  pub drawn : (tx : TxId) → IsUnfinished t tx → tx.0 ≤ t.clock
  pub fallen : (id : TxId) → is_id_among id aborted ≡ true → HasFallen t id

-- an unfinished transaction may come to depend on a Preparing one
abbrev pub KeepsGraph : {P : Type 0} → Txns (Node P) → Txns (Node P) → TxId → TxId → Type 0
KeepsGraph old new tx on = (aborted : List TxId)
    → IsUnfinished old tx → IsPreparingState (state_of old on.0)
    → IsDependencyGraph old aborted → IsDependencyGraph new aborted

-- and on each of several
abbrev pub KeepsGraphOverAll : {P : Type 0} → Txns (Node P) → Txns (Node P)
    → TxId → List TxId → Type 0
KeepsGraphOverAll old new tx ons = (aborted : List TxId)
    → IsUnfinished old tx → AllByRecursion (λ on. IsPreparingState (state_of old on.0)) ons
    → IsDependencyGraph old aborted → IsDependencyGraph new aborted

-- and depends on it then
abbrev pub Depends : {P : Type 0} → Txns (Node P) → Txns (Node P) → TxId → TxId → Type 0
Depends old new tx on = (aborted : List TxId)
    → IsUnfinished old tx → IsPreparingState (state_of old on.0)
    → IsDependencyGraph old aborted → is_id_among on (data_of new tx).on ≡ true

-- the one that became Committed in the table just now is reported
abbrev pub KeepsGraphAtCommit : {P : Type 0} → Txns (Node P) → Txns (Node P) → TxId → Type 0
KeepsGraphAtCommit {P} old new on = (before : Txns (Node P)) (end : Stamp) (aborted : List TxId)
    → IsPreparingState (state_of before on.0) → old ≡ table_after_change before on.0 (Committed end)
    → IsDependencyGraph before aborted → IsDependencyGraph new aborted

-- the one that became Aborted in the table just now is reported, behind those before
abbrev pub KeepsGraphAtAbort : {P : Type 0} → Txns (Node P) → Txns (Node P) → TxId → Type 0
KeepsGraphAtAbort {P} old new on = (before : Txns (Node P)) (aborted : List TxId)
    → IsUnended (state_of before on.0) → old ≡ table_after_change before on.0 Aborted
    → IsDependencyGraph before aborted → IsDependencyGraph new (aborted ++ on ∷ [])

-- one with these dependencies waits for somebody where its counter isn't 0
abbrev pub WaitsByCounter : {P : Type 0} → Txns (Node P) → DependencyData → Option TxId → Type 0
WaitsByCounter t d whom = (aborted : List TxId) (tx : TxId)
    → IsDependencyGraph t aborted → data_of t tx ≡ d → is_some whom ≡ nat_lt 0 d.unsettled
