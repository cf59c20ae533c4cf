-- The laws of the transaction table with its dependencies: what each call does in the table leaves
-- that of the state after the call, and what the table tells of dependencies is what the state has.
use Rattle.std.specs.Prelude.{ℕ, ◌≡◌, ◌+◌, nat_lt, true, false, is_some, List, Option, None, Some, MatchOption}
use Rattle.std.specs.Option.{option_map}
use Rattle.mvo_types.specs.declared.ids.TxId.{TxId}
use Rattle.mvo_types.specs.declared.ids.Stamp.{Stamp}
use Rattle.mvo_types.specs.declared.row.RowKey.{RowKey}
use Rattle.mvo_types.specs.declared.op.Op.{Op}
use Rattle.mvo_types.specs.declared.op.Op.TheVariants.{Scan}
use Rattle.mvo_types.specs.AnswerData.{AnswerData}
use Rattle.mvo_types.specs.Keys.{Map}
use Rattle.mvo_theory.specs.Entries.{entry_of}
use Rattle.mvo_types.specs.declared.entry.Entry.TheVariants.{Key}
use Rattle.mvo_theory.specs.State.{State, ActiveTx, opened, active_of, preparing_of}
use Rattle.mvo_theory.specs.Causes.{flag_of_active, flag_of_preparing, awaited, why_not_trim}
use Rattle.mvo_theory.specs.Changes.{after_begin, after_answer, after_finish, after_trim, after_close}
use Rattle.mvo_theory.specs.Steps.{after_precommit, after_validate, after_commit_now, after_abort}
use Rattle.mvo_theory.specs.Words.{is_done}
use Rattle.mvo_shared.specs.Standing.{IsStanding}
use Rattle.mvo_txn.specs.declared.state.TxState.TheVariants.{Active, Preparing, Committed, Aborted}
use Rattle.mvo_txn.specs.Txns as txns
use Rattle.mvo_txn.specs.Txns.{Txns, no_txns, state_of, kept_of, IsPreparingState, IsUnended, IsEnded}
use Rattle.mvo_chain.specs.Slots.{Slots}
use Rattle.mvo_hash.specs.Lists.{Lists}
use Rattle.mvo_range.specs.Place.{PlaceNumbers as Places}
use Rattle.mvo_visible.specs.Words.{States}
use Rattle.mvo_deps.specs.declared.node.Node.{Node}
use Rattle.mvo_deps.specs.Data as deps
use Rattle.mvo_deps.specs.Data.{no_dependencies}
use Rattle.mvo_deps.specs.Nodes.{data_of, after_register_all, IsReported}
use Rattle.mvo_deps.specs.Graph.{KeepsGraphAtCommit, KeepsGraphAtAbort}
use Rattle.mvo_deps.specs.Waiting.{IsLeastOpen, HasNoneOpen}
use Rattle.mvo_representation.specs.Laws.{VersionsStandFor}
use Rattle.mvo_representation.specs.Dependencies.{HasDependencies, AreDependencies, tx_id, named_ids, named_at, AreNamedByScan}

-- ---- what each call leaves
-- a core is opened with an empty table
abbrev pub OpenedTable : Type 0 → Type 0
OpenedTable P = (rows : Map) (mark : ℕ)
    → HasDependencies (opened rows mark) (no_txns {P = Node P} mark)

-- a transaction begins that depends on nobody
abbrev pub BeginInTable : Type 0 → Type 0
BeginInTable P = (opening : Map) (s : State) (old : Txns (Node P))
    (node : Node P) → IsStanding opening s → HasDependencies s old
    → node.dependencies ≡ no_dependencies
    → HasDependencies (after_begin s (s.clock + 1)) (txns.table_after_begin old node)

-- the caller writes what it keeps of a transaction beside its dependencies
abbrev pub WriteInTable : Type 0 → Type 0
WriteInTable P = (s : State) (old : Txns (Node P)) (t : ℕ) (node written : Node P)
    → HasDependencies s old → kept_of old t ≡ Some node
    → written.dependencies ≡ node.dependencies
    → HasDependencies s (txns.table_after_write old t written)

-- an operation is answered, and those are registered on whom it lets the transaction depend
abbrev pub AnswerInTable : Type 0 → Type 0
AnswerInTable P = (opening : Map) (s : State) (old : Txns (Node P))
    (t : TxId) (op : Op) (a : AnswerData) (r : ActiveTx) (ids : List TxId)
    → IsStanding opening s → HasDependencies s old → active_of t.0 s.active ≡ Some r
    → AreDependencies s op r ids
    → HasDependencies (after_answer s t.0 op a) (after_register_all old t ids)

-- those are whom the rules name at the key of an operation
abbrev pub KeyNames : Type 0
KeyNames = (opening : Map) (s : State) (states : States) (slots : Slots)
    (lists : Lists) (places : Places) (t : ℕ) (op : Op) (r : ActiveTx) (k : RowKey)
    → VersionsStandFor opening s states slots lists places → active_of t s.active ≡ Some r
    → entry_of op ≡ Key k → AreDependencies s op r (named_ids (named_at states slots lists t k))

-- and of a scan, whom they name at the keys that it meets
abbrev pub ScanNames : Type 0
ScanNames = (opening : Map) (s : State) (states : States) (slots : Slots)
    (lists : Lists) (places : Places) (t : ℕ) (r : ActiveTx) (table lo hi : ℕ)
    (ids : List TxId)
    → VersionsStandFor opening s states slots lists places → active_of t s.active ≡ Some r
    → AreNamedByScan s states slots lists t table lo hi ids
    → AreDependencies s (Scan table lo hi) r ids

-- an Active transaction draws its end
abbrev pub PrecommitInTable : Type 0 → Type 0
PrecommitInTable P = (opening : Map) (s : State) (old : Txns (Node P))
    (t : ℕ) → IsStanding opening s → HasDependencies s old → state_of old t ≡ Some Active
    → HasDependencies (after_precommit s t) (txns.table_after_prepare old t)

-- a check changes nothing
abbrev pub CheckInTable : Type 0 → Type 0
CheckInTable P = (s : State) (old : Txns (Node P)) (t : ℕ)
    → HasDependencies s old → HasDependencies (after_validate s t) old

-- a Preparing transaction is committed in the table, and then reported
abbrev pub CommitInTable : Type 0 → Type 0
CommitInTable P = (opening : Map) (s : State)
    (old untold new : Txns (Node P)) (t : TxId) (end : Stamp)
    → IsStanding opening s → HasDependencies s old
    → state_of old t.0 ≡ Some (Preparing end)
    → untold ≡ txns.table_after_change old t.0 (Committed end)
    → IsReported deps.after_dependency_commit untold new t → KeepsGraphAtCommit untold new t
    → HasDependencies (after_commit_now s t.0) new

-- an Active or a Preparing transaction is aborted in the table, and then reported
abbrev pub AbortInTable : Type 0 → Type 0
AbortInTable P = (opening : Map) (s : State)
    (old untold new : Txns (Node P)) (t : TxId)
    → IsStanding opening s → HasDependencies s old → IsUnended (state_of old t.0)
    → untold ≡ txns.table_after_change old t.0 Aborted
    → IsReported (deps.after_dependency_abort t) untold new t → KeepsGraphAtAbort untold new t
    → HasDependencies (after_abort s t.0) new

-- a word that is replaced, but for the last, changes nothing
abbrev pub WordInTable : Type 0 → Type 0
WordInTable P = (s : State) (old : Txns (Node P)) (t : ℕ)
    → HasDependencies s old → is_done s t ≡ false → HasDependencies (after_finish s t) old

-- after its last word a Committed or Aborted transaction leaves
abbrev pub LeaveInTable : Type 0 → Type 0
LeaveInTable P = (opening : Map) (s : State) (old : Txns (Node P)) (t : ℕ)
    → IsStanding opening s → HasDependencies s old → IsEnded (state_of old t)
    → is_done s t ≡ true → HasDependencies (after_finish s t) (txns.after_terminate old t)

-- a trim of the tale, and a group that is closed, change nothing
abbrev pub TrimInTable : Type 0 → Type 0
TrimInTable P = (opening : Map) (s : State) (old : Txns (Node P)) (m : ℕ)
    → IsStanding opening s → HasDependencies s old → why_not_trim s m ≡ None
    → HasDependencies (after_trim s m) old

abbrev pub CloseInTable : Type 0 → Type 0
CloseInTable P = (s : State) (old : Txns (Node P)) (mark : ℕ)
    → HasDependencies s old → HasDependencies (after_close s mark) old

-- ---- what the table tells
-- the flag of a transaction is the first aborted one of those that it depends on
abbrev pub TellsFlagOfActive : Type 0 → Type 0
TellsFlagOfActive P = (s : State) (table : Txns (Node P)) (t : ℕ)
    → HasDependencies s table → state_of table t ≡ Some Active
    → option_map (λ by. by.0) (data_of table (tx_id t)).aborted
    ≡ flag_of_active (active_of t s.active)

abbrev pub TellsFlagOfPreparing : Type 0 → Type 0
TellsFlagOfPreparing P = (s : State) (table : Txns (Node P)) (t : ℕ)
    → HasDependencies s table → IsPreparingState (state_of table t)
    → option_map (λ by. by.0) (data_of table (tx_id t)).aborted
    ≡ flag_of_preparing (preparing_of t s.stamped)

-- who has the least end of the Preparing ones on whom a Preparing one depends is awaited by it
abbrev pub TellsAwaited : Type 0 → Type 0
TellsAwaited P = (opening : Map) (s : State) (table : Txns (Node P))
    (t : TxId) (whom : Option TxId)
    → IsStanding opening s → HasDependencies s table → IsPreparingState (state_of table t.0)
    → MatchOption whom (HasNoneOpen table (data_of table t).on)
    (IsLeastOpen table (data_of table t).on)
    → option_map (λ id. id.0) whom ≡ option_map (λ x. x.id) (awaited s t.0)

-- and it waits for somebody where its counter isn't 0
abbrev pub CountsAwaited : Type 0 → Type 0
CountsAwaited P = (opening : Map) (s : State) (table : Txns (Node P))
    (t : TxId) → IsStanding opening s → HasDependencies s table
    → IsPreparingState (state_of table t.0)
    → is_some (awaited s t.0) ≡ nat_lt 0 (data_of table t).unsettled
