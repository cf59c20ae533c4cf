-- The causes of refusals, as the transaction table tells them.
use Rattle.std.specs.Prelude.{ℕ, nat_lt, Bool, true, false, [], ◌∷◌, length, Option, None, Some}
use Rattle.mvo_types.specs.declared.limits.TheConstants.{MAX_TABLE, MAX_DATA_LEN}
use Rattle.mvo_types.specs.declared.ids.TxId.{TxId}
use Rattle.mvo_types.specs.declared.row.RowKey.{RowKey}
use Rattle.mvo_types.specs.declared.refusal.Refusal.{Refusal}
use Rattle.mvo_types.specs.declared.refusal.Refusal.TheVariants.{NoSuchTransaction, Ended, NotActive, NotPreparing, DependencyAborted, TooManyWrites, TooManyReads, DataTooLong, BadTable, ReadOnly}
use Rattle.mvo_types.specs.RowData.{RowData}
use Rattle.mvo_types.specs.declared.entry.Entry.{Entry}
use Rattle.mvo_types.specs.declared.entry.Entry.TheVariants.{Key}
use Rattle.mvo_types.specs.Causes.{when, first_cause}
use Rattle.mvo_model.specs.History.{History}
use Rattle.mvo_theory.specs.Causes.{is_entry_too_many, is_write_too_many}
use Rattle.mvo_txn.specs.declared.state.TxState.{TxState}
use Rattle.mvo_txn.specs.declared.state.TxState.TheVariants.{Active, Preparing, Committed, Aborted}
use Rattle.mvo_txn.specs.Txns.{Txns, state_of}
use Rattle.mvo_deps.specs.declared.node.Node.{Node}
use Rattle.mvo_deps.specs.Nodes.{data_of}
use Rattle.mvo_core.specs.declared.kept_transaction.KeptTransaction.{KeptTransaction}
use Rattle.mvo_core.specs.declared.kept_transaction.TransactionKind.{TransactionKind}
use Rattle.mvo_core.specs.declared.kept_transaction.TransactionKind.TheVariants.{Other, Preparing as Prepared}
use Rattle.mvo_core.specs.Data.{own_of}

abbrev pub flag_refusal : Option TxId → Option Refusal
flag_refusal None = None
flag_refusal (Some id) = Some (DependencyAborted id)

-- the flag of a transaction
abbrev pub flag_of : Txns (Node KeptTransaction) → ℕ → Option TxId
flag_of table t = (data_of table (record { 0 = t })).aborted

-- ---- by kind: for the table a read-only one that is Preparing is Active
abbrev pub kind_kept : Option KeptTransaction → TransactionKind
kind_kept None = Other
kind_kept (Some own) = own.kind

abbrev pub unless_reads : TransactionKind → Option TxId → Option Refusal
unless_reads Prepared flag = Some NotActive
unless_reads kind flag = flag_refusal flag

abbrev pub unless_active_as : Option TxState → TransactionKind → Option TxId → Option Refusal
unless_active_as None kind flag = Some NoSuchTransaction
unless_active_as (Some Active) kind flag = unless_reads kind flag
unless_active_as (Some (Preparing e)) kind flag = Some NotActive
unless_active_as (Some (Committed e)) kind flag = Some Ended
unless_active_as (Some Aborted) kind flag = Some Ended

abbrev pub unless_checks : TransactionKind → Option TxId → Option Refusal
unless_checks Prepared flag = flag_refusal flag
unless_checks kind flag = Some NotPreparing

abbrev pub unless_preparing_as : Option TxState → TransactionKind → Option TxId → Option Refusal
unless_preparing_as None kind flag = Some NoSuchTransaction
unless_preparing_as (Some Active) kind flag = unless_checks kind flag
unless_preparing_as (Some (Preparing e)) kind flag = flag_refusal flag
unless_preparing_as (Some (Committed e)) kind flag = Some Ended
unless_preparing_as (Some Aborted) kind flag = Some Ended

abbrev pub why_not_active : Txns (Node KeptTransaction) → ℕ → Option Refusal
why_not_active table t =
    unless_active_as (state_of table t) (kind_kept (own_of table t)) (flag_of table t)

abbrev pub why_not_preparing : Txns (Node KeptTransaction) → ℕ → Option Refusal
why_not_preparing table t =
    unless_preparing_as (state_of table t) (kind_kept (own_of table t)) (flag_of table t)

abbrev pub why_not_undo : Option TxState → Option Refusal
why_not_undo None = Some NoSuchTransaction
why_not_undo (Some Active) = None
why_not_undo (Some (Preparing e)) = None
why_not_undo (Some (Committed e)) = Some Ended
why_not_undo (Some Aborted) = Some Ended

abbrev pub is_read_only_kind : TransactionKind → Bool
is_read_only_kind Other = false
is_read_only_kind kind = true

-- whether one is read-only, by what is kept of it
abbrev pub is_read_only : Option KeptTransaction → Bool
is_read_only None = false
is_read_only (Some own) = is_read_only_kind own.kind

-- of one that did this
abbrev pub why_not_look : Txns (Node KeptTransaction) → History → ℕ → ℕ → Entry
    → Option Refusal
why_not_look table ts t of e = first_cause (
    why_not_active table t
    ∷ when (nat_lt MAX_TABLE of) BadTable
    ∷ when (is_entry_too_many ts e) TooManyReads
    ∷ [])

-- of one with these operations, what is over first if it looks at the key and writes it
abbrev pub why_not_write : History → RowKey → Option Refusal
why_not_write ts k = first_cause (
    when (is_entry_too_many ts (Key k)) TooManyReads
    ∷ when (is_write_too_many ts k) TooManyWrites
    ∷ [])

abbrev pub why_not_put : Txns (Node KeptTransaction) → History → ℕ → RowData → Option Refusal
why_not_put table ts t row = first_cause (
    why_not_active table t
    ∷ when (is_read_only (own_of table t)) ReadOnly
    ∷ when (nat_lt MAX_TABLE row.key.table) BadTable
    ∷ when (nat_lt MAX_DATA_LEN (length row.bytes)) DataTooLong
    ∷ when (is_entry_too_many ts (Key row.key)) TooManyReads
    ∷ when (is_write_too_many ts row.key) TooManyWrites
    ∷ [])

abbrev pub why_not_remove : Txns (Node KeptTransaction) → History → ℕ → RowKey → Option Refusal
why_not_remove table ts t k = first_cause (
    why_not_active table t
    ∷ when (is_read_only (own_of table t)) ReadOnly
    ∷ when (nat_lt MAX_TABLE k.table) BadTable
    ∷ when (is_entry_too_many ts (Key k)) TooManyReads
    ∷ when (is_write_too_many ts k) TooManyWrites
    ∷ [])
