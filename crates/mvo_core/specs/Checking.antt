-- What the check of a transaction's next entry finds among the versions.
use Rattle.std.specs.Prelude.{ℕ, ◌≡◌, true, false, length, if◌then◌else◌, Option, None, Some}
use Rattle.mvo_types.specs.declared.ids.TxId.{TxId}
use Rattle.mvo_txn.specs.declared.state.TxState.{TxState}
use Rattle.mvo_txn.specs.declared.state.TxState.TheVariants.{Active, Preparing, Committed, Aborted}
use Rattle.mvo_visible.specs.Words.{States}
use Rattle.mvo_visible.specs.Changes.{changes_of}
use Rattle.mvo_types.specs.declared.entry.Entry.{Entry}
use Rattle.mvo_model.specs.History.{History}
use Rattle.mvo_theory.specs.Entries.{entries}
use Rattle.mvo_validate.specs.Between.{stamp_between}
use Rattle.mvo_validate.specs.Entries.{versions_in}
use Rattle.mvo_versions.specs.Data.{VersionsData}
use Rattle.mvo_visible.specs.Shown.{AllHaveFallingStamps}
use Rattle.mvo_txn.specs.Txns.{Txns, state_of}
use Rattle.mvo_deps.specs.declared.node.Node.{Node}
use Rattle.mvo_core.specs.declared.kept_transaction.KeptTransaction.{KeptTransaction}
use Rattle.mvo_core.specs.declared.next_check.NextCheck.{NextCheck}
use Rattle.mvo_core.specs.declared.next_check.NextCheck.TheVariants.{Refused, Valid, Differs, Same}
use Rattle.mvo_core.specs.Causes.{why_not_preparing, is_read_only_kind}
use Rattle.mvo_core.specs.Data.{own_of}
use Rattle.mvo_core.specs.Own.{own_entry}
use Rattle.mvo_core.specs.Settling.{IsCalled}

-- the greatest stamp of a change to the entry, if there is one, between the begin and the end
abbrev pub change_between : States → VersionsData → ℕ → ℕ → Option Entry → Option ℕ
change_between states v begin end' None = None
change_between states v begin end' (Some entry) =
    stamp_between begin end' (changes_of states (versions_in v.slots v.lists v.places entry))

-- of a Preparing transaction, between its begin and its end
abbrev pub change_for : Option TxState → States → VersionsData → ℕ → Option Entry → Option ℕ
change_for None states v t entry = None
change_for (Some Active) states v t entry = None
change_for (Some (Preparing end')) states v t entry = change_between states v t end'.0 entry
change_for (Some (Committed end')) states v t entry = None
change_for (Some Aborted) states v t entry = None

-- so it is with the next entry of this one, where the versions stand in order
abbrev pub IsNextChange : Txns (Node KeptTransaction) → VersionsData → ℕ → Option ℕ → Type 0
IsNextChange table v t change = AllHaveFallingStamps (state_of table) v.slots v.lists
    → change ≡ change_for (state_of table t) (state_of table) v t (own_entry (own_of table t))

-- how many entries are checked of one whose work has this: those of its work where it is read-only,
-- and else those that precommit took out of it
abbrev pub entries_to_check : History → Option KeptTransaction → ℕ
entries_to_check work None = 0
entries_to_check work (Some own) =
    length (entries (if is_read_only_kind own.kind then work else own.taken.history))

-- what a look at a transaction that is to be validated tells: each says that no earlier one was due
abbrev pub IsNextCheck : Txns (Node KeptTransaction) → VersionsData → TxId → NextCheck → Type 0
IsNextCheck table v t (Refused r) = why_not_preparing table t.0 ≡ Some r
IsNextCheck table v t Valid = IsCalled table t true
IsNextCheck table v t (Differs stamp) =
    IsCalled table t false × IsNextChange table v t.0 (Some stamp.0)
IsNextCheck table v t Same = IsCalled table t false × IsNextChange table v t.0 None
