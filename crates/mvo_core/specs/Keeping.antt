-- What is written of one transaction.
use Rattle.std.specs.Prelude.{ℕ, ◌≡◌, ◌+◌, ◌++◌, ◌≤◌, List, [], Bool, true, false, drop, if◌then◌else◌, Option, None, Some}
use Rattle.mvo_types.specs.declared.ids.TxId.{TxId}
use Rattle.mvo_txn.specs.Txns.{Txns, kept_of, table_after_write}
use Rattle.mvo_deps.specs.declared.node.Node.{Node}
use Rattle.mvo_deps.specs.Nodes.{after_register_all}
use Rattle.mvo_work.specs.declared.word_place.WordPlace.{WordPlace}
use Rattle.mvo_content.specs.Done.{DoneData}
use Rattle.mvo_core.specs.declared.kept_transaction.KeptTransaction.{KeptTransaction}
use Rattle.mvo_core.specs.declared.kept_transaction.TransactionKind.{TransactionKind}
use Rattle.mvo_core.specs.declared.kept_transaction.TransactionKind.TheVariants.{Preparing}
use Rattle.mvo_core.specs.Data.{own_of}
use Rattle.mvo_core.specs.Own.{is_last_check}

-- the table where what is kept of one transaction is this
abbrev pub with_own_at : Option (Node KeptTransaction) → Txns (Node KeptTransaction) → ℕ
    → KeptTransaction → Txns (Node KeptTransaction)
with_own_at None table t own = table
with_own_at (Some node) table t own = table_after_write table t (record node { own = own })

abbrev pub with_own : Txns (Node KeptTransaction) → ℕ → KeptTransaction
    → Txns (Node KeptTransaction)
with_own table t own = with_own_at (kept_of table t) table t own

-- what was kept of it has become this, and nothing else has changed
pub record IsWritten (old new : Txns (Node KeptTransaction)) (t : ℕ)
    (change : KeptTransaction → KeptTransaction → Type 0) : Type 0 where
  pub before : KeptTransaction
  pub after : KeptTransaction
  pub was : own_of old t ≡ Some before
  pub is : new ≡ with_own old t after
  pub changed : change before after

-- what was kept of it has become this, and then the table has come to this
pub record IsWrittenThen (old new : Txns (Node KeptTransaction)) (t : ℕ)
    (change : KeptTransaction → KeptTransaction → Type 0)
    (next : Txns (Node KeptTransaction) → Txns (Node KeptTransaction)) : Type 0 where
  pub between : Txns (Node KeptTransaction)
  pub written : IsWritten old between t change
  pub is : new ≡ next between

-- as much is written
pub record HasWrittenAsMuch (old new : KeptTransaction) : Type 0 where
  pub taken : new.taken.history ≡ old.taken.history
  pub words : new.writes.words ≡ old.writes.words
  pub place : new.place ≡ old.place
  pub checked : new.checked ≡ old.checked
  pub valid : new.valid ≡ old.valid
  pub kind : new.kind ≡ old.kind

-- the same, with room for more
pub record HasMadeRoom (old new : KeptTransaction) : Type 0 where
  pub same : HasWrittenAsMuch old new
  pub room : 2 ≤ new.writes.room

-- it has put these words
pub record HasWrittenMore (put : List WordPlace) (old new : KeptTransaction) : Type 0 where
  pub words : new.writes.words ≡ old.writes.words ++ put
  pub place : new.place ≡ old.place
  pub checked : new.checked ≡ old.checked
  pub valid : new.valid ≡ old.valid
  pub kind : new.kind ≡ old.kind

-- its first word is taken off
pub record HasDropped (old new : KeptTransaction) : Type 0 where
  pub words : new.writes.words ≡ drop 1 old.writes.words
  pub place : new.place ≡ old.place
  pub checked : new.checked ≡ old.checked
  pub valid : new.valid ≡ old.valid
  pub kind : new.kind ≡ old.kind

-- the operations that precommit took are taken out. The words stay
pub record HasHandedOver (old new : KeptTransaction) : Type 0 where
  pub history : new.taken.history ≡ []
  pub words : new.writes.words ≡ old.writes.words
  pub place : new.place ≡ old.place
  pub checked : new.checked ≡ old.checked
  pub valid : new.valid ≡ old.valid
  pub kind : new.kind ≡ old.kind

-- it has this place in the tale, this is taken out of its work, and none of its entries is checked
pub record IsPlacedInTale (place : ℕ) (taken : DoneData) (old new : KeptTransaction) : Type 0 where
  pub took : new.taken ≡ taken
  pub writes : new.writes ≡ old.writes
  pub is : new.place ≡ place
  pub checked : new.checked ≡ 0
  pub valid : new.valid ≡ false
  pub kind : new.kind ≡ old.kind

-- it is read-only, and its checks begin: none of its entries is checked
pub record HasStartedChecks (old new : KeptTransaction) : Type 0 where
  pub writes : new.writes ≡ old.writes
  pub place : new.place ≡ old.place
  pub checked : new.checked ≡ 0
  pub valid : new.valid ≡ false
  pub kind : new.kind ≡ Preparing

-- one more of so many entries is checked. The last one isn't counted: it is valid then
pub record IsCounted (count : ℕ) (old new : KeptTransaction) : Type 0 where
  pub taken : new.taken ≡ old.taken
  pub writes : new.writes ≡ old.writes
  pub place : new.place ≡ old.place
  pub checked :
      new.checked ≡ (if is_last_check count old then old.checked else old.checked + 1)
  pub valid : new.valid ≡ is_last_check count old
  pub kind : new.kind ≡ old.kind

-- it is read-only, and has ended so
pub record HasEndedAs (end : TransactionKind) (old new : KeptTransaction) : Type 0 where
  pub writes : new.writes ≡ old.writes
  pub place : new.place ≡ old.place
  pub checked : new.checked ≡ old.checked
  pub valid : new.valid ≡ old.valid
  pub kind : new.kind ≡ end

-- so it has if it is read-only
abbrev pub HasEndedIf : Bool → TransactionKind → Txns (Node KeptTransaction)
    → Txns (Node KeptTransaction) → ℕ → Type 0
HasEndedIf true end old new t = IsWritten old new t (HasEndedAs end)
HasEndedIf false end old new t = new ≡ old

-- with room made for them, it depends on these, and has put these words
pub record IsRecordedWith (old new : Txns (Node KeptTransaction)) (t : TxId) (ids : List TxId)
    (put : List WordPlace) : Type 0 where
  pub roomy : Txns (Node KeptTransaction)
  pub room : IsWritten old roomy t.0 HasMadeRoom
  pub done : IsWritten (after_register_all roomy t ids) new t.0 (HasWrittenMore put)
