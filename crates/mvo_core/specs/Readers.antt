-- The read-only transactions beside the others: what is kept of one that is unfinished, and its
-- place in the tale.
use Rattle.std.specs.Prelude.{ℕ, ◌≡◌, ◌≤◌, Bool, false, List, [], Option, None, Some, ⊤}
use Rattle.std.specs.List.{AllByRecursion}
use Rattle.mvo_readonly.specs.Whole.{ReaderStage, UnfinishedReader, CommittedReader, stage_of}
use Rattle.mvo_readonly.specs.Whole.ReaderStage.{Reading as IsReading, Preparing as IsPreparing, Committed as IsCommitted, Aborted as IsAborted}
use Rattle.mvo_txn.specs.Txns.{Txns}
use Rattle.mvo_deps.specs.declared.node.Node.{Node}
use Rattle.mvo_tale.specs.declared.tale_place.TalePlace.{TalePlace}
use Rattle.mvo_tale.specs.Slots.{ends, reading_begin_at}
use Rattle.mvo_tale.specs.WholePlaces.{has_ended, HasReaders}
use Rattle.mvo_core.specs.declared.kept_transaction.KeptTransaction.{KeptTransaction}
use Rattle.mvo_core.specs.declared.kept_transaction.TransactionKind.{TransactionKind}
use Rattle.mvo_core.specs.declared.kept_transaction.TransactionKind.TheVariants.{Other, Reading, Preparing, Committed, Aborted}
use Rattle.mvo_core.specs.Data.{own_of}

-- those that are unfinished, and those that were committed since the opening
pub record Readers : Type 0 where
  pub unfinished : List UnfinishedReader
  pub committed : List CommittedReader

abbrev pub no_readers : Readers
no_readers = record { unfinished = []; committed = [] }

-- ---- what is kept of one
pub record KeptReader : Type 0 where
  pub kind : TransactionKind
  pub place : ℕ
  pub checked : ℕ
  pub valid : Bool

abbrev pub reader_by : TransactionKind → ℕ → ℕ → Bool → Option KeptReader
reader_by Other place checked valid = None
reader_by kind place checked valid = Some (record {
  kind = kind;
  place = place;
  checked = checked;
  valid = valid;
})

-- of a transaction, if it is read-only
abbrev pub reader_in : Option KeptTransaction → Option KeptReader
reader_in None = None
reader_in (Some own) = reader_by own.kind own.place own.checked own.valid

-- ---- how far it is
abbrev pub kind_at : ReaderStage → TransactionKind
kind_at IsReading = Reading
kind_at (IsPreparing n v) = Preparing
kind_at IsCommitted = Committed
kind_at IsAborted = Aborted

-- so many of its entries are checked, or all are
abbrev pub IsCheckedTo : ReaderStage → KeptReader → Type 0
IsCheckedTo (IsPreparing n v) r = (v ≡ false → r.checked ≡ n) × (r.valid ≡ v)
IsCheckedTo p r = ⊤

-- It is as far as its stage says; and one that hasn't ended has its place in the tale.
pub record IsAtStage (tale : List TalePlace) (t : ℕ) (r : KeptReader)
    (p : ReaderStage) : Type 0 where
  pub kind : r.kind ≡ kind_at p
  pub checked : IsCheckedTo p r
  pub place : has_ended p ≡ false → reading_begin_at tale r.place ≡ Some t

abbrev pub HasStage : List TalePlace → ℕ → Option KeptReader → Option ReaderStage → Type 0
HasStage tale t None None = ⊤
HasStage tale t None (Some p) = ⊥
HasStage tale t (Some r) None = ⊥
HasStage tale t (Some r) (Some p) = IsAtStage tale t r p

-- those of whom it is kept that they are read-only are the unfinished ones, each at its stage
abbrev pub HaveStages : List UnfinishedReader → Txns (Node KeptTransaction)
    → List TalePlace → Type 0
HaveStages rs table tale =
    (t : ℕ) → HasStage tale t (reader_in (own_of table t)) (stage_of t rs)

-- ---- their places
-- Each end at a place of the tale was drawn, the begin of a read-only one too; and the places of
-- the read-only ones are theirs.
pub record HasTalePlaces (rs : Readers) (start clock : ℕ) (tale : List TalePlace) : Type 0 where
  pub drawn : AllByRecursion (λ e. e ≤ clock) (ends tale)
  pub readers : HasReaders start rs.unfinished rs.committed tale
