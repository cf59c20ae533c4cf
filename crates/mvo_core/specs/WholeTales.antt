-- What is stored of the commits in a whole state: those of read-only transactions among the others.
use Rattle.std.specs.Prelude.{suc, ◌≡◌, ◌++◌, List, map}
use Rattle.std.specs.List.Sorted.{IsPermutation}
use Rattle.std.specs.FinMap as fin
use Rattle.mvo_types.specs.declared.row.RowKey.{RowKey}
use Rattle.mvo_model.specs.History.{Legal}
use Rattle.mvo_chain.specs.Slots.{Slots}
use Rattle.mvo_visible.specs.Words.{States}
use Rattle.mvo_readonly.specs.Whole.{CommittedReader, WholeState}
use Rattle.mvo_readonly.specs.WholeTale.{stored_readers, whole_tale}
use Rattle.mvo_representation.specs.Words.{ends_of, change_below, row_in}
use Rattle.mvo_representation.specs.Indexes.{all_versions}
use Rattle.mvo_representation.specs.Table.{phases_of}
use Rattle.mvo_tale.specs.declared.tale_place.TalePlace.{TalePlace}
use Rattle.mvo_core.specs.Receipts.{Receipt, receipt, stored_commits}
use Rattle.mvo_core.specs.Trimming.{stored_above}

-- the end of a read-only one is its begin
abbrev pub receipt_of_reader : CommittedReader → Receipt
receipt_of_reader y = receipt y.id y.id y.history

-- the receipts of the stored commits, in some order: the read-only ones, and then the others
abbrev pub stored_receipts : WholeState → List Receipt
stored_receipts w =
    map receipt_of_reader (stored_readers w.core.start w.committed_readers)
    ++ stored_commits w.core

-- The places have just the commits above the start, by end timestamp, each with what it was told.
-- They are legal from the rows at the start, which the versions show to a begin just above it.
pub record IsWholeTaleOf (w : WholeState) (states : States) (slots : Slots)
    (tale : List TalePlace) : Type 0 where
  pub stored : map (λ r. (r.end, r.id)) (stored_above w.core.start tale) ≡ whole_tale w
  pub told : IsPermutation (stored_receipts w) (stored_above w.core.start tale)
  pub legal : Legal w.core.base (map (λ r. r.history) (stored_above w.core.start tale))
  pub shown : (k : RowKey)
      → row_in (change_below (ends_of (phases_of states)) (suc w.core.start) k (all_versions slots))
      ≡ fin.get w.core.base k
