-- What is stored of the commits, and what a trim forgets.
use Rattle.std.specs.Prelude.{ℕ, suc, ◌≡◌, nat_lt, nat_le, min, Bool, ◌&&◌, if◌then◌else◌, List, [], ◌∷◌}
use Rattle.std.specs.FinMap as fin
use Rattle.mvo_types.specs.declared.row.RowKey.{RowKey}
use Rattle.mvo_theory.specs.State.{State}
use Rattle.mvo_theory.specs.Sound.{IsLegal}
use Rattle.mvo_chain.specs.Slots.{Slots}
use Rattle.mvo_visible.specs.Words.{States}
use Rattle.mvo_representation.specs.Words.{ends_of, change_below, row_in}
use Rattle.mvo_representation.specs.Indexes.{all_versions}
use Rattle.mvo_representation.specs.Table.{phases_of}
use Rattle.mvo_tale.specs.declared.tale_place.TalePlace.{TalePlace}
use Rattle.mvo_tale.specs.declared.tale_place.TalePlace.TheVariants.{Open, Reading, Settled, Empty}
use Rattle.mvo_tale.specs.Stored.{StoredCommit}
use Rattle.mvo_tale.specs.Forgetting.{forgotten}
use Rattle.mvo_core.specs.Data.{CoreData}
use Rattle.mvo_core.specs.Receipts.{Receipt, receipt, stored_commits}

-- ---- the stored commits
abbrev pub and_above : ℕ → StoredCommit → List Receipt → List Receipt
and_above start c rs = if nat_lt start c.end then receipt c.id c.end c.history ∷ rs else rs

-- those at the places that end above the start
abbrev pub stored_above : ℕ → List TalePlace → List Receipt
stored_above start [] = []
stored_above start (Open e ∷ slots) = stored_above start slots
stored_above start (Reading b ∷ slots) = stored_above start slots
stored_above start (Settled c ∷ slots) = and_above start c (stored_above start slots)
stored_above start (Empty ∷ slots) = stored_above start slots

-- The places have just the commits above the start, by end timestamp. They are legal from the rows
-- at the start, which the versions show to a begin just above it.
pub record IsTaleOf (s : State) (states : States) (slots : Slots)
    (tale : List TalePlace) : Type 0 where
  pub stored : stored_above s.start tale ≡ stored_commits s
  pub legal : IsLegal s.base s.stamped
  pub shown : (k : RowKey)
      → row_in (change_below (ends_of (phases_of states)) (suc s.start) k (all_versions slots))
      ≡ fin.get s.base k

-- ---- a trim
-- up to m: above the start, and at most the oldest begin and the low-water
abbrev pub may_trim_to : ℕ → ℕ → ℕ → ℕ → Bool
may_trim_to m start oldest low = nat_lt start m && (nat_le m oldest && nat_le m low)

-- what is trimmed and in a closed group is, and nothing else
abbrev pub HasForgotten : ℕ → ℕ → CoreData → CoreData → Type 0
HasForgotten start closed old new = new.tale ≡ forgotten (min start closed) old.tale
