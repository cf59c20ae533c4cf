-- What the ledger of a run counts.
use Rattle.std.specs.Prelude.{◌≡◌, ◌≢◌, ℕ, List}
use Rattle.std.specs.List.{sum_by}
use Rattle.std.proofs.Common.{refl}
use Rattle.mvo_core.specs.Receipts.{Receipt}

-- How much each receipt counts: nothing, but at one end. To count how often one receipt is there,
-- it counts 1, and every other nothing.
pub record Watched : Type 0 where
  pub end : ℕ
  pub weigh : Receipt → ℕ
  pub at : (r : Receipt) → r.end ≢ end → weigh r ≡ 0

-- nothing is counted
abbrev pub nothing_watched : Watched
nothing_watched = record { end = 0; weigh = λ r. 0; at = λ r apart. refl }

-- how much these count together
abbrev pub count_of : Watched → List Receipt → ℕ
count_of w rs = sum_by w.weigh rs
